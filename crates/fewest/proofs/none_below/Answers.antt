-- Whether the refutation is empty, by its length. Assumes nothing.
use Rattle.std.proofs.Common.{◌≡◌, Bool, true, false, sym, ap, ◌∙◌}
use Rattle.spec.specs.Lists.{empty}
use Rattle.spec.specs.Entry.{demand}
use Rattle.laws.proofs.Tests.{empty-length}
use Rattle.fewest.proofs.none_below.Goals as goal

pub returns-then-not-is_empty : goal.returns-then-not-is_empty
unfolding demand
returns-then-not-is_empty c =
    let e : empty c.args.refutation.now ≡ false = empty-length c.args.refutation.now ∙ sym c.is_empty.ensures ∙ c.if-not-is_empty.true in
    ap (λ (b : Bool). demand b 21) (sym e)

pub returns : goal.returns
unfolding demand
returns c =
    let e : empty c.args.refutation.now ≡ true = empty-length c.args.refutation.now ∙ sym c.is_empty.ensures ∙ c.if-not-is_empty.false in
    ap (λ (b : Bool). demand b 21) (sym e)
