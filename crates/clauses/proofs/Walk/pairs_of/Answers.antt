use Rattle.std.proofs.Common.{◌+◌, sym, ◌∙◌, refl}
use Rattle.clauses.proofs.Laws.{empty-stored}
use Rattle.clauses.proofs.Pairs.{counted-pairs}
use Rattle.clauses.proofs.Walk.pairs_of.Goals as goal

pub returns-then-room-eq0 : goal.returns-then-room-eq0
returns-then-room-eq0 c =
    counted-pairs _ (c.args.from + c.args.m) (sym c.value-all_hold.ensures ∙ c.if-all_hold.true) _ _ _ c.skip_pairs.ensures (empty-stored _ _ _ c.if-room-eq0.true) refl

pub returns-then-at-k-2 : goal.returns-then-at-k-2
returns-then-at-k-2 c =
    counted-pairs _ (c.args.from + c.args.m) (sym c.value-all_hold.ensures ∙ c.if-all_hold-2.true) _ _ _ c.skip_pairs-then-at-k-2.ensures c.store_pairs.ensures refl
