-- Assumes nothing.
use Rattle.std.proofs.Common.{◌≡◌, ◌∙◌, ℕ, ◌+◌, ◌++◌, ◌<◌, [], ap, sym, arith, length, length-append, pos, set, w32}
use borrow.Author.Rules.{sfits_of}
use mir.Facts.{to_z-of_z}
use Rattle.std.proofs.Math.ListN.{get_or-append}
use Rattle.std.proofs.Math.Seq.{get_or_at}
use Rattle.spec.specs.Lists.{Bytes, one}
use Rattle.refutation_file.specs.Numbers.{number_count, literals_in}
use Rattle.refutation_file.proofs.NumberLists.{literals-length}
use Rattle.propagation.proofs.Storing.{stored-start, stored_next, stored-done}
use Rattle.propagation.proofs.clause_table.store_clause.Goals as goal

-- and the 0 behind them
length-closed : (list : Bytes) → length (literals_in list ++ one (pos 0)) ≡ number_count list + 1
length-closed list = length-append (literals_in list) (one (pos 0)) ∙ ap (λ (n : ℕ). n + 1) (literals-length list)

pub loop-i-init : goal.loop-i-init
loop-i-init c = stored-start _ _ _ (omega (arith, length-closed c.args.list.now))

pub loop-i-preserved : goal.loop-i-preserved
loop-i-preserved c =
    let list = c.args.list.now in
    let l : c.loop-i.i < length (literals_in list) = omega (arith, literals-length list) in
    stored_next (pos 0) c.loop-i.invariant (omega (arith, length-closed list))
    (to_z-of_z {w = w32} (sfits_of c.literal_at.type_inv) ∙ c.literal_at.ensures ∙ sym (get_or-append (literals_in list) (one (pos 0)) (pos 0) c.loop-i.i l))

pub returns : goal.returns
returns c =
    let list = c.args.list.now in
    let e : number_count list ≡ c.loop-i.i = omega arith in
    ap (λ (n : ℕ). set c.loop-i.words (c.args.at + n) (pos 0)) e
    ∙ stored-done
    (stored_next (pos 0) c.loop-i.invariant (omega (arith, length-closed list))
    (sym (get_or_at (literals_in list) (pos 0) [] (pos 0) c.loop-i.i (literals-length list ∙ e))))
    (omega (arith, length-closed list))
