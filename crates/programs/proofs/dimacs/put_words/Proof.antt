-- `dimacs::put_words` meets its contract. The loop's invariant: the words from `from` up to `next` stand in the buffer, up to `len`,
-- and those that are still taken of the others go into the room that is left. Assumes nothing.
use borrow.Author.Rules.{sfits_of}
use mathlib.Core.Path.{ap}
use mathlib.Core.Logic.{inl, inr}
use Prim.Native.Nat.{◌-◌}
use native.Mathlib.Omega.{arith}
use lib.ListN.{length, get_or}
use lib.IntN.{pos}
use mir.Syntax.{w32}
use mir.Val.{to_z, of_z}
use mir.Facts.{to_z-of_z}
use Rattle.programs.specs.Text.{word_text}
use Rattle.laws.proofs.Stores.{stored, stored_same, stored-length}
use Rattle.programs.proofs.Pieces.{Filled, filled_none, filled_next, filled-end}
use Rattle.programs.proofs.dimacs.put_words.Statement.{statement}
use Rattle.programs.proofs.dimacs.put_words.Tie as tie

abbrev invariant-loop : tie.invariant-loop-next
invariant-loop buf₀ words from next₀ len₀ buf next len = Filled buf₀ words from buf next len

abbrev decreases-loop : tie.decreases-loop-next
decreases-loop buf₀ words from next₀ len₀ buf next len = length words - next

loop-again : tie.Need-loop-next-preserved invariant-loop decreases-loop
loop-again c =
    let k = c.before.before.before.before.before.before.before in
    let l = get_or k.args.words.now k.loop-next.next (pos 0) in
    let e = c.put_word-len.ensures in
    let back = to_z-of_z {w = w32} (sfits_of c.put_word-arg-in-loop-next-1.given) in
    let fits = c.if-buf-len-ge24.true in
    let s = stored_same (stored k.loop-next.buf k.loop-next.len (word_text (to_z w32 (of_z w32 l))) e.0 e.2) (ap word_text back) in
    filled_next k.loop-next.invariant (pos 0) c.loop-next-test.true
    (omega (arith, fits, stored-length k.loop-next.invariant.text)) s e.1

returns : tie.Need-returns-else-buf-len-ge24 invariant-loop decreases-loop
returns c =
    let k = c.loop-next in
    let full = c.if-buf-len-ge24.false in
    filled-end k.invariant (inr (omega (arith, full, stored-length k.invariant.text)))

pub put_words_spec : {M : Type 1} → statement M
put_words_spec =
    tie.close
    (tie.spec
    invariant-loop
    decreases-loop
    (λ c. filled_none _ _ _ c.requires.0)
    (λ c. omega (arith, c.loop-next.invariant.room, stored-length c.loop-next.invariant.text))
    (λ c. omega arith)
    (λ c. omega arith)
    (λ c κs. omega (arith, c.loop-next.invariant.room))
    (λ c. omega arith)
    (λ c. omega arith)
    loop-again
    (λ c. stored-length c.loop-next.invariant.text)
    returns
    (λ c. stored-length c.loop-next.invariant.text)
    (λ c. filled-end c.loop-next.invariant (inl c.loop-next-test.false)))
