-- `dimacs::put_word` meets its contract: a literal is its sign, its figures and a blank. Assumes nothing.
use borrow.Author.Rules.{rules}
use mathlib.Core.Path.{ap, ◌∙◌}
use Prim.Native.Nat.{◌+◌}
use native.Mathlib.Nat.{add_assoc}
use native.Mathlib.Omega.{arith}
use lib.IntN.{nat_abs}
use mir.Syntax.{w32}
use mir.Val.{of_z}
use mir.Facts.{to_z-of_z}
use Rattle.spec.specs.Numbers.{decimal}
use Rattle.programs.specs.Text.{word_text}
use Rattle.programs.proofs.Signs.{bits-zero, below, not-below}
use Rattle.programs.proofs.Words.{sign, sign_below, sign_above, sign-most, word-closing, word-literal}
use Rattle.laws.proofs.Stores.{Stored, stored, stored-none, stored-behind, stored-byte, stored_same, stored-now, stored-length}
use Rattle.programs.proofs.dimacs.put_word.Statement.{statement}
use Rattle.programs.proofs.dimacs.put_word.Tie as tie
use Rattle.programs.proofs.dimacs.put_word.Lts.{then-l-lt0, else-l-lt0}

-- the end of a clause
module _ (c : tie.After-slice_known-then-l-eq0-2-1) where
  abbrev given : tie.Start
  given = c.before.before.before.before.before.before.before.before.before.before

  closing : Stored given.args.buf.now given.args.at (word_text given.args.l) c.put-then-l-eq0.new.buf
      (given.args.at + 1 + 1)
  closing =
      let a = given.args in
      let z = bits-zero a.l given.ranges.l c.if-l-eq0.true in
      let s = stored-byte (stored-none a.buf.now a.at) 48 c.put.ensures in
      stored_same (stored-byte s 10 c.put-then-l-eq0.ensures) (word-closing a.l z)

-- a literal: its sign
module _ (c : tie.Joined-l-lt0) where
  abbrev start : tie.Start
  start = c.before.before.before

  signed : Stored start.args.buf.now start.args.at (sign start.args.l) c.if-l-lt0.buf c.if-l-lt0.from
  signed =
      let a = start.args in
      let none = stored-none a.buf.now a.at in
      elim c.if-l-lt0.branch [
        | then-l-lt0 w ↦
            let minus = stored-byte none 45 w.put-then-l-lt0.ensures in
            stored-now (stored_same minus (sign_below a.l (below a.l start.ranges.l w.if-l-lt0.true))) w.from-is w.buf-is
        | else-l-lt0 w ↦
            stored-now (stored_same none (sign_above a.l (not-below a.l start.ranges.l w.if-l-lt0.false))) w.from-is w.buf-is
      ]

put-number-requires : tie.Need-put_number-end-requires
put-number-requires c κs = omega (arith, (signed c.before.before).ends, sign-most c.args.l)

add-result-2 : tie.Need-overflow_add-result-2
add-result-2 c =
    let j = c.before.before.before.before.before.before.before.before.before in
    omega (arith, (signed j).ends, sign-most j.args.l)

-- then its figures and a blank
module _ (c : tie.After-slice_known-3-1) where
  abbrev number : tie.After-put_number-end
  number = c.before.before.before.before.before.before

  abbrev joined : tie.Joined-l-lt0
  joined = number.before.before.before

  literal : Stored (start joined).args.buf.now (start joined).args.at (word_text (start joined).args.l)
      c.put-2.new.buf (number.put_number-end.result + 1)
  literal =
      let l = (start joined).args.l in
      let m = number.put_number-end.ensures in
      let s = stored-behind (signed joined) (stored _ _ (decimal number.unsigned_abs.result) m.0 m.2) in
      let n = number.unsigned_abs.ensures.0 ∙ ap nat_abs (to_z-of_z (start joined).ranges.l) in
      stored_same (stored-byte s 32 c.put-2.ensures)
      (word-literal l n (λ e. joined.if-l-eq0.false (ap (of_z w32) e)))

returns-2 : tie.Need-returns
returns-2 c =
    let j = joined c in
    ((literal c).ends, omega (arith, (number c).put_number-end.ensures.1, (signed j).ends, sign-most (start j).args.l), (literal c).bytes)

pub put_word_spec : {M : Type 1} → statement M
put_word_spec =
    tie.close
    (tie.spec
    (λ c κs. search rules)
    (λ c. search rules)
    (λ c κs. search rules)
    (λ c. search rules)
    (λ c. search rules)
    (λ c. (rw (add_assoc (given c).args.at 1 1) at (closing c).ends, omega arith, (closing c).bytes))
    (λ c κs. search rules)
    (λ c. search rules)
    (λ c κs. search rules)
    (λ c. search rules)
    put-number-requires
    (λ c κs. search rules)
    add-result-2
    (λ c. stored-length (literal c))
    returns-2)
