-- `dimacs::put_header` meets its contract: the opening is the fixed byte string, the totals stand in order. Assumes nothing.
use borrow.Author.Rules.{rules}
use mathlib.Core.Path.{◌∙◌}
use Prim.Native.Nat.{◌+◌}
use native.Mathlib.Nat.{zero-add}
use native.Mathlib.Omega.{arith}
use Rattle.spec.specs.Numbers.{decimal}
use Rattle.spec.specs.Formula.{dimacs_opening}
use Rattle.programs.specs.Text.{header_text}
use Rattle.laws.proofs.Stores.{Stored, stored, stored-behind, stored-byte, stored_same}
use Rattle.programs.proofs.Text.{in-line}
use Rattle.programs.proofs.dimacs.put_header.Statement.{statement}
use Rattle.programs.proofs.dimacs.put_header.Tie as tie

-- the line: the opening, the first number, a blank, the second number, the end of the line
module _ (c : tie.After-slice_known-6-1) where
  abbrev first : tie.After-put
  first = c.before.before.before.before.before.before.before.before.before.before

  abbrev opened : tie.After-put_bytes-opened
  opened = first.before.before.before.before.before.before.before.before

  abbrev given : tie.Start
  given = opened.before.before.before.before.before

  abbrev second : tie.After-put_number-second
  second = c.before.before.before.before.before.before

  line : Stored given.args.buf.now 0 (header_text given.args.variables given.args.clauses)
      c.put-2.new.buf (second.put_number-second.result + 1)
  unfolding header_text dimacs_opening
  line =
      let a = given.args in
      let front = opened.put_bytes-opened.ensures in
      let m = first.put_number-first.ensures in
      let n = second.put_number-second.ensures in
      let o = stored a.buf.now 0 dimacs_opening front.0 front.1 in
      let p = stored-byte (stored-behind o (stored _ _ (decimal a.variables) m.0 m.2)) 32 first.put.ensures in
      let q = stored-byte (stored-behind p (stored _ _ (decimal a.clauses) n.0 n.2)) 10 c.put-2.ensures in
      stored_same q (in-line dimacs_opening (decimal a.variables) (decimal a.clauses))

returns : tie.Need-returns
returns c =
    let m = (first c).put_number-first.ensures in (
      (line c).ends ∙ zero-add _,
      omega (arith, (opened c).put_bytes-opened.ensures.0, m.1, (second c).put_number-second.ensures.1),
      (line c).bytes,
    )

pub put_header_spec : {M : Type 1} → statement M
put_header_spec =
    tie.close
    (tie.spec
    (λ c κs. search rules)
    (λ c κs. search rules)
    (λ c κs. search rules)
    (λ c. search rules)
    (λ c κs. search rules)
    (λ c κs. search rules)
    (λ c. search rules)
    (λ c. search rules)
    returns)
