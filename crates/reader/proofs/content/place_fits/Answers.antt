-- The array holds what stands behind the fixed part. Assumes nothing.
use Rattle.std.proofs.Common.{◌≡◌, List, ℕ, ◌-◌, length, take, drop, length-drop, sym, ap, ◌∙◌, arith}
use borrow.Author.Tests.{eq-eqb}
use Rattle.laws.proofs.Arrays.{take-padded-at}
use Rattle.spec.specs.Held.{padded}
use Rattle.reader.proofs.content.place_fits.Goals as goal

-- the first l bytes of the array are the payload's row
row_is : {array : List ℕ} {l : ℕ} (fixed : ℕ) (p : List ℕ) → array ≡ padded 8 0 (drop fixed p) → length p - fixed ≡ l → take l array ≡ drop fixed p
row_is {l = l} fixed p e h = ap (take l) e ∙ take-padded-at 8 l 0 (drop fixed p) (length-drop fixed p ∙ h)

pub is_path-requires : goal.is_path-requires
is_path-requires c =
    (c.requires.0, c.requires.2, rw (row_is c.args.fixed c.args.p.now c.place_of.ensures c.if-p-fixed.true) c.requires.3)

pub returns-then-p-fixed : goal.returns-then-p-fixed
returns-then-p-fixed c =
    let e = length-drop c.args.fixed c.args.p.now ∙ c.if-p-fixed.true in
    c.is_path.ensures ∙ simp (row_is c.args.fixed c.args.p.now c.place_of.ensures c.if-p-fixed.true, eq-eqb _ _ e)
