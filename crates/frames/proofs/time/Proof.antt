-- `frames::time` meets its contract: a time is two bytes, or one. Assumes nothing.
use borrow.Author.Rules.{rules}
use native.Mathlib.Omega.{arith}
use mathlib.Core.Path.{◌≡◌, sym, ap}
use Prim.Native.Nat.{ℕ, ◌<◌}
use lib.ListN.{length}
use Rattle.frames.specs.Framed.{format_of}
use Rattle.frames.specs.declared.Format.TheVariants.{Old}
use Rattle.laws.proofs.Numbers.{field-one}
use Rattle.frames.proofs.time.Statement.{statement}
use Rattle.frames.proofs.time.Tie as tie

-- which format it is
pair-requires : tie.Need-pair-requires
pair-requires c κs =
    let s = c.before.before in
    let w : (format_of s.args.format).time_width ≡ 2 = ap {B = ℕ} (λ f. (format_of f).time_width) c.in-Now.is in
    omega (arith, s.requires)

returns : tie.Need-returns-in-Now
returns c = let e = c.in-Now.is in (rw e c.pair.ensures.0, c.pair.ensures.1)

-- one byte
module _ (e : tie.Start) (told : e.args.format ≡ Old) where
  inside : e.args.at < length e.args.s.now
  inside = let w : (format_of e.args.format).time_width ≡ 1 = ap {B = ℕ} (λ f. (format_of f).time_width) told in omega (arith, e.requires)

shared-slice-read-result : tie.Need-bounds-s-at
shared-slice-read-result c = inside c.before.before.before c.in-Old.is

cast-result : tie.Need-overflow_cast-result
cast-result c = omega (arith, c.shared_slice_known-in-Old-1.given c.args.at)

returns-2 : tie.Need-returns-in-Old
returns-2 c =
    let s = c.before.before.before in
    let told = c.in-Old.is in
    (rw told (sym (field-one s.args.s.now s.args.at (inside s told))), omega (arith, c.shared_slice_known-in-Old-1.given s.args.at))

pub time_spec : {M : Type 1} → statement M
time_spec =
    tie.close
    (tie.spec (λ c. search rules) pair-requires (λ c. search rules) shared-slice-read-result cast-result returns returns-2)
