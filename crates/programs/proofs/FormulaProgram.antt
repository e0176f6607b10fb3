-- "refuse longer input by 12 first": what a verdict is by whether an input is too long; and what print_formula prints of an input,
-- from the part of it that the program holds. Assumes nothing.
use borrow.Author.Tests.{ltb-false}
use mathlib.Core.Path.{◌≡◌, refl, ap, ap₂}
use mathlib.Core.Bool.{Bool, true, false}
use mathlib.Core.Option.{Option}
use Prim.Native.Nat.{ℕ}
use lib.ListN.{length, take}
use lib.Seq.{take_all}
use Rattle.spec.specs.Lists.{Bytes, Verdict, refused}
use Rattle.spec.specs.Entry.{formula_text}
use Rattle.spec.specs.Programs.{slice_bytes, slice_of, is_long, unless_long, printed, print_formula}

module _ {A : Type 0} {long : Bool} (v : Verdict A) where
  pub is-long : long ≡ true → unless_long long v ≡ refused 12 0
  unfolding unless_long
  is-long h = ap (λ (b : Bool). unless_long b v) h

  pub not-long : long ≡ false → unless_long long v ≡ v
  unfolding unless_long
  not-long h = ap (λ (b : Bool). unless_long b v) h

-- verdicts that are the same on input that is not too long
pub unless-same : {A : Type 0} {v w : Verdict A} (long : Bool) → (long ≡ false → v ≡ w) → unless_long long v ≡ unless_long long w
unfolding unless_long
unless-same true f = refl
unless-same false f = f refl

-- a program holds as much of an input as a slice takes: all of it, where it is not too long
pub held : Bytes → Bytes
held s = take slice_bytes s

pub held_whole : (s : Bytes) → is_long s ≡ false → held s ≡ s
unfolding held is_long
held_whole s h = take_all slice_bytes s (ltb-false slice_bytes (length s) h)

-- the words that print_formula lends
pub words-lent : 16384 ≡ slice_of 4
unfolding slice_of slice_bytes
words-lent = refl

pub formula-printed : (cap : Option ℕ) (s : Bytes) → printed (λ t. t) (unless_long (is_long s) (formula_text cap (held s) 16384)) ≡ print_formula cap s
unfolding print_formula
formula-printed cap s =
    ap (λ (v : Verdict Bytes). printed (λ (t : Bytes). t) v)
    (unless-same (is_long s) λ h. ap₂ (formula_text cap) (held_whole s h) words-lent)
