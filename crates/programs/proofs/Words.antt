-- The text of a word: 0 and the end of the line, or a sign, figures and a blank. Assumes nothing.
use mathlib.Core.Path.{◌≡◌, refl, ap}
use mathlib.Core.Logic.{◌≢◌}
use Prim.Native.Nat.{ℕ, zero, suc, ◌≤◌}
use native.Mathlib.Omega.{arith}
use mathlib.Core.List.{[], ◌∷◌, ◌++◌}
use lib.Dec.{T, ltb→lt}
use lib.Signed.{lt_z, non_neg}
use lib.ListN.{length}
use lib.IntN.{ℤ, pos, negsuc, nat_abs}
use Rattle.spec.specs.Lists.{Bytes, one}
use Rattle.spec.specs.Numbers.{decimal, decimal_z}
use Rattle.programs.specs.Text.{word_text}

-- what stands ahead of a literal's figures
abbrev pub sign : ℤ → Bytes
sign (pos n) = []
sign (negsuc n) = one 45

pub word-closing : (l : ℤ) → l ≡ pos 0 → 48 ∷ one 10 ≡ word_text l
unfolding word_text
word-closing l e = rw e

pub word-literal : (l : ℤ) {n : ℕ} → n ≡ nat_abs l → l ≢ pos 0 → (sign l ++ decimal n) ++ one 32 ≡ word_text l
unfolding word_text decimal_z
word-literal (pos zero) e h = absurd (h refl)
word-literal (pos (suc v)) e h = ap (λ (n : ℕ). decimal n ++ one 32) e
word-literal (negsuc v) e h = ap (λ (n : ℕ). 45 ∷ (decimal n ++ one 32)) e

-- the sign of a literal that is below 0, and of one that is not
pub sign_below : (l : ℤ) → T (lt_z l (pos 0)) → one 45 ≡ sign l
sign_below (pos n) h = let no : ⊥ = omega (arith, ltb→lt n 0 h) in absurd no
sign_below (negsuc v) h = refl

pub sign_above : (l : ℤ) → T (non_neg l) → [] ≡ sign l
sign_above (pos n) h = refl
sign_above (negsuc v) h = absurd h

pub sign-most : (l : ℤ) → length (sign l) ≤ 1
sign-most (pos n) = omega arith
sign-most (negsuc n) = omega arith
