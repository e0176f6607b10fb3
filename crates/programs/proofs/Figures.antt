-- What a word's figures stand for, from a place of the word on. Assumes nothing.
use borrow.Author.Tests.{le-leb, lt-leb, le-ltb, lt-ltb}
use native.Mathlib.Omega.{arith}
use native.Mathlib.Numerals.{add-one}
use mathlib.Core.Path.{◌≡◌, refl, sym, ap, ◌∙◌}
use mathlib.Core.Bool.{Bool, true, false}
use mathlib.Core.Option.{none, some}
use Prim.Native.Nat.{ℕ, suc, ◌+◌, ◌*◌, ◌-◌, ◌≤◌, ◌<◌, ◌^◌}
use mathlib.Core.List.{List, [], ◌∷◌}
use lib.ListN.{length, get_or, drop}
use lib.Seq.{drop-cons, drop-length}
use Rattle.programs.specs.Arguments.{is_figure, figures, fitting, number_in}

-- whether a byte is a figure
pub below : (c : ℕ) → c < 48 → is_figure c ≡ false
unfolding is_figure
below c h = rw (lt-leb _ _ h) refl

pub above : (c : ℕ) → 48 ≤ c → 57 < c → is_figure c ≡ false
unfolding is_figure
above c h k = rw (le-leb _ _ h, lt-leb _ _ k) refl

pub within : (c : ℕ) → 48 ≤ c → c ≤ 57 → is_figure c ≡ true
unfolding is_figure
within c h k = rw (le-leb _ _ h, le-leb _ _ k) refl

-- figures behind a number, one more
behind : (n c : ℕ) (s : List ℕ) → is_figure c ≡ true → figures n (c ∷ s) ≡ figures (n * 10 + (c - 48)) s
unfolding figures
behind n c s h = rw (h, figures) refl

stops : (n c : ℕ) (s : List ℕ) → is_figure c ≡ false → figures n (c ∷ s) ≡ none
unfolding figures
stops n c s h = rw (h, figures) refl

-- a number that does not fit never does with more figures
large : (n : ℕ) (s : List ℕ) → 2 ^ 64 ≤ n → fitting (figures n s) ≡ none
unfolding figures fitting
large n [] h = rw (le-ltb _ _ h, fitting) refl
large n (c ∷ s) h = next (is_figure c) refl (large (n * 10 + (c - 48)) s (omega (arith, h)))
  where
    next : (b : Bool) → is_figure c ≡ b → fitting (figures (n * 10 + (c - 48)) s) ≡ none → fitting (figures n (c ∷ s)) ≡ none
    next true e rest = ap fitting (behind n c s e) ∙ rest
    next false e rest = ap fitting (stops n c s e)

pub number_is : (word : List ℕ) → 0 < length word → number_in word ≡ fitting (figures 0 word)
unfolding number_in
number_is [] h = let no' : ⊥ = omega (arith, h) in absurd no'
number_is (c ∷ s) h = refl

pub number-none : (word : List ℕ) → length word ≡ 0 → none ≡ number_in word
unfolding number_in
number-none [] h = refl
number-none (c ∷ s) h = let no' : ⊥ = omega (arith, h) in absurd no'

-- the whole word was read
pub number-whole : (word : List ℕ) (i n : ℕ) → 0 < length word → i ≡ length word → figures 0 word ≡ figures n (drop i word) → n < 2 ^ 64
    → some n ≡ number_in word
unfolding figures fitting
number-whole word i n some_byte end is fits =
    sym (number_is word some_byte
    ∙ ap fitting (is ∙ ap (figures n) (ap (λ (k : ℕ). drop k word) end ∙ drop-length word))
    ∙ (rw (lt-ltb _ _ fits, fitting) refl))

module _ (word : List ℕ) (i n : ℕ) (inside : i < length word) (is : figures 0 word ≡ figures n (drop i word)) where
  from-here : figures 0 word ≡ figures n (get_or word i 0 ∷ drop (suc i) word)
  from-here = is ∙ ap (figures n) (drop-cons word i 0 inside)

  pub no-figure : is_figure (get_or word i 0) ≡ false → none ≡ number_in word
  unfolding fitting
  no-figure h = sym (number_is word (omega (arith, inside)) ∙ ap fitting (from-here ∙ stops n _ _ h))

  pub read-on : is_figure (get_or word i 0) ≡ true → figures 0 word ≡ figures (n * 10 + (get_or word i 0 - 48)) (drop (i + 1) word)
  read-on h = from-here ∙ behind n _ _ h ∙ ap (λ (k : ℕ). figures (n * 10 + (get_or word i 0 - 48)) (drop k word)) (sym (add-one i))

  pub too_large : is_figure (get_or word i 0) ≡ true → 2 ^ 64 ≤ n * 10 + (get_or word i 0 - 48) → none ≡ number_in word
  too_large h l = sym (number_is word (omega (arith, inside)) ∙ ap fitting (from-here ∙ behind n _ _ h) ∙ large _ _ l)
