-- Tests over rows that are built from rows: each lemma takes a test one level in. `rows` is the set of them that `simp` is
-- given. Assumes nothing.
use mathlib.Core.Path.{◌≡◌, refl, sym, ap, ◌∙◌}
use mathlib.Core.Bool.{Bool, true, false, not, ◌&&◌, ◌||◌, and_assoc, or_assoc, and-true, or-false}
use mathlib.Core.List.{List, [], ◌∷◌, ◌++◌, map}
use Rattle.spec.specs.Lists.{all, any, each, only, one}

module _ {ℓ} {A : Type ℓ} (f : A → Bool) where
  pub all_append : (xs ys : List A) → all f (xs ++ ys) ≡ (all f xs && all f ys)
  unfolding all
  all_append [] ys = refl
  all_append (x ∷ xs) ys = ap (λ (b : Bool). f x && b) (all_append xs ys) ∙ sym (and_assoc (f x) (all f xs) (all f ys))

  pub any_append : (xs ys : List A) → any f (xs ++ ys) ≡ (any f xs || any f ys)
  unfolding any
  any_append [] ys = refl
  any_append (x ∷ xs) ys = ap (λ (b : Bool). f x || b) (any_append xs ys) ∙ sym (or_assoc (f x) (any f xs) (any f ys))

  pub all_nil : all f [] ≡ true
  unfolding all
  all_nil = refl

  pub any-nil : any f [] ≡ false
  unfolding any
  any-nil = refl

  pub all_cons : (x : A) (xs : List A) → all f (x ∷ xs) ≡ (f x && all f xs)
  unfolding all
  all_cons x xs = refl

  pub any-cons : (x : A) (xs : List A) → any f (x ∷ xs) ≡ (f x || any f xs)
  unfolding any
  any-cons x xs = refl

  pub all_one : (x : A) → all f (one x) ≡ f x
  unfolding all
  all_one x = and-true (f x)

  pub any-one : (x : A) → any f (one x) ≡ f x
  unfolding any
  any-one x = or-false (f x)

  pub all-only : (b : Bool) (xs : List A) → all f (only b xs) ≡ (not b || all f xs)
  unfolding only all
  all-only true xs = refl
  all-only false xs = refl

  pub any-only : (b : Bool) (xs : List A) → any f (only b xs) ≡ (b && any f xs)
  unfolding only any
  any-only true xs = refl
  any-only false xs = refl

  pub all-each {κ} : {B : Type κ} (xs : List B) (g : B → List A) → all f (each xs g) ≡ all (λ x. all f (g x)) xs
  unfolding all each
  all-each [] g = refl
  all-each (x ∷ xs) g = all_append (g x) (each xs g) ∙ ap (λ (b : Bool). all f (g x) && b) (all-each xs g)

  pub any-each {κ} : {B : Type κ} (xs : List B) (g : B → List A) → any f (each xs g) ≡ any (λ x. any f (g x)) xs
  unfolding any each
  any-each [] g = refl
  any-each (x ∷ xs) g = any_append (g x) (each xs g) ∙ ap (λ (b : Bool). any f (g x) || b) (any-each xs g)

  pub all_map {κ} : {B : Type κ} (g : B → A) (xs : List B) → all f (map g xs) ≡ all (λ x. f (g x)) xs
  unfolding all
  all_map g [] = refl
  all_map g (x ∷ xs) = ap (λ (b : Bool). f (g x) && b) (all_map g xs)

  pub any-map {κ} : {B : Type κ} (g : B → A) (xs : List B) → any f (map g xs) ≡ any (λ x. f (g x)) xs
  unfolding any
  any-map g [] = refl
  any-map g (x ∷ xs) = ap (λ (b : Bool). f (g x) || b) (any-map g xs)

pub ruleset rows =
    (all_append, any_append, all_one, any-one, all_nil, any-nil, all_cons, any-cons, all-only, any-only, all-each, any-each, all_map, any-map)
