-- The order of kinds: the rank of a number that is no kind's, and what is left of the test for order once a Head stands where it
-- should. Assumes nothing.
use mathlib.Core.Path.{◌≡◌, refl, sym, ap, subst, ◌∙◌}
use mathlib.Core.Logic.{◌≢◌, ◌⊎◌, inl, inr}
use mathlib.Core.Bool.{true, false, not, ◌&&◌, ◌||◌}
use mathlib.Core.Option.{Option, none, some}
use Prim.Native.Nat.{ℕ, suc}
use native.Mathlib.Decide.{ℕ_discrete}
use mathlib.Core.List.{List, [], ◌∷◌}
use lib.ListN.{length}
use lib.Dec.{T, ltb, eqb}
use Rattle.laws.proofs.Tests.{decide, false_of, true_of, denied-of, eqb-iff, and-iff, not_iff}
use Rattle.spec.specs.Lists.{all}
use Rattle.spec.specs.Frames.{Kind, head_kind, node_kind, segment_kind, join_kind, train_kind, call_kind, unbreakable_kind, end_kind, rank, rank_in, kind_order, kind_number, find_kind}
use Rattle.spec.specs.Read.{is_head, is_end}
use Rattle.std.specs.Prelude.{Some, None}
use Rattle.std.specs.Prelude.{Option as CodeOption}
use Rattle.frames.specs.declared.Kind.{Kind as KindCase}
use Rattle.frames.specs.Framed.{kind_said, kind_in, place_of, out_of_order_by}

-- two numbers that differ, or not, as a test
pub differs : (n k : ℕ) → n ≢ k → eqb n k ≡ false
differs n k h = false_of (eqb n k) (λ t. h ((eqb-iff n k).0 t))

pub agrees : (n k : ℕ) → n ≡ k → eqb n k ≡ true
agrees n k e = true_of (eqb n k) ((eqb-iff n k).1 e)

-- a number that is no kind's stands behind all kinds
pub rank-none : (n : ℕ) (ks : List Kind) → T (all (λ k. not (eqb n (kind_number k))) ks) → rank_in n ks ≡ suc (length ks)
unfolding rank_in all
rank-none n [] h = refl
rank-none n (k ∷ ks) h =
    let p = (and-iff (not (eqb n (kind_number k))) (all (λ k. not (eqb n (kind_number k))) ks)).0 h in
    rw (denied-of (eqb n (kind_number k)) p.0, rank_in) (ap suc (rank-none n ks p.1))

pub rank-other : (n : ℕ) → n ≢ 1 → n ≢ 2 → n ≢ 3 → n ≢ 4 → n ≢ 5 → n ≢ 6 → n ≢ 7 → n ≢ 8 → rank n ≡ 9
unfolding rank kind_order kind_number all
rank-other n a b c d e f g h =
    rank-none n kind_order (simp (and-iff, not_iff, eqb-iff) (a, (b, (c, (d, (e, (f, (g, (h, tt)))))))))

-- it finds no kind
pub found_none : (n : ℕ) (ks : List Kind) → T (all (λ k. not (eqb n (kind_number k))) ks) → find_kind n ks ≡ none
unfolding find_kind all
found_none n [] h = refl
found_none n (k ∷ ks) h =
    let p = (and-iff (not (eqb n (kind_number k))) (all (λ k. not (eqb n (kind_number k))) ks)).0 h in
    rw (denied-of (eqb n (kind_number k)) p.0, find_kind) (found_none n ks p.1)

pub found-other : (n : ℕ) → n ≢ 1 → n ≢ 2 → n ≢ 3 → n ≢ 4 → n ≢ 5 → n ≢ 6 → n ≢ 7 → n ≢ 8 → find_kind n kind_order ≡ none
unfolding kind_order kind_number all
found-other n a b c d e f g h =
    found_none n kind_order (simp (and-iff, not_iff, eqb-iff) (a, (b, (c, (d, (e, (f, (g, (h, tt)))))))))

-- the rank of a number is the place of the kind that it says
abbrev pub place_said : CodeOption KindCase → ℕ
place_said (Some k) = place_of k
place_said None = 9

abbrev PlacedBy : ℕ → Type 0
PlacedBy n = rank n ≡ place_said (kind_said (find_kind n kind_order))

-- one number after the other
here-or : (n k : ℕ) → PlacedBy k → (n ≢ k → PlacedBy n) → PlacedBy n
here-or n k p q = elim (ℕ_discrete n k) [ yes e ↦ subst PlacedBy (sym e) p | no h ↦ q h ]

pub rank-placed : (n : ℕ) → PlacedBy n
unfolding rank rank_in kind_order kind_number find_kind
rank-placed n =
    here-or n 1 refl λ a. here-or n 2 refl λ b. here-or n 3 refl λ c. here-or n 4 refl λ d.
    here-or n 5 refl λ e. here-or n 6 refl λ f. here-or n 7 refl λ g. here-or n 8 refl λ h.
    rank-other n a b c d e f g h ∙ sym (ap (λ o. place_said (kind_said o)) (found-other n a b c d e f g h))

-- a kind's case stands for the kind
abbrev kind_back : CodeOption KindCase → Option Kind
kind_back (Some k) = some (kind_in k)
kind_back None = none

said-back : (o : Option Kind) → kind_back (kind_said o) ≡ o
said-back (some head_kind) = refl
said-back (some node_kind) = refl
said-back (some segment_kind) = refl
said-back (some join_kind) = refl
said-back (some train_kind) = refl
said-back (some call_kind) = refl
said-back (some unbreakable_kind) = refl
said-back (some end_kind) = refl
said-back none = refl

pub in-said : (o : Option Kind) {k : KindCase} → Some k ≡ kind_said o → o ≡ some (kind_in k)
in-said o e = sym (ap kind_back e ∙ said-back o)

-- and its number finds it, and no other does
number-found : (n : ℕ) (ks : List Kind) {k : Kind} → find_kind n ks ≡ some k → n ≡ kind_number k
unfolding find_kind
number-found n [] e = cc
number-found n (j ∷ js) {k} e = decide (eqb n (kind_number j))
    (λ t. let q : some j ≡ some k = rw (true_of (eqb n (kind_number j)) t, find_kind) at e in (eqb-iff n (kind_number j)).0 t ∙ (cc))
    (λ f. number-found n js (rw (denied-of (eqb n (kind_number j)) f, find_kind) at e))

module _ (n : ℕ) {k : KindCase} (said : Some k ≡ kind_said (find_kind n kind_order)) where
  pub said-number : n ≡ kind_number (kind_in k)
  said-number = number-found n kind_order (in-said (find_kind n kind_order) said)

  pub said-other : {m : ℕ} {j : KindCase} → kind_said (find_kind m kind_order) ≡ Some j → k ≢ j → n ≢ m
  said-other f h e = h (cc)

-- the Head stands first, and nowhere else
abbrev pub HeadFirst : ℕ → ℕ → Type 0
HeadFirst last kind = ((last ≡ 0) × (kind ≡ 1)) ⊎ ((last ≢ 0) × (kind ≢ 1))

pub not_first : (last kind left : ℕ) → last ≡ 0 → kind ≢ 1 → true ≡ out_of_order_by last kind left
unfolding out_of_order_by is_head kind_number
not_first last kind left e h = simp (agrees last 0 e, differs kind 1 h)

pub second_head : (last kind left : ℕ) → last ≢ 0 → kind ≡ 1 → true ≡ out_of_order_by last kind left
unfolding out_of_order_by is_head kind_number
second_head last kind left h e = simp (differs last 0 h, agrees kind 1 e)

pub order-rest : (last kind left : ℕ) → HeadFirst last kind
    → out_of_order_by last kind left ≡ (ltb (rank kind) last || is_end kind && not (eqb left 0))
unfolding out_of_order_by is_head kind_number
order-rest last kind left (inl h) = simp (agrees last 0 h.0, agrees kind 1 h.1)
order-rest last kind left (inr h) = simp (differs last 0 h.0, differs kind 1 h.1)
