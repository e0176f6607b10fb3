-- The table of what meets, read three bytes at a time: what stands for each triple, one behind the other. Assumes nothing.
use mathlib.Core.Path.{◌≡◌, refl, sym, ap, ◌∙◌}
use mathlib.Core.Bool.{Bool, true, false}
use Prim.Native.Nat.{ℕ, ◌+◌, ◌≤◌, ◌<◌}
use native.Mathlib.Omega.{arith}
use mathlib.Core.List.{List, [], ◌∷◌, ◌++◌, append-nil, append_assoc}
use lib.ListN.{length, get_or, take, length-drop, length-take}
use lib.Seq.{slice}
use Rattle.spec.specs.Lists.{Bytes, up_to, each, only, one}
use Rattle.spec.specs.Instance.{Instance}
use Rattle.network.proofs.Walks.{slice-next}
use Rattle.tables.specs.Meets.{meets_of, meets_at, meet_table}

-- the next three bytes of a table that ends at `end`
pub bytes_next : (meets : Bytes) (end at : ℕ) → at + 2 < end → end ≤ length meets
    → slice at end meets ≡ get_or meets at 0 ∷ get_or meets (at + 1) 0 ∷ get_or meets (at + 2) 0 ∷ slice (at + 3) end meets
bytes_next meets end at h fits =
    let two : at + 1 + 1 ≡ at + 2 = omega arith in
    let three : at + 2 + 1 ≡ at + 3 = omega arith in
    slice-next meets end at 0 (omega arith) fits
    ∙ ap (λ (l : Bytes). get_or meets at 0 ∷ l) (slice-next meets end (at + 1) 0 (omega arith) fits)
    ∙ ap (λ (l : Bytes). get_or meets at 0 ∷ get_or meets (at + 1) 0 ∷ l) (slice-next meets end (at + 1 + 1) 0 (omega arith) fits)
    ∙ ap (λ (k : ℕ). get_or meets at 0 ∷ get_or meets (at + 1) 0 ∷ get_or meets k 0 ∷ slice (k + 1) end meets) two
    ∙ ap (λ (k : ℕ). get_or meets at 0 ∷ get_or meets (at + 1) 0 ∷ get_or meets (at + 2) 0 ∷ slice k end meets) three

-- fewer than three bytes are left
pub bytes-end : (meets : Bytes) (end at : ℕ) → end ≤ at + 2 → length (slice at end meets) ≤ 2
bytes-end meets end at h = omega (arith, length-drop at (take end meets), length-take end meets)

module _ {A : Type 0} (f : ℕ → ℕ → ℕ → A) where
  -- what stands for each three bytes
  unfoldable pub triples : Bytes → List A
  triples [] = []
  triples (n ∷ []) = []
  triples (n ∷ s ∷ []) = []
  triples (n ∷ s ∷ u ∷ rest) = f n s u ∷ triples rest

  pub triples-next : (n s u : ℕ) (rest : Bytes) → triples (n ∷ s ∷ u ∷ rest) ≡ f n s u ∷ triples rest
  unfolding triples
  triples-next n s u rest = refl

  pub triples-end : (bytes : Bytes) → length bytes ≤ 2 → triples bytes ≡ []
  unfolding triples
  triples-end [] h = refl
  triples-end (n ∷ []) h = refl
  triples-end (n ∷ s ∷ []) h = refl
  triples-end (n ∷ s ∷ u ∷ rest) h = let no' : ⊥ = omega arith in absurd no'

  -- ---- the table of an instance

  -- bytes that stand for a row, whatever stands behind them
  abbrev Stand : Bytes → List A → Type 0
  Stand bytes xs = (rest : Bytes) → triples (bytes ++ rest) ≡ xs ++ triples rest

  stand-only : (t : Bool) (n s u : ℕ) → Stand (only t (n ∷ s ∷ u ∷ [])) (only t (one (f n s u)))
  unfolding only triples
  stand-only true n s u rest = refl
  stand-only false n s u rest = refl

  stand-each : (g : ℕ → Bytes) (h : ℕ → List A) → ((k : ℕ) → Stand (g k) (h k)) → (ks : List ℕ) → Stand (each ks g) (each ks h)
  unfolding each
  stand-each g h same [] rest = refl
  stand-each g h same (k ∷ ks) rest =
      ap triples (append_assoc (g k) (each ks g) rest)
      ∙ same k (each ks g ++ rest)
      ∙ ap (λ (xs : List A). h k ++ xs) (stand-each g h same ks rest)
      ∙ sym (append_assoc (h k) (each ks h) (triples rest))

  -- by node, then ordered pair of segments that meet there
  abbrev pub meetings : Instance → List A
  meetings I = each (up_to I.nodes) λ n. each (up_to I.segments) λ s. each (up_to I.segments) λ u.
      only (I.meet n s u) (one (f n s u))

  pub triples-meet : (I : Instance) → triples (meet_table I) ≡ meetings I
  unfolding meet_table meets_at meets_of triples
  triples-meet I =
      ap triples (sym (append-nil (meet_table I)))
      ∙ stand-each _ _ (λ n. stand-each _ _ (λ s. stand-each _ _ (λ u. stand-only (I.meet n s u) n s u) (up_to I.segments))
      (up_to I.segments)) (up_to I.nodes) []
      ∙ append-nil (meetings I)
