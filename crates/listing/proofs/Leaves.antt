-- What grows by one: a run of stores by a store, the path that a struct holds by a directed segment, and a table of runs by a
-- run, where there is room. Assumes nothing.
use Rattle.laws.proofs.Arrays.{padded-next}
use mathlib.Core.Path.{◌≡◌, refl, sym, ap, ap₂, ◌∙◌}
use Prim.Native.Nat.{ℕ, suc, ◌+◌, ◌-◌, ◌≤◌, ◌<◌}
use native.Mathlib.Nat.{add-zero, add-suc, suc-add}
use native.Mathlib.Numerals.{add-one}
use native.Mathlib.Omega.{arith}
use mathlib.Core.List.{List, [], ◌∷◌, ◌++◌, map, map-append, append-nil, append_assoc}
use lib.ListN.{length, get_or, take, drop, set, length-append, length-map}
use lib.Seq.{drop-drop, sets, slice, sets-eq, take-suc, take-nil, take-append-add, take-append_seam, drop-append_seam, length-take-le}
use Rattle.spec.specs.Lists.{Bytes, one, each, up_to}
use Rattle.spec.specs.Held.{padded}
use Rattle.listing.specs.declared.Path.{Path}
use Rattle.laws.proofs.Parts.{Part, up_to-suc, length-up_to}
use Rattle.listing.specs.Listed.{packed_path, entry_at, entry_of, kept_of, runs_after}

-- ---- a run of stores

module _ {ℓ} {A : Type ℓ} where
  -- the next store of a run
  pub sets-next : (vs l : List A) (i : ℕ) (v : A) → set (sets l i vs) (i + length vs) v ≡ sets l i (vs ++ one v)
  sets-next [] l i v = ap (λ (k : ℕ). set l k v) (add-zero i)
  sets-next (a ∷ vs) l i v =
      ap (λ (k : ℕ). set (sets (set l i a) (suc i) vs) k v) (add-suc i (length vs) ∙ sym (suc-add i (length vs)))
      ∙ sets-next vs (set l i a) (suc i) v

  -- the next of the values of a list, and of a row of values
  pub sets-take-next : (l vs : List A) (base i : ℕ) (d : A) → i < length vs
      → set (sets l base (take i vs)) (base + i) (get_or vs i d) ≡ sets l base (take (i + 1) vs)
  sets-take-next l vs base i d h =
      let size : length (take i vs) ≡ i = length-take-le i vs (omega arith) in
      ap (λ (k : ℕ). set (sets l base (take i vs)) (base + k) (get_or vs i d)) (sym size)
      ∙ sets-next (take i vs) l base (get_or vs i d)
      ∙ ap (sets l base) (sym (take-suc vs i d h) ∙ ap (λ (k : ℕ). take k vs) (sym (add-one i)))

  pub sets-map-next : (f : ℕ → A) (l : List A) (base i : ℕ)
      → set (sets l base (map f (up_to i))) (base + i) (f i) ≡ sets l base (map f (up_to (i + 1)))
  sets-map-next f l base i =
      let size : length (map f (up_to i)) ≡ i = length-map (up_to i) f ∙ length-up_to i in
      ap (λ (k : ℕ). set (sets l base (map f (up_to i))) (base + k) (f i)) (sym size)
      ∙ sets-next (map f (up_to i)) l base (f i)
      ∙ ap (sets l base) (sym (map-append f (up_to i) (one i)) ∙ ap (map f) (sym (up_to-suc i) ∙ ap up_to (sym (add-one i))))

  -- what they stored is a part of the list, and so can be cut out
  pub part-sets : (vs l : List A) (i : ℕ) → i + length vs ≤ length l → Part (sets l i vs) i vs
  part-sets vs l i h = record {
    front = take i l;
    rest = drop (i + length vs) l;
    whole = sets-eq vs l i h ∙ append_assoc (take i l) vs (drop (i + length vs) l);
    place = length-take-le i l (omega arith);
  }

  pub part_slice : {xs ys : List A} {n : ℕ} (k : ℕ) → Part xs n ys → length ys ≡ k → slice n (n + k) xs ≡ ys
  part_slice {xs} {ys} k p e =
      rw (p.whole, ← p.place, ← e)
      (ap (drop (length p.front)) (take-append-add p.front (ys ++ p.rest) (length ys))
      ∙ drop-append_seam p.front (take (length ys) (ys ++ p.rest))
      ∙ take-append_seam ys p.rest)

  -- a part that was copied over
  pub put_mid-sets : (xs ys : List A) (a k : ℕ) → length ys ≡ k → a + k ≤ length xs → take a xs ++ (ys ++ drop k (drop a xs)) ≡ sets xs a ys
  put_mid-sets xs ys a k e h =
      ap (λ (l : List A). take a xs ++ (ys ++ l)) (drop-drop k a xs ∙ ap (λ (n : ℕ). drop (a + n) xs) (sym e))
      ∙ sym (append_assoc (take a xs) ys (drop (a + length ys) xs))
      ∙ sym (sets-eq ys xs a (omega arith))

-- ---- a path by value

-- the path that holds a row, and the path that holds one more
pub path-next : (p : Path) (ds : List ℕ) (d : ℕ) → p ≡ packed_path ds → p.n < 16
    → ◌≡◌ {A = Path} (record { at = set p.at p.n d; n = p.n + 1 }) (packed_path (ds ++ one d))
unfolding packed_path
path-next p ds d e l =
    let size : p.n ≡ length ds = ap (λ (q : Path). q.n) e in
    let row : p.at ≡ padded 16 0 ds = ap (λ (q : Path). q.at) e in
    let sized : p.n + 1 ≡ length (ds ++ one d) = rw (size, length-append) in
    let stored : set p.at p.n d ≡ padded 16 0 (ds ++ one d) = rw (row, size) (padded-next 16 (length ds) 0 d ds refl (omega arith)) in
    ap₂ (λ (a : List ℕ) (k : ℕ). record { at = a; n = k }) stored sized

-- ---- a table of runs

-- one run behind the first `count`, where there is room for it, and where there is none
module _ (count : ℕ) (ds : List ℕ) (old : Bytes) where
  kept-one : count < 256 → kept_of count (one ds) ≡ one ds
  unfolding kept_of
  kept-one l =
      let e : 256 - count ≡ suc (255 - count) = omega arith in
      ap (λ (n : ℕ). take n (one ds)) e ∙ ap (λ (r : List (List ℕ)). ds ∷ r) (take-nil (255 - count))

  pub runs-kept : count < 256 → runs_after count (one ds) old ≡ sets old (entry_at count) (entry_of ds)
  unfolding runs_after each
  runs-kept l =
      ap (λ (r : List (List ℕ)). sets old (entry_at count) (each r entry_of)) (kept-one l)
      ∙ ap (sets old (entry_at count)) (append-nil (entry_of ds))

module _ (count : ℕ) (runs : List (List ℕ)) (old : Bytes) (full : 256 ≤ count) where
  kept-none : kept_of count runs ≡ []
  unfolding kept_of
  kept-none = let e : 256 - count ≡ 0 = omega arith in ap (λ (n : ℕ). take n runs) e

  pub runs-full : runs_after count runs old ≡ old
  unfolding runs_after each
  runs-full = ap (λ (r : List (List ℕ)). sets old (entry_at count) (each r entry_of)) kept-none
