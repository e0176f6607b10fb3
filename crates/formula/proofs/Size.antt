-- The formula of an instance with few of each has far fewer words than the counters hold. Assumes nothing.
use mathlib.Core.Path.{◌≡◌, refl, ap, ◌∙◌, subst}
use mathlib.Core.Bool.{Bool, true, false, not, ◌&&◌}
use Prim.Native.Nat.{ℕ, zero, suc, ◌+◌, ◌*◌, ◌-◌, ◌≤◌, ◌<◌}
use native.Mathlib.Nat.{le_refl, le_trans, suc-mul}
use native.Mathlib.Omega.{arith}
use mathlib.Core.List.{List, [], ◌∷◌, ◌++◌, map, Memᴰ}
use lib.ListN.{length, get_or, length-append, length-map}
use lib.IntN.{ℤ, pos}
use lib.Dec.{ltb}
use Rattle.spec.specs.Lists.{up_to, range, each, only, one}
use Rattle.spec.specs.Instance.{Instance, in_window, served_at_departure, free_nodes_of}
use Rattle.spec.specs.Formula.{Clause, is, not', width, base, border_var, own_variables, family_a, formula, words_of, clauses_b, clauses_c, clauses_i, clauses_d, followers_e, clause_e, clauses_e, servers_f, claims_g, clauses_g, clauses_h}
use Rattle.spec.specs.Cap.{counter_of, count_var, count_clause, carry_clause, cap_clauses}
use Rattle.laws.proofs.Tests.{up_to-mem}
use Rattle.laws.proofs.Parts.{length-count, length-up_to}
use Rattle.clauses.specs.Walked.{most}
use Rattle.demands.proofs.Words.{words_append}
use Rattle.formula.specs.Families.{Family, B, C, D, E, G, H, from_by, to_by, block_clauses, train_clauses, family_clauses, call_runs, call_clauses, pairs_behind}
use Rattle.tables.proofs.Small.{Few}
use Rattle.formula.proofs.Capped.{counter-few}
use Rattle.formula.proofs.Shapes.{shape-b, shape-c, shape-d, shape-e, shape-f, shape-g, shape-h, shape-i}

-- how many words clauses have
abbrev size : List Clause → ℕ
size cs = length (words_of cs)

-- ---- rows

size-append : (cs ds : List Clause) → size (cs ++ ds) ≡ size cs + size ds
size-append cs ds = ap length (words_append cs ds) ∙ length-append (words_of cs) (words_of ds)

-- clauses of at most m words, and more behind them
record Sized (cs : List Clause) (m : ℕ) : Type 0 where
  pub most' : size cs ≤ m

infixr 40 ◌⊕◌
◌⊕◌ : {cs ds : List Clause} {m n : ℕ} → Sized cs m → Sized ds n → Sized (cs ++ ds) (m + n)
◌⊕◌ {cs} {ds} h k = record { most' = omega (arith, size-append cs ds, h.most', k.most') }

size-one : (c : Clause) → size (one c) ≡ length c + 1
unfolding words_of each
size-one c = omega (arith, length-append (c ++ one (pos 0)) [], length-append c (one (pos 0)))

size-only : (b : Bool) (cs : List Clause) → size (only b cs) ≤ size cs
unfolding only words_of each
size-only true cs = le_refl _
size-only false cs = omega arith

module _ {A : Type 0} where
  -- rows of at most m words each, for at most n elements
  size-each : (xs : List A) (f : A → List Clause) (n m : ℕ) → length xs ≤ n → ((x : A) → Memᴰ x xs → size (f x) ≤ m)
      → size (each xs f) ≤ n * m
  unfolding each words_of
  size-each [] f n m l h = omega arith
  size-each (x ∷ xs) f zero m l h = let no' : ⊥ = omega arith in absurd no'
  size-each (x ∷ xs) f (suc n) m l h =
      let e = suc-mul n m in
      let k = size-each xs f n m (omega arith) (λ y p. h y (Memᴰ.tail p)) in
      omega (arith, size-append (f x) (each xs f), h x (Memᴰ.head refl))

  -- clauses of at most m words each
  size-map : (xs : List A) (f : A → Clause) (n m : ℕ) → length xs ≤ n → ((x : A) → Memᴰ x xs → length (f x) + 1 ≤ m)
      → size (map f xs) ≤ n * m
  unfolding words_of each
  size-map [] f n m l h = omega arith
  size-map (x ∷ xs) f zero m l h = let no' : ⊥ = omega arith in absurd no'
  size-map (x ∷ xs) f (suc n) m l h =
      let e = suc-mul n m in
      let k = size-map xs f n m (omega arith) (λ y p. h y (Memᴰ.tail p)) in
      omega (arith, length-append (f x ++ one (pos 0)) (words_of (map f xs)), length-append (f x) (one (pos 0)), h x (Memᴰ.head refl))

  -- literals, of at most m each
  length-rows : (xs : List A) (f : A → List ℤ) (n m : ℕ) → length xs ≤ n → ((x : A) → length (f x) ≤ m) → length (each xs f) ≤ n * m
  unfolding each
  length-rows [] f n m l h = omega arith
  length-rows (x ∷ xs) f zero m l h = let no' : ⊥ = omega arith in absurd no'
  length-rows (x ∷ xs) f (suc n) m l h =
      let e = suc-mul n m in
      let k = length-rows xs f n m (omega arith) h in
      omega (arith, length-append (f x) (each xs f), h x)

length-only {ℓ} : {A : Type ℓ} (b : Bool) (xs : List A) (m : ℕ) → length xs ≤ m → length (only b xs) ≤ m
unfolding only
length-only true xs m h = h
length-only false xs m h = omega arith

length-range : (a z : ℕ) → length (range a z) ≤ z
unfolding range
length-range a z = omega (arith, length-count a (z - a))

-- ---- the families

module _ (I : Instance) (few : Few I) where
  -- at most n of the first k
  up : (k n : ℕ) → k ≤ n → length (up_to k) ≤ n
  up k n h = omega (arith, length-up_to k)

  below : (a z n : ℕ) → z ≤ n → length (range a z) ≤ n
  below a z n h = omega (arith, length-range a z)

  inside : (k x : ℕ) → Memᴰ x (up_to k) → x < k
  inside k x m = (up_to-mem k x).0 m

  size_a : size (family_a I) ≤ 96 * 4
  unfolding family_a
  size_a = size-each (up_to I.nodes) _ 96 4 (up _ _ few.nodes) (λ n _.
      omega (
        arith,
        size-append (only (I.denied n) (one (one (not' (border_var I n))))) (only (I.forced n) (one (one (is (border_var I n))))),
        size-only (I.denied n) (one (one (not' (border_var I n)))),
        size-only (I.forced n) (one (one (is (border_var I n)))),
        size-one (one (not' (border_var I n))),
        size-one (one (is (border_var I n))),
      ))

  -- ---- the rows of an interval: H may have most

  module _ (i x : ℕ) (l : i < I.trains) where
    abbrev n : ℕ
    n = I.runs i

    few_runs : n ≤ 256
    few_runs = few.runs i l

    clauses_b-small : size (clauses_b n x) ≤ 514
    unfolding clauses_b
    clauses_b-small =
        let s = size-map (up_to n) (λ r. one (not' (x + r))) 256 2 (up _ _ few_runs) (λ r _. le_refl 2) in
        omega (arith, size-append (map (λ r. one (not' (x + r))) (up_to n)) (one (one (not' (x + n)))), size-one (one (not' (x + n))))

    abbrev pairs : List Clause
    pairs = each (up_to (n + 1)) λ m. map (λ k. not' (x + m) ∷ one (not' (x + k))) (range (m + 1) (n + 1))

    pairs_small : size pairs ≤ 257 * (257 * 3)
    pairs_small = size-each (up_to (n + 1)) _ 257 (257 * 3) (up _ _ (omega (arith, few_runs))) (λ m _.
        size-map (range (m + 1) (n + 1)) _ 257 3 (below _ _ _ (omega (arith, few_runs))) (λ k _. le_refl 3))

    clauses_c-small : size (clauses_c n x) ≤ 198405
    unfolding clauses_c
    clauses_c-small =
        let some = map (λ r. is (x + r)) (up_to n) in
        omega (
          arith,
          pairs_small,
          size-append (one (some ++ one (is (x + n)))) pairs,
          size-one (some ++ one (is (x + n))),
          length-append some (one (is (x + n))),
          length-map (up_to n) (λ r. is (x + r)),
          up _ _ few_runs,
        )

    clauses_d-small : size (clauses_d I i x) ≤ 514
    unfolding clauses_d
    clauses_d-small =
        let starts = each (up_to n) λ r. only (not (I.given i r)) (one (one (not' (x + r)))) in
        let s = size-each (up_to n) (λ r. only (not (I.given i r)) (one (one (not' (x + r))))) 256 2 (up _ _ few_runs) (λ r _.
        omega (arith, size-only (not (I.given i r)) (one (one (not' (x + r)))), size-one (one (not' (x + r))))) in
        omega (arith, size-append starts (one (one (not' (x + n)))), size-one (one (not' (x + n))))

    clause_e-small : (y r : ℕ) → length (clause_e I i x y r) + 1 ≤ 259
    unfolding clause_e followers_e
    clause_e-small y r =
        let runs = each (up_to n) λ q. only (I.follows i r q) (one (is (y + q))) in
        let s = length-rows (up_to n) (λ q. only (I.follows i r q) (one (is (y + q)))) 256 1 (up _ _ few_runs) (λ q. length-only _ _ 1 (le_refl 1)) in
        omega (arith, length-append runs (only (I.leaves i r) (one (is (y + n)))), length-only (I.leaves i r) (one (is (y + n))) 1 (le_refl 1))

    clauses_e-small : (y : ℕ) → size (clauses_e I i x y) ≤ 66307
    unfolding clauses_e
    clauses_e-small y =
        let s = size-map (up_to n) (clause_e I i x y) 256 259 (up _ _ few_runs) (λ r _. clause_e-small y r) in
        let last = not' (x + n) ∷ one (is (y + n)) in
        omega (arith, size-append (map (clause_e I i x y) (up_to n)) (one last), size-one last)

    clauses_g-small : size (clauses_g I i x) ≤ 256 * (16 * 3)
    unfolding clauses_g claims_g
    clauses_g-small = size-each (up_to n) _ 256 (16 * 3) (up _ _ few_runs) (λ r m.
        size-map (I.path i r) _ 16 3 (few.paths i r l (inside _ _ m)) (λ s _. le_refl 3))

    clauses_h-small : size (clauses_h I i x) ≤ 96 * (64 * (64 * 4))
    unfolding clauses_h
    clauses_h-small = size-each (up_to I.nodes) _ 96 (64 * (64 * 4)) (up _ _ few.nodes) (λ k _.
        size-each (up_to I.segments) _ 64 (64 * 4) (up _ _ few.segments) (λ s _.
        size-each (up_to I.segments) _ 64 4 (up _ _ few.segments) (λ u _.
        let c = not' (x + (n + 1 + s)) ∷ is (border_var I k) ∷ one (is (x + (n + 1 + u))) in
        omega (arith, size-only (I.meet k s u) (one c), size-one c))))

    rows-small : (f : Family) → size (block_clauses I f i x) ≤ 1572864
    rows-small B = omega (arith, clauses_b-small)
    rows-small C = omega (arith, clauses_c-small)
    rows-small D = omega (arith, clauses_d-small)
    rows-small E = omega (arith, clauses_e-small (x + width I i))
    rows-small G = omega (arith, clauses_g-small)
    rows-small H = omega (arith, clauses_h-small)

  -- a family ends by the last interval
  to-small : (f : Family) (i : ℕ) → i < I.trains → to_by f (I.departure i) I.intervals ≤ 65536
  to-small B i l = omega (arith, few.departs i l, few.intervals)
  to-small C i l = few.intervals
  to-small D i l = omega (arith, few.departs i l, few.intervals)
  to-small E i l = omega (arith, few.intervals)
  to-small G i l = few.intervals
  to-small H i l = few.intervals

  family-small : (f : Family) → size (family_clauses I f) ≤ 824633720832
  unfolding family_clauses train_clauses
  family-small f = size-each (up_to I.trains) _ 8 (65536 * 1572864) (up _ _ few.trains) (λ i m.
      let l = inside _ _ m in
      size-each (range (from_by f (I.departure i)) (to_by f (I.departure i) I.intervals)) _ 65536 1572864 (below _ _ _ (to-small f i l))
      (λ t _. rows-small i (base I i t) l f))

  -- F and I
  size_f : size (each (up_to I.trains) λ i. each (up_to (I.calls i)) λ c. call_clauses I i c) ≤ 8 * (4 * (65536 * 256 + 1))
  unfolding call_clauses call_runs servers_f
  size_f = size-each (up_to I.trains) _ 8 (4 * (65536 * 256 + 1)) (up _ _ few.trains) (λ i m.
      let l = inside _ _ m in
      size-each (up_to (I.calls i)) _ 4 (65536 * 256 + 1) (up _ _ (few.calls i l)) (λ c _.
      let lits = each (range (I.departure i) I.intervals) λ t. only (in_window I i c (t + 1)) (servers_f I i c (base I i t)) in
      let s = length-rows (range (I.departure i) I.intervals) (λ t. only (in_window I i c (t + 1)) (servers_f I i c (base I i t)))
      65536 256 (below _ _ _ few.intervals) (λ t. length-only _ _ 256
      (length-rows (up_to (I.runs i)) _ 256 1 (up _ _ (few.runs i l)) (λ r. length-only _ _ 1 (le_refl 1)))) in
      omega (arith, size-only (not (served_at_departure I i c)) (one lits), size-one lits)))

  size_i : size (each (up_to I.intervals) λ t. each (up_to I.trains) λ i. pairs_behind I t i) ≤ 65536 * (8 * (8 * (64 * 3)))
  unfolding pairs_behind clauses_i
  size_i = size-each (up_to I.intervals) _ 65536 (8 * (8 * (64 * 3))) (up _ _ few.intervals) (λ t _.
      size-each (up_to I.trains) _ 8 (8 * (64 * 3)) (up _ _ few.trains) (λ i _.
      size-each (range (i + 1) I.trains) _ 8 (64 * 3) (below _ _ _ few.trains) (λ j _.
      size-map (up_to I.segments) _ 64 3 (up _ _ few.segments) (λ s _. le_refl 3))))

  -- what a cap adds
  module _ (first j k : ℕ) where
    count_small : size (one (count_clause I first j k)) ≤ 4
    unfolding count_clause
    count_small =
        let before = only (ltb 0 j) (one (not' (count_var I first (j - 1) k))) in
        let counted = only (ltb j (counter_of I).most) (one (is (count_var I first j k))) in
        omega (
          arith,
          size-one (not' (get_or (free_nodes_of I) (j + k) 0) ∷ (before ++ counted)),
          length-append before counted,
          length-only (ltb 0 j) (one (not' (count_var I first (j - 1) k))) 1 (le_refl 1),
          length-only (ltb j (counter_of I).most) (one (is (count_var I first j k))) 1 (le_refl 1),
        )

    carry-small : size (carry_clause I first j k) ≤ 3
    unfolding carry_clause
    carry-small =
        let c = not' (count_var I first j (k - 1)) ∷ one (is (count_var I first j k)) in
        omega (arith, size-only (ltb j (counter_of I).most && ltb 0 k) (one c), size-one c)

  size_cap : (first : ℕ) → size (cap_clauses I first) ≤ 97 * (96 * 7)
  unfolding cap_clauses
  size_cap first =
      let c = counter-few I few.nodes in
      size-each (up_to ((counter_of I).most + 1)) _ 97 (96 * 7) (up _ _ (omega (arith, c))) (λ j _.
      size-each (up_to (counter_of I).spare) _ 96 7 (up _ _ (omega (arith, c))) (λ k _.
      omega (arith, size-append (one (count_clause I first j k)) (carry_clause I first j k), count_small first j k, carry-small first j k)))

  pub formula-small : size (formula I) ≤ most
  unfolding formula
  formula-small =
      let first : Sized (family_a I) (96 * 4) = record { most' = size_a } in
      let all =
      first ⊕ (by B (shape-b I) ⊕ (by C (shape-c I) ⊕ (by D (shape-d I) ⊕ (by E (shape-e I)
      ⊕ (same (shape-f I) size_f ⊕ (by G (shape-g I) ⊕ (by H (shape-h I) ⊕ (same (shape-i I) size_i ⊕ end)))))))) in
      le_trans all.most' (omega arith)
    where
      same : {cs ds : List Clause} {m : ℕ} → cs ≡ ds → size cs ≤ m → Sized ds m
      same {m = m} e h = record { most' = subst (λ (xs : List Clause). size xs ≤ m) e h }

      by : {cs : List Clause} (f : Family) → family_clauses I f ≡ cs → Sized cs 824633720832
      by f e = same e (family-small f)

      end : Sized (cap_clauses I (own_variables I)) (97 * (96 * 7))
      end = record { most' = size_cap (own_variables I) }
