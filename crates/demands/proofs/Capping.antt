-- What is counted (`count-is`), and the formula under a cap beside the formula without one (P7): the cap's clauses and variables come behind all others (`cap-behind`), there
-- are few of them (`cap-size`), and none where the cap is not below the count of kind 1 nodes (`cap-above`). Assumes nothing.
use mathlib.Core.Path.{◌≡◌, refl, sym, ap, ap₂, ◌∙◌, subst}
use mathlib.Core.Bool.{Bool, true, false, ◌&&◌}
use mathlib.Core.Option.{Option, none, some}
use Prim.Native.Nat.{ℕ, suc, ◌+◌, ◌*◌, ◌-◌, ◌≤◌, ◌<◌}
use native.Mathlib.Nat.{mul-le-mul_left, mul-le-mul_right}
use native.Mathlib.Omega.{arith}
use mathlib.Core.List.{List, [], ◌∷◌, ◌++◌, append_assoc, append-nil}
use lib.ListN.{length, length-append}
use lib.IntN.{ℤ}
use lib.Dec.{leb, ltb, eqb}
use Rattle.laws.proofs.Tests.{eqb-iff, ltb_iff, leb-iff, all-up_to, up_to-mem, false_of, bool-ext}
use Rattle.laws.proofs.Parts.{length-up_to}
use Rattle.laws.proofs.Picks.{pick-most, pick_same}
use Rattle.spec.specs.Lists.{Bytes, all, count, up_to, each, one, only, pick, accepted, and_then}
use Rattle.spec.specs.Book.{Book, node_kind_at}
use Rattle.spec.specs.Read.{read_book}
use Rattle.spec.specs.Instance.{Instance, instance_of, compile, under, in_window, served_at_departure, is_free, free_nodes_of}
use Rattle.spec.specs.Cap.{set_count, Counter, counter_for, counter_of, cap_variables, count_clause, carry_clause, cap_clauses}
use Rattle.spec.specs.Formula.{Clause, width, first_var, base, border_var, claim_var, own_variables, variables, clauses_d, followers_e, clause_e, clauses_e, servers_f, claims_g, clauses_g, clauses_h, family_a, family_b, family_c, family_d, family_e, family_f, family_g, family_h, family_i, formula, words_of}
use Rattle.spec.specs.Plan.{is_bit}
use Rattle.spec.specs.Assignment.{first_false, assigned, assignment_fits}
use Rattle.spec.specs.Refutation.{Lent, clauses_fit, check_file}
use Rattle.spec.specs.Entry.{demand, find_none, formula_written, written_for, write_formula, words_after, formula_output, judge_assignment, check_assignment, formula_fits, refuted_for, check_refutation}
use Rattle.demands.proofs.Wellformed.{parts}
use Rattle.demands.proofs.Reading.{read-well-formed}
use Rattle.demands.proofs.Carriers.{free-iff}
use Rattle.demands.proofs.Cap.{counter-whole}
use Rattle.demands.proofs.Entries.{then-goes, read-instance}

-- ---- what is counted

-- the elements that pass two tests
pick-both : {A : Type 0} (f g : A → Bool) (xs : List A) → pick g (pick f xs) ≡ pick (λ x. f x && g x) xs
unfolding pick only
pick-both f g [] = refl
pick-both {A} f g (x ∷ xs) = go (f x) refl (pick-both f g xs)
  where
    go : (t : Bool) → f x ≡ t → pick g (pick f xs) ≡ pick (λ y. f y && g y) xs → pick g (pick f (x ∷ xs)) ≡ pick (λ y. f y && g y) (x ∷ xs)
    go true e rest = rw e (ap (λ (ys : List A). only (g x) (one x) ++ ys) rest)
    go false e rest = rw e rest

-- "kind 1 nodes set": of a book that was read, the nodes of kind 1 whose border is set, each once.
pub count-is : (book : Bytes) (b : Book) (border : ℕ → Bool) → read_book book ≡ accepted b
    → set_count (instance_of b) border ≡ length (pick (λ n. eqb (node_kind_at b n) 1 && border n) (up_to (length b.nodes)))
unfolding set_count free_nodes_of instance_of compile
count-is book b border read =
    let formed = read-well-formed book b read in
    ap length (pick-both (is_free (instance_of b)) border (up_to (length b.nodes))
    ∙ pick_same _ (λ n. eqb (node_kind_at b n) 1 && border n) (up_to (length b.nodes)) (λ n m.
    let f = free-iff b formed n ((up_to-mem (length b.nodes) n).0 m) in
    ap (λ (t : Bool). t && border n)
    (bool-ext (is_free (instance_of b) n) (eqb (node_kind_at b n) 1) (λ h. (eqb-iff _ 1).1 (f.0 h)) (λ h. f.1 ((eqb-iff _ 1).0 h)))))

-- ---- behind all others

module _ (cap : Option ℕ) (I : Instance) where
  -- "Its clauses follow family I and its extra variables follow all others, so that existing numbers hold."
  pub cap-behind : (formula (under cap I) ≡ formula (under none I) ++ cap_clauses (under cap I) (own_variables I))
      × (variables (under cap I) ≡ variables (under none I) + cap_variables (under cap I))
  unfolding formula cap_clauses counter_of counter_for each up_to count cap_variables variables own_variables first_var width base family_a family_b family_c family_d family_e family_f family_g family_h family_i clauses_d followers_e clause_e clauses_e servers_f claims_g clauses_g clauses_h border_var claim_var in_window served_at_departure
  cap-behind = (clauses, omega arith)
    where
      clauses : formula (under cap I) ≡ formula (under none I) ++ cap_clauses (under cap I) (own_variables I)
      clauses = simp append_assoc refl

-- ---- how many

-- a row has no more than so many each
length_most {ℓ κ} : {A : Type ℓ} {B : Type κ} (f : A → List B) (w : ℕ) → ((x : A) → length (f x) ≤ w) → (xs : List A)
    → length (each xs f) ≤ length xs * w
unfolding each
length_most f w few [] = omega arith
length_most f w few (x ∷ xs) =
    let r = length_most f w few xs in
    let h = few x in
    let e = length-append (f x) (each xs f) in
    omega (arith, r, h, e)

-- two clauses at most for each j and k
cap-clauses : (I : Instance) (first : ℕ) → length (cap_clauses I first) ≤ ((counter_of I).most + 1) * ((counter_of I).spare * 2)
unfolding cap_clauses carry_clause only
cap-clauses I first =
    let m = (counter_of I).most + 1 in
    let s = (counter_of I).spare in
    subst (λ (n : ℕ). length (cap_clauses I first) ≤ n * (s * 2)) (length-up_to m)
    (length_most (λ j. each (up_to s) (pair j)) (s * 2) (λ j. subst (λ (n : ℕ). length (each (up_to s) (pair j)) ≤ n * 2) (length-up_to s)
    (length_most (pair j) 2 (λ k. two (ltb j (counter_of I).most && ltb 0 k) _) (up_to s))) (up_to m))
  where
    pair : ℕ → ℕ → List Clause
    pair j k = count_clause I first j k ∷ carry_clause I first j k

    two : (b : Bool) (c : Clause) → suc (length (only b (one c))) ≤ 2
    two true c = omega arith
    two false c = omega arith

-- of two numbers whose sum is at most 96
product-most : (m s : ℕ) → m + s ≤ 96 → (m * s ≤ 2304) × ((m + 1) * (s * 2) ≤ 4704)
unfolding all up_to count
product-most m s l =
    let few : s ≤ 96 - m = omega (arith, l) in
    let below : m < 97 = omega (arith, l) in
    let a = mul-le-mul_left m few in
    let b = mul-le-mul_left (m + 1) (mul-le-mul_right 2 few) in
    let c = (leb-iff (m * (96 - m)) 2304).0 ((all-up_to (λ m. leb (m * (96 - m)) 2304) 97).0 tt m below) in
    let d = (leb-iff ((m + 1) * ((96 - m) * 2)) 4704).0 ((all-up_to (λ m. leb ((m + 1) * ((96 - m) * 2)) 4704) 97).0 tt m below) in
    (omega (arith, a, c), omega (arith, b, d))

-- "at most 40,000 of either": of a book that was read, a cap adds at most 2,304 variables and at most 4,704 clauses.
pub cap-size : (cap : Option ℕ) (book : Bytes) (b : Book) → read_book book ≡ accepted b
    → ((more : ℕ) × (more ≤ 2304) × (variables (under cap (instance_of b)) ≡ variables (under none (instance_of b)) + more))
    × ((more : ℕ) × (more ≤ 4704) × (length (formula (under cap (instance_of b))) ≡ length (formula (under none (instance_of b))) + more))
unfolding cap_variables counter_of free_nodes_of instance_of compile
cap-size cap book b read =
    let I = under cap (instance_of b) in
    let few = (parts b (read-well-formed book b read)).few_nodes in
    let picked = pick-most (is_free I) (up_to I.nodes) in
    let whole = counter-whole cap (length (free_nodes_of I)) in
    let bound = product-most (counter_of I).most (counter_of I).spare (omega (arith, whole, picked, length-up_to I.nodes, few)) in
    let behind = cap-behind cap (instance_of b) in (
      (cap_variables I, bound.0, behind.1),
      (
        length (cap_clauses I (own_variables (instance_of b))),
        (let c = cap-clauses I (own_variables (instance_of b)) in omega (arith, c, bound.1)),
        ap length behind.0 ∙ length-append (formula (under none (instance_of b))) _,
      ),
    )

-- ---- "A cap not below the count of kind 1 nodes adds nothing."

module _ (I : Instance) (c : ℕ) (all-free : length (free_nodes_of I) ≤ c) where
  nothing-counted : counter_for (some c) (length (free_nodes_of I)) ≡ counter_for none (length (free_nodes_of I))
  unfolding counter_for
  nothing-counted =
      let no₀ = false_of (ltb c (length (free_nodes_of I))) (λ t. let l = (ltb_iff c (length (free_nodes_of I))).0 t in omega (arith, l, all-free)) in
      rw (no₀, counter_for) refl

  -- the formula is the same, word for word
  pub cap-above-formula : (formula (under (some c) I) ≡ formula (under none I)) × (variables (under (some c) I) ≡ variables (under none I))
  unfolding cap_variables cap_clauses counter_of counter_for free_nodes_of is_free each up_to count
  cap-above-formula =
      let behind = cap-behind (some c) I in (
        behind.0 ∙ ap (λ (cs : List Clause). formula (under none I) ++ cs) empty ∙ append-nil (formula (under none I)),
        behind.1 ∙ ap (λ (n : ℕ). variables (under none I) + n) (ap (λ (k : Counter). k.most * k.spare) nothing-counted) ∙ omega arith,
      )
    where
      empty : cap_clauses (under (some c) I) (own_variables I) ≡ []
      empty = ap (λ (k : Counter). each (up_to (k.most + 1)) λ j. each (up_to k.spare) λ l.
          count_clause (under (some c) I) (own_variables I) j l ∷ carry_clause (under (some c) I) (own_variables I) j l) nothing-counted

-- From the book's bytes: what is written is the same, and what the output holds,
pub cap-above : (book : Bytes) (b : Book) (c : ℕ) → read_book book ≡ accepted b → length (free_nodes_of (instance_of b)) ≤ c
    → ((n : ℕ) → write_formula (some c) book n ≡ write_formula none book n)
    × ((old : List ℤ) → formula_output (some c) book old ≡ formula_output none book old)
unfolding write_formula written_for formula_written formula_output
cap-above book b c read all-free = (same, λ old. ap (words_after old) (same (length old)))
  where
    same : (n : ℕ) → write_formula (some c) book n ≡ write_formula none book n
    same n =
        let s = cap-above-formula (instance_of b) c all-free in
        then-goes _ (read-instance (some c) book b read)
        ∙ ap₂ (λ (f : List Clause) (v : ℕ). and_then (demand (leb (length (words_of f)) n) 12) λ _.
        accepted (record { variable_count = v; clause_count = length f; word_count = length (words_of f); words = words_of f })) s.0 s.1
        ∙ sym (then-goes _ (read-instance none book b read))

-- and both checks give the same verdict.
pub cap-above-checked : (book : Bytes) (b : Book) (c : ℕ) → read_book book ≡ accepted b → length (free_nodes_of (instance_of b)) ≤ c
    → ((assignment : Bytes) → check_assignment (some c) book assignment ≡ check_assignment none book assignment)
    × ((refutation : Bytes) (lent : Lent) → check_refutation (some c) book refutation lent ≡ check_refutation none book refutation lent)
unfolding check_assignment judge_assignment assignment_fits check_refutation refuted_for formula_fits
cap-above-checked book b c read all-free =
    let s = cap-above-formula (instance_of b) c all-free in (
      (λ assignment. then-goes _ (read-instance (some c) book b read)
          ∙ ap₂ (λ (f : List Clause) (v : ℕ). and_then (demand (eqb (length assignment) v && all is_bit assignment) 13) λ _.
          find_none (first_false (assigned assignment) 1 f) 14) s.0 s.1
          ∙ sym (then-goes _ (read-instance none book b read))),
      (λ refutation lent. then-goes _ (read-instance (some c) book b read)
          ∙ ap₂ (λ (f : List Clause) (v : ℕ). and_then (demand (clauses_fit lent f && leb v lent.values && leb v lent.trail) 12) λ _.
          check_file lent v f refutation) s.0 s.1
          ∙ sym (then-goes _ (read-instance none book b read))),
    )
