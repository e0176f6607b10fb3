-- The numbers of a book that passed: its counts, and how large its variables are at most. Assumes nothing.
use mathlib.Core.Path.{◌≡◌, refl, sym, ap, ◌∙◌, subst}
use Prim.Native.Nat.{ℕ, zero, suc, ◌+◌, ◌*◌, ◌≤◌, ◌<◌}
use native.Mathlib.Nat.{mul-le-mul, suc-mul, zero-mul}
use native.Mathlib.Omega.{arith}
use native.Mathlib.Numerals.{add-one}
use mathlib.Core.List.{List, [], map}
use lib.ListN.{length, get_or, length-map}
use lib.Dec.{T}
use Rattle.model.specs.declared.Book.{Book as BookStruct}
use Rattle.spec.specs.Lists.{sum_to}
use Rattle.spec.specs.Book.{Book, segment_of, calls_of}
use Rattle.spec.specs.Read.{well_formed, between, max_calls}
use Rattle.spec.specs.Instance.{Instance, instance_of, compile, run_lists, run_at}
use Rattle.spec.specs.Formula.{width, first_var, base, own_variables}
use Rattle.spec.specs.Held.{held}
use Rattle.demands.proofs.Wellformed.{parts, sound}
use Rattle.demands.proofs.RunLists.{train-reach, run-moves}
use Rattle.laws.proofs.Tests.{and-iff, leb-iff, all-up_to}
use Rattle.reader.proofs.Packing.{nodes-counted, segments-counted, trains-counted}
use Rattle.tables.specs.Tables.{Passed}
use Rattle.tables.specs.Ready.{Counted}

-- an instance with few of each
pub record Few (I : Instance) : Type 0 where
  pub nodes : I.nodes ≤ 96
  pub segments : I.segments ≤ 64
  pub trains : I.trains ≤ 8
  pub intervals : I.intervals ≤ 65536
  pub runs : (i : ℕ) → i < I.trains → I.runs i ≤ 256
  pub calls : (i : ℕ) → i < I.trains → I.calls i ≤ 4
  pub paths : (i r : ℕ) → i < I.trains → r < I.runs i → length (I.path i r) ≤ 16
  pub departs : (i : ℕ) → i < I.trains → I.departure i < I.intervals

-- a sum of small parts
sum-small : (f : ℕ → ℕ) (m n : ℕ) → ((i : ℕ) → i < n → f i ≤ m) → sum_to f n ≤ n * m
unfolding sum_to
sum-small f m zero h = omega arith
sum-small f m (suc n) h =
    let e = suc-mul n m in
    let k = sum-small f m n (λ i l. h i (omega arith)) in
    omega (arith, h n (omega arith))

module _ (I : Instance) (few : Few I) where
  pub width_small : (i : ℕ) → i < I.trains → width I i ≤ 321
  unfolding width
  width_small i l = omega (arith, few.runs i l, few.segments)

  pub part_small : (i t : ℕ) → i < I.trains → t ≤ I.intervals → t * width I i ≤ 21037056
  part_small i t l h =
      mul-le-mul {n₂ = 65536} {m₂ = 321} (omega (arith, few.intervals)) (width_small i l)

  pub first_small : (i : ℕ) → i ≤ I.trains → first_var I i ≤ 168296544
  unfolding first_var
  first_small i l =
      let s = sum-small (λ j. I.intervals * width I j) 21037056 i (λ j k. part_small j I.intervals (omega arith) (omega arith)) in
      omega (arith, few.nodes, few.trains)

  -- the first variable of a train's interval
  pub base-is : (i t : ℕ) → base I i t ≡ first_var I i + t * width I i
  unfolding base
  base-is i t = refl

  pub base-first : (i : ℕ) → first_var I i ≡ base I i 0
  base-first i = let e = base-is i 0 in let z = zero-mul (width I i) in omega arith

  pub base-small : (i t : ℕ) → i < I.trains → t ≤ I.intervals → base I i t ≤ 189333600
  base-small i t l h = let e = base-is i t in omega (arith, first_small i (omega arith), part_small i t l h)

-- one train after the other
pub first-none : (I : Instance) → first_var I 0 ≡ I.nodes
unfolding first_var sum_to
first-none I = omega arith

pub first_next : (I : Instance) (i : ℕ) → first_var I (i + 1) ≡ first_var I i + I.intervals * width I i
unfolding first_var sum_to
first_next I i = ap (λ (n : ℕ). I.nodes + sum_to (λ j. I.intervals * width I j) n) (add-one i) ∙ omega arith

-- the variables of document 01 are those before the train behind the last
pub own-variables : (I : Instance) → first_var I I.trains ≡ own_variables I
unfolding own_variables
own-variables I = refl

-- a train has at most four calls
few-calls : (b : Book) → T (well_formed b) → (i : ℕ) → i < length b.trains → length (calls_of b i) ≤ 4
unfolding between
few-calls b h i l =
    let w = (all-up_to (λ k. between 1 max_calls (length (calls_of b k))) (length b.trains)).0 (parts b h).counts i l in
    (simp (and-iff, leb-iff) at w).1

-- a run has at most 16 segments
short-paths : (b : Book) → T (well_formed b) → (i r : ℕ) → i < length b.trains → r < length (get_or (run_lists b) i [])
    → length (map segment_of (run_at (run_lists b) i r)) ≤ 16
short-paths b h i r l k =
    let m = run-moves b h i l r k in
    omega (arith, length-map (run_at (run_lists b) i r) segment_of, m.1, m.2, train-reach b h i l)

-- the counts of a book that passed
module _ (b : BookStruct) (p : Passed b) where
  pub nodes-is : (instance_of (held b)).nodes ≡ b.node_count
  unfolding instance_of compile
  nodes-is = nodes-counted p.packed

  pub segments-is : (instance_of (held b)).segments ≡ b.segment_count
  unfolding instance_of compile
  segments-is = segments-counted p.packed

  pub trains-is : (instance_of (held b)).trains ≡ b.train_count
  unfolding instance_of compile
  trains-is = trains-counted p.packed

  pub intervals-is : (instance_of (held b)).intervals ≡ b.intervals
  unfolding instance_of compile held
  intervals-is = refl

  -- the variables of an interval, by the struct's counts
  pub width_is : (i n : ℕ) → n ≡ (instance_of (held b)).runs i → n + 1 + b.segment_count ≡ width (instance_of (held b)) i
  unfolding width
  width_is i n e = omega (arith, segments-is)

  pub passed-few : Few (instance_of (held b))
  unfolding instance_of compile held
  passed-few =
      let s = sound (held b) p.formed in
      let c = p.packed.counts in
      record {
        nodes = subst (λ (n : ℕ). n ≤ 96) (sym nodes-is) c.nodes;
        segments = subst (λ (n : ℕ). n ≤ 64) (sym segments-is) c.segments;
        trains = subst (λ (n : ℕ). n ≤ 8) (sym trains-is) c.trains;
        intervals = omega (arith, p.packed.numbers.intervals);
        runs = s.few_runs;
        calls = few-calls (held b) p.formed;
        paths = short-paths (held b) p.formed;
        departs = s.departs;
      }

-- a train of a book that passed, with its number of runs
module _ (b : BookStruct) (p : Passed b) (i : ℕ) (l : i < b.train_count) (n : ℕ) (e : n ≡ (instance_of (held b)).runs i) where
  abbrev I : Instance
  I = instance_of (held b)

  pub is_known : i < I.trains
  is_known = subst (λ (m : ℕ). i < m) (sym (trains-is b p)) l

  pub below-eight : i < 8
  below-eight = omega (arith, p.packed.counts.trains)

  pub runs-small : n ≤ 256
  runs-small = subst (λ (m : ℕ). m ≤ 256) (sym e) ((passed-few b p).runs i is_known)

  -- an interval times the variables of one
  pub span_small : (t : ℕ) → t ≤ b.intervals → t * (n + 1 + b.segment_count) ≤ 21037056
  span_small t h =
      subst (λ (m : ℕ). t * m ≤ 21037056) (sym (width_is b p i n e))
      (part_small I (passed-few b p) i t is_known (subst (λ (m : ℕ). t ≤ m) (sym (intervals-is b p)) h))

  pub begins-small : first_var I i ≤ 168296544
  begins-small = first_small I (passed-few b p) i (omega (arith, is_known))

  -- the first variable of an interval
  pub base-at : (t : ℕ) → first_var I i + t * (n + 1 + b.segment_count) ≡ base I i t
  base-at t = ap (λ (m : ℕ). first_var I i + t * m) (width_is b p i n e) ∙ sym (base-is I (passed-few b p) i t)

-- the same of a book whose runs were counted
module _ (b : BookStruct) (counts : List ℕ) (k : Counted b counts) (i : ℕ) (l : i < b.train_count) where
  pub known : i < (instance_of (held b)).trains
  known = is_known b k.passed i l _ (k.runs i l)

  pub few-runs : get_or counts i 0 ≤ 256
  few-runs = runs-small b k.passed i l _ (k.runs i l)

  pub few-trains : i < 8
  few-trains = below-eight b k.passed i l _ (k.runs i l)

  pub few-segments : b.segment_count ≤ 64
  few-segments = k.passed.packed.counts.segments

  pub same_width : get_or counts i 0 + 1 + b.segment_count ≡ width (instance_of (held b)) i
  same_width = width_is b k.passed i _ (k.runs i l)

  pub first_below : first_var (instance_of (held b)) i ≤ 168296544
  first_below = begins-small b k.passed i l _ (k.runs i l)

  -- the first variable of the train behind it
  pub first_then : first_var (instance_of (held b)) i + b.intervals * (get_or counts i 0 + 1 + b.segment_count)
      ≡ first_var (instance_of (held b)) (i + 1)
  first_then =
      ap (λ (m : ℕ). first_var (instance_of (held b)) i + b.intervals * m) same_width
      ∙ ap (λ (m : ℕ). first_var (instance_of (held b)) i + m * width (instance_of (held b)) i) (sym (intervals-is b k.passed))
      ∙ sym (first_next (instance_of (held b)) i)

  -- the first variable of an interval
  pub base-here : (t : ℕ) → first_var (instance_of (held b)) i + t * (get_or counts i 0 + 1 + b.segment_count) ≡ base (instance_of (held b)) i t
  base-here = base-at b k.passed i l _ (k.runs i l)
