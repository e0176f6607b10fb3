-- What a cap leaves of the formula as it is, and the clauses of its counter, as the loops pass them. Assumes nothing.
use mathlib.Core.Path.{◌≡◌, refl, sym, ap, ◌∙◌, subst}
use mathlib.Core.Bool.{◌&&◌}
use mathlib.Core.Option.{Option}
use Rattle.std.specs.Prelude.{Option as Maybe}
use Prim.Native.Nat.{ℕ, ◌+◌, ◌*◌, ◌-◌, ◌≤◌, ◌<◌}
use native.Mathlib.Nat.{zero-add}
use native.Mathlib.Omega.{arith}
use mathlib.Core.List.{List, ◌∷◌, ◌++◌}
use lib.ListN.{length, get_or}
use lib.Seq.{sets, length-sets}
use lib.Dec.{ltb}
use Rattle.model.specs.declared.Book.{Book as BookStruct}
use Rattle.laws.proofs.Picks.{pick-most}
use Rattle.laws.proofs.Parts.{each_same, length-up_to}
use Rattle.laws.proofs.Stores.{get_or-sets-in}
use Rattle.spec.specs.Lists.{up_to, each, only, one}
use Rattle.spec.specs.Instance.{Instance, instance_of, under, in_window, served_at_departure, is_free, free_nodes_of}
use Rattle.spec.specs.Cap as cap
use Rattle.spec.specs.Cap.{counter_of, count_var, count_clause, carry_clause, cap_clauses}
use Rattle.spec.specs.Formula.{Clause, is, not', width, first_var, base, border_var, claim_var, own_variables}
use Rattle.spec.specs.Formula.{clauses_d, followers_e, clause_e, clauses_e, servers_f, claims_g, clauses_g, clauses_h}
use Rattle.spec.specs.Formula.{family_a, family_b, family_c, family_d, family_e, family_f, family_g, family_h, family_i, formula}
use Rattle.spec.specs.Held.{held, held_cap}
use Rattle.demands.proofs.Cap.{free-inside, counter-whole}
use Rattle.tables.specs.Tables.{Passed}
use Rattle.tables.proofs.Small.{Few, passed-few}
use Rattle.layout.specs.declared.counter.Counter.{Counter}
use Rattle.layout.specs.Counters.{held_counter, CounterOf}
use Rattle.layout.proofs.Capped.{free-under, counter-under, own-under}
use Rattle.formula.specs.Counting.{row_clauses, counter_clauses, count_at, carry_at, Listed}

-- ---- what stays

module _ (limit : Option ℕ) (I : Instance) where
  stays-a : family_a (under limit I) ≡ family_a I
  unfolding family_a border_var
  stays-a = refl

  stays-b : family_b (under limit I) ≡ family_b I
  unfolding family_b base first_var width
  stays-b = refl

  stays-c : family_c (under limit I) ≡ family_c I
  unfolding family_c base first_var width
  stays-c = refl

  stays-d : family_d (under limit I) ≡ family_d I
  unfolding family_d clauses_d base first_var width
  stays-d = refl

  stays-e : family_e (under limit I) ≡ family_e I
  unfolding family_e clauses_e clause_e followers_e base first_var width
  stays-e = refl

  stays-f : family_f (under limit I) ≡ family_f I
  unfolding family_f served_at_departure in_window servers_f base first_var width
  stays-f = refl

  stays-g : family_g (under limit I) ≡ family_g I
  unfolding family_g clauses_g claims_g base first_var width
  stays-g = refl

  stays-h : family_h (under limit I) ≡ family_h I
  unfolding family_h clauses_h border_var base first_var width
  stays-h = refl

  stays-i : family_i (under limit I) ≡ family_i I
  unfolding family_i claim_var base first_var width
  stays-i = refl

  -- the families of the book, and the counter's clauses behind them
  pub formula-under : formula (under limit I)
      ≡ family_a I ++ (family_b I ++ (family_c I ++ (family_d I ++ (family_e I ++ (family_f I ++ (family_g I ++ (family_h I
      ++ (family_i I ++ cap_clauses (under limit I) (own_variables I)))))))))
  unfolding formula
  formula-under t =
      stays-a t ++ (stays-b t ++ (stays-c t ++ (stays-d t ++ (stays-e t ++ (stays-f t ++ (stays-g t ++ (stays-h t
      ++ (stays-i t ++ cap_clauses (under limit I) (own-under limit I t)))))))))

  -- and there are few of each
  pub few-under : Few I → Few (under limit I)
  few-under few = record {
    nodes = few.nodes;
    segments = few.segments;
    trains = few.trains;
    intervals = few.intervals;
    runs = few.runs;
    calls = few.calls;
    paths = few.paths;
    departs = few.departs;
  }

-- ---- the counter

-- it goes over few nodes
pub counter-few : (I : Instance) → I.nodes ≤ 96 → (counter_of I).most + (counter_of I).spare ≤ 96
unfolding counter_of free_nodes_of
counter-few I few =
    omega (arith, counter-whole I.cap (length (free_nodes_of I)), pick-most (is_free I) (up_to I.nodes), length-up_to I.nodes, few)

module _ (c : Counter) (first : ℕ) where
  -- over nodes that are the same as far as it goes
  nodes-same : (ns ms : List ℕ) → ((n : ℕ) → n < c.most + c.spare → get_or ns n 0 ≡ get_or ms n 0)
      → counter_clauses c first ns ≡ counter_clauses c first ms
  unfolding counter_clauses row_clauses
  nodes-same ns ms h =
      each_same _ _ (c.most + 1) (λ j l. each_same _ _ c.spare (λ k b.
      ap (λ (n : ℕ). count_at c first n j k ∷ carry_at c first j k) (h (j + k) (omega (arith, l, b)))))

  -- over the instance's nodes
  clauses-are : (I : Instance) → held_counter c ≡ counter_of I → counter_clauses c first (free_nodes_of I) ≡ cap_clauses I first
  unfolding counter_clauses row_clauses cap_clauses count_clause carry_clause count_var
  clauses-are I e = ap of e
    where
      of : cap.Counter → List Clause
      of m =
          each (up_to (m.most + 1)) λ j. each (up_to m.spare) λ k.
          (not' (get_or (free_nodes_of I) (j + k) 0)
          ∷ (only (ltb 0 j) (one (not' (first + ((j - 1) * m.spare + k)))) ++ only (ltb j m.most) (one (is (first + (j * m.spare + k))))))
          ∷ only (ltb j m.most && ltb 0 k) (one (not' (first + (j * m.spare + (k - 1))) ∷ one (is (first + (j * m.spare + k)))))

-- of a cap in a book that passed; the slice was filled with the nodes of kind 1 from its start on
module _ (b : BookStruct) (p : Passed b) (k : Maybe ℕ) (c : Counter) (h : CounterOf b k c) (old nodes : List ℕ) (long : length old ≡ 96)
    (filled : nodes ≡ sets old 0 (free_nodes_of (instance_of (held b)))) where
  abbrev I : Instance
  I = instance_of (held b)

  abbrev free : List ℕ
  free = free_nodes_of (instance_of (held b))

  whole : c.most + c.spare ≤ length free
  whole =
      subst (λ (m : cap.Counter). m.most + m.spare ≤ length free) (sym (h.counter ∙ counter-under (held_cap k) I))
      (counter-whole (held_cap k) (length free))

  fits : length free ≤ 96
  unfolding free_nodes_of
  fits = omega (arith, pick-most (is_free I) (up_to I.nodes), length-up_to I.nodes, (passed-few b p).nodes)

  at : (n : ℕ) → n < c.most + c.spare → get_or nodes n 0 ≡ get_or free n 0
  at n l =
      ap (λ (ns : List ℕ). get_or ns n 0) filled
      ∙ ap (λ (i : ℕ). get_or (sets old 0 free) i 0) (sym (zero-add n))
      ∙ get_or-sets-in old 0 free n 0 (omega (arith, l, whole)) (omega (arith, fits, long))

  pub listed : Listed c nodes
  listed = record {
    room = omega (arith, ap length filled, length-sets old 0 free, long, whole, fits);
    known = λ n l. subst (λ (i : ℕ). i < 96) (sym (at n l)) (omega (arith, free-inside I n (omega (arith, l, whole)), (passed-few b p).nodes));
  }

  pub clauses-capped : {first : ℕ} → first ≡ own_variables (instance_of (held b))
      → counter_clauses c first nodes ≡ cap_clauses (under (held_cap k) (instance_of (held b))) (own_variables (instance_of (held b)))
  clauses-capped {first} e =
      nodes-same c first _ _ at
      ∙ ap (counter_clauses c first) (sym (free-under (held_cap k) I))
      ∙ clauses-are c first (under (held_cap k) I) h.counter
      ∙ ap (cap_clauses (under (held_cap k) I)) e
