-- What a cap leaves alone (P7): the plans, their bytes, the six rules, the sections, the decoding, and the formula ahead of the cap's own
-- clauses. Each equation is said here once, of an instance under any cap and the instance itself. Assumes nothing.
use mathlib.Core.Path.{◌≡◌, refl, sym, ap, ◌∙◌, subst}
use mathlib.Core.Logic.{◌↔◌}
use mathlib.Core.Bool.{Bool, not, ◌&&◌, ◌||◌}
use mathlib.Core.Option.{Option, none}
use Prim.Native.Nat.{ℕ, zero, suc, ◌+◌, ◌≤◌}
use mathlib.Core.List.{List, ◌∷◌}
use lib.ListN.{length, get_or}
use lib.Dec.{T, eqb}
use Rattle.laws.proofs.Numbers.{bytes}
use Rattle.spec.specs.Lists.{Bytes, any, all, up_to, range, one, Fault, ◌when◌, faultless, first_fault, accepted}
use Rattle.spec.specs.Book.{Book}
use Rattle.spec.specs.Read.{read_book}
use Rattle.spec.specs.Instance.{Instance, instance_of, compile, under, in_window, served_at_departure, is_free, free_nodes_of}
use Rattle.spec.specs.Sections.{Borders, neighbours, together_below, together, share_section, Chain, here, link}
use Rattle.spec.specs.Plan.{Plan, Move, run, absent, gone, is_move, is_bit, IsPlan, of_run, plan_bytes, plan_length, move_at, plan_of, plan_fits, absent_before, departs, leaves_rightly, runs_on, served_by, keeps_calls, trains_meet, apart_in, rule1, rule2, rule3, rule4, rule5, rule6, rule_faults, broken_rule, keeps_rules}
use Rattle.spec.specs.Cap.{allows, set_count, within_cap}
use Rattle.spec.specs.Formula.{width, first_var, base, border_var, run_var, gone_var, formula, variables}
use Rattle.spec.specs.Assignment.{satisfies, assigned, decoded, decode, encode}
use Rattle.spec.specs.Entry.{read_instance, read_under, judge_assignment, unpack_plan, check_plan}
use Rattle.demands.specs.Claims.{Codes}
use Rattle.demands.specs.Reasons.{PlanFault, plan_unfit, rule_broken, FirstHolds}
use Rattle.demands.proofs.Plans as plans
use Rattle.demands.proofs.Entries as entries

-- A book itself has no cap.
pub none-under : (b : Book) → under none (instance_of b) ≡ instance_of b
unfolding instance_of compile
none-under b = refl

pub read_none : (book : Bytes) → read_under none book ≡ read_instance book
unfolding read_instance
read_none book = entries.read_under_lem none book ∙ (λ i. entries.read_at (λ b. none-under b i) book)

module _ (cap : Option ℕ) (I : Instance) where
  -- ---- plans and their bytes

  pub move_same : (i : ℕ) (m : Move) → is_move (under cap I) i m ≡ is_move I i m
  unfolding is_move
  move_same i (run r) = refl
  move_same i absent = refl
  move_same i gone = refl

  pub is-plan : (p : Plan) → IsPlan I p → IsPlan (under cap I) p
  is-plan p moves i l t h = subst T (sym (move_same i (p.move i t))) (moves i l t h)

  pub plan-same : (s : Bytes) → plan_of (under cap I) s ≡ plan_of I s
  unfolding plan_of move_at
  plan-same s = refl

  pub length-same : plan_length (under cap I) ≡ plan_length I
  unfolding plan_length
  length-same = refl

  pub fits-same : (s : Bytes) → plan_fits (under cap I) s ≡ plan_fits I s
  unfolding plan_fits plan_length plan_of move_at
  fits-same s i =
      eqb (length s) (plan_length I)
      && all (λ n. is_bit (get_or s n 0)) (up_to I.nodes)
      && all (λ j. all (λ t. move_same j ((plan_of I s).move j t) i) (up_to I.intervals)) (up_to I.trains)

  -- ---- sections

  pub together-same : (border : Borders) (s t : ℕ) → together (under cap I) border s t ≡ together I border s t
  unfolding together together_below neighbours
  together-same border s t = below I.segments s t
    where
      below : (k s t : ℕ) → together_below (under cap I) border k s t ≡ together_below I border k s t
      below zero s t = refl
      below (suc k) s t = λ i. below k s t i || below k s k i && below k k t i

  pub chain_same : (border : Borders) {s t : ℕ} → Chain (under cap I) border s t → Chain I border s t
  unfolding neighbours
  chain_same border here = here
  chain_same border (link l h n c) = link l h n (chain_same border c)

  pub chain-under : (border : Borders) {s t : ℕ} → Chain I border s t → Chain (under cap I) border s t
  unfolding neighbours
  chain-under border here = here
  chain-under border (link l h n c) = link l h n (chain-under border c)

  -- ---- the six rules

  pub faults-same : (p : Plan) → rule_faults (under cap I) p ≡ rule_faults I p
  unfolding rule_faults rule1 rule2 rule3 rule4 rule5 rule6 departs absent_before leaves_rightly runs_on keeps_calls served_by in_window served_at_departure apart_in trains_meet share_section
  faults-same p i =
      1 when not (rule1 I p) ∷ 2 when not (rule2 I p) ∷ 3 when not (rule3 I p) ∷ 4 when not (rule4 I p) ∷ 5 when not (rule5 I p)
      ∷ one (6 when not (all (λ t. all (λ a. all (λ b. not
      (any (λ s. any (λ u. together-same p.border s u i) (of_run (p.move b t) (λ r. I.path b r))) (of_run (p.move a t) (λ r. I.path a r))))
      (range (a + 1) I.trains)) (up_to I.trains)) (up_to I.intervals)))

  pub broken-same : (p : Plan) → broken_rule (under cap I) p ≡ broken_rule I p
  unfolding broken_rule
  broken-same p = ap first_fault (faults-same p)

  pub keeps_same : (p : Plan) → keeps_rules (under cap I) p ≡ keeps_rules I p
  unfolding keeps_rules
  keeps_same p = ap faultless (faults-same p)

  -- what is wrong with a plan
  pub fault-under : {s : Bytes} {k d : ℕ} → PlanFault I s k d → PlanFault (under cap I) s k d
  unfolding plan_of move_at
  fault-under {s} (plan_unfit h) = plan_unfit (subst (λ b. T (not b)) (sym (fits-same s)) h)
  fault-under {s} (rule_broken {d} fits f) =
      rule_broken (subst T (sym (fits-same s)) fits) (subst (λ (fs : List Fault). FirstHolds d fs) (sym (faults-same (plan_of I s))) f)

  -- ---- decoding

  pub decoded-same : (α : ℕ → Bool) → decoded (under cap I) α ≡ decoded I α
  unfolding decoded border_var run_var gone_var base first_var width
  decoded-same α = refl

  pub decode-same : (s : Bytes) → decode (under cap I) s ≡ decode I s
  unfolding decode plan_bytes decoded border_var run_var gone_var base first_var width
  decode-same s = refl

  pub codes_same : {α : ℕ → Bool} {p : Plan} → Codes (under cap I) α p → Codes I α p
  unfolding border_var run_var gone_var base first_var width
  codes_same {p = p} c = record {
    borders = c.borders;
    moves = λ i l t h. subst T (move_same i (p.move i t)) (c.moves i l t h);
    runs_same = c.runs_same;
    gone_same = c.gone_same;
  }

  -- ---- the nodes of kind 1, and what the cap asks

  pub free-same : free_nodes_of (under cap I) ≡ free_nodes_of I
  unfolding free_nodes_of is_free
  free-same = refl

  pub within-is : (p : Plan) → within_cap (under cap I) p ≡ allows cap (set_count I p.border)
  unfolding within_cap set_count free_nodes_of is_free
  within-is p = refl

-- ---- of a book that was read: the formula under a cap, and the book's own plans

module _ (cap : Option ℕ) (book : Bytes) (b : Book) (read : read_book book ≡ accepted b) where
  abbrev J : Instance
  J = instance_of b

  -- what an assignment that satisfies the formula decodes to
  module _ (s : Bytes) (sat : T (satisfies (assigned s) (formula (under cap (instance_of b))))) where
    pub satisfied-coded : Codes (instance_of b) (assigned s) (plan_of (instance_of b) (decode (instance_of b) s))
    unfolding plan_of move_at decode plan_bytes decoded border_var run_var gone_var base first_var width
    satisfied-coded = codes_same cap J (plans.decoded-coded cap book b read s sat)

    pub satisfied-fits : T (plan_fits (instance_of b) (decode (instance_of b) s))
    unfolding decode plan_bytes decoded border_var run_var gone_var base first_var width
    satisfied-fits = subst T (fits-same cap J (decode J s)) (plans.decoded-fits cap book b read s sat)

    pub satisfied-keeps : T (keeps_rules (instance_of b) (plan_of (instance_of b) (decode (instance_of b) s)))
    unfolding plan_of move_at decode plan_bytes decoded border_var run_var gone_var base first_var width
    satisfied-keeps = subst T (keeps_same cap J (plan_of J (decode J s))) (plans.decoded-keeps cap book b read s sat)

    pub satisfied-within : T (allows cap (set_count (instance_of b) (plan_of (instance_of b) (decode (instance_of b) s)).border))
    unfolding plan_of move_at decode plan_bytes decoded border_var run_var gone_var base first_var width
    satisfied-within = subst T (within-is cap J (plan_of J (decode J s))) (plans.decoded-within cap book b read s sat)

  -- a plan that keeps the rules and is within the cap satisfies the formula through its assignment
  pub keeping-satisfies : (p : Plan) → IsPlan (instance_of b) p → T (keeps_rules (instance_of b) p)
      → T (allows cap (set_count (instance_of b) p.border))
      → T (satisfies (assigned (encode (under cap (instance_of b)) p)) (formula (under cap (instance_of b))))
  keeping-satisfies p moves keeps few =
      plans.plan-satisfies cap book b read p (is-plan cap J p moves) (subst T (sym (keeps_same cap J p)) keeps)
      (subst T (sym (within-is cap J p)) few)

  -- and that assignment decodes to the plan's bytes
  pub keeping-back : (s : Bytes) → T (bytes s) → T (plan_fits (instance_of b) s) → T (keeps_rules (instance_of b) (plan_of (instance_of b) s))
      → T (allows cap (set_count (instance_of b) (plan_of (instance_of b) s).border))
      → decode (instance_of b) (encode (under cap (instance_of b)) (plan_of (instance_of b) s)) ≡ s
  unfolding plan_of move_at
  keeping-back s is_bytes fits keeps few =
      let p = plan_of J s in
      sym (decode-same cap J (encode (under cap J) p))
      ∙ plans.decode-encoded cap book b read s is_bytes (subst T (sym (fits-same cap J s)) fits) (subst T (sym (keeps_same cap J p)) keeps)
      (subst T (sym (within-is cap J p)) few)

  -- unpacking: the room, the judgement, the plan
  pub unpack-iff : (s : Bytes) (n : ℕ) (plan : Bytes) → (unpack_plan cap book s n ≡ accepted plan)
      ↔ ((plan_length (instance_of b) ≤ n) × (judge_assignment (under cap (instance_of b)) s ≡ accepted tt) × (decode (instance_of b) s ≡ plan))
  unfolding plan_length decode plan_bytes decoded border_var run_var gone_var base first_var width
  unpack-iff s n plan = entries.unpack-plan cap book b read s n plan

  -- checking a plan: the room, the plan's bytes, the rules, the cap, the assignment
  pub check-iff : (s : Bytes) (n : ℕ) (assignment : Bytes) → (check_plan cap book s n ≡ accepted assignment)
      ↔ ((variables (under cap (instance_of b)) ≤ n) × T (plan_fits (instance_of b) s) × T (keeps_rules (instance_of b) (plan_of (instance_of b) s))
      × T (allows cap (set_count (instance_of b) (plan_of (instance_of b) s).border))
      × (encode (under cap (instance_of b)) (plan_of (instance_of b) s) ≡ assignment))
  unfolding plan_of move_at
  check-iff s n assignment =
      let p = plan_of J s in
      let w = entries.check-plan cap book b read s n assignment in
      let judged = entries.plan-iff (under cap J) s in (
        (λ e. let k = w.0 e in
            let j = judged.0 k.1 in
            (k.0, subst T (fits-same cap J s) j.0, subst T (keeps_same cap J p) j.1, subst T (within-is cap J p) k.2, k.3)),
        (λ h. w.1 (
          h.0,
          judged.1 (subst T (sym (fits-same cap J s)) h.1, subst T (sym (keeps_same cap J p)) h.2),
          subst T (sym (within-is cap J p)) h.3,
          h.4,
        )),
      )
