-- "A terminating train stays on the track" (document 02, P4): who may be gone, in rule 3 and in family E, as the text has it; that an exit
-- has no border; and that a book without exits keeps every train to the last interval. Assumes nothing.
use mathlib.Core.Path.{◌≡◌, refl, sym, ap, ◌∙◌, subst}
use mathlib.Core.Logic.Iff
use mathlib.Core.Logic.{◌↔◌, ◌⊎◌, inl, inr}
use mathlib.Core.Bool.{Bool, not, ◌&&◌}
use mathlib.Core.Option.{Option, none, some}
use Prim.Native.Nat.{ℕ, zero, suc, ◌+◌, ◌-◌, ◌≤◌, ◌<◌}
use native.Mathlib.Omega.{arith}
use mathlib.Core.List.{List, ◌++◌, Memᴰ}
use lib.ListN.{length, get_or, drop, get_or-eq_default}
use lib.Dec.{T, eqb, leb}
use Rattle.spec.specs.Lists.{Bytes, all, up_to, one, only, pick, has, last_or, first_fault, accepted, refused}
use Rattle.spec.specs.Book.{Book, Call, node_kind_at, segment_at, calls_of, no_call, goal_of, is_exit, greatest_node_kind, share_node, denies_border, segment_of, end_node}
use Rattle.spec.specs.Runs.{end_place, contains}
use Rattle.spec.specs.Read.{between, read_book, well_formed, may_divide}
use Rattle.spec.specs.Instance.{Instance, instance_of, under, compile, run_lists, run_at, train_length, place_serves, ends_at_exit, may_leave}
use Rattle.spec.specs.Plan.{Plan, Move, run, absent, gone, is_gone, runs, is_move, IsPlan, plan_fits, plan_length, plan_of, rule_faults, keeps_rules, rule1, rule2, rule3, rule4, rule5, rule6}
use Rattle.spec.specs.Cap.{allows, set_count}
use Rattle.spec.specs.Formula.{not', border_var, run_var, gone_var, family_a, family_e, formula, variables}
use Rattle.spec.specs.Assignment.{satisfies}
use Rattle.spec.specs.Refutation.{Lent}
use Rattle.spec.specs.Entry.{check_assignment, unpack_plan, check_plan, check_refutation}
use Rattle.laws.proofs.Tests.{meaning, not_iff, true_of, and-iff, any-iff, any-up_to, all-up_to, all-at, eqb-iff, ltb_iff, leb-iff, le-or-lt, up_to-mem}
use Rattle.laws.proofs.Rows.{any-map}
use Rattle.laws.proofs.Last.{last-append, last-split, last-drop, last-picked, picked-split}
pub use Rattle.demands.specs.Claims.{IsGoal, Leaves, LeavesRightly, WithoutExits, Stays}
use Rattle.demands.proofs.Wellformed.{parts, denied-iff}
use Rattle.demands.proofs.Faults.{first_some}
use Rattle.demands.proofs.RunLists.{mem-each, train-reach, run-moves}
use Rattle.demands.proofs.Reading.{read-well-formed}
use Rattle.demands.proofs.Meaning.{means_a, means_e, families}
use Rattle.demands.proofs.Moves.{means1, means2, means3, kept, from-kept, which, a_run, is_away, has_left, run_of, gone_of, is-run, is-gone, is-absent, fitting}
use Rattle.demands.proofs.Rules.{run≢gone}
use Rattle.demands.proofs.Entries.{no-broken, read_of}
use Rattle.demands.proofs.Refusals.{plan-refused}
use Rattle.demands.specs.Reasons.{of_input, plan_fault, rule_broken}
use Rattle.demands.proofs.Uncapped.{fault-under, check-iff}
use Rattle.demands.proofs.Demands.{accepted-assignment-is-plan, unpacked-plan-keeps, accepted-refutation-no-plan}

-- ---- a run that gone may follow

-- a call is the train's goal exactly where it is what is computed
goal-is : (b : Book) (i : ℕ) (c : Call) → IsGoal b i c → goal_of b i ≡ c
unfolding goal_of calls_of
goal-is b i c g =
    ap (λ (calls : List Call). last_or no_call (pick (λ k. eqb k.train i) calls)) g.file
    ∙ last-picked (λ k. eqb k.train i) no_call g.before c g.after ((eqb-iff c.train i).1 g.own)
    (λ k m h. g.last k m ((eqb-iff k.train i).0 h))

goal-there : (b : Book) (i : ℕ) → 1 ≤ length (calls_of b i) → (c : Call) × IsGoal b i c
unfolding calls_of
goal-there b i any-call =
    let s = picked-split (λ k. eqb k.train i) b.calls any-call in (
      s.1,
      record {
        before = s.0;
        after = s.2;
        file = s.3;
        own = (eqb-iff s.1.train i).0 s.4;
        last = λ k m e. s.5 k m ((eqb-iff k.train i).1 e);
      },
    )

-- a place serves a call exactly where one of its directed segments is on the call's segment
serves-iff : (b : Book) (c : Call) (place : List ℕ)
    → T (place_serves b c place) ↔ ((d : ℕ) × Memᴰ d place × (segment_of d ≡ c.segment))
unfolding place_serves contains has
serves-iff b c place =
    let s = c.segment in
    let in_place = any-iff (λ d. eqb s (segment_of d)) place in (
      (λ h. let w = in_place.0 (rw (any-map (eqb s) segment_of place) at h) in (w.0, w.1, sym ((eqb-iff s (segment_of w.0)).0 w.2))),
      (λ w. rw (any-map (eqb s) segment_of place) (in_place.1 (w.0, w.1, (eqb-iff s (segment_of w.0)).1 (sym w.2)))),
    )

goal-iff : (b : Book) (i : ℕ) (place : List ℕ) → 1 ≤ length (calls_of b i) → T (place_serves b (goal_of b i) place)
    ↔ ((c : Call) × IsGoal b i c × ((d : ℕ) × Memᴰ d place × (segment_of d ≡ c.segment)))
goal-iff b i place any-call = (
  (λ h. let g = goal-there b i any-call in
      (g.0, g.1, (serves-iff b g.0 place).0 (subst (λ (c : Call). T (place_serves b c place)) (goal-is b i g.0 g.1) h))),
  (λ w. subst (λ (c : Call). T (place_serves b c place)) (sym (goal-is b i w.0 w.1)) ((serves-iff b w.0 place).1 w.2)),
)

-- the place where a run ends is at an exit exactly where the run's last directed segment ends there: a run is not shorter than its train
exit-iff : (b : Book) (l : ℕ) (path : List ℕ) → 1 ≤ l → l ≤ length path → T (ends_at_exit b (end_place l path))
    ↔ ((behind : List ℕ) × (front : ℕ) × (path ≡ behind ++ one front) × (node_kind_at b (end_node b front) ≡ 3))
unfolding ends_at_exit end_place is_exit
exit-iff b l path long fits =
    let same : last_or 0 (drop (length path - l) path) ≡ last_or 0 path = last-drop (length path - l) 0 path (omega arith) in
    let ends : T (eqb (node_kind_at b (end_node b (last_or 0 (drop (length path - l) path)))) 3) ↔ (node_kind_at b (end_node b (last_or 0 path)) ≡ 3)
    = rw same (eqb-iff (node_kind_at b (end_node b (last_or 0 path))) 3) in (
      (λ h. let s = last-split 0 path (omega arith) in (s.0, last_or 0 path, s.1, ends.0 h)),
      (λ s. ends.1 (ap (λ (ds : List ℕ). node_kind_at b (end_node b (last_or 0 ds))) s.2
          ∙ ap (λ (d : ℕ). node_kind_at b (end_node b d)) (last-append s.0 0 s.1) ∙ s.3)),
    )

-- ---- 9

-- of the kinds that there are, 1 and 2 may have a border
bordered-iff : (kind : ℕ) → kind ≤ 3 → (T (denies_border kind) → ⊥) ↔ ((kind ≡ 1) ⊎ (kind ≡ 2))
bordered-iff kind few = (
  (λ h. elim (le-or-lt kind 0) [
    | inl k ↦ absurd (h ((denied-iff kind).1 (inl (omega arith))))
    | inr k ↦ elim (le-or-lt kind 1) [
      | inl j ↦ inl (omega arith)
      | inr j ↦ elim (le-or-lt kind 2) [ inl m ↦ inr (omega arith) | inr m ↦ absurd (h ((denied-iff kind).1 (inr (omega arith)))) ]
    ]
  ]),
  (λ h d. elim h [
    | inl e ↦ elim ((denied-iff kind).0 d) [ inl z ↦ omega arith | inr z ↦ omega arith ]
    | inr e ↦ elim ((denied-iff kind).0 d) [ inl z ↦ omega arith | inr z ↦ omega arith ]
  ]),
)

-- "unbreakable TTD with two segments at a node of kind 1 or 2": an exit does not count.
pub divides-iff : (b : Book) → T (all (λ k. leb k greatest_node_kind) b.nodes) → (ttd : ℕ) → T (may_divide b ttd)
    ↔ ((n : ℕ) × (n < length b.nodes) × (((node_kind_at b n ≡ 1) ⊎ (node_kind_at b n ≡ 2))
    × ((s : ℕ) × (s < length b.segments) × (((segment_at b s).ttd ≡ ttd) × ((t : ℕ) × (t < length b.segments) × T (share_node b n s t))))))
unfolding may_divide greatest_node_kind node_kind_at
divides-iff b kinds ttd =
    let kind : (n : ℕ) → n < length b.nodes → node_kind_at b n ≤ 3
    = λ n l. (leb-iff (node_kind_at b n) 3).0 (all-at (λ k. leb k 3) b.nodes n 0 kinds l) in (
      (λ h. let w = told.0 h in (w.0, w.1, ((bordered-iff (node_kind_at b w.0) (kind w.0 w.1)).0 w.2.0, w.2.1))),
      (λ w. told.1 (w.0, w.1, ((bordered-iff (node_kind_at b w.0) (kind w.0 w.1)).1 w.2.0, w.2.1))),
    )
  where
    told : T (may_divide b ttd) ↔ ((n : ℕ) × (n < length b.nodes) × ((T (denies_border (node_kind_at b n)) → ⊥)
        × ((s : ℕ) × (s < length b.segments) × (((segment_at b s).ttd ≡ ttd) × ((t : ℕ) × (t < length b.segments) × T (share_node b n s t))))))
    told = simp meaning Iff.rfl

-- ---- of a book that was read

module _ (book : Bytes) (b : Book) (read : read_book book ≡ accepted b) where
  formed : T (well_formed b)
  formed = read-well-formed book b read

  -- every train has a call
  called : (i : ℕ) → i < (instance_of b).trains → 1 ≤ length (calls_of b i)
  unfolding instance_of compile between
  called i l = (simp (and-iff, leb-iff) at ((all-up_to _ _).0 (parts b formed).counts i l)).0

  module _ (i : ℕ) (l : i < (instance_of b).trains) where
    run_long : (r : ℕ) → r < (instance_of b).runs i → train_length b i ≤ length (run_at (run_lists b) i r)
    unfolding instance_of compile
    run_long r k = omega (arith, (run-moves b formed i l r k).2)

    -- "Gone may follow a run only if its end contains the goal and its front segment ends at an exit": the instance's answer, by which rule
    -- 3 and family E go, says so and nothing else.
    pub leaves-iff : (r : ℕ) → r < (instance_of b).runs i → T ((instance_of b).leaves i r) ↔ Leaves b i (run_at (run_lists b) i r)
    unfolding instance_of compile may_leave
    leaves-iff r k =
        let path = run_at (run_lists b) i r in
        let place = end_place (train_length b i) path in
        let goal = goal-iff b i place (called i l) in
        let exit = exit-iff b (train_length b i) path (train-reach b formed i l).0 (run_long r k) in
        let both = and-iff (place_serves b (goal_of b i) place) (ends_at_exit b place) in (
          (λ h. let p = both.0 h in record { goal = goal.0 p.0; exit = exit.0 p.1 }),
          (λ h. both.1 (goal.1 h.goal, exit.1 h.exit)),
        )

  -- ---- rule 3 and family E

  abbrev I : Instance
  I = instance_of b

  own : (p : Plan) → IsPlan I p → (i : ℕ) → i < I.trains → (t : ℕ) → t < I.intervals → (r : ℕ) → p.move i t ≡ run r → r < I.runs i
  unfolding is_move
  own p moves i l t h r e = (ltb_iff r (I.runs i)).0 (subst (λ (m : Move). T (is_move I i m)) e (moves i l t h))

  -- Rule 3 is the text's, of each train.
  pub rule-three : (p : Plan) → IsPlan (instance_of b) p
      → T (rule3 (instance_of b) p) ↔ ((i : ℕ) → i < (instance_of b).trains → LeavesRightly b i (p.move i))
  unfolding instance_of compile
  rule-three p moves = (λ h i l. to i l ((means3 I p).0 h i l), λ h. (means3 I p).1 (λ i l. back i l (h i l)))
    where
      -- what the definition says of a train's moves
      Told : ℕ → Type 0
      Told i =
          ((t : ℕ) → t < I.departure i + 1 → T (is_gone (p.move i t)) → ⊥)
          × ((t : ℕ) → t < I.intervals - 1
          → (T (is_gone (p.move i (t + 1))) → T (is_gone (p.move i t)) ⊎ T (runs (p.move i t) (I.leaves i)))
          × (T (is_gone (p.move i t)) → T (is_gone (p.move i (t + 1)))))

      to : (i : ℕ) → i < I.trains → Told i → LeavesRightly b i (p.move i)
      to i l h = record {
        after_departure = λ t d e. h.0 t (omega arith) (is-gone e);
        after_run = λ t k e. elim ((h.1 t (omega arith)).0 (is-gone e)) [
          | inl g ↦ inl (gone_of g)
          | inr g ↦
              let w = run_of (p.move i t) (I.leaves i) g in
              inr (w.0, w.1, (leaves-iff i l w.0 (own p moves i l t (omega arith) w.0 w.1)).0 w.2)
        ];
        after_gone = λ t k e. gone_of ((h.1 t (omega arith)).1 (is-gone e));
      }

      back : (i : ℕ) → i < I.trains → LeavesRightly b i (p.move i) → Told i
      back i l h = (
        (λ t d g. h.after_departure t (omega arith) (gone_of g)),
        (λ t k. (
          (λ g. elim (h.after_run t (omega arith) (gone_of g)) [
            | inl e ↦ inl (is-gone e)
            | inr w ↦
                let leaves = (leaves-iff i l w.0 (own p moves i l t (omega arith) w.0 w.1)).1 w.2 in
                inr (is-run (I.leaves i) w.1 leaves)
          ]),
          (λ g. is-gone (h.after_gone t (omega arith) (gone_of g))),
        )),
      )

  -- Family E asks the same: after its departure a run is followed by one that starts at its end or, where the text lets it, by gone; gone by
  -- gone.
  pub family-e : (α : ℕ → Bool) → T (satisfies α (family_e (instance_of b)))
      ↔ ((i : ℕ) → i < (instance_of b).trains → (t : ℕ) → (instance_of b).departure i ≤ t → t < (instance_of b).intervals - 1
      → ((r : ℕ) → r < (instance_of b).runs i → T (α (run_var (instance_of b) i t r))
      → ((q : ℕ) × (q < (instance_of b).runs i) × (T ((instance_of b).follows i r q) × T (α (run_var (instance_of b) i (t + 1) q))))
      ⊎ (Leaves b i (run_at (run_lists b) i r) × T (α (gone_var (instance_of b) i (t + 1)))))
      × (T (α (gone_var (instance_of b) i t)) → T (α (gone_var (instance_of b) i (t + 1)))))
  family-e α = (
    (λ h i l t d k. let m = (means_e I α).0 h i l t d k in (
      (λ r below on. elim (m.0 r below on) [
        | inl f ↦ (let w = (any-up_to (followed i t r) (I.runs i)).0 f in inl (w.0, w.1, (and-iff (I.follows i r w.0) _).0 w.2))
        | inr g ↦ let w = (and-iff (I.leaves i r) (α (gone_var I i (t + 1)))).0 g in inr ((leaves-iff i l r below).0 w.0, w.1)
      ]),
      m.1,
    )),
    (λ h. (means_e I α).1 (λ i l t d k. (
      (λ r below on. elim ((h i l t d k).0 r below on) [
        | inl f ↦ inl ((any-up_to (followed i t r) (I.runs i)).1 (f.0, f.1, (and-iff (I.follows i r f.0) _).1 f.2))
        | inr g ↦ inr ((and-iff (I.leaves i r) (α (gone_var I i (t + 1)))).1 ((leaves-iff i l r below).1 g.0, g.1))
      ]),
      (h i l t d k).1,
    ))),
  )
    where
      followed : ℕ → ℕ → ℕ → ℕ → Bool
      followed i t r q = I.follows i r q && α (run_var I i (t + 1) q)

  -- ---- an exit has no border

  -- "Node kind 3 is an exit without a border, and its variable is denied as for kind 0": no plan that keeps the rules sets it, and no
  -- assignment that satisfies the formula makes it true.
  pub exit-bare : (n : ℕ) → n < (instance_of b).nodes → node_kind_at b n ≡ 3
      → ((p : Plan) → T (keeps_rules (instance_of b) p) → T (p.border n) → ⊥)
      × ((cap : Option ℕ) (α : ℕ → Bool) → T (satisfies α (formula (under cap (instance_of b)))) → T (α (border_var (instance_of b) n)) → ⊥)
  unfolding instance_of compile border_var
  exit-bare n h e =
      let denied = (denied-iff (node_kind_at b n)).1 (inr e) in (
        (λ p keeps. ((means1 (instance_of b) p).0 (kept (instance_of b) p keeps).one n h).0 denied),
        (λ cap α sat. ((means_a (under cap (instance_of b)) α).0 (families (under cap (instance_of b)) α sat).A n h).0 denied),
      )

  -- The formula has the clause of its denial.
  pub exit-clause : (n : ℕ) → n < (instance_of b).nodes → node_kind_at b n ≡ 3
      → Memᴰ (one (not' (border_var (instance_of b) n))) (family_a (instance_of b))
  unfolding family_a only instance_of compile
  exit-clause n h e =
      let denied = true_of (denies_border (node_kind_at b n)) ((denied-iff (node_kind_at b n)).1 (inr e)) in
      let unit = one (not' (border_var (instance_of b) n)) in
      let there : Memᴰ unit (only (denies_border (node_kind_at b n)) (one unit)) = rw denied (mathlib.Core.List.Memᴰ.head refl) in
      (mem-each (up_to (instance_of b).nodes) _ _).1 (n, (up_to-mem (instance_of b).nodes n).1 h, mathlib.Core.List.Memᴰ.append_left _ there)

  -- ---- without exits

  -- an exit is a node of the book
  exit-known : (n : ℕ) → node_kind_at b n ≡ 3 → n < length b.nodes
  unfolding node_kind_at
  exit-known n e = elim (le-or-lt (length b.nodes) n) [
    | inl past ↦ let none' : get_or b.nodes n 0 ≡ 0 = get_or-eq_default b.nodes 0 past in absurd (omega arith)
    | inr below ↦ below
  ]

  module _ (no-exit : WithoutExits b) (p : Plan) (moves : IsPlan (instance_of b) p) (keeps : T (keeps_rules (instance_of b) p)) where
    -- "A book without exits keeps every train to the last interval": in every plan that keeps the rules every train has a run of its list in
    -- each interval from its departure to the last.
    pub no-exit-stays : (i : ℕ) → i < (instance_of b).trains → (t : ℕ) → (instance_of b).departure i ≤ t → t < (instance_of b).intervals
        → (r : ℕ) × (r < (instance_of b).runs i) × (p.move i t ≡ run r)
    unfolding instance_of compile
    no-exit-stays i l t from h = go (t - I.departure i) t (omega arith) h
      where
        leaving : LeavesRightly b i (p.move i)
        leaving = (rule-three p moves).0 (kept I p keeps).three i l

        starts : T (runs (p.move i (I.departure i)) (I.given i))
        starts = ((means2 I p).0 (kept I p keeps).two i l).1

        present : (t : ℕ) → I.departure i ≤ t → t < I.intervals → p.move i t ≡ absent → ⊥
        present t from h e = ((means2 I p).0 (kept I p keeps).two i l).0.1 t from h (is-absent e)

        -- gone follows no run
        remains : (t : ℕ) → t + 1 < I.intervals → p.move i (t + 1) ≡ gone → {r : ℕ} → p.move i t ≡ run r → ⊥
        remains t k g e = elim (leaving.after_run t k g) [
          | inl g ↦ run≢gone e g
          | inr w ↦ let exit = w.2.exit in no-exit _ (exit-known _ exit.3) exit.3
        ]

        -- so many intervals after the departure
        go : (n t : ℕ) → t ≡ I.departure i + n → t < I.intervals → (r : ℕ) × (r < I.runs i) × (p.move i t ≡ run r)
        go zero t e h =
            let at : t ≡ I.departure i = omega arith in
            let w = run_of (p.move i t) (I.given i) (rw at starts) in
            (w.0, own p moves i l t h w.0 w.1, w.1)
        go (suc n) t e h =
            let before = go n (t - 1) (omega arith) (omega arith) in
            elim (which (p.move i t)) [
              | a_run r m ↦ (r, own p moves i l t h r m, m)
              | is_away m ↦ absurd (present t (omega arith) h m)
              | has_left m ↦ absurd (remains (t - 1) (omega arith) (subst (λ (u : ℕ). p.move i u ≡ gone) (omega arith) m) before.2)
            ]

  -- What P4 says of every plan that keeps the rules.
  pub keeping-stays : (p : Plan) → IsPlan (instance_of b) p → T (keeps_rules (instance_of b) p) → Stays b p
  unfolding instance_of compile
  keeping-stays p moves keeps = record {
    bare = λ n h e. (exit-bare n h e).0 p keeps;
    leaving = (rule-three p moves).0 (kept (instance_of b) p keeps).three;
    remaining = λ no-exit. no-exit-stays no-exit p moves keeps;
  }

-- ---- from arbitrary bytes: "both verdicts of the checker are about this rule"

-- of the plan that an accepted assignment decodes to, whether it is judged alone
pub assignment-stays : (cap : Option ℕ) (book assignment : Bytes) → check_assignment cap book assignment ≡ accepted tt
    → (b : Book) × (read_book book ≡ accepted b) × ((plan : Bytes)
    × ((plan_slice : ℕ) → plan_length (instance_of b) ≤ plan_slice → unpack_plan cap book assignment plan_slice ≡ accepted plan)
    × Stays b (plan_of (instance_of b) plan))
assignment-stays cap book s e =
    let a = accepted-assignment-is-plan cap book s e in
    let w = a.2 in
    let I = instance_of a.0 in
    (a.0, a.1, (w.0, w.1, keeping-stays book a.0 a.1 (plan_of I w.0) (fitting I w.0 w.2) w.4))

-- or unpacked,
pub unpacked-stays : (cap : Option ℕ) (book assignment plan : Bytes) (plan_slice : ℕ) → unpack_plan cap book assignment plan_slice ≡ accepted plan
    → (b : Book) × (read_book book ≡ accepted b) × Stays b (plan_of (instance_of b) plan)
unpacked-stays cap book s plan n e =
    let a = unpacked-plan-keeps cap book s plan n e in
    let I = instance_of a.0 in
    (a.0, a.1, keeping-stays book a.0 a.1 (plan_of I plan) (fitting I plan a.2) a.4)

-- of a plan that is accepted,
pub plan-stays : (cap : Option ℕ) (book plan assignment : Bytes) (assignment_slice : ℕ) → check_plan cap book plan assignment_slice ≡ accepted assignment
    → (b : Book) × (read_book book ≡ accepted b) × Stays b (plan_of (instance_of b) plan)
unfolding check_plan
plan-stays cap book plan a n e =
    let r = read_of cap book _ a e in
    let I = instance_of r.0 in
    let k = (check-iff cap book r.0 r.1 plan n a).0 e in
    (r.0, r.1, keeping-stays book r.0 r.1 (plan_of I plan) (fitting I plan k.1) k.2)

none≢some : {n : ℕ} → none ≡ some n → ⊥
none≢some e = let z : ◌≡◌ {A = ℕ} 0 1 = cc in omega arith

-- and of an accepted refutation: no plan within its cap in which every train leaves as the text has it keeps the other five rules
pub refutation-stays : (cap : Option ℕ) (book refutation : Bytes) (lent : Lent) → check_refutation cap book refutation lent ≡ accepted tt
    → (b : Book) × (read_book book ≡ accepted b) × ((p : Plan) → IsPlan (instance_of b) p
    → T (allows cap (set_count (instance_of b) p.border))
    → T (rule1 (instance_of b) p) → T (rule2 (instance_of b) p) → ((i : ℕ) → i < (instance_of b).trains → LeavesRightly b i (p.move i))
    → T (rule4 (instance_of b) p) → T (rule5 (instance_of b) p) → T (rule6 (instance_of b) p) → ⊥)
refutation-stays cap book r lent e =
    let a = accepted-refutation-no-plan cap book r lent e in (
      a.0,
      a.1,
      λ p moves few one two leaving four five six.
          let three = (rule-three book a.0 a.1 p moves).1 leaving in
          let keeps = from-kept (instance_of a.0) p (record { one = one; two = two; three = three; four = four; five = five; six = six }) in
          let fine = (no-broken (instance_of a.0) p).1 keeps in
          let broken = (a.2 p moves few).1 in
          none≢some (sym fine ∙ broken),
    )

-- "16 with detail 1": a border byte 1 at an exit is a value of a plan, and breaks rule 1
pub exit-border-refused : (cap : Option ℕ) (book plan : Bytes) (assignment_slice : ℕ) (b : Book) → read_book book ≡ accepted b
    → variables (under cap (instance_of b)) ≤ assignment_slice → T (plan_fits (instance_of b) plan)
    → (n : ℕ) → n < (instance_of b).nodes → node_kind_at b n ≡ 3 → T ((plan_of (instance_of b) plan).border n)
    → check_plan cap book plan assignment_slice ≡ refused 16 1
unfolding rule_faults first_fault instance_of compile
exit-border-refused cap book plan size b read room fits n h e set =
    let I = instance_of b in
    let p = plan_of I plan in
    let breaks = (not_iff (rule1 I p)).1 (λ k. ((means1 I p).0 k n h).0 ((denied-iff (node_kind_at b n)).1 (inr e)) set) in
    let first : first_fault (rule_faults I p) ≡ some 1 = rw (true_of (not (rule1 I p)) breaks) refl in
    (plan-refused cap book plan size 16 1).1 (of_input b read (λ short. omega (arith, room, short))
    (plan_fault (fault-under cap I (rule_broken fits (first_some 1 (rule_faults I p) first)))))
