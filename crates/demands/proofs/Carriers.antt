-- Which borders carry a plan (document 02, P5). The list is what the text asks for (`Listed`): of arbitrary bytes that are accepted, the
-- nodes that carry the plan, rising, and no others, each with its first meeting (`carriers-listed`); it is empty exactly where no node does
-- (`none-carries`). The check of the plan's bytes with one byte cleared refuses by 16 with detail 6 where the node is listed, and accepts where
-- it is not (`clearing-tells`). Assumes nothing.
use mathlib.Core.Path.{◌≡◌, refl, sym, ap, ◌∙◌, subst}
use mathlib.Core.Logic.{◌↔◌, ◌⊎◌}
use mathlib.Core.Bool.{Bool, not, ◌&&◌, not-not}
use mathlib.Core.Option.{none}
use Prim.Native.Nat.{ℕ, zero, suc, ◌*◌, ◌≤◌, ◌<◌}
use native.Mathlib.Omega.{arith}
use mathlib.Core.List.Memᴰ
use mathlib.Core.List.{List, [], ◌∷◌, ◌++◌, map, Memᴰ}
use lib.ListN.{length, get_or, take, set, length-set}
use lib.Seq.{get_or-set_same, get_or-set_other, drop-set-lt}
use lib.Dec.{T, leb, eqb, eqb_refl}
use Rattle.spec.specs.Lists.{Bytes, all, up_to, each, pick, passes, ◌when◌, Verdict, accepted, refused}
use Rattle.spec.specs.Numbers.{field, number}
use Rattle.spec.specs.Book.{Book, node_kind_at, greatest_node_kind, is_exit, denies_border, forces_border}
use Rattle.spec.specs.Read.{well_formed, read_book}
use Rattle.spec.specs.Instance.{Instance, instance_of, compile, under, is_free, free_nodes_of}
use Rattle.spec.specs.Plan.{Plan, plan_of, move_at, move_of, is_bit, IsPlan, plan_fits, rule1, absent_before, departs, rule2, leaves_rightly, rule3, runs_on, rule4, keeps_calls, served_by, rule5, rule6, rule_faults, keeps_rules}
use Rattle.spec.specs.Carriers.{first_pair, first_meeting, cleared, carries, carriers, entry, carrier_list, carrier_room, carriers_for, list_carriers, carriers_output}
use Rattle.spec.specs.Formula.{variables}
use Rattle.spec.specs.Assignment.{encode}
use Rattle.spec.specs.Entry.{read_instance, check_plan, overwrite, written}
use Rattle.laws.proofs.Tests.{and-iff, not_iff, eqb-iff, leb-iff, all-up_to, all-at, up_to-mem, decide, true_of, bool-ext}
use Rattle.laws.proofs.Picks.{mem-pick, pick_same, pick-numbers, pick-fewer}
use Rattle.laws.proofs.Parts.{each_map, length-rows}
pub use Rattle.demands.specs.Carriers.{Clears, SetKindOne, Carries, Entry, entry_bytes, Listed}
use Rattle.demands.specs.Claims.{Holds}
use Rattle.demands.specs.Reasons.{Refusal, of_input, PlanFault, rule_broken, plan_fault, FirstHolds, Within}
use Rattle.demands.proofs.Wellformed.{parts}
use Rattle.demands.proofs.RunLists.{up_to-rises, rising-pick, rising-map, rising-same}
use Rattle.demands.proofs.Reading.{read-well-formed}
use Rattle.demands.proofs.Pages.{few-intervals}
use Rattle.demands.proofs.Moves.{Kept, kept, from-kept, means1, nodes-inside, fitting}
use Rattle.demands.proofs.Entries.{result-is, plan-iff, plan-written, read-own}
use Rattle.demands.proofs.Reasons.{written-number}
use Rattle.demands.proofs.Refusals.{written-refused, plan-refused}
use Rattle.demands.proofs.Uncapped.{none-under, fault-under, check-iff}
use Rattle.demands.proofs.Demands.{no-cap}
use Rattle.demands.proofs.Meetings.{Meet, FirstMeeting, first-meeting}

-- ---- a border cleared

module _ (p : Plan) (n : ℕ) where
  pub cleared-clears : Clears p n (cleared p n)
  unfolding cleared
  cleared-clears = record {
    node = λ h. (not_iff (eqb n n)).0 ((and-iff (p.border n) (not (eqb n n))).0 h).1 (eqb_refl n);
    others = λ m e. bool-ext _ _
        (λ h. ((and-iff (p.border m) (not (eqb m n))).0 h).0)
        (λ h. (and-iff (p.border m) (not (eqb m n))).1 (h, (not_iff (eqb m n)).1 (λ k. e ((eqb-iff m n).0 k))));
    moves = λ i t. refl;
  }

  -- no other plan does
  pub clears-one : (q : Plan) → Clears p n q → q ≡ cleared p n
  unfolding cleared
  clears-one q c = λ z. record { border = λ m. borders m z; move = λ i t. c.moves i t z }
    where
      borders : (m : ℕ) → q.border m ≡ (p.border m && not (eqb m n))
      borders m = decide (eqb m n)
          (λ h. bool-ext _ _
          (λ k. absurd (c.node (subst (λ (x : ℕ). T (q.border x)) ((eqb-iff m n).0 h) k)))
          (λ k. absurd ((not_iff (eqb m n)).0 ((and-iff (p.border m) (not (eqb m n))).0 k).1 h)))
          (λ h. let other : m ≡ n → ⊥ = λ e. (not_iff (eqb m n)).0 h ((eqb-iff m n).1 e) in c.others m other ∙ sym (cleared-clears.others m other))

-- "clearing alone makes the plan break rule 6", of whatever plan clears the border, and of the one that is computed
breaks-iff : (I : Instance) (p : Plan) (n : ℕ) → ((q : Plan) → Clears p n q → T (rule6 I q) → ⊥) ↔ T (not (rule6 I (cleared p n)))
breaks-iff I p n = (
  (λ h. (not_iff (rule6 I (cleared p n))).1 (h (cleared p n) (cleared-clears p n))),
  (λ h q c six. (not_iff (rule6 I (cleared p n))).0 h (subst (λ (r : Plan). T (rule6 I r)) (clears-one p n q c) six)),
)

-- ---- its bytes

module _ (I : Instance) (s : Bytes) (n : ℕ) (known : n < I.nodes) (long : I.nodes ≤ length s) where
  byte-there : get_or (set s n 0) n 0 ≡ 0
  byte-there = get_or-set_same s n 0 0 (omega arith)

  byte-beside : (m : ℕ) → (m ≡ n → ⊥) → get_or (set s n 0) m 0 ≡ get_or s m 0
  byte-beside m e = get_or-set_other s n m 0 0 e

  -- what stands behind the borders is as it was
  field-kept : (at : ℕ) → I.nodes ≤ at → field (set s n 0) at 2 ≡ field s at 2
  unfolding field
  field-kept at l = ap (λ (u : Bytes). number (take 2 u)) (drop-set-lt at s n 0 (omega arith))

  bytes-clear : Clears (plan_of I s) n (plan_of I (set s n 0))
  unfolding plan_of move_at
  bytes-clear = record {
    node = λ h. let e = (eqb-iff (get_or (set s n 0) n 0) 1).0 h in omega (arith, e, byte-there);
    others = λ m e. ap (λ (x : ℕ). eqb x 1) (byte-beside m e);
    moves = λ i t. ap move_of (field-kept (move_at I i t) (omega arith));
  }

  -- the plan with a border cleared has these bytes with that byte cleared
  pub cleared-bytes : plan_of I (set s n 0) ≡ cleared (plan_of I s) n
  cleared-bytes = clears-one (plan_of I s) n (plan_of I (set s n 0)) bytes-clear

  pub cleared-fits : T (plan_fits I s) → T (plan_fits I (set s n 0))
  unfolding plan_fits is_bit
  cleared-fits h =
      let k = simp (and-iff, eqb-iff, leb-iff, all-up_to) at h in
      simp (and-iff, eqb-iff, leb-iff, all-up_to) (
        (
          length-set s n 0 ∙ k.0.0,
          λ m l. decide (eqb m n)
              (λ e. let q = (eqb-iff m n).0 e in let there = ap (λ (x : ℕ). get_or (set s n 0) x 0) q in omega (arith, there, byte-there))
              (λ e. let q = byte-beside m (λ x. (not_iff (eqb m n)).0 e ((eqb-iff m n).1 x)) in omega (arith, q, k.0.1 m l)),
        ),
        λ i l t j. rw (bytes-clear.moves i t) (k.1 i l t j),
      )

-- ---- the rules

-- clearing a border of kind 1 breaks no rule but 6
module _ (I : Instance) (p : Plan) (n : ℕ) (free : T (is_free I n)) where
  not-forced : T (I.forced n) → ⊥
  unfolding is_free
  not-forced = (simp (and-iff, not_iff) at free).1

  first-kept : T (rule1 I p) → T (rule1 I (cleared p n))
  unfolding cleared
  first-kept h = (means1 I (cleared p n)).1 λ m l. (
    (λ d k. ((means1 I p).0 h m l).0 d ((and-iff (p.border m) (not (eqb m n))).0 k).0),
    (λ f. (and-iff (p.border m) (not (eqb m n))).1
        (((means1 I p).0 h m l).1 f, (not_iff (eqb m n)).1 (λ e. not-forced (subst (λ (x : ℕ). T (I.forced x)) ((eqb-iff m n).0 e) f)))),
  )

  -- rules 1 to 5
  five-kept : Kept I p
      → T (rule1 I (cleared p n)) × T (rule2 I (cleared p n)) × T (rule3 I (cleared p n)) × T (rule4 I (cleared p n)) × T (rule5 I (cleared p n))
  unfolding cleared rule2 departs absent_before rule3 leaves_rightly rule4 runs_on rule5 keeps_calls served_by
  five-kept k = (first-kept k.one, k.two, k.three, k.four, k.five)

  cleared-keeps : T (keeps_rules I p) → T (rule6 I (cleared p n)) → T (keeps_rules I (cleared p n))
  cleared-keeps h six =
      let k = five-kept (kept I p h) in
      from-kept I (cleared p n) (record { one = k.0; two = k.1; three = k.2; four = k.3; five = k.4; six = six })

  -- the least broken rule is then 6
  cleared-breaks : T (keeps_rules I p) → T (not (rule6 I (cleared p n))) → FirstHolds 6 (rule_faults I (cleared p n))
  unfolding rule_faults passes all
  cleared-breaks h six =
      let k = five-kept (kept I p h) in
      let q = cleared p n in
      record {
        before = take 5 (rule_faults I q);
        after = [];
        split = ap (λ (c : Bool). take 5 (rule_faults I q) ++ (6 when c) ∷ []) (true_of (not (rule6 I q)) six);
        clear = simp (not-not, and-iff) (k.0, (k.1, (k.2, (k.3, (k.4, tt)))));
      }

-- ---- kind 1

-- "0 never, 1 may be set, 2 always set", and P4's exit: kind 1 alone neither denies nor forces a border
free-kind : (kind : ℕ) → kind ≤ greatest_node_kind → T (not (denies_border kind) && not (forces_border kind)) ↔ (kind ≡ 1)
unfolding denies_border is_exit forces_border greatest_node_kind
free-kind zero l = (λ h. absurd h, λ e. omega arith)
free-kind (suc zero) l = (λ h. refl, λ e. tt)
free-kind (suc (suc zero)) l = (λ h. absurd h, λ e. omega arith)
free-kind (suc (suc (suc zero))) l = (λ h. absurd h, λ e. omega arith)
free-kind (suc (suc (suc (suc kind)))) l = absurd (omega arith)

module _ (b : Book) (formed : T (well_formed b)) where
  kind-most : (n : ℕ) → n < length b.nodes → node_kind_at b n ≤ greatest_node_kind
  unfolding node_kind_at
  kind-most n l = (leb-iff _ greatest_node_kind).0 (all-at (λ k. leb k greatest_node_kind) b.nodes n 0 (parts b formed).nodes l)

  pub free-iff : (n : ℕ) → n < length b.nodes → T (is_free (instance_of b) n) ↔ (node_kind_at b n ≡ 1)
  unfolding is_free instance_of compile
  free-iff n l = free-kind (node_kind_at b n) (kind-most n l)

  room-formed : carrier_room (instance_of b) ≡ length (pick (λ kind. eqb kind 1) b.nodes) * 4
  unfolding carrier_room free_nodes_of is_free instance_of compile node_kind_at
  room-formed = ap (λ (n : ℕ). n * 4) (
      ap length (pick_same _ (λ n. eqb (node_kind_at b n) 1) (up_to (length b.nodes)) (λ n m.
      let f = free-iff n ((up_to-mem (length b.nodes) n).0 m) in
      bool-ext (is_free (instance_of b) n) (eqb (node_kind_at b n) 1) (λ h. (eqb-iff _ 1).1 (f.0 h)) (λ h. f.1 ((eqb-iff _ 1).0 h))))
      ∙ pick-numbers (λ kind. eqb kind 1) 0 b.nodes)

-- "an entry a kind 1 node": four bytes for each node of kind 1 of the book that is read
pub room-is : (book : Bytes) (b : Book) → read_book book ≡ accepted b → carrier_room (instance_of b) ≡ length (pick (λ kind. eqb kind 1) b.nodes) * 4
room-is book b read = room-formed b (read-well-formed book b read)

-- ---- the list

module _ (b : Book) (formed : T (well_formed b)) (p : Plan) (fits : IsPlan (instance_of b) p) where
  abbrev I : Instance
  I = instance_of b

  carries-iff : (n : ℕ) → (Memᴰ n (carriers I p)) ↔ Carries b p n
  unfolding carriers carries instance_of compile
  carries-iff n = (
    (λ m. let h = (mem-pick (carries I p) n (up_to (length b.nodes))).0 m in
        let l = (up_to-mem (length b.nodes) n).0 h.0 in
        let k = simp and-iff at h.1 in
        record {
          one = record { known = l; kind = (free-iff b formed n l).0 k.0.0; border = k.0.1 };
          breaks = (breaks-iff I p n).1 k.1;
        }),
    (λ c. (mem-pick (carries I p) n (up_to (length b.nodes))).1 (
      (up_to-mem (length b.nodes) n).1 c.one.known,
      simp and-iff (
        ((free-iff b formed n c.one.known).1 c.one.kind, c.one.border),
        (breaks-iff I p n).0 c.breaks,
      ),
    )),
  )

  -- the entry of a node, as it is listed
  entry_of : ℕ → Entry
  entry_of n =
      let m = first_meeting I (cleared p n) in
      record { node = n; interval = m.interval; lower = m.lower; higher = m.higher }

  entries : List Entry
  entries = map entry_of (carriers I p)

  entries-bytes : each entries entry_bytes ≡ carrier_list I p
  unfolding entries entry_of entry_bytes carrier_list entry
  entries-bytes = each_map (carriers I p) entry_of entry_bytes

  -- a plan with a border cleared is a plan
  cleared-plan : (n : ℕ) → IsPlan I (cleared p n)
  unfolding cleared
  cleared-plan n = fits

  meeting-of : (n : ℕ) → Memᴰ n (carriers I p)
      → FirstMeeting I (cleared p n) (entry_of n).interval (entry_of n).lower (entry_of n).higher
  unfolding entry_of first_meeting first_pair
  meeting-of n m = first-meeting b formed (cleared p n) (cleared-plan n) ((breaks-iff I p n).0 ((carries-iff n).0 m).breaks)

  bounds : (n : ℕ) → Memᴰ n (carriers I p)
      → (n < 256) × ((entry_of n).interval < 256) × ((entry_of n).lower < 256) × ((entry_of n).higher < 256)
  unfolding instance_of compile
  bounds n m =
      let w = parts b formed in
      let f = meeting-of n m in (
        omega (arith, ((carries-iff n).0 m).one.known, w.few_nodes),
        omega (arith, f.interval, few-intervals b formed),
        omega (arith, f.lower, f.higher, w.few_trains),
        omega (arith, f.higher, w.few_trains),
      )

  entries-listed : Listed b p entries
  unfolding entries entry_of carriers
  entries-listed = record {
    rising = rising-map entry_of (rising-pick (carries I p) (up_to-rises I.nodes));
    listed = λ n. (
      (λ h. let k = Memᴰ.of_map entry_of (carriers I p) h.1 in
          let e : k.0 ≡ n = ap (λ (x : Entry). x.node) k.2 ∙ h.2 in
          (carries-iff n).0 (subst (λ (x : ℕ). Memᴰ x (carriers I p)) e k.1)),
      (λ c. (entry_of n, Memᴰ.map entry_of ((carries-iff n).1 c), refl)),
    );
    next-to = λ e m.
        let k = Memᴰ.of_map entry_of (carriers I p) m in
        subst (λ (x : Entry). (q : Plan) → Clears p x.node q → FirstMeeting I q x.interval x.lower x.higher) k.2
        (λ q c.
        let x = entry_of k.0 in
        subst (λ (r : Plan). FirstMeeting I r x.interval x.lower x.higher) (sym (clears-one p k.0 q c)) (meeting-of k.0 k.1));
    bytes = λ e m.
        let k = Memᴰ.of_map entry_of (carriers I p) m in
        subst (λ (x : Entry). (x.node < 256) × (x.interval < 256) × (x.lower < 256) × (x.higher < 256)) k.2 (bounds k.0 k.1);
  }

-- an entry a carrier, and so no more than an entry a kind 1 node
pub list-long : (I : Instance) (p : Plan) → length (carrier_list I p) ≡ length (carriers I p) * 4
unfolding carrier_list entry
list-long I p = length-rows _ 4 (λ n. refl) (carriers I p)

pub list-fits : (I : Instance) (p : Plan) → length (carrier_list I p) ≤ carrier_room I
unfolding carriers carries carrier_room free_nodes_of
list-fits I p =
    let fewer = pick-fewer (carries I p) (is_free I) (up_to I.nodes) (λ n h. (simp and-iff at h).0.0) in
    omega (arith, list-long I p, fewer)

-- ---- the text determines it

-- there is one first meeting
meeting-one : (I : Instance) (q : Plan) {t i j u k l : ℕ} → FirstMeeting I q t i j → FirstMeeting I q u k l → (t ≡ u) × (i ≡ k) × (j ≡ l)
meeting-one I q {t} {i} {j} {u} {k} {l} f g = (interval, lower, higher)
  where
    interval : t ≡ u
    interval = omega (arith, f.earliest u k l g.lower g.higher g.meet, g.earliest t i j f.lower f.higher f.meet)

    -- the other's pair meets in this interval
    there : Meet I q t k l
    there = subst (λ (v : ℕ). Meet I q v k l) (sym interval) g.meet

    back : Meet I q u i j
    back = subst (λ (v : ℕ). Meet I q v i j) interval f.meet

    lower : i ≡ k
    lower = omega (arith, f.least-lower k l g.lower g.higher there, g.least-lower i j f.lower f.higher back)

    higher : j ≡ l
    higher =
        omega (
          arith,
          f.least-higher l (omega (arith, lower, g.lower)) g.higher (subst (λ (v : ℕ). Meet I q t v l) (sym lower) there),
          g.least-higher j (omega (arith, lower, f.lower)) f.higher (subst (λ (v : ℕ). Meet I q u v j) lower back),
        )

-- A plan has one list.
pub listed-one : (b : Book) (p : Plan) (es fs : List Entry) → Listed b p es → Listed b p fs → es ≡ fs
listed-one b p es fs l m =
    rising-same (λ x y e h. omega (arith, ap (λ (z : Entry). z.node) e)) (λ x y g h. omega (arith, g, h)) l.rising m.rising
    (λ z. (across l m z, across m l z))
  where
    across : {es fs : List Entry} → Listed b p es → Listed b p fs → (z : Entry) → Memᴰ z es → Memᴰ z fs
    across {es} {fs} l m z k =
        let other = (m.listed z.node).1 ((l.listed z.node).0 (z, k, refl)) in
        let q = cleared p z.node in
        let c : Clears p z.node q = cleared-clears p z.node in
        let one = meeting-one (instance_of b) q
        (m.next-to other.0 other.1 q (subst (λ (n : ℕ). Clears p n q) (sym other.2) c)) (l.next-to z k q c) in
        subst (λ (x : Entry). Memᴰ x fs) (λ i. record { node = other.2 i; interval = one.0 i; lower = one.1 i; higher = one.2 i }) other.1

-- ---- the entry point, from arbitrary bytes

-- It accepts exactly the plans that keep the rules, where there is room for an entry a kind 1 node, and writes the list.
pub carriers-accepted : (book plan : Bytes) (b : Book) (n : ℕ) (out : Bytes) → read_book book ≡ accepted b
    → (list_carriers book plan n ≡ accepted out)
    ↔ ((carrier_room (instance_of b) ≤ n) × T (plan_fits (instance_of b) plan) × T (keeps_rules (instance_of b) (plan_of (instance_of b) plan))
    × (carrier_list (instance_of b) (plan_of (instance_of b) plan) ≡ out))
unfolding list_carriers carriers_for read_instance
carriers-accepted book plan b n out read =
    let w = plan-written instance_of book b read carrier_room (λ I p. accepted (carrier_list I p)) plan n out in (
      (λ e. let h = w.0 e in let k = (plan-iff (instance_of b) plan).0 h.1 in (h.0, k.0, k.1, result-is h.2)),
      (λ h. w.1 (h.0, (plan-iff (instance_of b) plan).1 (h.1, h.2), ap {B = Verdict Bytes} accepted h.3)),
    )

-- "12 asks for an entry a kind 1 node, 15 and 16 a bad plan": it refuses exactly so. How long the entries are is `room-is`.
pub carriers-refused : (book plan : Bytes) (n k d : ℕ)
    → (list_carriers book plan n ≡ refused k d) ↔ Refusal book (λ b. n < carrier_room (instance_of b)) (λ b. PlanFault (instance_of b) plan) k d
unfolding list_carriers carriers_for read_instance
carriers-refused = written-refused carrier_room carrier_list

pub carriers-number : (book plan : Bytes) (n k d : ℕ) → list_carriers book plan n ≡ refused k d → Within 1 12 k ⊎ Within 15 16 k
unfolding list_carriers carriers_for read_instance
carriers-number = written-number instance_of carrier_room carrier_list

-- The check of a plan that keeps the rules, with the byte of a set kind 1 node cleared and as much lent as an assignment is long
module _ (book plan : Bytes) (b : Book) (read : read_book book ≡ accepted b) (fits : T (plan_fits (instance_of b) plan))
    (keeps : T (keeps_rules (instance_of b) (plan_of (instance_of b) plan))) (n : ℕ) (one : SetKindOne b (plan_of (instance_of b) plan) n)
    (m : ℕ) (lent : variables (instance_of b) ≤ m) where
  abbrev K : Instance
  K = instance_of b

  abbrev s : Plan
  s = plan_of K plan

  free : T (is_free K n)
  free = (free-iff b (read-well-formed book b read) n one.known).1 one.kind

  there : n < K.nodes
  unfolding instance_of compile
  there = one.known

  same : plan_of K (set plan n 0) ≡ cleared s n
  same = cleared-bytes K plan n there (nodes-inside K plan fits)

  fits-cleared : T (plan_fits K (set plan n 0))
  fits-cleared = cleared-fits K plan n there (nodes-inside K plan fits) fits

  room : variables (under none K) ≤ m
  room = subst (λ J. variables J ≤ m) (sym (none-under b)) lent

  -- refuses by rule 6 where the node carries the plan,
  carrier-refused : Carries b s n → check_plan none book (set plan n 0) m ≡ refused 16 6
  carrier-refused c =
      (plan-refused none book (set plan n 0) m 16 6).1 (of_input b read (λ short. omega (arith, short, room))
      (plan_fault (fault-under none K (rule_broken fits-cleared (subst (λ (q : Plan). FirstHolds 6 (rule_faults K q)) (sym same)
      (cleared-breaks K s n free keeps ((breaks-iff K s n).0 c.breaks)))))))

  -- and accepts where it does not: "clearing a set kind 1 node that is absent leaves a plan that keeps all six"
  other-keeps : (Carries b s n → ⊥) → T (keeps_rules K (cleared s n))
  other-keeps idle =
      cleared-keeps K s n free keeps
      (decide (rule6 K (cleared s n)) (λ h. h) (λ h. absurd (idle (record { one = one; breaks = (breaks-iff K s n).1 h }))))

  other-accepted : (Carries b s n → ⊥) → check_plan none book (set plan n 0) m ≡ accepted (encode K (cleared s n))
  other-accepted idle =
      (check-iff none book b read (set plan n 0) m (encode K (cleared s n))).1 (
        room,
        fits-cleared,
        rw same (other-keeps idle),
        (no-cap K (plan_of K (set plan n 0))).1,
        ap (λ J. encode J (plan_of K (set plan n 0))) (none-under b) ∙ ap (encode K) same,
      )

-- What was accepted is a book, a plan of it that keeps the rules, and the list of the nodes that carry it.
pub carriers-listed : (book plan out : Bytes) (n : ℕ) → list_carriers book plan n ≡ accepted out
    → (b : Book) × (read_book book ≡ accepted b) × T (plan_fits (instance_of b) plan) × T (keeps_rules (instance_of b) (plan_of (instance_of b) plan))
    × ((es : List Entry) × (out ≡ each es entry_bytes) × Listed b (plan_of (instance_of b) plan) es)
unfolding list_carriers
carriers-listed book plan out n e =
    let r = read-own book _ out e in
    let h = (carriers-accepted book plan r.0 n out r.1).0 e in
    let formed = read-well-formed book r.0 r.1 in
    let p = plan_of (instance_of r.0) plan in
    let fits = fitting (instance_of r.0) plan h.1 in
    (r.0, r.1, h.1, h.2, (entries r.0 formed p fits, sym h.3 ∙ sym (entries-bytes r.0 formed p fits), entries-listed r.0 formed p fits))

-- An empty list is an acceptance, exactly where no node carries the plan.
pub none-carries : (book plan out : Bytes) (n : ℕ) → list_carriers book plan n ≡ accepted out
    → (b : Book) × (read_book book ≡ accepted b) × ((out ≡ []) ↔ ((k : ℕ) → Carries b (plan_of (instance_of b) plan) k → ⊥))
unfolding each entry_bytes
none-carries book plan out n e =
    let a = carriers-listed book plan out n e in
    let list = a.4 in (
      a.0,
      a.1,
      (
        (λ h k c. nothing-in list.0 (sym list.1 ∙ h) ((list.2.listed k).1 c).1),
        (λ h. list.1 ∙ ap (λ (es : List Entry). each es entry_bytes) (empty_of list.0 (λ x m. h x.node ((list.2.listed x.node).0 (x, m, refl))))),
      ),
    )
  where
    nothing-in : (es : List Entry) → each es entry_bytes ≡ [] → {x : Entry} → Memᴰ x es → ⊥
    nothing-in [] h m = Memᴰ.not-nil m
    nothing-in (y ∷ ys) h m = omega (arith, ap length h)

    empty_of : (es : List Entry) → ((x : Entry) → Memᴰ x es → ⊥) → es ≡ []
    empty_of [] h = refl
    empty_of (x ∷ xs) h = absurd (h x (Memᴰ.head refl))

-- "A node is on the list for that reason only, and clearing a set kind 1 node that is absent leaves a plan that keeps all six": what check_plan
-- says of the plan whose byte of that node is 0, with as much lent as its assignment is long, by any list of the plan's carriers.
pub clearing-tells : (book plan out : Bytes) (n : ℕ) → list_carriers book plan n ≡ accepted out
    → (b : Book) × (read_book book ≡ accepted b)
    × ((es : List Entry) → Listed b (plan_of (instance_of b) plan) es
    → (k : ℕ) → SetKindOne b (plan_of (instance_of b) plan) k → (m : ℕ) → variables (instance_of b) ≤ m
    → (((e : Entry) × Memᴰ e es × (e.node ≡ k)) → check_plan none book (set plan k 0) m ≡ refused 16 6)
    × ((((e : Entry) × Memᴰ e es × (e.node ≡ k)) → ⊥)
    → ((q : Plan) → Clears (plan_of (instance_of b) plan) k q → T (keeps_rules (instance_of b) q))
    × (check_plan none book (set plan k 0) m ≡ accepted (encode (instance_of b) (cleared (plan_of (instance_of b) plan) k)))))
clearing-tells book plan out n e =
    let a = carriers-listed book plan out n e in (
      a.0,
      a.1,
      λ es list k one m lent. (
        (λ h. carrier-refused book plan a.0 a.1 a.2 a.3 k one m lent ((list.listed k).0 h)),
        (λ h. let idle : Carries a.0 (plan_of (instance_of a.0) plan) k → ⊥ = λ c. h ((list.listed k).1 c) in (
          (λ q c. subst (λ (r : Plan). T (keeps_rules (instance_of a.0) r)) (sym (clears-one _ k q c))
              (other-keeps book plan a.0 a.1 a.2 a.3 k one m lent idle)),
          other-accepted book plan a.0 a.1 a.2 a.3 k one m lent idle,
        )),
      ),
    )

-- "outputs untouched": what the caller's slice holds after the call
pub carriers-output : (book plan old : Bytes) → Holds (list_carriers book plan (length old)) (λ out. out) old (carriers_output book plan old)
unfolding carriers_output overwrite written list_carriers
carriers-output book plan old = (
  (λ out e.
      let r = read-own book _ out e in
      let h = (carriers-accepted book plan r.0 (length old) out r.1).0 e in
      let long = list-fits (instance_of r.0) (plan_of (instance_of r.0) plan) in
      let same = ap length h.3 in
      (omega (arith, long, same, h.0), ap (λ v. overwrite old (written v)) e)),
  (λ n d e. ap (λ v. overwrite old (written v)) e),
)
