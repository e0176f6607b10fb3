-- The combined verdict (P7): what it means that it accepts (`fewest-certified`), when it does (`fewest-exact`), and why it refuses
-- (`fewest-refused`, `fewest-number`). Assumes nothing.
use mathlib.Core.Path.{◌≡◌, sym, ap, ◌∙◌, subst}
use mathlib.Core.Logic.{◌↔◌, ◌⊎◌, inl, inr}
use mathlib.Core.Bool.{not}
use mathlib.Core.Option.{none, some}
use Prim.Native.Nat.{ℕ, zero, suc, ◌≤◌}
use native.Mathlib.Omega.{arith}
use lib.ListN.{length}
use lib.Dec.{T, eqb, T_not}
use Rattle.laws.proofs.Tests.{eqb-iff, leb-iff, le-or-lt, up_to-mem, empty-length, nil-of-length, decide}
use Rattle.laws.proofs.Picks.{mem-pick, pick_same}
use Rattle.spec.specs.Lists.{Bytes, empty, up_to, Verdict, accepted, refused, and_then}
use Rattle.spec.specs.Book.{Book}
use Rattle.spec.specs.Read.{read_book}
use Rattle.spec.specs.Instance.{Instance, instance_of, under, is_free, free_nodes_of}
use Rattle.spec.specs.Plan.{Plan, IsPlan, plan_of, broken_rule, keeps_rules}
use Rattle.spec.specs.Cap.{allows, set_count}
use Rattle.spec.specs.Formula.{formula, variables}
use Rattle.spec.specs.Assignment.{assigned, decoded, decode}
use Rattle.spec.specs.Refutation.{Lent}
use Rattle.spec.specs.Entry.{demand, read_instance, judge_assignment, check_assignment, fewest_fits, fewer_refuted, fewest_for, check_fewest}
pub use Rattle.demands.specs.Claims.{FewerRefuted}
use Rattle.demands.specs.Reasons.{Refusal, NoRoomBelow, no_room, FewerFault, not_empty, lower_cap, FewestFault, assignment_fault, other_count, refutation_fault, Within}
use Rattle.demands.proofs.Moves.{fitting}
use Rattle.demands.proofs.Encoding.{border-byte, bit-one}
use Rattle.demands.proofs.Entries.{result-is, then-accepted, then-goes, demand-iff, assignment-iff, no-broken, read_at_lem, read-own, check-assignment, check-refutation}
use Rattle.demands.proofs.Reasons as reasons
use Rattle.demands.proofs.Refusals as refusals
use Rattle.demands.proofs.Uncapped.{none-under, satisfied-fits, satisfied-keeps}
use Rattle.demands.proofs.Demands.{accepted-refutation-no-plan}

-- ---- the count of the plan that an assignment decodes to

count-read : (I : Instance) (s : Bytes) → set_count I (plan_of I (decode I s)).border ≡ set_count I (decoded I (assigned s)).border
unfolding set_count plan_of decode free_nodes_of
count-read I s =
    let p = decoded I (assigned s) in
    ap length (pick_same (plan_of I (decode I s)).border p.border (free_nodes_of I) (λ n m.
    let there = (up_to-mem I.nodes n).0 ((mem-pick (is_free I) n (up_to I.nodes)).0 m).0 in
    ap (λ (x : ℕ). eqb x 1) (border-byte I p n there) ∙ bit-one (p.border n)))

-- ---- what is accepted

module _ (I : Instance) (n : ℕ) (s r : Bytes) (lent : Lent) where
  -- each check in its row has passed
  row : (fewest_for I n s r lent ≡ accepted tt)
      ↔ (T (fewest_fits lent I n) × (judge_assignment I s ≡ accepted tt) × (set_count I (plan_of I (decode I s)).border ≡ n)
      × (fewer_refuted I n r lent ≡ accepted tt))
  unfolding fewest_for
  row =
      let set = set_count I (decoded I (assigned s)).border in (
        (λ e.
            let a = then-accepted (demand (fewest_fits lent I n) 12) _ tt e in
            let b = then-accepted (judge_assignment I s) _ tt a.2 in
            let c = then-accepted (demand (eqb set n) 22) _ tt b.2 in
            ((demand-iff _ 12).0 a.1, b.1, count-read I s ∙ (eqb-iff set n).0 ((demand-iff _ 22).0 c.1), c.2)),
        (λ h. then-goes _ ((demand-iff (fewest_fits lent I n) 12).1 h.0) ∙ then-goes _ h.1
            ∙ then-goes _ ((demand-iff (eqb set n) 22).1 ((eqb-iff set n).1 (sym (count-read I s) ∙ h.2))) ∙ h.3),
      )

-- the last of them, with the room for it
fewer-iff : (book : Bytes) (b : Book) → read_book book ≡ accepted b → (n : ℕ) (r : Bytes) (lent : Lent)
    → (T (fewest_fits lent (instance_of b) n) × (fewer_refuted (instance_of b) n r lent ≡ accepted tt)) ↔ FewerRefuted book n r lent
unfolding fewest_fits fewer_refuted FewerRefuted
fewer-iff book b read zero r lent = (
  (λ h. nil-of-length r ((eqb-iff (length r) 0).0 (rw (empty-length r) at ((demand-iff (empty r) 21).0 h.1)))),
  (λ e. (tt, (demand-iff (empty r) 21).1 (rw (empty-length r) ((eqb-iff (length r) 0).1 (ap length e))))),
)
fewer-iff book b read (suc m) r lent = let c = check-refutation (some m) book b read r lent in (c.1, c.0)

-- The combined verdict accepts exactly where the book is read, the assignment of the formula without a cap is accepted, its plan sets n nodes of
-- kind 1, and the refutation of fewer is accepted, with the memory that was lent (with n = 0: it is empty).
pub fewest-exact : (book : Bytes) (n : ℕ) (assignment refutation : Bytes) (lent : Lent)
    → (check_fewest book n assignment refutation lent ≡ accepted tt)
    ↔ ((b : Book) × (read_book book ≡ accepted b) × (check_assignment none book assignment ≡ accepted tt)
    × (set_count (instance_of b) (plan_of (instance_of b) (decode (instance_of b) assignment)).border ≡ n)
    × FewerRefuted book n refutation lent)
unfolding check_fewest read_instance
fewest-exact book n s r lent = (
  (λ e.
      let k = read-own book (λ I. fewest_for I n s r lent) tt e in
      let I = instance_of k.0 in
      let h = (row I n s r lent).0 (sym (then-goes _ (read_at_lem instance_of book k.0 k.1)) ∙ e) in
      (k.0, k.1, judged k.0 k.1 ∙ h.1, h.2, (fewer-iff book k.0 k.1 n r lent).0 (h.0, h.3))),
  (λ h.
      let I = instance_of h.0 in
      let f = (fewer-iff book h.0 h.1 n r lent).1 h.4 in
      then-goes _ (read_at_lem instance_of book h.0 h.1)
      ∙ (row I n s r lent).1 (f.0, sym (judged h.0 h.1) ∙ h.2, h.3, f.1)),
)
  where
    judged : (b : Book) → read_book book ≡ accepted b → check_assignment none book s ≡ judge_assignment (instance_of b) s
    judged b read = check-assignment none book b read s ∙ ap (λ J. judge_assignment J s) (none-under b)

-- "accepted together they mean that a plan with n kind 1 nodes set exists and none with fewer": a plan of the book that keeps all six rules sets
-- n, and every plan of it that keeps them sets n at least.
pub fewest-certified : (book : Bytes) (n : ℕ) (assignment refutation : Bytes) (lent : Lent)
    → check_fewest book n assignment refutation lent ≡ accepted tt
    → (b : Book) × (read_book book ≡ accepted b)
    × ((p : Plan) × IsPlan (instance_of b) p × T (keeps_rules (instance_of b) p) × (set_count (instance_of b) p.border ≡ n))
    × ((p : Plan) → IsPlan (instance_of b) p → T (keeps_rules (instance_of b) p) → n ≤ set_count (instance_of b) p.border)
unfolding FewerRefuted allows
fewest-certified book n s r lent e =
    let a = (fewest-exact book n s r lent).0 e in
    let b = a.0 in
    let I = instance_of b in
    let sat = ((assignment-iff (under none I) s).0 (sym (check-assignment none book b a.1 s) ∙ a.2)).1 in (
      b,
      a.1,
      (
        plan_of I (decode I s),
        fitting I (decode I s) (satisfied-fits none book b a.1 s sat),
        satisfied-keeps none book b a.1 s sat,
        a.3,
      ),
      none-fewer b a.1 n a.4,
    )
  where
    none≢some : {m : ℕ} → none ≡ some m → ⊥
    none≢some e = let z : ◌≡◌ {A = ℕ} 0 1 = cc in omega arith

    none-fewer : (b : Book) → read_book book ≡ accepted b → (n : ℕ) → FewerRefuted book n r lent
        → (p : Plan) → IsPlan (instance_of b) p → T (keeps_rules (instance_of b) p) → n ≤ set_count (instance_of b) p.border
    none-fewer b read zero h p moves keeps = omega arith
    none-fewer b read (suc m) h p moves keeps = elim (le-or-lt (suc m) (set_count (instance_of b) p.border)) [
      | inl l ↦ l
      | inr l ↦ (
          let t = accepted-refutation-no-plan (some m) book r lent h in
          let same : t.0 ≡ b = result-is (sym t.1 ∙ read) in
          let all = subst (λ (c : Book). (p : Plan) → IsPlan (instance_of c) p → T (allows (some m) (set_count (instance_of c) p.border))
          → (rule : ℕ) × (broken_rule (instance_of c) p ≡ some rule)) same t.2 in
          let few : T (allows (some m) (set_count (instance_of b) p.border)) = (leb-iff (set_count (instance_of b) p.border) m).1 (omega (arith, l)) in
          absurd (none≢some (sym ((no-broken (instance_of b) p).1 keeps) ∙ (all p moves few).1))
          )
    ]

-- ---- why it refuses

module _ (I : Instance) (lent : Lent) (r : Bytes) where
  -- the refutation of fewer
  fewer-refused : (n k d : ℕ) → (fewer_refuted I n r lent ≡ refused k d) ↔ FewerFault I lent r n k d
  unfolding fewer_refuted
  fewer-refused n k d = (to n, back n k d)
    where
      to : (n : ℕ) → fewer_refuted I n r lent ≡ refused k d → FewerFault I lent r n k d
      to zero e = let q = reasons.demand-refused (empty r) 21 e in rw (q.1, q.2) (not_empty q.0)
      to (suc m) e = lower_cap (reasons.file-fault lent (variables (under (some m) I)) (formula (under (some m) I)) r k d e)

      back : (n k d : ℕ) → FewerFault I lent r n k d → fewer_refuted I n r lent ≡ refused k d
      back n k d (not_empty h) = refusals.demand-no (empty r) 21 h
      back n k d (lower_cap {m} f) = refusals.file-refused lent (variables (under (some m) I)) (formula (under (some m) I)) r k d f

  -- behind 12: the assignment, 22, and the refutation
  behind-room : ℕ → Bytes → Verdict (Unit {0})
  behind-room n s =
      and_then (judge_assignment I s) λ _.
      and_then (demand (eqb (set_count I (decoded I (assigned s)).border) n) 22) λ _.
      fewer_refuted I n r lent

  behind-iff : (n : ℕ) (s : Bytes) (k d : ℕ) → (behind-room n s ≡ refused k d) ↔ FewestFault I n s r lent k d
  unfolding behind-room
  behind-iff n s k d = (to, back k d)
    where
      set : ℕ
      set = set_count I (decoded I (assigned s)).border

      to : behind-room n s ≡ refused k d → FewestFault I n s r lent k d
      to e = elim (reasons.then-refused (judge_assignment I s) _ e) [
        | inl q ↦ assignment_fault (reasons.assignment-fault I s q)
        | inr q ↦ (let j = (assignment-iff I s).0 q.1 in elim (reasons.then-refused (demand (eqb set n) 22) _ q.2) [
          | inl z ↦ (let w = reasons.demand-refused (eqb set n) 22 z in
              rw (w.1, w.2) (other_count j.0 j.1 (λ c. T_not (eqb set n) w.0 ((eqb-iff set n).1 (sym (count-read I s) ∙ c)))))
          | inr z ↦ refutation_fault j.0 j.1 (count-read I s ∙ (eqb-iff set n).0 ((demand-iff (eqb set n) 22).0 z.1))
              ((fewer-refused n k d).0 z.2)
        ])
      ]

      back : (k d : ℕ) → FewestFault I n s r lent k d → behind-room n s ≡ refused k d
      back k d (assignment_fault f) = refusals.stops _ (refusals.assignment-judged I s k d f)
      back k d (other_count fits sat other) =
          then-goes _ ((assignment-iff I s).1 (fits, sat))
          ∙ refusals.stops _ (refusals.demand-no (eqb set n) 22
          (decide (eqb set n) (λ t. absurd (other (count-read I s ∙ (eqb-iff set n).0 t))) (λ t. t)))
      back k d (refutation_fault fits sat count f) =
          then-goes _ ((assignment-iff I s).1 (fits, sat))
          ∙ then-goes _ ((demand-iff (eqb set n) 22).1 ((eqb-iff set n).1 (sym (count-read I s) ∙ count)))
          ∙ (fewer-refused n k d).1 f

-- what 12 asks for, as the text has it and as it is computed
short-iff : (I : Instance) (lent : Lent) (n : ℕ) → T (not (fewest_fits lent I n)) ↔ NoRoomBelow I lent n
unfolding fewest_fits
short-iff I lent n = (to n, back)
  where
    to : (n : ℕ) → T (not (fewest_fits lent I n)) → NoRoomBelow I lent n
    to zero h = absurd h
    to (suc m) h = no_room h

    back : {n : ℕ} → NoRoomBelow I lent n → T (not (fewest_fits lent I n))
    back (no_room h) = h

-- Refused exactly by the book; by 12 where the formula under cap n minus 1 does not fit the slices (with n = 0 none is needed); for what is wrong
-- with the assignment; by 22 where its plan sets another count than n; or for what is wrong with the refutation.
pub fewest-refused : (book : Bytes) (n : ℕ) (assignment refutation : Bytes) (lent : Lent) (k d : ℕ)
    → (check_fewest book n assignment refutation lent ≡ refused k d)
    ↔ Refusal book (λ b. NoRoomBelow (instance_of b) lent n) (λ b. FewestFault (instance_of b) n assignment refutation lent) k d
unfolding check_fewest fewest_for read_instance behind-room
fewest-refused book n s r lent k d = (
  (λ e. reasons.in_order instance_of book _ _ (λ I. fewest_fits lent I n) (λ I. behind-room I lent r n s) (λ b. short-iff (instance_of b) lent n)
      (λ b q. (behind-iff (instance_of b) lent r n s k d).0 q) e),
  (λ f. refusals.in_order instance_of book _ _ (λ I. fewest_fits lent I n) (λ I. behind-room I lent r n s) (λ b. short-iff (instance_of b) lent n)
      (λ b k d q. (behind-iff (instance_of b) lent r n s k d).1 q) f),
)

-- It refuses by 1 to 14 or 17 to 22.
pub fewest-number : (book : Bytes) (n : ℕ) (assignment refutation : Bytes) (lent : Lent) (k d : ℕ)
    → check_fewest book n assignment refutation lent ≡ refused k d → Within 1 14 k ⊎ Within 17 22 k
fewest-number book n s r lent k d e = elim (reasons.number_of ((fewest-refused book n s r lent k d).0 e)) [
  | inl w ↦ inl (omega (arith, w.0), omega (arith, w.1))
  | inr f ↦ number f.1
]
  where
    fewer : {I : Instance} {n k d : ℕ} → FewerFault I lent r n k d → Within 1 14 k ⊎ Within 17 22 k
    fewer (not_empty h) = inr (omega arith, omega arith)
    fewer (lower_cap f) = elim (reasons.file-number f) [
      | inl w ↦ inl (omega (arith, w.0), omega (arith, w.1))
      | inr w ↦ inr (omega (arith, w.0), omega (arith, w.1))
    ]

    number : {I : Instance} {k d : ℕ} → FewestFault I n s r lent k d → Within 1 14 k ⊎ Within 17 22 k
    number (assignment_fault f) = let w = reasons.fault-number f in inl (omega (arith, w.0), omega (arith, w.1))
    number (other_count fits sat other) = inr (omega arith, omega arith)
    number (refutation_fault fits sat count f) = fewer f
