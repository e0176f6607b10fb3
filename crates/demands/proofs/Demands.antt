-- The user's three demands, as theorems about the definitions that the contracts cite. Each goes from arbitrary bytes to an
-- entry point's result; docs/DEMANDS.md lists them by the demand's sentence. What has to do with the formula is under a cap or without
-- one (P7): "Demand 3 is from here on about one cap at a time, no cap included". Document 01's own sentences are the case `none`, where every
-- plan is within the cap (`no-cap`). A cap changes no plan and no rule, so plans and rules are the book's own. Assumes nothing.
use mathlib.Core.Path.{◌≡◌, refl, sym, ap, ◌∙◌, subst}
use mathlib.Core.Logic.{◌↔◌}
use mathlib.Core.Option.{Option, none, some}
use Prim.Native.Nat.{ℕ, ◌≤◌, ◌<◌}
use mathlib.Core.List.{List, ◌++◌, Memᴰ}
use lib.ListN.{length, drop}
use lib.IntN.{ℤ}
use lib.Dec.{T}
use native.Mathlib.Omega.{arith}
use Rattle.laws.proofs.Numbers.{bytes}
use Rattle.laws.proofs.Tests.{and-iff, eqb-iff, any-iff, all-up_to}
use Rattle.spec.specs.Lists.{Bytes, any, accepted, and_then}
use Rattle.spec.specs.Book.{Book}
use Rattle.spec.specs.Read.{read_book}
use Rattle.spec.specs.Instance.{Instance, instance_of, under}
use Rattle.spec.specs.Sections.{Chain, together}
use Rattle.spec.specs.Plan.{Plan, IsPlan, of_run, plan_fits, plan_of, plan_length, broken_rule, keeps_rules}
use Rattle.spec.specs.Cap.{allows, set_count, within_cap}
use Rattle.spec.specs.Formula.{formula, variables, claim_var, base, first_var, width, words_of}
use Rattle.spec.specs.Assignment.{satisfies, assigned, assignment_fits, decode, claims, encode}
use Rattle.spec.specs.Refutation.{ProofStep, Lent}
use Rattle.spec.specs.Entry.{overwrite, written, formula_written, write_formula, formula_output, check_assignment, unpack_plan, plan_output, check_plan, assignment_output, check_refutation, words_after}
pub use Rattle.demands.specs.Claims.{IsRefutation, LongEnough, Holds}
use Rattle.demands.proofs.Encoding.{shape, assigned-claim}
use Rattle.demands.proofs.Plans.{plan-fits, run_inside}
use Rattle.demands.proofs.Coding.{Codes}
use Rattle.demands.proofs.Sections.{together-chain}
use Rattle.demands.proofs.Entries.{write-formula, check-assignment, check-refutation, assignment-iff, no-broken, result-is, read_of}
use Rattle.demands.proofs.Refuting.{refuted}
use Rattle.demands.proofs.Files.{file-iff}
use Rattle.demands.proofs.Uncapped.{chain_same, chain-under, move_same, satisfied-coded, satisfied-fits, satisfied-keeps, satisfied-within, keeping-satisfies, keeping-back, unpack-iff, check-iff}

-- ---- without a cap

-- Without a cap every plan is within it: what is asked of a plan under a cap is then nothing.
pub no-cap : (I : Instance) (p : Plan) → T (within_cap (under none I) p) × T (allows none (set_count I p.border))
unfolding within_cap allows
no-cap I p = (tt, tt)

-- ---- Demand 2

-- "The formula is the one document 01 lays down, clause for clause": for a book that passes, with an output as long as its words,
-- exactly they are written at the output's start, the rest stays, and the totals are the formula's.
pub formula-written : (cap : Option ℕ) (book : Bytes) (b : Book) (old : List ℤ) → read_book book ≡ accepted b
    → length (words_of (formula (under cap (instance_of b)))) ≤ length old
    → (write_formula cap book (length old) ≡ accepted (record {
      variable_count = variables (under cap (instance_of b));
      clause_count = length (formula (under cap (instance_of b)));
      word_count = length (words_of (formula (under cap (instance_of b))));
      words = words_of (formula (under cap (instance_of b)));
    }))
    × (formula_output cap book old
    ≡ words_of (formula (under cap (instance_of b))) ++ drop (length (words_of (formula (under cap (instance_of b))))) old)
unfolding formula_output words_after overwrite formula_written written and_then
formula-written cap book b old read room =
    let e = (write-formula cap book b read (length old) _).1 (room, refl) in
    (e, ap (λ (xs : List ℤ). xs ++ drop (length xs) old) (ap (λ v. written (and_then v λ r. accepted r.words)) e))

-- "For a book that passes, with lent memory as long as document 01 names, every assignment that satisfies it is accepted and
-- decodes to a plan that keeps the six plan rules": it is judged good, and what it is unpacked to the plan check accepts. Under a cap, P7,
-- the plan is within it.
pub satisfying-assignment-accepted : (cap : Option ℕ) (book assignment : Bytes) (b : Book) (plan_slice assignment_slice : ℕ)
    → read_book book ≡ accepted b
    → plan_length (instance_of b) ≤ plan_slice → variables (under cap (instance_of b)) ≤ assignment_slice
    → T (assignment_fits (under cap (instance_of b)) assignment) → T (satisfies (assigned assignment) (formula (under cap (instance_of b))))
    → (check_assignment cap book assignment ≡ accepted tt)
    × ((plan : Bytes) × (unpack_plan cap book assignment plan_slice ≡ accepted plan)
    × T (keeps_rules (instance_of b) (plan_of (instance_of b) plan))
    × T (allows cap (set_count (instance_of b) (plan_of (instance_of b) plan).border))
    × ((back : Bytes) × (check_plan cap book plan assignment_slice ≡ accepted back)))
satisfying-assignment-accepted cap book s b n m read room room_back fits sat =
    let I = instance_of b in
    let keeps = satisfied-keeps cap book b read s sat in
    let few = satisfied-within cap book b read s sat in
    let good = (assignment-iff (under cap I) s).1 (fits, sat) in (
      check-assignment cap book b read s ∙ good,
      (
        decode I s,
        (unpack-iff cap book b read s n (decode I s)).1 (room, good, refl),
        keeps,
        few,
        (
          encode (under cap I) (plan_of I (decode I s)),
          (check-iff cap book b read (decode I s) m _).1 (room_back, satisfied-fits cap book b read s sat, keeps, few, refl),
        ),
      ),
    )

-- "Every plan that keeps them is accepted, and is written as an assignment that decodes to that same plan": the assignment
-- satisfies the formula, is accepted, and is unpacked to the plan's very bytes. Under a cap, P7, every plan that keeps them and is within
-- it: "each such plan has one".
pub keeping-plan-accepted : (cap : Option ℕ) (book plan : Bytes) (b : Book) (plan_slice assignment_slice : ℕ)
    → read_book book ≡ accepted b
    → plan_length (instance_of b) ≤ plan_slice → variables (under cap (instance_of b)) ≤ assignment_slice
    → T (bytes plan) → T (plan_fits (instance_of b) plan) → T (keeps_rules (instance_of b) (plan_of (instance_of b) plan))
    → T (allows cap (set_count (instance_of b) (plan_of (instance_of b) plan).border))
    → (assignment : Bytes) × (check_plan cap book plan assignment_slice ≡ accepted assignment)
    × T (satisfies (assigned assignment) (formula (under cap (instance_of b))))
    × (check_assignment cap book assignment ≡ accepted tt)
    × (unpack_plan cap book assignment plan_slice ≡ accepted plan)
keeping-plan-accepted cap book plan b n m read room room_back is_bytes fits keeps few =
    let I = instance_of b in
    let p = plan_of I plan in
    let s = encode (under cap I) p in
    let sat = keeping-satisfies cap book b read p (shape I plan is_bytes fits).2 keeps few in
    let good = (assignment-iff (under cap I) s).1 (plan-fits cap book b read p, sat) in (
      s,
      (check-iff cap book b read plan m _).1 (room_back, fits, keeps, few, refl),
      sat,
      check-assignment cap book b read s ∙ good,
      (unpack-iff cap book b read s n plan).1 (room, good, keeping-back cap book b read plan is_bytes fits keeps few),
    )

-- The checks agree, whatever bytes they were handed: the plan that an accepted assignment is unpacked to is accepted,
pub decoded-plan-accepted : (cap : Option ℕ) (book assignment plan : Bytes) (b : Book) (plan_slice assignment_slice : ℕ) → read_book book ≡ accepted b
    → variables (under cap (instance_of b)) ≤ assignment_slice → unpack_plan cap book assignment plan_slice ≡ accepted plan
    → (back : Bytes) × (check_plan cap book plan assignment_slice ≡ accepted back)
decoded-plan-accepted cap book s plan b n m read room_back e =
    let k = (unpack-iff cap book b read s n plan).0 e in
    let j = (assignment-iff (under cap (instance_of b)) s).0 k.1 in
    let t = (satisfying-assignment-accepted cap book s b n m read k.0 room_back j.0 j.1).1 in
    let same : t.0 ≡ plan = result-is (sym t.1 ∙ e) in
    subst (λ (x : Bytes). (back : Bytes) × (check_plan cap book x m ≡ accepted back)) same t.4

-- and the assignment that an accepted plan is written as is accepted, and is unpacked to the plan's very bytes.
pub written-assignment-accepted : (cap : Option ℕ) (book plan assignment : Bytes) (b : Book) (plan_slice assignment_slice : ℕ)
    → read_book book ≡ accepted b
    → plan_length (instance_of b) ≤ plan_slice → T (bytes plan) → check_plan cap book plan assignment_slice ≡ accepted assignment
    → (check_assignment cap book assignment ≡ accepted tt) × (unpack_plan cap book assignment plan_slice ≡ accepted plan)
written-assignment-accepted cap book plan s b n m read room is_bytes e =
    let k = (check-iff cap book b read plan m s).0 e in
    let t = keeping-plan-accepted cap book plan b n m read room k.0 is_bytes k.1 k.2 k.3 in
    let same : t.0 ≡ s = result-is (sym t.1 ∙ e) in
    subst (λ (x : Bytes). (check_assignment cap book x ≡ accepted tt) × (unpack_plan cap book x n ≡ accepted plan)) same (t.3, t.4)

-- P7: "Under a cap, the accepted assignments decode to the rule-keeping plans within the cap, and each such plan has one": a plan is what some
-- accepted assignment is unpacked to exactly where it keeps the rules and is within the cap.
pub capped-plans-exact : (cap : Option ℕ) (book plan : Bytes) (b : Book) (plan_slice : ℕ) → read_book book ≡ accepted b
    → plan_length (instance_of b) ≤ plan_slice → T (bytes plan)
    → ((assignment : Bytes) × (check_assignment cap book assignment ≡ accepted tt) × (unpack_plan cap book assignment plan_slice ≡ accepted plan))
    ↔ (T (plan_fits (instance_of b) plan) × T (keeps_rules (instance_of b) (plan_of (instance_of b) plan))
    × T (allows cap (set_count (instance_of b) (plan_of (instance_of b) plan).border)))
capped-plans-exact cap book plan b n read room is_bytes =
    let J = under cap (instance_of b) in (
      (λ a. let r = decoded-plan-accepted cap book a.0 plan b n (variables J) read (omega arith) a.2 in
          let k = (check-iff cap book b read plan (variables J) r.0).0 r.1 in
          (k.1, k.2, k.3)),
      (λ h. let t = keeping-plan-accepted cap book plan b n (variables J) read room (omega arith) is_bytes h.0 h.1 h.2 in
          (t.0, t.3, t.4)),
    )

-- "A plan's assignment claims exactly the sections its runs touch": in an interval, the claim of a segment is 1 exactly where a chain
-- of segments under the plan's borders leads to it from a segment of the train's run.
pub claims-exact : (cap : Option ℕ) (book plan assignment : Bytes) (b : Book) (assignment_slice : ℕ)
    → read_book book ≡ accepted b → check_plan cap book plan assignment_slice ≡ accepted assignment
    → (i : ℕ) → i < (instance_of b).trains → (t : ℕ) → t < (instance_of b).intervals → (s : ℕ) → s < (instance_of b).segments
    → T (assigned assignment (claim_var (instance_of b) i t s))
    ↔ ((u : ℕ) × Memᴰ u (of_run ((plan_of (instance_of b) plan).move i t) (λ r. (instance_of b).path i r))
    × Chain (instance_of b) (plan_of (instance_of b) plan).border u s)
unfolding claims plan_fits claim_var base first_var width
claims-exact cap book plan assignment b n read e i l t h s k =
    let I = instance_of b in
    let J = under cap I in
    let p = plan_of I plan in
    let c = (check-iff cap book b read plan n assignment).0 e in
    let fits = c.1 in
    let row = of_run (p.move i t) (λ r. I.path i r) in
    let same : assigned assignment (claim_var I i t s) ≡ any (λ u. together J p.border u s) row =
    ap (λ (xs : Bytes). assigned xs (claim_var I i t s)) (sym c.4) ∙ assigned-claim J p i l t h s k in
    let in-any = any-iff (λ u. together J p.border u s) row in
    let moves = (simp (and-iff, all-up_to) at fits).1 i l t h in
    let below = run_inside cap book b read i l (p.move i t) (subst T (sym (move_same cap I i (p.move i t))) moves) in (
      (λ on. let w = in-any.0 (rw same at on) in
          (w.0, w.1, chain_same cap I p.border ((together-chain J p.border w.0 s (below w.0 w.1) k).0 w.2))),
      (λ w. rw same
          (in-any.1 (w.0, w.1, (together-chain J p.border w.0 s (below w.0 w.1) k).1 (chain-under cap I p.border w.2)))),
    )

-- ---- Demand 3

-- "an accepted assignment decodes to a plan that keeps the rules": to the plan that the assignment's own variables say (`Codes`), which
-- under a cap is within it. Where the unpacker accepts, that is the plan that it writes,
pub unpacked-plan-keeps : (cap : Option ℕ) (book assignment plan : Bytes) (plan_slice : ℕ) → unpack_plan cap book assignment plan_slice ≡ accepted plan
    → (b : Book) × (read_book book ≡ accepted b) × T (plan_fits (instance_of b) plan)
    × Codes (instance_of b) (assigned assignment) (plan_of (instance_of b) plan) × T (keeps_rules (instance_of b) (plan_of (instance_of b) plan))
    × T (allows cap (set_count (instance_of b) (plan_of (instance_of b) plan).border))
unfolding unpack_plan
unpacked-plan-keeps cap book s plan n e =
    let r = read_of cap book _ plan e in
    let b = r.0 in
    let I = instance_of b in
    let k = (unpack-iff cap book b r.1 s n plan).0 e in
    let sat = ((assignment-iff (under cap I) s).0 k.1).1 in (
      b,
      r.1,
      subst (λ (x : Bytes). T (plan_fits I x)) k.2 (satisfied-fits cap book b r.1 s sat),
      subst (λ (x : Bytes). Codes I (assigned s) (plan_of I x)) k.2 (satisfied-coded cap book b r.1 s sat),
      subst (λ (x : Bytes). T (keeps_rules I (plan_of I x))) k.2 (satisfied-keeps cap book b r.1 s sat),
      subst (λ (x : Bytes). T (allows cap (set_count I (plan_of I x).border))) k.2 (satisfied-within cap book b r.1 s sat),
    )

-- and where the judge accepts, such a plan there is: the unpacker writes it into any slice that is as long, and the plan check accepts it.
pub accepted-assignment-is-plan : (cap : Option ℕ) (book assignment : Bytes) → check_assignment cap book assignment ≡ accepted tt
    → (b : Book) × (read_book book ≡ accepted b) × ((plan : Bytes)
    × ((plan_slice : ℕ) → plan_length (instance_of b) ≤ plan_slice → unpack_plan cap book assignment plan_slice ≡ accepted plan)
    × T (plan_fits (instance_of b) plan)
    × Codes (instance_of b) (assigned assignment) (plan_of (instance_of b) plan) × T (keeps_rules (instance_of b) (plan_of (instance_of b) plan))
    × T (allows cap (set_count (instance_of b) (plan_of (instance_of b) plan).border))
    × ((assignment_slice : ℕ) → variables (under cap (instance_of b)) ≤ assignment_slice
    → (back : Bytes) × (check_plan cap book plan assignment_slice ≡ accepted back)))
unfolding check_assignment
accepted-assignment-is-plan cap book s e =
    let r = read_of cap book _ tt e in
    let b = r.0 in
    let I = instance_of b in
    let good = sym (check-assignment cap book b r.1 s) ∙ e in
    let sat = ((assignment-iff (under cap I) s).0 good).1 in
    let fits = satisfied-fits cap book b r.1 s sat in
    let keeps = satisfied-keeps cap book b r.1 s sat in
    let few = satisfied-within cap book b r.1 s sat in (
      b,
      r.1,
      (
        decode I s,
        (λ n room. (unpack-iff cap book b r.1 s n (decode I s)).1 (room, good, refl)),
        fits,
        satisfied-coded cap book b r.1 s sat,
        keeps,
        few,
        (λ m room. (
          encode (under cap I) (plan_of I (decode I s)),
          (check-iff cap book b r.1 (decode I s) m _).1 (room, fits, keeps, few, refl),
        )),
      ),
    )

-- "an accepted refutation means that every plan for that book breaks one, over every allowed set of borders and every
-- movement": one claim about the whole file, for every list of steps in it. P7: "a refutation accepted under a cap means that no plan within
-- that cap keeps the rules".
pub accepted-refutation-no-plan : (cap : Option ℕ) (book refutation : Bytes) (lent : Lent)
    → check_refutation cap book refutation lent ≡ accepted tt
    → (b : Book) × (read_book book ≡ accepted b)
    × ((p : Plan) → IsPlan (instance_of b) p → T (allows cap (set_count (instance_of b) p.border))
    → (rule : ℕ) × (broken_rule (instance_of b) p ≡ some rule))
unfolding check_refutation
accepted-refutation-no-plan cap book r lent e =
    let k = read_of cap book _ tt e in
    let I = instance_of k.0 in
    let J = under cap I in
    let file = ((check-refutation cap book k.0 k.1 r lent).0 e).1 in (
      k.0,
      k.1,
      λ p moves few. breaks I p (λ keeps.
          refuted lent (variables J) (formula J) r file _ (keeping-satisfies cap book k.0 k.1 p moves keeps few)),
    )
  where
    breaks : (I : Instance) (p : Plan) → (T (keeps_rules I p) → ⊥) → (rule : ℕ) × (broken_rule I p ≡ some rule)
    breaks I p h = go (broken_rule I p) refl
      where
        go : (o : Option ℕ) → broken_rule I p ≡ o → (rule : ℕ) × (broken_rule I p ≡ some rule)
        go none e = absurd (h ((no-broken I p).0 e))
        go (some n) e = (n, e)

-- "so no book ever has both accepted, whichever solvers they come from", whatever slices each was lent; P7: "no book has an assignment and a
-- refutation both accepted under the same cap". Not where the judge accepts,
pub never_both : (cap : Option ℕ) (book assignment refutation : Bytes) (lent : Lent)
    → check_assignment cap book assignment ≡ accepted tt → check_refutation cap book refutation lent ≡ accepted tt → ⊥
unfolding check_assignment
never_both cap book s r lent e f =
    let k = read_of cap book _ tt e in
    let I = under cap (instance_of k.0) in
    refuted lent (variables I) (formula I) r ((check-refutation cap book k.0 k.1 r lent).0 f).1 (assigned s)
    ((assignment-iff I s).0 (sym (check-assignment cap book k.0 k.1 s) ∙ e)).1

-- and not where the unpacker does, which accepts what the judge accepts.
pub unpacked-judged : (cap : Option ℕ) (book assignment plan : Bytes) (plan_slice : ℕ) → unpack_plan cap book assignment plan_slice ≡ accepted plan
    → check_assignment cap book assignment ≡ accepted tt
unfolding unpack_plan
unpacked-judged cap book s plan n e =
    let r = read_of cap book _ plan e in
    check-assignment cap book r.0 r.1 s ∙ ((unpack-iff cap book r.0 r.1 s n plan).0 e).1

pub never-both-unpacked : (cap : Option ℕ) (book assignment plan refutation : Bytes) (plan_slice : ℕ) (lent : Lent)
    → unpack_plan cap book assignment plan_slice ≡ accepted plan → check_refutation cap book refutation lent ≡ accepted tt → ⊥
never-both-unpacked cap book s plan r n lent e f = never_both cap book s r lent (unpacked-judged cap book s plan n e) f

-- "an assignment is accepted exactly when it satisfies that document's formula": by the judge,
pub assignment-exact : (cap : Option ℕ) (book assignment : Bytes) (b : Book) → read_book book ≡ accepted b
    → (check_assignment cap book assignment ≡ accepted tt)
    ↔ (T (assignment_fits (under cap (instance_of b)) assignment) × T (satisfies (assigned assignment) (formula (under cap (instance_of b)))))
assignment-exact cap book s b read =
    let I = under cap (instance_of b) in
    let same = check-assignment cap book b read s in (
      (λ e. (assignment-iff I s).0 (sym same ∙ e)),
      (λ h. same ∙ (assignment-iff I s).1 h),
    )

-- and by the unpacker, "with lent memory as long as document 01 names".
pub unpacking-exact : (cap : Option ℕ) (book assignment : Bytes) (b : Book) (plan_slice : ℕ) → read_book book ≡ accepted b
    → plan_length (instance_of b) ≤ plan_slice
    → ((plan : Bytes) × (unpack_plan cap book assignment plan_slice ≡ accepted plan))
    ↔ (T (assignment_fits (under cap (instance_of b)) assignment) × T (satisfies (assigned assignment) (formula (under cap (instance_of b)))))
unpacking-exact cap book s b n read room =
    let I = instance_of b in
    let judged = assignment-iff (under cap I) s in (
      (λ e. judged.0 ((unpack-iff cap book b read s n e.0).0 e.1).1),
      (λ h. (decode I s, (unpack-iff cap book b read s n (decode I s)).1 (room, judged.1 h, refl))),
    )

-- "a refutation exactly when it is in document 01's frames, literals and hints as laid down there, each of its steps follows the
-- step rule, and exactly one step, the last, is the empty clause"
pub refutation-exact : (cap : Option ℕ) (book refutation : Bytes) (b : Book) (lent : Lent) → read_book book ≡ accepted b
    → T (bytes refutation) → LongEnough (under cap (instance_of b)) refutation lent
    → (check_refutation cap book refutation lent ≡ accepted tt)
    ↔ ((steps : List ProofStep) × IsRefutation (under cap (instance_of b)) refutation steps)
unfolding IsRefutation LongEnough
refutation-exact cap book r b lent read is_bytes long =
    let I = under cap (instance_of b) in
    let exact = file-iff lent (variables I) (formula I) r is_bytes in (
      (λ e. let k = exact.0 ((check-refutation cap book b read r lent).0 e).1 in (k.0, (k.1, k.2, k.3))),
      (λ h. (check-refutation cap book b read r lent).1
          (long.0, exact.1 (h.0, h.1.0, h.1.1, h.1.2, long.1 h.0 h.1.0 h.1.1))),
    )

-- ---- Demand 1, outputs; `Refusals` has its refusals

-- the words that are written
pub formula-output : (cap : Option ℕ) (book : Bytes) (old : List ℤ)
    → Holds (write_formula cap book (length old)) (λ w. w.words) old (formula_output cap book old)
unfolding formula_output words_after overwrite written and_then write_formula formula_written
formula-output cap book old = (
  (λ w e.
      let r = read_of cap book _ w e in
      let k = (write-formula cap book r.0 r.1 (length old) w).0 e in
      (rw (← k.1) k.0, ap (λ v. overwrite old (written (and_then v λ w. accepted w.words))) e)),
  (λ n d e. ap (λ v. overwrite old (written (and_then v λ w. accepted w.words))) e),
)

-- the plan that an assignment is unpacked to
pub plan-output : (cap : Option ℕ) (book assignment old : Bytes)
    → Holds (unpack_plan cap book assignment (length old)) (λ plan. plan) old (plan_output cap book assignment old)
unfolding plan_output overwrite written plan_fits
plan-output cap book s old = (
  (λ plan e.
      let a = unpacked-plan-keeps cap book s plan (length old) e in
      let k = (unpack-iff cap book a.0 a.1 s (length old) plan).0 e in
      let fits = simp (and-iff, eqb-iff) at a.2 in
      (omega (arith, fits.0, k.0), ap (λ v. overwrite old (written v)) e)),
  (λ n d e. ap (λ v. overwrite old (written v)) e),
)

-- the assignment that a plan is written as
pub assignment-output : (cap : Option ℕ) (book plan old : Bytes)
    → Holds (check_plan cap book plan (length old)) (λ assignment. assignment) old (assignment_output cap book plan old)
unfolding assignment_output overwrite written assignment_fits check_plan
assignment-output cap book s old = (
  (λ assignment e.
      let r = read_of cap book _ assignment e in
      let I = under cap (instance_of r.0) in
      let k = (check-iff cap book r.0 r.1 s (length old) assignment).0 e in
      let fits = simp (and-iff, eqb-iff) at (plan-fits cap book r.0 r.1 (plan_of (instance_of r.0) s)) in
      let long : length assignment ≡ variables I = ap (λ (xs : Bytes). length xs) (sym k.4) ∙ fits.0 in
      (omega (arith, long, k.0), ap (λ v. overwrite old (written v)) e)),
  (λ n d e. ap (λ v. overwrite old (written v)) e),
)
