use Rattle.std.proofs.Common.{◌≡◌, ◌∙◌, ap, ap₂, arith, Bool, ℕ, ◌+◌, ◌∷◌, ◌++◌, map}
use Rattle.spec.specs.Lists.{up_to, each, only, one}
use Rattle.spec.specs.Instance.{Instance, instance_of}
use Rattle.spec.specs.Formula.{is, not', words_of, clauses_e, clause_e, followers_e}
use Rattle.spec.specs.Held.{held}
use Rattle.clauses.proofs.Laws.{passes_same}
use Rattle.clauses.proofs.Turns.{words_row, turn-none, turn, turned}
use Rattle.listing.specs.Listed.{place_at}
use Rattle.tables.proofs.Answers.{leave-asks, leaves-answer}
use Rattle.tables.proofs.Held.{ending-n}
use Rattle.tables.proofs.Small.{width_is}
use Rattle.formula.proofs.Chain.{follows-chained}
use Rattle.formula.proofs.Rest.{passes-both}
use Rattle.formula.proofs.families.clauses_e.Goals as goal

-- the clause of a run, by its answers
clause-same : (I : Instance) (i x y r : ℕ) {n : ℕ} {leaves : Bool} → n ≡ I.runs i → leaves ≡ I.leaves i r
    → words_of (one (not' (x + r) ∷ ((each (up_to n) λ q. only (I.follows i r q) (one (is (y + q)))) ++ only leaves (one (is (y + n))))))
    ≡ words_of (one (clause_e I i x y r))
unfolding clause_e followers_e
clause-same I i x y r e l =
    ap₂ (λ (k : ℕ) (t : Bool). words_of (one (not' (x + r)
    ∷ ((each (up_to k) λ q. only (I.follows i r q) (one (is (y + q)))) ++ only t (one (is (y + k))))))) e l

pub loop-r-init : goal.loop-r-init
loop-r-init c = turn-none _ _

pub may_leave-leaves-requires : goal.may_leave-leaves-requires
may_leave-leaves-requires c =
    let h = c.requires.0 in
    let place = leave-asks _ _ c.loop-r.r h.length c.requires.1 (rw h.runs at c.loop-r-test.true) h.passed h.known c.end_of.ensures in
    (h.passed, c.goal-to.ensures, place.0, place.1, place.2)

pub clause_e-requires : goal.clause_e-requires
clause_e-requires c =
    let b = c.args.b.now in
    let t = c.args.t in
    let h = c.requires.0 in
    let r = c.loop-r.r in
    let segments = h.passed.packed.counts.segments in (
      omega arith,
      omega arith,
      c.loop-r-test.true,
      omega arith,
      ((instance_of (held b)).follows t.train r, follows-chained c.requires.2 h.runs r (rw h.runs at c.loop-r-test.true)),
    )

pub loop-r-preserved : goal.loop-r-preserved
loop-r-preserved c =
    let t = c.args.t in
    let h = c.requires.0 in
    let r = c.loop-r.r in
    let place = ap (λ (a : ℕ). place_at c.args.runs.now a t.length) c.end_of.ensures
    ∙ ending-n c.requires.1 _ h.runs _ h.length r c.loop-r-test.true in
    let leaves = leaves-answer _ _ r h.length place c.may_leave-leaves.ensures in
    let chained = follows-chained c.requires.2 h.runs r (rw h.runs at c.loop-r-test.true) in
    turn _ _ _ (omega arith) c.loop-r.invariant
    (passes_same (clause-same (instance_of (held c.args.b.now)) t.train t.base c.next_interval-after.result r h.runs leaves)
    (c.clause_e.ensures _ chained))

pub returns : goal.returns
unfolding clauses_e
returns c =
    let b = c.args.b.now in
    let t = c.args.t in
    let h = c.requires.0 in
    let I = instance_of (held b) in
    let after = c.next_interval-after.ensures ∙ ap (λ (n : ℕ). t.base + n) (width_is b h.passed t.train _ h.runs) in
    let row = words_row (clause_e I t.train t.base c.next_interval-after.result) t.runs
    ∙ ap₂ (λ (y n : ℕ). words_of (map (clause_e I t.train t.base y) (up_to n))) after h.runs in
    let gone = ap₂ (λ (x y : ℕ). words_of (one (not' x ∷ one (is y))))
    (c.gone_variable.ensures ∙ ap (λ (n : ℕ). t.base + n) h.runs) (c.gone_variable-2.ensures ∙ ap₂ (λ (y n : ℕ). y + n) after h.runs) in
    passes-both _ _ (passes_same row (turned _ _ _ _ (omega arith) c.loop-r.invariant)) (passes_same gone c.implies.ensures)
