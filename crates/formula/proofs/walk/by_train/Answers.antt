use Rattle.std.proofs.Common.{◌≡◌, ◌∙◌, ap, ap₂, refl, subst, sym, arith, List, get_or, ℕ, ◌≤◌, ◌<◌}
use Rattle.std.specs.declared.ops.Range.{Range}
use lib.IntN.{ℤ}
use Rattle.model.specs.declared.Book.{Book}
use Rattle.spec.specs.Lists.{range, each}
use Rattle.spec.specs.Instance.{Instance, instance_of}
use Rattle.spec.specs.Formula.{base, words_of}
use Rattle.spec.specs.Held.{held}
use Rattle.clauses.proofs.Laws.{passes_same}
use Rattle.clauses.proofs.Turns.{words-each, turn-none, turn, turned}
use Rattle.listing.proofs.Trains.{no_train}
use Rattle.tables.proofs.Small.{trains-is, intervals-is}
use Rattle.tables.proofs.Here.{departs-here, departs-asks}
use Rattle.formula.specs.Families.{Family, B, C, D, E, G, H, from_by, to_by, block_clauses, train_clauses, family_clauses}
use Rattle.formula.proofs.Rest.{passed-rows}
use Rattle.formula.proofs.walk.by_train.Goals as goal

-- a family begins before it ends, and ends by the last interval
within : (f : Family) (d T : ℕ) → d < T → (from_by f d ≤ to_by f d T) × (to_by f d T ≤ T)
within B d T h = (omega arith, omega arith)
within C d T h = (omega arith, omega arith)
within D d T h = (omega arith, omega arith)
within E d T h = (omega arith, omega arith)
within G d T h = (omega arith, omega arith)
within H d T h = (omega arith, omega arith)

-- the same of the range that goes over its intervals
spanned : (f : Family) (d T : ℕ) → d < T → {told s : Range ℕ} → s ≡ told → (told.start ≡ from_by f d) × (told.end ≡ to_by f d T)
    → (s.start ≡ from_by f d) × (s.end ≡ to_by f d T) × (s.start ≤ s.end) × (s.end ≤ T)
spanned f d T h e t = let w = within f d T h in rw e (t.0, t.1, omega arith, omega arith)

-- when a train departs
abbrev departure : Book → ℕ → ℕ
departure b i = (get_or b.trains i no_train).departure

-- the intervals are those of the train's clauses
train-words : (I : Instance) (f : Family) (i : ℕ) {a z d T : ℕ} → a ≡ from_by f d → z ≡ to_by f d T → d ≡ I.departure i → T ≡ I.intervals
    → (each (range a z) λ t. words_of (block_clauses I f i (base I i t))) ≡ words_of (train_clauses I f i)
unfolding train_clauses
train-words I f i e g h k =
    ap₂ (λ (a z : ℕ). each (range a z) λ t. words_of (block_clauses I f i (base I i t))) (e ∙ ap (from_by f) h) (g ∙ ap₂ (to_by f) h k)
    ∙ sym (words-each _ _)

pub span-interval-items-requires : goal.span-interval-items-requires
span-interval-items-requires g c =
    let departs = departs-asks c.args.t.now.book c.args.t.now.runs_ready.counted.passed c.loop-train.train c.loop-train-test.true in
    c.requires.1.1.0 (departure c.args.t.now.book c.loop-train.train) c.args.t.now.book.intervals departs.0 departs.1

pub loop-train-init : goal.loop-train-init
loop-train-init g c = turn-none _ _

pub loop-interval-init : goal.loop-interval-init
loop-interval-init g c =
    let b = c.args.t.now.book in
    let departs = departs-asks b c.args.t.now.runs_ready.counted.passed c.loop-train.train c.loop-train-test.true in
    let d = departure b c.loop-train.train in
    let s = spanned g.family d b.intervals departs.0 c.into_iter-interval-iterator.ensures.into_iter_gives
    (c.requires.1.1.1.0 d b.intervals _ c.span-interval-items.ensures) in
    (refl, omega arith, s.2, turn-none _ _)

pub base-requires : goal.base-requires
base-requires g c =
    let b = c.args.t.now.book in
    let departs = departs-asks b c.args.t.now.runs_ready.counted.passed c.loop-train.train c.loop-train-test.true in
    let d = departure b c.loop-train.train in
    let s = spanned g.family d b.intervals departs.0 c.into_iter-interval-iterator.ensures.into_iter_gives
    (c.requires.1.1.1.0 d b.intervals _ c.span-interval-items.ensures) in
    let below : c.in-Some.interval ≤ b.intervals = omega (arith, c.in-Some.ensures.steps) in
    subst (λ (b : Book). c.in-Some.interval ≤ b.intervals) (sym c.new-part.ensures.0) below

pub clauses-requires : goal.clauses-requires
clauses-requires g c = c.requires.1.1.1.1.0 _ _ _ c.base.ensures.1

pub loop-interval-preserved : goal.loop-interval-preserved
loop-interval-preserved g c =
    let s = c.in-Some.ensures.steps in
    let i = c.loop-interval.invariant in
    let n = c.new-part.ensures in
    let part = c.new-part.result in
    let of-part : ℕ → List ℤ = λ x. words_of (block_clauses (instance_of (held part.book.now)) g.family part.first.train x) in
    let words : Book → ℕ → ℕ → List ℤ = λ b k t. let I = instance_of (held b) in words_of (block_clauses I g.family k (base I k t)) in
    let same = ap of-part c.base.ensures.0 ∙ ap₂ (λ (b : Book) (k : ℕ). words b k c.in-Some.interval) n.0 n.1
    ∙ ap (words c.args.t.now.book c.loop-train.train) s.1.1 in
    let passed = passes_same same (c.requires.1.1.1.1.1 _ _ _ _ c.clauses.ensures) in
    (omega (arith, s), omega (arith, s), omega (arith, s), rw s.1.2 (turn _ _ _ i.1 i.3 passed))

pub loop-train-preserved : goal.loop-train-preserved
loop-train-preserved g c =
    let b = c.args.t.now.book in
    let p = c.args.t.now.runs_ready.counted.passed in
    let train = c.loop-train.train in
    let departs = departs-asks b p train c.loop-train-test.true in
    let d = departure b train in
    let s = spanned g.family d b.intervals departs.0 c.into_iter-interval-iterator.ensures.into_iter_gives
    (c.requires.1.1.1.0 d b.intervals _ c.span-interval-items.ensures) in
    let all = train-words (instance_of (held b)) g.family train s.0 s.1 (departs-here b p train c.loop-train-test.true) (sym (intervals-is b p)) in
    let i = c.loop-interval.invariant in
    turn _ _ _ (omega arith) c.loop-train.invariant (passes_same all (turned _ _ _ _ (omega (arith, c.in-None.ensures.steps)) i.3))

pub returns : goal.returns
unfolding family_clauses
returns g c =
    let trains = trains-is _ c.args.t.now.runs_ready.counted.passed in
    passed-rows _ _ (omega arith) _ c.loop-train.invariant
