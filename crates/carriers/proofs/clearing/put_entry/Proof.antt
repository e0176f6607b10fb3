-- `clearing::put_entry` meets its contract: no entry where no trains meet, else the four bytes. Assumes nothing.
use borrow.Author.Rules.{rules}
use borrow.Author.Tests.{eq-eqb, ne_eqb}
use native.Mathlib.Omega.{arith}
use mathlib.Core.Path.{◌≡◌, refl, sym, ap, ap₂, ◌∙◌, subst}
use mathlib.Core.Bool.{Bool, true, false, not}
use mathlib.Core.List.{[], ◌∷◌}
use Prim.Native.Nat.{ℕ, ◌≤◌, ◌<◌}
use lib.Dec.{T}
use Rattle.spec.specs.Lists.{only}
use Rattle.spec.specs.Instance.{Instance, instance_of}
use Rattle.spec.specs.Plan.{Plan, plan_of, apart_in, rule6}
use Rattle.spec.specs.Carriers.{earliest, lower_train, higher_train, first_pair, first_meeting, entry}
use Rattle.spec.specs.Held.{held}
use Rattle.laws.proofs.Tests.{from-denied}
use Rattle.demands.proofs.Moves.{nodes-inside}
use Rattle.demands.proofs.Pages.{few-intervals}
use Rattle.demands.proofs.Meetings.{earliest-is, earliest-below, earliest-meets}
use Rattle.tables.proofs.Small.{nodes-is, intervals-is}
use Rattle.sections.proofs.Same.{plan-labelled}
use Rattle.carriers.specs.Entries.{entry_if}
use Rattle.carriers.proofs.clearing.put_entry.Statement.{statement}
use Rattle.carriers.proofs.clearing.put_entry.Tie as tie

-- nothing where the rule is kept, and the entry where it is not
module _ (I : Instance) (q : Plan) (n : ℕ) where
  no-entry : rule6 I q ≡ true → entry_if I q n ≡ []
  unfolding entry_if only
  no-entry e = ap (λ (c : Bool). only (not c) (entry n (first_meeting I q))) e

  the-entry : rule6 I q ≡ false → entry_if I q n ≡ entry n (first_meeting I q)
  unfolding entry_if only
  the-entry e = ap (λ (c : Bool). only (not c) (entry n (first_meeting I q))) e

  -- its four bytes
  four : {t i j : ℕ} → t ≡ earliest I q → i ≡ lower_train I q t → j ≡ higher_train I q t i → n ∷ t ∷ i ∷ j ∷ [] ≡ entry n (first_meeting I q)
  unfolding entry first_meeting first_pair
  four e f g =
      let lower = f ∙ ap (lower_train I q) e in
      let higher = g ∙ ap₂ (higher_train I q) e lower in
      λ z. n ∷ e z ∷ lower z ∷ higher z ∷ []

label-sections-requires : tie.Need-label_sections-requires
label-sections-requires c κs =
    let s = c.before.before.before.before.before in
    let p = s.requires.0.counted.passed in
    (p, s.requires.1, omega (arith, nodes-inside _ _ s.requires.2, nodes-is s.args.b p), refl)

-- the labels are there
module _ (c : tie.After-labels-3-1) where
  abbrev start : tie.Start
  start = c.before.before.before.before.before.before.before.before

  abbrev I : Instance
  I = instance_of (held start.args.b)

  abbrev q : Plan
  q = plan_of I start.args.plan.now

  intervals : I.intervals ≡ start.args.b.intervals
  intervals = intervals-is start.args.b start.requires.0.counted.passed

-- trains meet
module _ (c : tie.Else-interval-b) where
  abbrev labelled : tie.After-labels-3-1
  labelled = c.before.before.before

  abbrev found : ℕ
  found = c.earliest_meeting-interval.result

  found-is : found ≡ earliest (I labelled) (q labelled)
  found-is = c.earliest_meeting-interval.ensures

  broken : rule6 (I labelled) (q labelled) ≡ false
  broken =
      sym (earliest-is (I labelled) (q labelled))
      ∙ ne_eqb _ _ (λ e. c.if-interval-b.false (found-is ∙ e ∙ intervals labelled))

  inside : found < (start labelled).args.b.intervals
  inside = omega (arith, found-is, earliest-below (I labelled) (q labelled) (from-denied broken), intervals labelled)

  meeting : T (not (apart_in (I labelled) (q labelled) found))
  meeting =
      subst (λ (t : ℕ). T (not (apart_in (I labelled) (q labelled) t))) (sym found-is)
      (earliest-meets (I labelled) (q labelled) (earliest-below (I labelled) (q labelled) (from-denied broken)))

earliest-meeting-requires : tie.Need-earliest_meeting-interval-requires
earliest-meeting-requires c κs =
    let s = start c in
    (s.requires.0, s.requires.2, plan-labelled s.args.b s.requires.0.counted.passed _ _ refl c.label_sections.ensures)

returns : tie.Need-returns-then-interval-b
returns c =
    let e = c.before.before in
    let l = e.before in
    let none_left = no-entry (I l) (q l) (start l).args.node
    (sym (earliest-is (I l) (q l)) ∙ eq-eqb _ _ (sym e.earliest_meeting-interval.ensures ∙ c.if-interval-b.true ∙ sym (intervals l))) in
    rw none_left (omega arith, refl)

first-pair-requires : tie.Need-first_pair-pair-requires
first-pair-requires c κs =
    let s = start (labelled c.before) in (
      (s.requires.0, s.requires.2, plan-labelled s.args.b s.requires.0.counted.passed _ _ refl (labelled c.before).label_sections.ensures),
      inside c.before,
      meeting c.before,
    )

-- the pair is known
module _ (c : tie.After-first_pair-pair) where
  abbrev else : tie.Else-interval-b
  else = c.before.before

  abbrev args : tie.Start
  args = start (labelled else)

  few : args.args.b.train_count ≤ 8
  few = args.requires.0.counted.passed.packed.counts.trains

returns-2 : tie.Need-returns
returns-2 c =
    let k = c.before.before in
    let f = k.before.before.before.before.before in
    let l = labelled (else f) in
    let e = the-entry (I l) (q l) (args f).args.node (broken (else f)) in
    let w = f.first_pair-pair.ensures in
    let same = four (I l) (q l) (args f).args.node (found-is (else f)) w.0 w.1 in
    rw (e, ← same) k.put_bytes.ensures

pub put_entry_spec : {M : Type 1} → statement M
put_entry_spec =
    tie.close
    (tie.spec
    (λ c. search rules)
    label-sections-requires
    (λ c. search rules)
    earliest-meeting-requires
    returns
    (λ c. search rules)
    first-pair-requires
    (λ c. omega (arith, (args c).requires.3, (args c).requires.0.counted.passed.packed.counts.nodes))
    (λ c. omega (arith, inside (else c), intervals (labelled (else c)), few-intervals (held (args c).args.b) (args c).requires.0.counted.passed.formed))
    (λ c. let w = c.first_pair-pair.ensures in omega (arith, w.2, w.3, few c.before))
    (λ c. let w = c.first_pair-pair.ensures in omega (arith, w.3, few c.before.before))
    (λ c. search rules)
    (λ c κs. let s = args c.before.before.before.before in omega (arith, s.requires.4))
    (λ c. search rules)
    returns-2)
