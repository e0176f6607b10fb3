-- `encoding::write_interval` meets its contract: the move's bytes, then the claims by the marks of its run's labels. Assumes nothing.
use native.Mathlib.Omega.{arith}
use mathlib.Core.Path.{◌≡◌, sym, ap, ap₂, ◌∙◌, subst}
use mathlib.Core.List.{map}
use Prim.Native.Nat.{ℕ, ◌+◌, ◌≤◌, ◌<◌}
use lib.ListN.{length, get_or}
use lib.Seq.{sets, length-sets}
use Rattle.spec.specs.Lists.{Bytes, up_to}
use Rattle.spec.specs.Instance.{Instance, instance_of}
use Rattle.spec.specs.Plan.{Plan, bit, plan_of}
use Rattle.spec.specs.Formula as formula
use Rattle.spec.specs.Held.{held}
use Rattle.tables.proofs.Here.{few-trains}
use Rattle.tables.proofs.Small.{segments-is}
use Rattle.plan_rules.specs.Kept.{Planned}
use Rattle.plan_rules.specs.Marks.{stretch_of, is_marked}
use Rattle.plan_rules.proofs.Ready.{move_asks, few-own}
use Rattle.plan_rules.proofs.Sharing.{fits-here}
use Rattle.plan_coding.specs.Encoded.{interval_bytes}
use Rattle.plan_coding.proofs.Blocks.{block-end}
use Rattle.plan_coding.proofs.Claims.{claims-marked, interval-written}
use Rattle.plan_coding.proofs.encoding.write_interval.Statement.{statement}
use Rattle.plan_coding.proofs.encoding.write_interval.Tie as tie

-- the train and its plan
module _ (s : tie.Start) where
  abbrev I : Instance
  I = instance_of (held s.args.b)

  abbrev p : Plan
  p = plan_of I s.args.plan.now

  abbrev train : ℕ
  train = s.args.block.train

  abbrev known : train < s.args.b.train_count
  known = s.requires.1.block.known

  planned : Planned s.args.b train s.args.plan.now
  planned = record { passed = s.requires.0.0.counted.passed; known = known; fits = s.requires.0.1 }

  -- the output has room for the block
  room : s.args.block.base + (s.args.block.runs + 1 + s.args.b.segment_count) ≤ length s.args.out.now
  room = omega (arith, block-end s.requires.1, s.requires.3)

stretch-of-requires : tie.Need-stretch_of-requires
stretch-of-requires c κs =
    let m = c.before.before.before.before in
    let s = m.before.before.before.before.before in (
      few-trains s.args.b s.requires.0.0.counted.passed (train s) (known s),
      s.requires.0.0.long,
      few-own (planned s) m.move_at-m.result s.args.interval s.requires.2 m.move_at-m.ensures,
    )

-- the stretch of the train's run
module _ (c : tie.After-stretch_of) where
  abbrev wrote : tie.After-write_move
  wrote = c.before.before.before

  abbrev asked : tie.After-move_at-m
  asked = wrote.before.before

  abbrev start : tie.Start
  start = asked.before.before.before.before.before

  stretch-is : c.stretch_of.result ≡ stretch_of start.args.runs.now (train start) ((p start).move (train start) start.args.interval)
  stretch-is = c.stretch_of.ensures ∙ ap (stretch_of start.args.runs.now (train start)) asked.move_at-m.ensures

  -- what the move's bytes left, as long as it was
  abbrev half : Bytes
  half = wrote.write_move.new.out

  sized : length half ≡ length start.args.out.now
  sized = ap length wrote.write_move.ensures ∙ simp length-sets

mark-requires : tie.Need-mark-requires
mark-requires c κs =
    let r = c.before in
    let s = start r in
    fits-here _ s.requires.0 s.args.interval s.requires.2 (train s) (known s) (stretch-is r)

write-marked-requires : tie.Need-write_marked-requires
write-marked-requires c κs =
    let f = c.before.before in
    let r = f.before.before.before in
    let s = start r in
    let e = segments-is s.args.b s.requires.0.0.counted.passed in
    let most : s.args.b.segment_count ≤ 64 = s.requires.0.0.counted.passed.packed.counts.segments in (
      omega (arith, s.requires.0.2.long, most),
      (λ k l. omega (arith, s.requires.0.2.below k (subst (λ (n : ℕ). k < n) (sym e) l), e, most)),
      omega (arith, room s, sized r, f.claims_from-claims.ensures),
    )

-- both parts are written
module _ (c : tie.After-write_marked) where
  abbrev f : tie.After-claims_from-claims
  f = c.before.before.before

  abbrev r : tie.After-stretch_of
  r = f.before.before.before

  written : c.write_marked.new.out
      ≡ sets (start r).args.out.now (formula.base (I (start r)) (train (start r)) (start r).args.interval)
      (interval_bytes (I (start r)) (p (start r)) (train (start r)) (start r).args.interval)
  written =
      let s = start r in
      let a = s.args in
      c.write_marked.ensures
      ∙ ap₂ (λ (at : ℕ) (marks : Bytes).
      sets (half r) at (map (λ k. bit (is_marked marks (get_or a.labels.now k 0))) (up_to a.b.segment_count)))
      f.claims_from-claims.ensures
      f.mark.ensures
      ∙ ap₂ (λ (out claims : Bytes). sets out (a.block.base + (a.block.runs + 1)) claims)
      (wrote r).write_move.ensures
      (claims-marked _ s.requires.0 a.interval s.requires.2 (train s) (known s) (stretch-is r))
      ∙ interval-written (I s) (p s) (train s) a.interval a.block.base _ _ a.out.now s.requires.1.block.runs (asked r).move_at-m.ensures
      ∙ ap (λ (at : ℕ). sets a.out.now at (interval_bytes (I s) (p s) (train s) a.interval)) s.requires.1.base

pub write_interval_spec : {M : Type 1} → statement M
write_interval_spec =
    tie.close
    (tie.spec
    (λ c κs. let s = c.before.before.before.before in move_asks (planned s) s.args.interval s.requires.2)
    (λ c κs. omega (arith, room c.before.before.before.before.before.before))
    stretch-of-requires
    mark-requires
    (λ c κs. let s = start c.before.before in omega (arith, room s, s.well_formed))
    write-marked-requires
    (λ c. ap length (written c.before.before) ∙ simp length-sets)
    (λ c. written c.before.before))
