-- `listing::extend` meets its contract; what is missing falls at each call of itself. The loop's invariant: the tables and the
-- count are those after the paths that go on over the first i successors of the path's last segment. Assumes nothing.
use Prim.Native.Nat.{ℕ, ◌+◌, ◌*◌, ◌/◌, ◌<◌, ◌≤◌, ◌-◌}
use native.Mathlib.Omega.{arith}
use mathlib.Core.Path.{◌≡◌, sym, ap, ◌∙◌, subst}
use mathlib.Core.Bool.{Bool, true, false}
use mathlib.Core.Logic.{◌⊎◌, inl, inr}
use mathlib.Core.List.{List, ◌++◌, map}
use lib.ListN.{length, get_or, length-append}
use lib.Dec.{T}
use borrow.Fn.Kinds.{In}
use borrow.Fn.PlainCycle.{Measures, is, falls, and}
use Rattle.spec.specs.Lists.{up_to, each, one, all, has, last_or}
use Rattle.spec.specs.Book.{segment_of}
use Rattle.listing.specs.Listed.{path_of, successors_by, Covered, extend_by}
use Rattle.laws.proofs.Last.{last-append}
use Rattle.listing.proofs.Lists.{Listed, listed-none, listed-long, listed_next, listed-skip, listed-end}
use Rattle.listing.proofs.Lists.{short, count-one, each-nothing, each-short, onward, onward-taken, onward-left, onward-short}
use Rattle.listing.proofs.Lists.{extend-none, extend-more, path-of, path-size, path-packed}
use Rattle.listing.proofs.Successors.{each-slice, covered-number, covered-width, covered_next}
use Rattle.listing.proofs.extend.Reads as extend
use Rattle.listing.proofs.extend.Kinds as extend-kinds
use Rattle.listing.proofs.+extend.Lts-extend as lts
use Rattle.listing.proofs.+extend.Lts-extend.{then-not-uses, else-not-uses}
use Rattle.listing.proofs.keep.Reads as keep-reads
use Rattle.listing.proofs.last_of.Reads as last-of-reads
use Rattle.listing.proofs.pushed.Reads as pushed-reads
use Rattle.listing.proofs.uses.Reads as uses-reads
use Rattle.frames.proofs.bytes.wide.Reads as wide-reads
use Rattle.listing.proofs.+extend.{statement}
use Rattle.listing.proofs.+extend.Tie.{close}

abbrev μ-extend : Measures 3 extend-kinds.ps ℕ
μ-extend κs a = a.1.1.1.1.1.0

-- what `extend` is given at the measure t, what a call of it asks below t, and the contracts of all that it calls
abbrev extend-at : ℕ → In 3 extend-kinds.ps
extend-at t = and 3 extend-kinds.ps (is 3 extend-kinds.ps μ-extend t) extend.Pre

abbrev extend-below : ℕ → In 3 extend-kinds.ps
extend-below t = and 3 extend-kinds.ps (falls 3 extend-kinds.ps ◌<◌ μ-extend t) extend.Pre

abbrev calls : ℕ → lts.Claims
calls t = (
  keep-reads.Asked,
  keep-reads.Learnt,
  last-of-reads.Asked,
  last-of-reads.Learnt,
  wide-reads.Asked,
  wide-reads.Learnt,
  uses-reads.Asked,
  uses-reads.Learnt,
  pushed-reads.Asked,
  pushed-reads.Learnt,
  extend-below t,
  extend.Post,
)

abbrev invariant-loop : lts.invariant-loop-i
invariant-loop table widths runs₀ count path missing last width base found₀ i₀ runs found i =
    (i ≤ width)
    × Listed count runs₀ (each (up_to i) (λ k. onward table widths (missing - 1) (path_of path) (get_or table (base + k) 0)))
    found runs

abbrev decreases-loop : lts.decreases-loop-i
decreases-loop table widths runs₀ count path missing last width base found₀ i₀ runs found i = width - i

-- ---- nothing is missing: the path is kept

keep-requires : (t : ℕ) → lts.Need-keep-requires (calls t) (extend-at t) extend.Post invariant-loop decreases-loop
keep-requires t c κs = let p = c.requires.1 in (p.1, p.2, p.3, omega arith)

add-result : (t : ℕ) → lts.Need-overflow_add-result (calls t) (extend-at t) extend.Post invariant-loop decreases-loop
add-result t c = omega arith

same_length : (t : ℕ) → lts.Need-shape_of-runs-then-missing-eq0 (calls t) (extend-at t) extend.Post invariant-loop decreases-loop
same_length t c = c.keep.auto.runs

returns : (t : ℕ) → lts.Need-returns-then-missing-eq0 (calls t) (extend-at t) extend.Post invariant-loop decreases-loop
returns t c =
    let k = c.before.before in
    let s = k.before.before.before.before.before.before in
    let a = s.args in
    let e : extend_by a.table.now a.widths.now a.missing (path_of a.path) ≡ one (path_of a.path) =
    rw k.if-missing-eq0.true (extend-none a.table.now a.widths.now (path_of a.path)) in
    (rw e (count-one a.count (path_of a.path) s.requires.1.2), rw e k.keep.ensures)

-- ---- one segment more

last-of-requires : (t : ℕ) → lts.Need-last_of-last-requires (calls t) (extend-at t) extend.Post invariant-loop decreases-loop
last-of-requires t c κs = let p = c.requires.1 in (p.4, omega arith)

-- the tables have the successors of the path's last segment
module _ (t : ℕ) (c : lts.After-last_of-last (calls t) (extend-at t) extend.Post invariant-loop decreases-loop) where
  abbrev start : lts.Start (calls t) (extend-at t) extend.Post invariant-loop decreases-loop
  start = c.before.before.before.before.before

  abbrev last : ℕ
  last = c.last_of-last.result

  covered : Covered start.args.table.now start.args.widths.now last
  covered = subst (λ (d : ℕ). Covered start.args.table.now start.args.widths.now d) (sym c.last_of-last.ensures) start.requires.1.0

shared-slice-read-wide : (t : ℕ) → lts.Need-bounds-widths-last (calls t) (extend-at t) extend.Post invariant-loop decreases-loop
shared-slice-read-wide t c = let k = covered t c.before in omega (arith, covered-number k, k.held.widths_long)

wide-requires : (t : ℕ) → lts.Need-wide-width-requires (calls t) (extend-at t) extend.Post invariant-loop decreases-loop
wide-requires t c κs = tt

mul-base : (t : ℕ) → lts.Need-overflow_mul-base (calls t) (extend-at t) extend.Post invariant-loop decreases-loop
mul-base t c = omega (arith, covered-number (covered t c.before.before))

-- what is known at the loop
module _ (t : ℕ) (c : lts.At-loop-i (calls t) (extend-at t) extend.Post invariant-loop decreases-loop) where
  abbrev known : lts.After-last_of-last (calls t) (extend-at t) extend.Post invariant-loop decreases-loop
  known = c.before.before.before

  abbrev args : lts.Args (calls t) (extend-at t) extend.Post invariant-loop decreases-loop (start t known).lifetimes
  args = (start t known).args

  abbrev path : List ℕ
  path = path_of args.path

  abbrev width : ℕ
  width = c.wide-width.result

  -- the paths over the successor with a number
  abbrev paths : ℕ → List (List ℕ)
  paths k = onward args.table.now args.widths.now (args.missing - 1) path (get_or args.table.now (last t known * 128 + k) 0)

  some : 1 ≤ args.missing
  some = omega arith

  size : args.path.n ≡ length path
  size = path-size path (start t known).requires.1.3

  are-short : (n : ℕ) → T (all short (each (up_to n) paths))
  are-short n =
      each-short paths n
      (λ k _. onward-short args.table.now args.widths.now (args.missing - 1) path (omega (arith, some, size)) _)

  width_is : width ≡ get_or args.widths.now (last t known) 0
  width_is = c.wide-width.ensures.0

  -- the fan of the last segment is in the table
  inside : (last t known < 128) × (width ≤ 128) × (length args.table.now ≡ 16384)
  inside =
      let k = covered t known in
      (covered-number k, omega (arith, width_is, covered-width k), k.held.table_long)

  whole : each (up_to width) paths ≡ extend_by args.table.now args.widths.now args.missing path
  unfolding successors_by
  whole =
      let on = onward args.table.now args.widths.now (args.missing - 1) path in
      ap (λ (n : ℕ). each (up_to n) paths) width_is
      ∙ each-slice on 0 args.table.now (last t known * 128) (get_or args.widths.now (last t known) 0) (omega (arith, inside, width_is))
      ∙ ap (λ (d : ℕ). each (successors_by args.table.now args.widths.now d) on) known.last_of-last.ensures
      ∙ sym (extend-more args.table.now args.widths.now args.missing path some)

  -- at the end the tables and the count are what the contract says
  done : (width ≤ c.loop-i.i) ⊎ (257 ≤ c.loop-i.found)
      → Listed args.count args.runs.now (extend_by args.table.now args.widths.now args.missing path)
      c.loop-i.found c.loop-i.runs
  done h = rw whole at (listed-end paths c.loop-i.invariant.1 (are-short c.loop-i.i) width c.loop-i.invariant.0 h)

loop-holds : (t : ℕ) → lts.Need-loop-i-init (calls t) (extend-at t) extend.Post invariant-loop decreases-loop
loop-holds t c = (omega arith, rw each-nothing (listed-none _ _ (omega arith)))

add_wide : (t : ℕ) → lts.Need-overflow_add-base (calls t) (extend-at t) extend.Post invariant-loop decreases-loop
add_wide t c = omega (arith, inside t c.before.before)

shared-slice-read-wide-2 : (t : ℕ) → lts.Need-bounds-table-base (calls t) (extend-at t) extend.Post invariant-loop decreases-loop
shared-slice-read-wide-2 t c = omega (arith, inside t c.before.before.before)

wide-requires-2 : (t : ℕ) → lts.Need-wide-d-requires (calls t) (extend-at t) extend.Post invariant-loop decreases-loop
wide-requires-2 t c κs = tt

uses-requires : (t : ℕ) → lts.Need-uses-requires (calls t) (extend-at t) extend.Post invariant-loop decreases-loop
uses-requires t c κs = let p = (start t (known t c.before.before.before.before)).requires.1 in omega arith

-- the next segment
module _ (t : ℕ) (c : lts.After-wide-d (calls t) (extend-at t) extend.Post invariant-loop decreases-loop) where
  abbrev looped : lts.At-loop-i (calls t) (extend-at t) extend.Post invariant-loop decreases-loop
  looped = c.before.before.before.before

  abbrev d : ℕ
  d = c.wide-d.result

  next : Covered (args t looped).table.now (args t looped).widths.now d
  next =
      let l = known t looped in
      subst (λ (d : ℕ). Covered (args t looped).table.now (args t looped).widths.now d) (sym c.wide-d.ensures.0)
      (covered_next (covered t l) looped.loop-i.i (omega (arith, width_is t looped, c.loop-i-test.true)))

  -- whether the path has used its segment
  used : (b : Bool) → has (d / 2) (map segment_of (path t looped)) ≡ b
      → has (segment_of (get_or (args t looped).table.now (last t (known t looped) * 128 + looped.loop-i.i) 0))
      (map segment_of (path t looped)) ≡ b
  unfolding segment_of
  used b e = ap (λ (k : ℕ). has (k / 2) (map segment_of (path t looped))) (sym c.wide-d.ensures.0) ∙ e

pushed-requires : (t : ℕ) → lts.Need-pushed-requires (calls t) (extend-at t) extend.Post invariant-loop decreases-loop
pushed-requires t c κs =
    let w = c.before.before.before in
    let l = looped t w in
    let p = (start t (known t l)).requires.1 in
    (p.3, omega (arith, some t l), covered-number (next t w))

sub-extend : (t : ℕ) → lts.Need-overflow_sub-missing (calls t) (extend-at t) extend.Post invariant-loop decreases-loop
sub-extend t c = omega arith

extend-requires : (t : ℕ) → lts.Need-extend-found-requires (calls t) (extend-at t) extend.Post invariant-loop decreases-loop
extend-requires t c κs =
    let w = c.before.before.before.before in
    let l = looped t w in
    let p = (start t (known t l)).requires.1 in
    let ds = path t l ++ one (d t w) in
    let e = c.pushed.ensures in
    let z = length-append (path t l) (one (d t w)) in
    let on : last_or 0 (path_of c.pushed.result) ≡ d t w = rw (path-of ds e) (last-append (path t l) 0 (d t w)) in (
      omega arith,
      (
        subst (λ (d : ℕ). Covered (args t l).table.now (args t l).widths.now d) (sym on) (next t w),
        listed-long l.loop-i.invariant.1 ∙ p.1,
        omega arith,
        path-packed ds e,
        omega (arith, path-size ds e),
        omega (arith, path-size ds e, size t l, some t l),
      ),
    )

add-i : (t : ℕ) → lts.Need-overflow_add-i (calls t) (extend-at t) extend.Post invariant-loop decreases-loop
add-i t c = omega arith

loop-less : (t : ℕ) → lts.Need-loop-i-smaller (calls t) (extend-at t) extend.Post invariant-loop decreases-loop
loop-less t c = omega arith

loop-again : (t : ℕ) → lts.Need-loop-i-preserved (calls t) (extend-at t) extend.Post invariant-loop decreases-loop
loop-again t c =
    let u = c.before in
    let w = u.before in
    let l = looped t w in
    let i = l.loop-i.i in
    let a = args t l in
    let at = get_or a.table.now (last t (known t l) * 128 + i) 0 in
    let more = onward-taken a.table.now a.widths.now (a.missing - 1) (path t l) at in
    let none = onward-left a.table.now a.widths.now (a.missing - 1) (path t l) at in
    let same = ap (λ (k : ℕ). extend_by a.table.now a.widths.now (a.missing - 1) (path t l ++ one k))
    (sym w.wide-d.ensures.0) in (
      omega arith,
      elim c.if-not-uses.branch [
        | then-not-uses v ↦
            let e = more (used t w false (sym u.uses.ensures ∙ v.if-not-uses.true)) ∙ same
            ∙ ap (extend_by a.table.now a.widths.now (a.missing - 1)) (sym (path-of _ v.pushed.ensures)) in
            let k = v.extend-found.ensures in
            rw (v.runs-is, v.found-is)
            (listed_next (paths t l) l.loop-i.invariant.1 (are-short t l i) (rw e (record { counted = k.0; filled = k.1 })))
        | else-not-uses v ↦
            rw (v.runs-is, v.found-is)
            (listed-skip (paths t l) l.loop-i.invariant.1 (are-short t l i)
            (none (used t w true (sym u.uses.ensures ∙ v.if-not-uses.false))))
      ],
    )

same-length-2 : (t : ℕ) → lts.Need-shape_of-runs-else-found-lt-STOP (calls t) (extend-at t) extend.Post invariant-loop decreases-loop
same-length-2 t c = listed-long c.loop-i.invariant.1

returns-2 : (t : ℕ) → lts.Need-returns-else-found-lt-STOP (calls t) (extend-at t) extend.Post invariant-loop decreases-loop
returns-2 t c =
    let l = done t c.before.before (inr c.if-found-lt-STOP.false) in
    (l.counted, l.filled)

same-length-3 : (t : ℕ) → lts.Need-shape_of-runs-after-loop-i (calls t) (extend-at t) extend.Post invariant-loop decreases-loop
same-length-3 t c = listed-long c.loop-i.invariant.1

returns-3 : (t : ℕ) → lts.Need-returns-after-loop-i (calls t) (extend-at t) extend.Post invariant-loop decreases-loop
returns-3 t c = let l = done t c.before (inl c.loop-i-test.false) in (l.counted, l.filled)

pub +extend_spec : {M : Type 1} → statement M
+extend_spec = close μ-extend λ t. lts.spec (calls t)
    (extend-at t)
    extend.Post
    invariant-loop
    decreases-loop
    (keep-requires t)
    (add-result t)
    (same_length t)
    (returns t)
    (last-of-requires t)
    (shared-slice-read-wide t)
    (wide-requires t)
    (mul-base t)
    (loop-holds t)
    (add_wide t)
    (shared-slice-read-wide-2 t)
    (wide-requires-2 t)
    (uses-requires t)
    (pushed-requires t)
    (sub-extend t)
    (extend-requires t)
    (add-i t)
    (loop-less t)
    (loop-again t)
    (same-length-2 t)
    (returns-2 t)
    (same-length-3 t)
    (returns-3 t)
