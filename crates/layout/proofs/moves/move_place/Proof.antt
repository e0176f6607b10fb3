-- `moves::move_place` meets its contract: no number in it is large. Assumes nothing.
use borrow.Author.Rules.{rules}
use native.Mathlib.Omega.{arith}
use Prim.Native.Nat.{◌*◌, ◌≤◌}
use Rattle.layout.proofs.Places.{place_is, span_small}
use Rattle.layout.proofs.moves.move_place.Statement.{statement}
use Rattle.layout.proofs.moves.move_place.Tie as tie

mul-result : tie.Need-overflow_mul-result
mul-result c = search rules

-- the trains before it
before : (s : tie.Start) → s.args.train * (s.args.b.intervals * 2) ≤ 1048576
before s = span_small s.args.b s.requires.0 s.args.train s.requires.1

mul-result-2 : tie.Need-overflow_mul-result-2
mul-result-2 c = omega (arith, before c.before)

mul-result-3 : tie.Need-overflow_mul-result-3
mul-result-3 c = search rules

add-result : tie.Need-overflow_add-result
add-result c = let p = c.requires in omega (arith, before c.before, p.2, p.0.packed.numbers.intervals)

add-result-2 : tie.Need-overflow_add-result-2
add-result-2 c =
    let s = c.before.before in
    let p = s.requires in
    omega (arith, before s, p.2, p.0.packed.numbers.intervals, p.0.packed.counts.nodes)

returns : tie.Need-returns
returns c =
    let s = c.before.before in
    place_is s.args.b s.requires.0 s.args.train s.args.interval

pub move_place_spec : {M : Type 1} → statement M
move_place_spec =
    tie.close (tie.spec mul-result mul-result-2 mul-result-3 add-result add-result-2 returns)
