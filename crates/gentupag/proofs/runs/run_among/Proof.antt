-- `gentupag::runs::run_among` meets its contract: the run is not there, or its entry is read. Assumes nothing.
use borrow.Author.Rules.{rules}
use native.Mathlib.Omega.{arith}
use Prim.Native.Nat.{◌<◌}
use Rattle.tables.proofs.Here.{length-here, length-asks}
use Rattle.gentupag.proofs.Shown.{asked-gone, asked-found}
use Rattle.gentupag.proofs.runs.run_among.Statement.{statement}
use Rattle.gentupag.proofs.runs.run_among.Tie as tie

returns : tie.Need-returns-then-n-run
returns c =
    let s = c.before.before.before in
    let p = s.requires in
    asked-gone s.args.b p.0 _ _ p.1 p.2 c.if-n-run.true c.without_run.ensures

-- the run is there
abbrev start : tie.Else-n-run → tie.Start
start c = c.before.before

length-in-segments-requires : tie.Need-length_in_segments-place-requires
length-in-segments-requires c κs =
    let s = start c.before in
    length-asks s.args.b s.requires.0 s.args.train s.requires.1

abbrev among : tie.After-size_of-size → tie.Else-n-run
among c = c.before.before.before

path-of-requires : tie.Need-path_of-path-requires
path-of-requires c κs =
    let e = among c in
    let s = start e in
    let k = s.requires.3 in
    let l : s.args.run < s.args.n = e.if-n-run.false in
    (k.long, omega (arith, k.few, s.requires.2), omega (arith, c.size_of-size.ensures.0, k.most s.args.run (omega (arith, s.requires.2))))

returns-2 : tie.Need-returns
returns-2 c =
    let w = c.before in
    let e = among w in
    let s = start e in
    let p = s.requires in
    let l = length-here s.args.b p.0 s.args.train p.1 w.length_in_segments-place.ensures in
    asked-found s.args.b p.0 _ _ p.1 p.2 p.3 e.if-n-run.false l.0 w.size_of-size.ensures.0 c.path_of-path.ensures

size-of-requires : tie.Need-size_of-size-requires
size-of-requires c κs =
    let e = c.before.before in
    let s = start e in
    (omega (arith, e.if-n-run.false, s.requires.3.few, s.requires.2), s.requires.3.long)

pub run_among_spec : {M : Type 1} → statement M
run_among_spec =
    tie.close
    (tie.spec
    (λ c κs. search rules)
    returns
    (λ c. search rules)
    (λ c. search rules)
    length-in-segments-requires
    size-of-requires
    path-of-requires
    returns-2)
