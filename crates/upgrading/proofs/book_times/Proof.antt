-- `upgrading::book_times` meets its contract. Assumes nothing.
use native.Mathlib.Omega.{arith}
use Rattle.upgrading.specs.Widened.{book_times}
use Rattle.reader.proofs.Packing.{trains-counted, calls-counted}
use Rattle.upgrading.proofs.book_times.Statement.{statement}
use Rattle.upgrading.proofs.book_times.Tie as tie

returns : tie.Need-returns
unfolding book_times
returns c =
    let w = c.requires in
    (omega (arith, trains-counted w, calls-counted w), omega (arith, w.counts.trains, w.counts.calls))

pub book_times_spec : {M : Type 1} → statement M
book_times_spec =
    tie.close
    (tie.spec
    (λ c. let w = c.requires.counts in omega (arith, w.trains))
    (λ c. let w = c.requires.counts in omega (arith, w.calls))
    (λ c. let w = c.requires.counts in omega (arith, w.trains, w.calls))
    returns)
