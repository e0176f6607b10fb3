-- `content::train_numbers` meets its contract: each number is its field of the payload. Assumes nothing.
use borrow.Author.Rules.{rules}
use mathlib.Core.Path.{refl}
use Rattle.reader.proofs.content.train_numbers.Statement.{statement}
use Rattle.reader.proofs.content.train_numbers.Tie as tie

returns : tie.Need-returns
returns c =
    let a = c.pair.ensures in
    let e = c.pair-2.ensures in
    let d = c.time.ensures.0 in
    record { metres = a.0; speed = e.0; departure = d; metres_fit = a.1; speed_fit = e.1; size = refl; place = refl }

pub train_numbers_spec : {M : Type 1} → statement M
train_numbers_spec =
    tie.close (tie.spec (λ c κs. search rules) (λ c κs. search rules) (λ c κs. search rules) returns)
