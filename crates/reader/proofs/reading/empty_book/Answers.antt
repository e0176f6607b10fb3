-- Every row of the empty book is its array of zeros. Assumes nothing.
use Rattle.std.proofs.Common.{rules}
use Rattle.spec.specs.Book.{no_book}
use Rattle.spec.specs.Held.{packed, padded}
use Rattle.reader.proofs.reading.empty_book.Goals as goal

pub returns : goal.returns
unfolding packed no_book padded
returns c = search rules
