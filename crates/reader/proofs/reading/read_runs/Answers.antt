-- It is `read_as` in the format in force. Assumes nothing.
use Rattle.spec.specs.Read.{read_book}
use Rattle.reader.proofs.reading.read_runs.Goals as goal

pub returns-clause-answer : goal.returns-clause-answer
unfolding read_book
returns-clause-answer c = c.read_as.ensures.answer
