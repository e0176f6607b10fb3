-- `formulas::more_words` ends: a piece takes a word at least where one is left, and leads no further than the words.
use Rattle.std.proofs.Common.{length, arith}
use Rattle.programs.proofs.Texts.{piece-some, piece-le}
use Rattle.cases.proofs.formulas.more_words.Goals as goal

pub loop-from-smaller : goal.loop-from-smaller
loop-from-smaller c =
    let less = c.loop-from-test.true in
    omega (arith, c.put_words-piece.ensures.0, piece-some (length c.loop-from.buf) c.args.words.now c.loop-from.from (omega arith) less, less)

pub loop-from-preserved : goal.loop-from-preserved
loop-from-preserved c = (
  omega (arith, c.put_words-piece.ensures.0, piece-le (length c.loop-from.buf) c.args.words.now c.loop-from.from c.loop-from.invariant.0),
  c.more-digest.ensures,
)
