-- The two tests in a row are the table of the book's own refusals. Assumes nothing.
use Rattle.std.proofs.Common.{sym, ◌∙◌}
use Rattle.reader.proofs.Ends.{not-of, ends-lacking, ends-over, ends-fine}
use Rattle.reader.proofs.reading.finish.Goals as goal

pub returns-then-not-all_called-clause-answer : goal.returns-then-not-all_called-clause-answer
returns-then-not-all_called-clause-answer c = ends-lacking _ (not-of c.all_called.ensures ∙ simp c.if-not-all_called.true)

pub returns-then-not-few_runs-clause-answer : goal.returns-then-not-few_runs-clause-answer
returns-then-not-few_runs-clause-answer c =
    ends-over _ (not-of c.all_called.ensures ∙ simp c.if-not-all_called.false) (not-of c.few_runs.ensures ∙ simp c.if-not-few_runs.true)

pub returns-clause-answer : goal.returns-clause-answer
returns-clause-answer c =
    rw c.list_trains-counts.ensures.0
    (ends-fine _ c.requires.0 (not-of c.all_called.ensures ∙ simp c.if-not-all_called.false) (not-of c.few_runs.ensures ∙ simp c.if-not-few_runs.false))
