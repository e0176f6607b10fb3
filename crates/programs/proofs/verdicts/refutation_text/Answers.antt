-- `verdicts::refutation_text`: the line is that of what the check answers, in either case.
use Rattle.programs.proofs.verdicts.refutation_text.Goals as goal

pub returns : goal.returns
returns c =
    let e = c.check_refutation.ensures in
    (c.tell_plain.ensures _ e.answer, e.words, e.starts, e.values, e.trail)
