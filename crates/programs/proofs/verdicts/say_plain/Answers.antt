-- `verdicts::say_plain`: an answer without a result is said as one with an empty result.
use Rattle.spec.specs.Lists.{and_then}
use Rattle.programs.proofs.Lines.{told-plain}
use Rattle.programs.proofs.verdicts.say_plain.Goals as goal

pub returns-in-Ok : goal.returns-in-Ok
unfolding and_then
returns-in-Ok c = λ v t. c.say.ensures _ (told-plain c.in-Ok.is t)

pub returns-in-Err : goal.returns-in-Err
unfolding and_then
returns-in-Err c = λ v t. c.say-in-Err.ensures _ (told-plain c.in-Err.is t)
