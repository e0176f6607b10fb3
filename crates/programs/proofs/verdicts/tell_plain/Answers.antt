-- `verdicts::tell_plain`: a refusal is said by its number and its detail.
use Rattle.std.proofs.Common.{ap, ap₂, sym, ◌∙◌}
use Rattle.spec.specs.Lists.{refused}
use Rattle.spec.specs.Answers.{told}
use Rattle.programs.proofs.verdicts.tell_plain.Goals as goal

pub returns-in-Ok : goal.returns-in-Ok
returns-in-Ok c = λ v t. c.say_plain.ensures v (sym (ap told c.in-Ok.is) ∙ t)

pub returns-in-Err : goal.returns-in-Err
returns-in-Err c = λ v t. c.say_plain-in-Err.ensures v (ap₂ refused c.number.ensures c.detail.ensures ∙ sym (ap told c.in-Err.is) ∙ t)
