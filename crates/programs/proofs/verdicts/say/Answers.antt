-- `verdicts::say`: the line that is stored is that of what the answer tells.
use Rattle.spec.specs.Programs.{accepted_line}
use Rattle.programs.proofs.Lines.{tells-accepted, tells-refused}
use Rattle.programs.proofs.verdicts.say.Goals as goal

pub returns-in-Ok : goal.returns-in-Ok
unfolding accepted_line
returns-in-Ok c = λ v t. tells-accepted v t c.in-Ok.is c.put_bytes.ensures.1 c.put_bytes.ensures.0

pub returns-in-Err : goal.returns-in-Err
returns-in-Err c = λ v t.
    let e = c.put_refusal.ensures in
    tells-refused v t c.in-Err.is e.line e.length e.short
