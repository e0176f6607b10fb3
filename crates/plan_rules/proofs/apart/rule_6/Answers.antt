-- There is no earliest interval exactly where the rule is kept.
use Rattle.std.proofs.Common.{sym, ap₂, ◌∙◌}
use lib.Dec.{eqb}
use Rattle.demands.proofs.Meetings.{earliest-is}
use Rattle.tables.proofs.Small.{intervals-is}
use Rattle.plan_rules.proofs.apart.rule_6.Goals as goal

pub returns : goal.returns
returns c = ap₂ eqb c.earliest_meeting.ensures (sym (intervals-is c.args.b c.requires.0.counted.passed)) ∙ earliest-is _ _
