-- A plan's moves as the code holds them. Assumes nothing.
use Rattle.spec.specs.Plan as plan
use Rattle.layout.specs.declared.moves.Move.{Move}
use Rattle.layout.specs.declared.moves.Move.TheVariants.{Run, Absent, Gone}

-- the move that the enum holds
abbrev pub held_move : Move → plan.Move
held_move (Run r) = plan.run r
held_move Absent = plan.absent
held_move Gone = plan.gone
