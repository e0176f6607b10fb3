-- The variables that still have a value stand on the trail from this place on. Assumes nothing.
use Rattle.propagation.proofs.Opening.{Opening}
use Rattle.propagation.proofs.hints.undo.Given as goal

abbrev pub invariant-loop-v : goal.invariant-loop-v
invariant-loop-v l = Opening l.initial.values l.trail l.set l.values l.v-index
