-- The reader is on its way through the file; what is left of the file gets less. Assumes nothing.
use Rattle.std.proofs.Common.{◌-◌, length}
use Rattle.frames.specs.Framed.{format_of}
use Rattle.reader.proofs.Way.{OnWay}
use Rattle.reader.proofs.reading.read_as.Given as goal

abbrev pub invariant-loop-next : goal.invariant-loop-next
invariant-loop-next l = OnWay (format_of l.format) l.s l.reading

abbrev pub decreases-loop-next : goal.decreases-loop-next
decreases-loop-next l = length l.s - l.reading.at
