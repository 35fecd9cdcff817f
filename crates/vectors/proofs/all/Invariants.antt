-- Each vector leaves fewer bytes.
use Rattle.std.proofs.Common.{length}
use Rattle.vectors.proofs.all.Given as goal

abbrev pub decreases-loop-byte : goal.decreases-loop-byte
decreases-loop-byte g l = length l.left
