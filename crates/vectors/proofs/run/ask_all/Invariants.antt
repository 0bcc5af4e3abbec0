use Rattle.std.proofs.Common.{length}
use Rattle.vectors.proofs.run.ask_all.Given as goal

abbrev pub decreases-loop-kind : goal.decreases-loop-kind
decreases-loop-kind g l = length l.rest
