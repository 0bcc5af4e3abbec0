-- `verifier::walk` meets its contract: the loop keeps what the walk holds, and the count of addresses ahead falls.
-- Assumes nothing.
use mathlib.Core.Path.{◌≡◌}
use lib.ListN.{length}
use Rattle.verifier.proofs.Loops.{to_go, Walking}
use Rattle.verifier.proofs.walk.Given as goal

abbrev pub invariant-loop-due : goal.invariant-loop-due
invariant-loop-due l = Walking l.program l.cells l.map l.pending.words l.due × (length l.map ≡ length l.initial.map)

abbrev pub decreases-loop-due : goal.decreases-loop-due
decreases-loop-due l = to_go l.map l.pending.words l.due
