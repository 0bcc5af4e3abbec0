-- `report::put_report` meets its contract.
-- Assumes nothing.
use Prim.Native.Nat.{◌+◌, ◌*◌, ◌≤◌}
use mathlib.Core.Path.{◌≡◌}
use lib.ListN.{length}
use Rattle.report.proofs.Reports.{Left}
use Rattle.report.proofs.put_report.Given as goal

abbrev pub invariant-loop-index : goal.invariant-loop-index
invariant-loop-index l = (l.pen.at ≤ l.initial.pen.at + 24 * l.index) × (length l.pen.room.now ≡ length l.initial.pen.room.now) × Left l.pack l.index l.pen l.map l.initial.pen l.initial.map
