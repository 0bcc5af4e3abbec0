-- `operands::operands_length` meets its contract.
-- Assumes nothing.
use Prim.Native.Nat.{◌*◌, ◌≤◌}
use mathlib.Core.Path.{◌≡◌}
use lib.ListN.{length, take}
use Rattle.operands.proofs.Shown.{all_of}
use Rattle.operands.proofs.operands_length.Given as goal

abbrev pub invariant-loop-width : goal.invariant-loop-width
invariant-loop-width l = (l.n ≡ length (all_of (take l.width-index l.width-items))) × (l.n ≤ 6 * l.width-index)
