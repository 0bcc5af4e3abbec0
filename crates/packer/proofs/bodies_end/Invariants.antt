-- `packer::bodies_end` meets its contract.
-- Assumes nothing.
use Prim.Native.Nat.{◌+◌, ◌*◌, ◌≤◌}
use mathlib.Core.Path.{◌≡◌}
use lib.ListN.{length, drop}
use Rattle.pack.specs.Contents.{first_of, end_of}
use Rattle.packer.specs.Write.{laid, laid_of}
use Rattle.packer.proofs.bodies_end.Given as goal

abbrev pub invariant-loop-index : goal.invariant-loop-index
invariant-loop-index l = (l.end ≤ first_of (length l.entries.tags.now) + 16384 * l.index) × (l.least ≤ 65536) × (end_of l.least l.end (laid l.end (drop l.index l.entries.tags.now) (drop l.index l.entries.cells.now) (drop l.index l.entries.lengths.now)) ≡ end_of 0 (first_of (length l.entries.tags.now)) (laid_of l.entries.tags.now l.entries.cells.now l.entries.lengths.now))
