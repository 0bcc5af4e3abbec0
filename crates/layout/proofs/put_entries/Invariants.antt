-- `layout::put_entries` meets its contract.
-- Assumes nothing.
use Prim.Native.Nat.{◌+◌, ◌*◌, ◌≤◌}
use mathlib.Core.Path.{◌≡◌}
use lib.Seq.{sets}
use lib.ListN.{length, drop}
use Rattle.pack.specs.Format.{entries_bytes}
use Rattle.layout.specs.Layout.{laid, sum_of}
use Rattle.layout.proofs.put_entries.Given as goal

abbrev pub invariant-loop-index : goal.invariant-loop-index
invariant-loop-index l = (l.offset + sum_of (drop l.index l.entries.lengths.now) ≤ 24576) × (length l.room ≡ length l.initial.room) × (sets l.room (2 + 8 * l.index) (entries_bytes (laid l.offset (drop l.index l.entries.tags.now) (drop l.index l.entries.cells.now) (drop l.index l.entries.lengths.now))) ≡ sets l.initial.room 2 (entries_bytes (laid l.first l.entries.tags.now l.entries.cells.now l.entries.lengths.now)))
