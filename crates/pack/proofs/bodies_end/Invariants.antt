-- `pack::bodies_end` meets its contract.
-- Assumes nothing.
use Prim.Native.Nat.{◌+◌, ◌-◌, ◌*◌, ◌≤◌}
use mathlib.Core.Path.{◌≡◌}
use Rattle.pack.specs.Contents.{first_of, entries_from, end_of}
use Rattle.pack.proofs.bodies_end.Given as goal

abbrev pub invariant-loop-index : goal.invariant-loop-index
invariant-loop-index l = (l.end ≤ first_of l.n + 16384 * l.index) × (l.least ≤ 65536) × (end_of l.least l.end (entries_from l.pack (2 + 8 * l.index) (l.n - l.index)) ≡ end_of 0 (first_of l.n) (entries_from l.pack 2 l.n))
