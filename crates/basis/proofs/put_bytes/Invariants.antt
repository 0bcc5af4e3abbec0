-- `basis::put_bytes` meets its contract: what is left to put from here leaves what putting all of it leaves.
-- Assumes nothing.
use Prim.Native.Nat.{◌+◌}
use mathlib.Core.Path.{◌≡◌}
use lib.ListN.{length, drop}
use lib.Seq.{sets}
use Rattle.basis.proofs.put_bytes.Given as goal

abbrev pub invariant-loop-k : goal.invariant-loop-k
invariant-loop-k l = (length l.room ≡ length l.initial.room) × (sets l.room (l.at + l.k) (drop l.k l.bytes) ≡ sets l.initial.room l.at l.bytes)
