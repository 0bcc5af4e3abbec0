-- `copies::program_copy::copy_bytes` meets its contract. The invariant: what is left to copy from here leaves what the whole copy leaves.
-- Assumes nothing.
use Prim.Native.Nat.{◌+◌, ◌-◌}
use mathlib.Core.Path.{◌≡◌}
use Rattle.effects.specs.Memory.{copied}
use Rattle.copies.proofs.program_copy.copy_bytes.Given as goal

abbrev pub invariant-loop-k : goal.invariant-loop-k
invariant-loop-k l =
    copied l.program (l.count - l.k) (l.to + l.k) (l.from + l.k) l.«data» ≡ copied l.program l.count l.to l.from l.initial.«data»
