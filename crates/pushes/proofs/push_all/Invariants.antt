-- `pushes::push_all` meets its contract: what is pushed already, and the values that are left, make all of them.
-- Assumes nothing.
use Prim.Native.Nat.{◌+◌, ◌-◌}
use mathlib.Core.Path.{◌≡◌}
use Rattle.effects.specs.Memory.{pushed}
use Rattle.pushes.specs.Values.{values_from, bytes_in}
use Rattle.pushes.proofs.push_all.Given as goal

abbrev pub invariant-loop-k : goal.invariant-loop-k
invariant-loop-k l =
    let left = l.count - l.k in
    (l.place + bytes_in left l.rest ≡ l.at + bytes_in l.count l.flags)
    × (pushed l.cells (l.depth + l.k) (values_from left l.rest l.program l.place) ≡ pushed l.initial.cells l.depth (values_from l.count l.flags l.program l.at))
