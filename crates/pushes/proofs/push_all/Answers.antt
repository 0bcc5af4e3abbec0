-- `pushes::push_all` meets its contract: what is pushed already, and the values that are left, make all of them.
-- Assumes nothing.
use Prim.Native.Nat.{◌+◌, ◌-◌}
use native.Mathlib.Omega.{arith}
use mathlib.Core.Path.{◌≡◌}
use Rattle.pushes.proofs.Pushed.{bytes-step, push_step}
use Rattle.pushes.proofs.push_all.Goals as goal

pub push_value-place-requires : goal.push_value-place-requires
push_value-place-requires c =
    let l = c.loop-k in
    let left = c.args.count - l.k in
    (omega arith, omega (arith, l.invariant.0, bytes-step left (left - 1) l.rest (omega arith)), omega arith)

pub loop-k-preserved : goal.loop-k-preserved
loop-k-preserved c =
    let l = c.loop-k in
    let a = c.args in
    let left = a.count - l.k in
    let n = a.count - (l.k + 1) in
    let t : a.depth + (l.k + 1) ≡ a.depth + l.k + 1 = omega arith in
    let e = c.push_value-place.ensures in (
      omega (arith, l.invariant.0, e.value, bytes-step left n l.rest (omega arith)),
      rw (e.value, t) (push_step left n l.rest l.place (a.depth + l.k) (omega arith) a.program.now l.cells e.cells_after l.invariant.1),
    )

pub returns-clause-value : goal.returns-clause-value
returns-clause-value c =
    let l = c.loop-k in
    let e : c.args.count - l.k ≡ 0 = omega arith in
    omega (arith, rw e at l.invariant.0)

pub returns-clause-cells_after : goal.returns-clause-cells_after
returns-clause-cells_after c =
    let l = c.loop-k in
    let e : c.args.count - l.k ≡ 0 = omega arith in
    rw e at l.invariant.1
