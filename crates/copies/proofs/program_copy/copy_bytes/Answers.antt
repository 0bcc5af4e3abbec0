-- `copies::program_copy::copy_bytes` meets its contract: a byte copied leaves the invariant of the loop.
-- Assumes nothing.
use Prim.Native.Nat.{◌+◌, ◌-◌}
use mathlib.Core.Path.{◌≡◌, sym, ◌∙◌}
use native.Mathlib.Omega.{arith}
use Rattle.copies.proofs.Copies.{copied-first}
use Rattle.copies.proofs.program_copy.copy_bytes.Goals as goal

pub loop-k-preserved : goal.loop-k-preserved
loop-k-preserved c =
    let l = c.loop-k in
    let a = c.args in
    let e : a.to + (l.k + 1) ≡ a.to + l.k + 1 = omega arith in
    let f : a.from + (l.k + 1) ≡ a.from + l.k + 1 = omega arith in
    rw (e, f)
    (sym (copied-first a.program.now (a.count - l.k) (a.count - (l.k + 1)) (a.to + l.k) (a.from + l.k) l.«data» (omega arith) (omega arith)) ∙ l.invariant)
