-- `dispatch::upper` meets its contract.
-- Assumes nothing.
use Prim.Native.Nat.{ℕ}
use native.Mathlib.Omega.{arith}
use mathlib.Core.Path.{ap, ◌∙◌}
use Rattle.dispatch.specs.First.{first_of}
use Rattle.dispatch.proofs.First.{act-first}
use Rattle.dispatch.proofs.upper.upper.Goals as goal

pub returns : goal.returns
returns c =
    let a = c.args in
    let q = c.requires in
    let k = a.program.now in
    c.push_by_first.ensures a.«data».now
    ∙ act-first k a.address a.depth a.«data».now a.cells.now q.placed.size q.placed.inside (λ i. omega (arith, c.type_inv.program i))
    ∙ ap (λ (b : ℕ). first_of k a.address a.depth a.«data».now a.cells.now b) q.byte
