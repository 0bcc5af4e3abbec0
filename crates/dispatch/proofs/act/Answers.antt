-- `dispatch::act` meets its contract: at the program's end it is fault 1, and else the instruction is told by its first byte.
-- Assumes nothing.
use native.Mathlib.Omega.{arith}
use mathlib.Core.Path.{sym, ◌∙◌}
use Rattle.dispatch.proofs.First.{act-first, act-end}
use Rattle.dispatch.proofs.act.Goals as goal

pub returns-then-program-address : goal.returns-then-program-address
returns-then-program-address c =
    let a = c.args in
    sym (act-end a.program.now a.address a.depth a.«data».now a.cells.now c.requires.0 c.if-program-address.true)

pub returns : goal.returns
returns c =
    let a = c.args in
    c.plain.ensures
    ∙ sym (act-first a.program.now a.address a.depth a.«data».now a.cells.now c.requires.0 c.if-program-address.false (λ i. omega (arith, c.type_inv.program i)))
