-- `pack::bodies_end` meets its contract.
-- Assumes nothing.
use native.Mathlib.Omega.{arith}
use mathlib.Core.Path.{sym}
use Rattle.pack.proofs.Walks.{end_refused, end-next, passed}
use Rattle.pack.proofs.bodies_end.Goals as goal

pub returns-in-Some : goal.returns-in-Some
returns-in-Some c = let l = c.loop-index in
    end_refused c.args.pack.now c.args.n l.index l.least l.end c.read_entry-e.result _ c.loop-index-test.true c.read_entry-e.ensures l.invariant.2 c.in-Some.why c.in-Some.ensures

pub overflow_add-end-in-loop-index : goal.overflow_add-end-in-loop-index
overflow_add-end-in-loop-index c = let l = c.loop-index in
    let p = passed l.least l.end c.read_entry-e.result (sym c.in_default.ensures) in
    omega arith

pub loop-index-preserved : goal.loop-index-preserved
loop-index-preserved c = let l = c.loop-index in
    let p = passed l.least l.end c.read_entry-e.result (sym c.in_default.ensures) in
    (omega arith, omega arith, end-next c.args.pack.now c.args.n l.index l.least l.end c.read_entry-e.result _ c.loop-index-test.true c.read_entry-e.ensures l.invariant.2 c.in_default.ensures)
