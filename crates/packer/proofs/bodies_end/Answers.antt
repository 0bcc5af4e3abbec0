-- `packer::bodies_end` meets its contract.
-- Assumes nothing.
use native.Mathlib.Omega.{arith}
use mathlib.Core.Path.{sym}
use Rattle.pack.proofs.Walks.{passed}
use Rattle.packer.proofs.Lists.{alike-shown, lists-refused, lists-next}
use Rattle.packer.proofs.bodies_end.Goals as goal

pub returns-in-Some : goal.returns-in-Some
returns-in-Some c = let l = c.loop-index in
    let a = c.args.entries.now in
    lists-refused a.tags.now a.cells.now a.lengths.now (alike-shown a.tags.now a.cells.now a.lengths.now a.alike) l.index c.loop-index-test.true
    l.least l.end c.at-e.result _ c.at-e.ensures l.invariant.2 c.in-Some.why c.in-Some.ensures

pub loop-index-preserved : goal.loop-index-preserved
loop-index-preserved c = let l = c.loop-index in
    let a = c.args.entries.now in
    let p = passed l.least 0 c.at-e.result (sym c.in_default.ensures) in
    (omega arith, omega arith, lists-next a.tags.now a.cells.now a.lengths.now (alike-shown a.tags.now a.cells.now a.lengths.now a.alike) l.index c.loop-index-test.true l.least l.end c.at-e.result _ c.at-e.ensures l.invariant.2 c.in_default.ensures)
