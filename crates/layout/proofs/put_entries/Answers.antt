-- `layout::put_entries` meets its contract.
-- Assumes nothing.
use native.Mathlib.Omega.{arith}
use mathlib.Core.Path.{ap, ◌∙◌}
use Rattle.pack.specs.declared.Entry.{Entry}
use Rattle.layout.proofs.Lists.{alike-shown, sum-next}
use Rattle.layout.proofs.Puts.{entries_next}
use Rattle.layout.proofs.put_entries.Goals as goal

pub loop-index-preserved : goal.loop-index-preserved
loop-index-preserved c = let l = c.loop-index in
    let a = c.args in
    let ts = a.entries.now.tags.now in
    let cs = a.entries.now.cells.now in
    let ls = a.entries.now.lengths.now in
    let g = alike-shown ts cs ls a.entries.now.alike in
    let h = c.loop-index-test.true in
    let length-told = ap (λ (e : Entry). e.length) c.at-e.ensures in
    (omega (arith, length-told, sum-next ts cs ls g l.index h), c.put_entry.auto.room ∙ l.invariant.1, entries_next ts cs ls l.room c.put_entry.new.room _ l.index l.offset c.at-e.result g h c.at-e.ensures c.put_entry.ensures l.invariant.2)
