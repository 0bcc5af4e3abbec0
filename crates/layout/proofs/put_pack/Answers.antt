-- `layout::put_pack` meets its contract.
-- Assumes nothing.
use native.Mathlib.Omega.{arith}
use mathlib.Core.Path.{sym}
use lib.ListN.{length}
use Rattle.pack.specs.Contents.{first_of}
use Rattle.layout.specs.Layout.{laid_of}
use Rattle.layout.proofs.Lists.{alike-shown, length-laid}
use Rattle.layout.proofs.Puts.{put_three}
use Rattle.layout.proofs.put_pack.Goals as goal

pub returns : goal.returns
returns c = let a = c.args in
    let ts = a.entries.now.tags.now in
    let g = alike-shown ts a.entries.now.cells.now a.entries.now.lengths.now a.entries.now.alike in
    put_three a.room.now c.put_number.new.room c.put_entries.new.room c.put_bytes.new.room a.bodies.now (laid_of ts a.entries.now.cells.now a.entries.now.lengths.now) (length ts)
    (sym (length-laid (first_of (length ts)) ts a.entries.now.cells.now a.entries.now.lengths.now g.cells-like g.lengths-like)) c.put_number.ensures c.put_entries.ensures c.put_bytes.ensures
