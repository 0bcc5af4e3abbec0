-- `packer::write` meets its contract.
-- Assumes nothing.
use native.Mathlib.Omega.{arith}
use mathlib.Core.Path.{refl, sym, ◌∙◌}
use lib.ListN.{length}
use Rattle.basis.proofs.Stores.{sets-start}
use Rattle.pack.specs.Contents.{first_of}
use Rattle.pack.specs.Format.{pack_of}
use Rattle.packer.specs.Write.{laid_of}
use Rattle.packer.proofs.Lists.{alike-shown, end-sum}
use Rattle.packer.proofs.Writes.{length-written, took, given-write}
use Rattle.packer.proofs.write.Goals as goal

pub put_pack-requires : goal.put_pack-requires
put_pack-requires c = let a = c.in_ok-entries.entries in
    let ts = a.tags.now in
    let cs = a.cells.now in
    let ls = a.lengths.now in
    let bs = c.args.bodies.now in
    let n = length c.args.room.now in
    let g = alike-shown ts cs ls a.alike in
    let t = took ts cs ls bs n _ (given-write ts cs ls bs n _ (sym (c.in_ok-n.ensures bs refl))) in
    let e = end-sum 0 (first_of (length ts)) ts cs ls _ g.cells-like g.lengths-like t.ends in
    (omega (arith, t.small), t.fits)

pub returns-clause-room_after : goal.returns-clause-room_after
returns-clause-room_after c = let a = c.in_ok-entries.entries in
    let ts = a.tags.now in
    let cs = a.cells.now in
    let ls = a.lengths.now in
    let bs = c.args.bodies.now in
    let n = length c.args.room.now in
    let w = given-write ts cs ls bs n _ (sym (c.in_ok-n.ensures bs refl)) in
    let t = took ts cs ls bs n _ w in
    let k = length-written ts cs ls bs n t.lists _ t.ends in
    let p = c.in_ok-entries.ensures in
    rw (← p.0, ← p.1, ← p.2, w) (c.put_pack.ensures ∙ sets-start (pack_of (laid_of ts cs ls) bs) c.args.room.now (omega (arith, k, t.fits)))
