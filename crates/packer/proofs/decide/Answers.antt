-- `packer::decide` meets its contract.
-- Assumes nothing.
use mathlib.Core.Path.{sym, ap}
use lib.ListN.{length}
use Rattle.basis.specs.Answer.{given}
use Rattle.pack.specs.Contents.{first_of}
use Rattle.pack.proofs.Walks.{end_ge}
use Rattle.packer.specs.Write.{laid_of}
use Rattle.packer.proofs.Lists.{alike-shown, length-laid}
use Rattle.packer.proofs.Writes.{like}
use Rattle.packer.proofs.decide.Goals as goal

pub fit-requires : goal.fit-requires
fit-requires c = let a = c.args.entries.now in
    end_ge 0 (first_of (length a.tags.now)) (laid_of a.tags.now a.cells.now a.lengths.now) _ (sym c.in_ok-end.ensures)

pub returns : goal.returns
returns c = let a = c.args.entries.now in
    let ts = a.tags.now in
    let cs = a.cells.now in
    let ls = a.lengths.now in
    let g = alike-shown ts cs ls a.alike in
    let n = length-laid (first_of (length ts)) ts cs ls g.cells-like g.lengths-like in
    λ b q. rw (like ts cs ls b c.args.room g (given c.in_ok-end.end) (sym c.in_ok-end.ensures)) (c.fit.ensures (laid_of ts cs ls) b (ap first_of n) q)
