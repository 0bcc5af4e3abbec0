-- `arrival::take_byte` meets its contract.
-- Assumes nothing.
use native.Mathlib.Omega.{arith}
use Rattle.admission.proofs.Fits.{learnt-fit}
use Rattle.admission.specs.Admission.{mach}
use Rattle.arrival.proofs.take_byte.Goals as goal

pub settle-requires : goal.settle-requires
settle-requires c = let a = c.args in
    learnt-fit a.byte (mach a.st a.contents.now a.body.now a.map.now a.verdicts.now) c.requires _ _ c.if-k-st.true (let z = c.if-k-ge24576.false in omega arith) c.sized.ensures c.opened-told.ensures
