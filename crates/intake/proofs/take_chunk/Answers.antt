-- `intake::take_chunk` meets its contract.
-- Assumes nothing.
use Rattle.intake.proofs.Chunks.{chunk-more}
use Rattle.admission.proofs.Fits.{chunk-fit}
use Rattle.admission.specs.Admission.{mach}
use Rattle.admission.specs.Fit.{Fit}
use Rattle.basis.proofs.Stores.{tail}
use lib.ListN.{take}
use mathlib.Core.Path.{sym, subst}
use native.Mathlib.Omega.{arith}
use Rattle.intake.proofs.take_chunk.Goals as goal

pub loop-rest-preserved : goal.loop-rest-preserved
loop-rest-preserved c =
    let l = c.loop-rest in
    let q = c.take_some-taken.ensures.verdicts_after in
    let m = mach l.now l.contents l.body l.map l.verdicts in
    let k = c.take_some-taken.result.count in
    (subst Fit (sym q) (chunk-fit (take k l.rest.now) m l.invariant.0), rw (tail k l.rest.now) (chunk-more l.rest.now k m _ _ q l.invariant.1), omega arith, omega arith, omega arith, omega arith)
