-- `settling::settle` meets its contract.
-- Assumes nothing.
use Rattle.admission.proofs.Fits.{judge-fit}
use Rattle.settling.proofs.Settles.{settle-next, judge-less}
use Rattle.admission.specs.Admission.{mach, settled}
use Rattle.admission.specs.Fit.{Fit}
use mathlib.Core.Path.{refl, sym, subst}
use native.Mathlib.Omega.{arith}
use Rattle.settling.proofs.settle.Goals as goal

pub loop-now-init : goal.loop-now-init
unfolding settled
loop-now-init c = (c.requires, refl, refl, refl)

pub loop-now-smaller : goal.loop-now-smaller
loop-now-smaller c = let l = c.loop-now in let a = c.args in
    judge-less (mach l.now a.contents.now a.body.now l.map l.verdicts) _ c.judge-now.ensures c.loop-now-test.true

pub loop-now-preserved : goal.loop-now-preserved
loop-now-preserved c = let l = c.loop-now in let a = c.args in
    let m = mach l.now a.contents.now a.body.now l.map l.verdicts in
    let e = c.judge-now.ensures in
    (subst Fit (sym e) (judge-fit m l.invariant.0 c.loop-now-test.true), settle-next m _ l.invariant.1 c.loop-now-test.true _ c.number_at.ensures c.if-now-number_at.true _ e, omega arith, omega arith)
