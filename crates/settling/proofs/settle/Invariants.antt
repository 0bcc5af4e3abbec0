-- `settling::settle` meets its contract.
-- Assumes nothing.
use Rattle.settling.proofs.Settles.{rest_of}
use Rattle.admission.specs.Admission.{mach, settled}
use Rattle.admission.specs.Fit.{Fit}
use lib.ListN.{length}
use mathlib.Core.Path.{◌≡◌}
use Prim.Native.Nat.{◌-◌}
use Rattle.settling.proofs.settle.Given as goal

abbrev pub invariant-loop-now : goal.invariant-loop-now
invariant-loop-now l = Fit (mach l.now l.contents l.body l.map l.verdicts) × (rest_of (mach l.now l.contents l.body l.map l.verdicts) ≡ settled (mach l.initial.now l.contents l.body l.initial.map l.initial.verdicts)) × (length l.map ≡ length l.initial.map) × (length l.verdicts ≡ length l.initial.verdicts)

abbrev pub decreases-loop-now : goal.decreases-loop-now
decreases-loop-now l = l.now.programs - l.now.judged
