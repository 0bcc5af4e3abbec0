-- `intake::take_chunk` meets its contract.
-- Assumes nothing.
use Rattle.admission.specs.Admission.{mach, chunk_of}
use Rattle.admission.specs.Fit.{Fit}
use lib.ListN.{length}
use mathlib.Core.Path.{◌≡◌}
use Rattle.intake.proofs.take_chunk.Given as goal

abbrev pub invariant-loop-rest : goal.invariant-loop-rest
invariant-loop-rest l = Fit (mach l.now l.contents l.body l.map l.verdicts) × (chunk_of l.rest (mach l.now l.contents l.body l.map l.verdicts) ≡ chunk_of l.initial.rest (mach l.initial.now l.initial.contents l.initial.body l.initial.map l.initial.verdicts)) × (length l.contents ≡ length l.initial.contents) × (length l.body ≡ length l.initial.body) × (length l.map ≡ length l.initial.map) × (length l.verdicts ≡ length l.initial.verdicts)

abbrev pub decreases-loop-rest : goal.decreases-loop-rest
decreases-loop-rest l = length l.rest
