-- `intake::chunk` meets its contract.
-- Assumes nothing.
use mathlib.Core.Path.{sym, ◌∙◌}
use Rattle.admission.specs.Admission.{mach}
use Rattle.admission.proofs.Tests.{tests-fit}
use Rattle.intake.proofs.chunk.Goals as goal

pub take_chunk-admission-requires : goal.take_chunk-admission-requires
take_chunk-admission-requires c = let a = c.args in tests-fit (mach a.st a.contents.now a.body.now a.map.now a.verdicts.now) (sym c.short.ensures ∙ c.if-short.false) (sym c.damaged.ensures ∙ c.if-damaged.false)
