-- `intake::take_some` meets its contract.
-- Assumes nothing.
use mathlib.Core.Path.{sym, ◌∙◌}
use Rattle.admission.specs.Admission.{mach}
use Rattle.intake.proofs.Chunks.{some-idle}
use Rattle.intake.proofs.take_some.Goals as goal

pub returns-then-idle-clause-verdicts_after : goal.returns-then-idle-clause-verdicts_after
returns-then-idle-clause-verdicts_after c = let a = c.args in let p = c.requires in
    some-idle a.rest.now (mach a.st a.contents.now a.body.now a.map.now a.verdicts.now) _ p.1 (sym c.idle.ensures ∙ c.if-idle.true) c.pass-admission.ensures
