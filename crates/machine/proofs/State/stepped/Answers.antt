-- `machine::State::stepped` meets its contract.
-- Assumes nothing.
use mathlib.Core.Path.{ap, ◌∙◌}
use Rattle.effects.specs.Act.{Done}
use Rattle.machine.specs.declared.State.{State}
use Rattle.machine.specs.Machine.{machine, landed, step_of}
use Rattle.machine.proofs.State.stepped.Goals as goal

pub returns : goal.returns
unfolding step_of
returns c =
    let s = c.args.self in
    ap (λ (x : State). machine x c.act-made.new.data c.act-made.new.cells) c.moved.ensures
    ∙ ap (λ (x : Done). landed s x) c.act-made.ensures
