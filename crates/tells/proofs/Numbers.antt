-- The numbers that C gets are those of the header, row by row, by computation.
-- Assumes nothing.
use mathlib.Core.Path.{refl}
use lib.Count.{ones}
use Rattle.forms.specs.Form.{form_of, code_of, length_of, value_width}
use Rattle.isa.specs.Op.{op_in, op_of}
use Rattle.isa.specs.Shape.{depth_after, taken_in, pushed_in}
use Rattle.shapes.specs.Shapes.{shape_of}
use Rattle.decoder.specs.Decode.{head_of, decode_of}
use Rattle.effects.specs.Act.{do_of, act_of}
use Rattle.machine.specs.Machine.{step_of}
use Rattle.machine.specs.Run.{run_of, outcome_of}
use Rattle.paths.specs.Walk.{walk, turns, turn, lowest, meets, meet}
use Rattle.look.specs.Look.{look_of}
use Rattle.verifier.specs.Verify.{verify_of}
use Rattle.admission.specs.Numbers.{wild_of, torn_of, damaged_of, lost_of}
use Rattle.admission.specs.Admission.{short_of, admit_of, closing_of, ended_of, close_of, ask_of}
use Rattle.answers.specs.Runs.{status_of}
use Rattle.answers.specs.Admissions.{told_in, start_in, close_in, ask_in, chunk_in}
use Rattle.tells.specs.Numbers.{Numbers}

pub numbers-told : Numbers
unfolding outcome_of run_of step_of act_of do_of depth_after op_of op_in verify_of walk turns turn lowest meets meet look_of decode_of head_of length_of form_of code_of value_width ones status_of shape_of taken_in pushed_in wild_of torn_of damaged_of lost_of short_of admit_of closing_of ended_of close_of ask_of told_in start_in close_in ask_in chunk_in
numbers-told = (
  (refl, refl, refl, refl, refl, refl, refl, refl, refl, refl, refl),
  (refl, refl, refl),
  (refl, refl, refl, refl, refl, refl, refl, refl, refl, refl, refl, refl, refl),
  (refl, refl, refl, refl, refl, refl, refl, refl, refl, refl, refl),
)
