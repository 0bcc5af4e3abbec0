-- Every marked example holds, by computation; M9 for any data.
-- Assumes nothing.
use native.Mathlib.Omega.{arith}
use mathlib.Core.Path.{refl}
use lib.Count.{ones}
use lib.ListN.{length}
use borrow.Author.Tests.{le-ltb, lt-leb}
use Rattle.forms.specs.Form.{form_of, code_of, length_of, value_width}
use Rattle.isa.specs.Op.{op_in, op_of}
use Rattle.isa.specs.Shape.{depth_after}
use Rattle.decoder.specs.Decode.{head_of, decode_of}
use Rattle.effects.specs.Act.{do_of, act_of}
use Rattle.machine.specs.Machine.{step_of}
use Rattle.machine.specs.Run.{run_of, outcome_of}
use Rattle.paths.specs.Walk.{walk, turns, turn, lowest, meets, meet}
use Rattle.look.specs.Look.{look_of}
use Rattle.verifier.specs.Verify.{verify_of}
use Rattle.guarantee.specs.Marked.{marked, AllHold, AnyData}

pub all_hold : AllHold marked
unfolding outcome_of run_of step_of act_of do_of depth_after op_of op_in decode_of head_of length_of form_of code_of value_width ones verify_of walk turns turn lowest meets meet look_of
all_hold = (refl, (refl, (refl, (refl, (refl, (refl, (refl, (refl, (refl, (refl, (refl, (refl, (refl, tt)))))))))))))

pub any-data : AnyData
unfolding AnyData outcome_of run_of step_of act_of do_of depth_after op_of op_in decode_of head_of length_of form_of code_of value_width ones
any-data mem c₀ c₁ more h = rw (le-ltb 65535 (length mem) h, lt-leb 65538 (length mem) (omega arith))
