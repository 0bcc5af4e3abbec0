-- Every row worked by hand holds, by computation.
-- Assumes nothing.
use mathlib.Core.Path.{refl}
use lib.Count.{ones}
use Rattle.forms.specs.Form.{form_of, code_of, length_of, value_width}
use Rattle.isa.specs.Op.{op_in, op_of}
use Rattle.isa.specs.Shape.{depth_after}
use Rattle.decoder.specs.Decode.{head_of, decode_of}
use Rattle.encoder.specs.Encode.{encode_of, well_formed, values_good, bytes_in}
use Rattle.effects.specs.Act.{do_of, act_of}
use Rattle.machine.specs.Machine.{step_of}
use Rattle.machine.specs.Run.{run_of, outcome_of}
use Rattle.paths.specs.Walk.{walk, turns, turn, lowest, meets, meet}
use Rattle.look.specs.Look.{look_of}
use Rattle.verifier.specs.Verify.{verify_of}
use Rattle.rulings.specs.Rulings.{judged_of, rulings_of}
use Rattle.admission.specs.Numbers.{wild_of, torn_of, damaged_of, lost_of}
use Rattle.admission.specs.Admission.{judge_of, settled, sized_of, opened_of, contents_byte, body_byte, byte_of, closing_of, ended_of, close_of, ask_of}
use Rattle.streams.specs.Told.{told_by}
use Rattle.halving.specs.Halving.{narrowed, rounds_of, reached}
use Rattle.pack.specs.Contents.{entry_at, refusal_of}
use Rattle.pack.specs.Read.{entries_of, held_of, contents_of, read_of}
use Rattle.pack.specs.Find.{find_of}
use Rattle.pack.specs.Lookup.{kept_of, halved_of, lookup_of}
use Rattle.pack.specs.Format.{entry_bytes, pack_of}
use Rattle.packer.specs.Write.{write_of}
use Rattle.worked.specs.Values.{compared, reckoned, shifted, changed, with_byte, with_word}
use Rattle.worked.specs.Memory.{loaded, stored, copied}
use Rattle.worked.specs.Flow.{ordered, led, asked, pushed}
use Rattle.worked.specs.Faults.{past, illegal, unread, cut, few, full, outside, apart}
use Rattle.worked.specs.Walk.{mapped, walked, followed}
use Rattle.worked.specs.Instructions.{read}
use Rattle.worked.specs.Worked.{Operations, Faults, Walks, Values, States, Packs, Downloads, Worked}
use Rattle.worked.proofs.Again.{all-again}

pub operations-hold : Operations
unfolding outcome_of run_of step_of act_of do_of depth_after op_of op_in decode_of head_of length_of form_of code_of value_width ones
operations-hold = (
  all-again compared refl,
  all-again reckoned refl,
  all-again shifted refl,
  all-again changed refl,
  all-again with_byte refl,
  all-again with_word refl,
  all-again loaded refl,
  all-again stored refl,
  all-again copied refl,
  all-again ordered refl,
  all-again led refl,
  all-again asked refl,
  all-again pushed refl,
)

pub faults-hold : Faults
unfolding outcome_of run_of step_of act_of do_of depth_after op_of op_in decode_of head_of length_of form_of code_of value_width ones
faults-hold = (
  all-again past refl,
  all-again illegal refl,
  all-again unread refl,
  all-again cut refl,
  all-again few refl,
  all-again full refl,
  all-again outside refl,
  all-again apart refl,
)

pub walks-hold : Walks
unfolding verify_of walk turns turn lowest meets meet look_of depth_after op_of op_in decode_of head_of length_of form_of code_of value_width ones
walks-hold = (all-again mapped refl, all-again walked refl, all-again followed refl)

pub values-hold : Values
unfolding encode_of well_formed values_good bytes_in decode_of head_of length_of form_of code_of value_width ones
values-hold =
    (all-again read refl, (refl, refl, refl, refl, refl, refl, refl, refl, refl, refl, refl, refl, refl, refl, refl, refl, refl, refl, refl, refl, refl, refl, refl, refl, refl, refl, refl, refl))

pub states-hold : States
unfolding outcome_of run_of step_of act_of do_of depth_after op_of op_in verify_of walk turns turn lowest meets meet look_of decode_of head_of length_of form_of code_of value_width ones
states-hold =
    ((refl, refl, refl, refl, refl, refl, refl, refl, refl, refl), (refl, refl, refl, refl, refl, refl, refl, refl, refl, refl, refl, refl, refl, refl, refl, refl, refl, refl, refl, refl, refl))

pub packs-hold : Packs
unfolding read_of contents_of entries_of entry_at refusal_of find_of lookup_of held_of halved_of kept_of reached narrowed rounds_of write_of pack_of entry_bytes
packs-hold =
    ((refl, refl, refl, refl, refl, refl, refl, refl, refl, refl, refl, refl, refl, refl, refl, refl, refl, refl, refl, refl, refl, refl), (refl, refl, refl, refl, refl, refl, refl, refl, refl, refl, refl, refl, refl, refl, refl, refl, refl, refl, refl, refl, refl, refl, refl, refl, refl, refl), (refl, refl, refl, refl, refl, refl, refl, refl, refl, refl, refl))

pub downloads-hold : Downloads
unfolding rulings_of judged_of told_by close_of ended_of closing_of ask_of damaged_of wild_of torn_of lost_of byte_of contents_byte body_byte sized_of opened_of settled judge_of read_of contents_of entries_of entry_at refusal_of verify_of walk turns turn lowest meets meet look_of depth_after op_of op_in decode_of head_of length_of form_of code_of value_width ones
downloads-hold = (
  ((refl, refl), (refl, refl), (refl, refl), (refl, refl), (refl, refl), (refl, refl), (refl, refl), (refl, refl), (refl, refl), (refl, refl), (refl, refl), (refl, refl), (refl, refl), (refl, refl), (refl, refl), (refl, refl), (refl, refl)),
  (refl, refl, refl, refl),
  ((refl, refl), (refl, refl), (refl, refl), (refl, refl), (refl, refl), (refl, refl), (refl, refl), (refl, refl), (refl, refl), refl, refl, refl),
)

-- every row
pub all-worked : Worked
all-worked = (operations-hold, faults-hold, walks-hold, values-hold, states-hold, packs-hold, downloads-hold)
