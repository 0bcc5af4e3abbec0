-- Reports computed: of 01's sample pack, of the same rule with a cell fewer, of the pack of no rules, and of no bytes at all.
-- Assumes nothing.
use Prim.Native.Nat.{ℕ}
use mathlib.Core.Path.{◌≡◌, refl}
use mathlib.Core.List.{List, [], ◌∷◌}
use lib.Count.{ones}
use Rattle.forms.specs.Form.{form_of, code_of, value_width, length_of}
use Rattle.isa.specs.Op.{op_in, op_of}
use Rattle.isa.specs.Shape.{depth_after}
use Rattle.decoder.specs.Decode.{head_of, decode_of}
use Rattle.paths.specs.Walk.{walk, turns, turn, lowest, meets, meet}
use Rattle.look.specs.Look.{look_of}
use Rattle.verifier.specs.Verify.{verify_of}
use Rattle.pack.specs.Contents.{entry_at, refusal_of}
use Rattle.pack.specs.Read.{entries_of, contents_of, read_of}
use Rattle.text.specs.Text.{bytes, digit_of}
use Rattle.verdicts.specs.Line.{decimal_of, refused_of, said_of, line_of, pack_line_of}
use Rattle.rulings.specs.Rulings.{judged_of, rulings_of}
use Rattle.report.specs.Report.{report_of}

-- one rule with tag 7 and the program of M1
abbrev rule_of : ℕ → List ℕ
rule_of cells = 0x01 ∷ 0x00 ∷ 0x07 ∷ 0x00 ∷ cells ∷ 0x00 ∷ 0x0A ∷ 0x00 ∷ 0x04 ∷ 0x00 ∷ 0x85 ∷ 0x83 ∷ 0x15 ∷ 0x00 ∷ []

-- "The pack 01 00 07 00 02 00 0A 00 04 00 85 83 15 00 prints `0007 accepted`"
pub sample-report : report_of (rule_of 2) ≡ bytes "0007 accepted\n"
unfolding report_of rulings_of judged_of line_of said_of digit_of read_of contents_of entries_of entry_at refusal_of verify_of walk turns turn lowest meets meet look_of depth_after op_of op_in decode_of head_of length_of form_of code_of value_width ones
sample-report = refl

-- M3
pub refused-report : report_of (rule_of 1) ≡ bytes "0007 refused 5 at 0001\n"
unfolding report_of rulings_of judged_of line_of said_of refused_of decimal_of digit_of read_of contents_of entries_of entry_at refusal_of verify_of walk turns turn lowest meets meet look_of depth_after op_of op_in decode_of head_of length_of form_of code_of value_width ones
refused-report = refl

pub empty-report : report_of (0 ∷ 0 ∷ []) ≡ []
unfolding report_of rulings_of read_of contents_of entries_of
empty-report = refl

pub cut-report : report_of [] ≡ bytes "pack refused 30\n"
unfolding report_of rulings_of pack_line_of refused_of decimal_of digit_of read_of contents_of
cut-report = refl
