-- Instructions as numbers.
use Rattle.std.specs.Prelude.{ℕ, Option, Some, None}
use Rattle.basis.specs.Answer.{Answer, given, refused}
use Rattle.decoder.specs.Decode.{Reading}
use Rattle.isa.specs.declared.Instruction.{Instruction}
use Rattle.answers.specs.declared.KhxInstruction.{KhxInstruction}
use Rattle.shapes.specs.declared.row.Row.{Row}
use Rattle.answers.specs.declared.KhxDecoded.{KhxDecoded}
use Rattle.answers.specs.declared.KhxRow.{KhxRow}

-- the instruction with the fields of a host's
abbrev pub instruction_of : KhxInstruction → Instruction
instruction_of i = record {
  code = i.code;
  number = i.number;
  count = i.count;
  flags = i.flags;
  v0 = i.v0;
  v1 = i.v1;
  v2 = i.v2;
  v3 = i.v3;
}

-- and back
abbrev pub instruction_in : Instruction → KhxInstruction
instruction_in i = record {
  code = i.code;
  count = i.count;
  flags = i.flags;
  number = i.number;
  v0 = i.v0;
  v1 = i.v1;
  v2 = i.v2;
  v3 = i.v3;
}

-- every field 0
abbrev pub no_instruction : KhxInstruction
no_instruction = record { code = 0; count = 0; flags = 0; number = 0; v0 = 0; v1 = 0; v2 = 0; v3 = 0 }

-- an instruction and its length; or the refusal's number, all else 0
abbrev pub decoded_in : Answer Reading → KhxDecoded
decoded_in (given r) = record { refusal = 0; length = r.1; instruction = instruction_in r.0 }
decoded_in (refused k) = record { refusal = k; length = 0; instruction = no_instruction }

-- what a reader gives, and the address where it then stands
abbrev pub read_in : Answer Reading × ℕ → KhxDecoded × ℕ
read_in t = (decoded_in t.0, t.1)

-- the row of a first byte; or 2, by which the decoder refuses it, all else 0
abbrev pub row_in : Option Row → KhxRow
row_in (Some r) = record { refusal = 0; length = r.length; taken = r.taken; pushed = r.pushed }
row_in None = record { refusal = 2; length = 0; taken = 0; pushed = 0 }
