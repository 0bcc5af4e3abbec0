-- The sizes that the C face promises: rooms that are always enough, none of them a byte too large.
use Rattle.std.specs.Prelude.{ℕ, ◌*◌, ◌≤◌, ◌<◌, ◌≡◌, ◌≢◌, List, length}
use Rattle.basis.specs.Answer.{Answer, given, refused}
use Rattle.decoder.specs.Decode.{decode_of}
use Rattle.isa.specs.declared.Instruction.{Instruction}
use Rattle.encoder.specs.Encode.{encode_of}
use Rattle.listing.specs.Listing.{list_of}
use Rattle.packer.specs.Write.{write_of as write_pack}
use Rattle.report.specs.Report.{write_of as write_report}

-- a room of `most` bytes is enough for whatever a function writes of an A: in it, and in any larger, 25 is never the answer; it is the
-- answer for some A in every smaller one; and what was written is no longer than the room, nor than that
pub record Enough (A : Type 0) (write : A → ℕ → Answer (List ℕ)) (most : ℕ) : Type 0 where
  pub never : (a : A) (room : ℕ) → most ≤ room → write a room ≢ refused 25
  pub needed : (a : A) × ((room : ℕ) → room < most → write a room ≡ refused 25)
  pub within : (a : A) (room : ℕ) (bytes : List ℕ) → write a room ≡ given bytes → (length bytes ≤ room) × (length bytes ≤ most)

-- KHX_INSTRUCTION_MAX: 9 bytes of room are enough for an instruction, and what is read is no longer
unfoldable pub InstructionMax : Type 0
InstructionMax =
    Enough Instruction encode_of 9
    × ((program : List ℕ) (at n : ℕ) (i : Instruction) → decode_of program at ≡ given (i, n) → n ≤ 9)

-- KHX_LIST_MAX: 278,528 bytes of room are enough for a listing; so are 17 for each byte of the program
unfoldable pub ListMax : Type 0
ListMax =
    Enough (List ℕ) list_of 278528
    × ((program : List ℕ) (room : ℕ) → 17 * length program ≤ room → list_of program room ≢ refused 25)

-- what the writer of packs takes
pub record Parts : Type 0 where
  pub tags : List ℕ
  pub cells : List ℕ
  pub lengths : List ℕ
  pub bodies : List ℕ

-- KHX_PACK_MAX: 24,576 bytes of room are enough for a pack
unfoldable pub PackMax : Type 0
PackMax = Enough Parts (λ p room. write_pack p.tags p.cells p.lengths p.bodies room) 24576

-- KHX_REPORT_MAX: 1,536 bytes of room, 24 for each of 64 lines, are enough for the report on any bytes, with a map of any cells
unfoldable pub ReportMax : Type 0
ReportMax = Enough (List ℕ × ℕ) (λ a room. write_report a.0 a.1 room) 1536
