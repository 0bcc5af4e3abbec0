-- Request No. 5, sentence by sentence: one table says of each first byte its "length, values taken and values pushed", and decoder, step and
-- verifier go by it. "prove that decoder, step and verifier answer as before": no contract of theirs changed for it, and no proposition of Demands.
use Rattle.std.specs.Prelude.{ℕ, ◌+◌, ◌-◌, ◌*◌, ◌/◌, ◌%◌, ◌^◌, ◌≤◌, ◌<◌, ◌≡◌, ◌⊎◌, List, ◌∷◌, Some, None, length, get_or, replicate}
use Rattle.basis.specs.Pick.{pick}
use Rattle.basis.specs.Answer.{given, refused}
use Rattle.basis.specs.Number.{Bytes}
use Rattle.isa.specs.Op.{op_of}
use Rattle.isa.specs.Shape.{taken_of, pushed_of, way_of, depth_after}
use Rattle.decoder.specs.Decode.{Reading, decode_of}
use Rattle.decoder.specs.Refusals.{Inside}
use Rattle.shapes.specs.Shapes.{row, shape_of, numbers_of, shape_rows}
use Rattle.effects.specs.Act.{do_of}
use Rattle.paths.specs.Paths.{Hop, In, bad, leads}
use Rattle.look.specs.Look.{is_nine, on_way, look_of}
use Rattle.machine.specs.Machine.{Machine, landed, step_of}
use Rattle.guarantee.specs.Demands.{with_fault}

-- "for each of the 256 first bytes": three numbers in the table, those of its row
unfoldable pub OneTable : Type 0
OneTable = (length shape_rows ≡ 768) × ((b k : ℕ) → b < 256 → k < 3 → get_or shape_rows (b * 3 + k) 0 ≡ get_or (numbers_of (shape_of b)) k 0)

-- the bytes with which no instruction begins: "5B to 7F are illegal", and of the pushes of values those in which not all "Flags of absent
-- values" are 0
pub data IsIllegal (b : ℕ) : Type 0 where
  unused : 0x5B ≤ b → b < 0x80 → IsIllegal b
  absent : 0xC0 ≤ b → 2 ^ (b % 4 + 1) ≤ b / 4 % 16 → IsIllegal b

-- "Illegal bytes have a row of their own kind": these and no others; where one stands no instruction is read, in any program, and with every
-- other byte an instruction begins
unfoldable pub IllegalsApart : Type 0
IllegalsApart =
    (b : ℕ) → b < 256
    → (shape_of b ≡ None → IsIllegal b)
    × (IsIllegal b → shape_of b ≡ None)
    × (shape_of b ≡ None → (program : List ℕ) (a : ℕ) → Inside program a b → decode_of program a ≡ refused 2)
    × ((shape_of b ≡ None → ⊥) → (r : Reading) × (decode_of (b ∷ replicate 8 0) 0 ≡ given r))

-- rows worked by hand, one of each family at least: length, taken, pushed; a call pushes its return address, and what a function itself would
-- take or push is no part of its code's row
unfoldable pub ByHand : Type 0
ByHand =
    -- halt, discard, dcopy, pcopy, swap
    (shape_of 0x00 ≡ Some (row 1 0 0)) × (shape_of 0x01 ≡ Some (row 1 1 0)) × (shape_of 0x02 ≡ Some (row 1 3 1)) × (shape_of 0x03 ≡ Some (row 1 3 1)) × (shape_of 0x04 ≡ Some (row 1 2 2))
    -- call, jump, jump-if, syscall, extcall; eq, add, shr, inc
    × (shape_of 0x05 ≡ Some (row 1 1 1)) × (shape_of 0x06 ≡ Some (row 1 1 0)) × (shape_of 0x07 ≡ Some (row 1 2 0)) × (shape_of 0x09 ≡ Some (row 1 1 0)) × (shape_of 0x0A ≡ Some (row 1 1 0))
    × (shape_of 0x0B ≡ Some (row 1 2 1)) × (shape_of 0x14 ≡ Some (row 1 2 1)) × (shape_of 0x18 ≡ Some (row 1 2 1)) × (shape_of 0x19 ≡ Some (row 1 1 1))
    -- loads and stores at a, at a+b
    × (shape_of 0x1D ≡ Some (row 1 1 1)) × (shape_of 0x20 ≡ Some (row 1 2 1)) × (shape_of 0x21 ≡ Some (row 1 2 1)) × (shape_of 0x24 ≡ Some (row 1 3 1))
    -- with a number of one byte: eq, shr, loads, stores, call, jump, jump-if-not, syscall, extcall
    × (shape_of 0x25 ≡ Some (row 2 1 1)) × (shape_of 0x32 ≡ Some (row 2 1 1)) × (shape_of 0x33 ≡ Some (row 2 0 1)) × (shape_of 0x36 ≡ Some (row 2 1 1)) × (shape_of 0x37 ≡ Some (row 2 1 1))
    × (shape_of 0x3A ≡ Some (row 2 2 1)) × (shape_of 0x3B ≡ Some (row 2 0 1)) × (shape_of 0x3C ≡ Some (row 2 0 0)) × (shape_of 0x3E ≡ Some (row 2 1 0)) × (shape_of 0x3F ≡ Some (row 2 0 0)) × (shape_of 0x40 ≡ Some (row 2 0 0))
    -- with a number of two bytes: eq, load, store, call, syscall, extcall
    × (shape_of 0x41 ≡ Some (row 3 1 1)) × (shape_of 0x4D ≡ Some (row 3 0 1)) × (shape_of 0x54 ≡ Some (row 3 2 1)) × (shape_of 0x55 ≡ Some (row 3 0 1)) × (shape_of 0x59 ≡ Some (row 3 0 0)) × (shape_of 0x5A ≡ Some (row 3 0 0))
    -- pushes: of six bits; of one value, of two with the second wide, of four all wide
    × (shape_of 0x80 ≡ Some (row 1 0 1)) × (shape_of 0xC0 ≡ Some (row 2 0 1)) × (shape_of 0xC9 ≡ Some (row 4 0 2)) × (shape_of 0xFF ≡ Some (row 9 0 4))

-- what a host may count on
unfoldable pub SmallRows : Type 0
SmallRows = (b l t p : ℕ) → b < 256 → shape_of b ≡ Some (row l t p) → (1 ≤ l) × (l ≤ 9) × (t ≤ 3) × (p ≤ 4)

-- a shift whose second byte is over 15, which the table does not know of: the decoder's second 2
pub record Over (program : List ℕ) (a : ℕ) : Type 0 where
  pub shift : (get_or program a 0 ≡ 0x31) ⊎ (get_or program a 0 ≡ 0x32)
  pub wide : 16 ≤ get_or program (a + 1) 0

-- an instruction of length l that stands at a is there whole, and can be read
pub record Whole (program : List ℕ) (a l : ℕ) : Type 0 where
  pub fits : a + l ≤ length program
  pub fine : Over program a → ⊥

-- decoder: 3, 2, or an instruction of the row's length that takes and pushes what the row says
pub record Decodes (program : List ℕ) (a l t p : ℕ) : Type 0 where
  pub cut : length program < a + l → decode_of program a ≡ refused 3
  pub over : a + l ≤ length program → Over program a → decode_of program a ≡ refused 2
  pub read : Whole program a l → (r : Reading) × (decode_of program a ≡ given r) × (r.1 ≡ l) × (taken_of (op_of r.0) ≡ t) × (pushed_of (op_of r.0) ≡ p)

unfoldable pub DecoderByRow : Type 0
DecoderByRow = (program : List ℕ) (a b l t p : ℕ) → Bytes program → Inside program a b → shape_of b ≡ Some (row l t p) → Decodes program a l t p

-- step, of a running machine: faults by the row; else the operation that was read, which takes and pushes what the row says, with the next
-- instruction behind the row's length; and the depth afterwards by the row, if it is not at fault by 6, 7 or 8
pub record Steps (program : List ℕ) (m : Machine) (l t p : ℕ) : Type 0 where
  pub cut : length program < m.state.address + l → step_of program m ≡ with_fault 3 m
  pub over : m.state.address + l ≤ length program → Over program m.state.address → step_of program m ≡ with_fault 2 m
  pub few : Whole program m.state.address l → m.state.depth < t → step_of program m ≡ with_fault 4 m
  pub many : Whole program m.state.address l → t ≤ m.state.depth → length m.cells < m.state.depth - t + p → step_of program m ≡ with_fault 5 m
  pub does :
      (r : Reading) → decode_of program m.state.address ≡ given r
      → (taken_of (op_of r.0) ≡ t) × (pushed_of (op_of r.0) ≡ p)
      × (step_of program m ≡ landed m.state (do_of program (m.state.address + l) (op_of r.0) m.state.depth m.mem m.cells))
  pub depth :
      Whole program m.state.address l → t ≤ m.state.depth → m.state.depth - t + p ≤ length m.cells
      → ((n : ℕ) × (6 ≤ n) × (n ≤ 8) × (step_of program m ≡ with_fault n m)) ⊎ ((step_of program m).state.depth ≡ m.state.depth - t + p)

unfoldable pub StepByRow : Type 0
StepByRow =
    (program : List ℕ) (m : Machine) (b : ℕ) → Bytes program → Inside program m.state.address b
    → (shape_of b ≡ None → step_of program m ≡ with_fault 2 m) × ((l t p : ℕ) → shape_of b ≡ Some (row l t p) → Steps program m l t p)

-- verifier: refusals by the row, "then 9, 4, 5, 8"; where the way of what was read leads, with the next instruction behind the row's length; and
-- every successor's depth by the row
pub record Looks (program : List ℕ) (cells a d l t p : ℕ) : Type 0 where
  pub cut : length program < a + l → look_of program cells a d ≡ bad 3
  pub over : a + l ≤ length program → Over program a → look_of program cells a d ≡ bad 2
  pub few : (r : Reading) → decode_of program a ≡ given r → d < t → look_of program cells a d ≡ pick (is_nine (way_of (op_of r.0))) (bad 9) (bad 4)
  pub many : (r : Reading) → decode_of program a ≡ given r → t ≤ d → cells < d - t + p → look_of program cells a d ≡ pick (is_nine (way_of (op_of r.0))) (bad 9) (bad 5)
  pub way : (r : Reading) → decode_of program a ≡ given r → look_of program cells a d ≡ on_way (a + l) (way_of (op_of r.0)) (depth_after cells d t p)
  pub depths : (hs : List Hop) (b e : ℕ) → look_of program cells a d ≡ leads hs → In b e hs → (t ≤ d) × (e ≡ d - t + p) × (e ≤ cells)

unfoldable pub VerifierByRow : Type 0
VerifierByRow =
    (program : List ℕ) (cells a b d : ℕ) → Bytes program → Inside program a b
    → (shape_of b ≡ None → look_of program cells a d ≡ bad 2) × ((l t p : ℕ) → shape_of b ≡ Some (row l t p) → Looks program cells a d l t p)
