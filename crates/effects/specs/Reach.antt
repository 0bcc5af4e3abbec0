-- What an operation may reach: the ranges of data and program that it names, and the cells that it pushes into.
use Rattle.std.specs.Prelude.{ℕ, ◌+◌, ◌-◌, ◌≤◌, ◌<◌, ◌≡◌, ◌⊎◌, Bool, true, false, List, length, get_or}
use Rattle.basis.specs.Answer.{Answer, given, refused}
use Rattle.isa.specs.Op.{Op}
use Rattle.isa.specs.Op as op
use Rattle.isa.specs.Shape.{taken_of, pushed_of}
use Rattle.effects.specs.Memory.{operand_of}
use Rattle.effects.specs.Act.{Done}
use Rattle.effects.specs.Effect.{place_of}
use Rattle.effects.specs.declared.Move.{Move}

abbrev pub is_fault : Answer Move → Bool
is_fault (given m) = false
is_fault (refused n) = true

module _ (arg : ℕ → ℕ) where
  -- the data that an operation may write: from this address
  abbrev pub writes_from : Op → ℕ
  writes_from op.Halt = 0
  writes_from op.Discard = 0
  writes_from op.DataCopy = arg 0
  writes_from op.ProgramCopy = arg 0
  writes_from op.Swap = 0
  writes_from (op.Taken r) = 0
  writes_from (op.Given r x) = 0
  writes_from (op.Two p) = 0
  writes_from (op.TwoNumber p x) = 0
  writes_from (op.One s) = 0
  writes_from (op.Load w n x) = 0
  writes_from (op.Store w n x) = place_of arg n x
  writes_from (op.Push vs) = 0
  writes_from op.NoOp = 0

  -- so many bytes
  abbrev pub writes_count : Op → ℕ
  writes_count op.Halt = 0
  writes_count op.Discard = 0
  writes_count op.DataCopy = arg 2
  writes_count op.ProgramCopy = arg 2
  writes_count op.Swap = 0
  writes_count (op.Taken r) = 0
  writes_count (op.Given r x) = 0
  writes_count (op.Two p) = 0
  writes_count (op.TwoNumber p x) = 0
  writes_count (op.One s) = 0
  writes_count (op.Load w n x) = 0
  writes_count (op.Store w n x) = w
  writes_count (op.Push vs) = 0
  writes_count op.NoOp = 0

  -- the data that an operation may read: a load's bytes, "c bytes from data b"; from this address
  abbrev pub reads_from : Op → ℕ
  reads_from op.Halt = 0
  reads_from op.Discard = 0
  reads_from op.DataCopy = arg 1
  reads_from op.ProgramCopy = 0
  reads_from op.Swap = 0
  reads_from (op.Taken r) = 0
  reads_from (op.Given r x) = 0
  reads_from (op.Two p) = 0
  reads_from (op.TwoNumber p x) = 0
  reads_from (op.One s) = 0
  reads_from (op.Load w n x) = place_of arg n x
  reads_from (op.Store w n x) = 0
  reads_from (op.Push vs) = 0
  reads_from op.NoOp = 0

  -- so many bytes
  abbrev pub reads_count : Op → ℕ
  reads_count op.Halt = 0
  reads_count op.Discard = 0
  reads_count op.DataCopy = arg 2
  reads_count op.ProgramCopy = 0
  reads_count op.Swap = 0
  reads_count (op.Taken r) = 0
  reads_count (op.Given r x) = 0
  reads_count (op.Two p) = 0
  reads_count (op.TwoNumber p x) = 0
  reads_count (op.One s) = 0
  reads_count (op.Load w n x) = w
  reads_count (op.Store w n x) = 0
  reads_count (op.Push vs) = 0
  reads_count op.NoOp = 0

  -- the ranges that it reads or writes lie inside their memories, as whole-number sums
  abbrev pub InRange : List ℕ → List ℕ → Op → Type 0
  InRange program mem op.Halt = Unit {0}
  InRange program mem op.Discard = Unit {0}
  InRange program mem op.DataCopy = (arg 0 + arg 2 ≤ length mem) × (arg 1 + arg 2 ≤ length mem)
  InRange program mem op.ProgramCopy = (arg 0 + arg 2 ≤ length mem) × (arg 1 + arg 2 ≤ length program)
  InRange program mem op.Swap = Unit {0}
  InRange program mem (op.Taken r) = Unit {0}
  InRange program mem (op.Given r x) = Unit {0}
  InRange program mem (op.Two p) = Unit {0}
  InRange program mem (op.TwoNumber p x) = Unit {0}
  InRange program mem (op.One s) = Unit {0}
  InRange program mem (op.Load w n x) = place_of arg n x + w ≤ length mem
  InRange program mem (op.Store w n x) = place_of arg n x + w ≤ length mem
  InRange program mem (op.Push vs) = Unit {0}
  InRange program mem op.NoOp = Unit {0}

-- a place outside so many places from another
abbrev pub Out : ℕ → ℕ → ℕ → Type 0
Out q from n = (q < from) ⊎ (from + n ≤ q)

-- what was done reached only there: every access that succeeds lies in range, the rest keeps what it held, no memory grows
-- or shrinks, and "A fault alters only the status"
pub record Framed (program : List ℕ) (o : Op) (depth : ℕ) (mem cells : List ℕ) (d : Done) : Type 0 where
  pub in_range : is_fault d.move ≡ false → InRange (operand_of cells depth) program mem o
  pub fault_keeps : is_fault d.move ≡ true → (d.mem ≡ mem) × (d.cells ≡ cells)
  pub data_length : length d.mem ≡ length mem
  pub cells_length : length d.cells ≡ length cells
  pub data_kept : (q : ℕ) → Out q (writes_from (operand_of cells depth) o) (writes_count (operand_of cells depth) o) → get_or d.mem q 0 ≡ get_or mem q 0
  pub cells_kept : (q : ℕ) → Out q (length cells - (depth - taken_of o + pushed_of o)) (pushed_of o) → get_or d.cells q 0 ≡ get_or cells q 0

-- a place among so many places from another
abbrev pub Among : ℕ → ℕ → ℕ → Type 0
Among q from n = (from ≤ q) × (q < from + n)

-- two memories of one length, with the same bytes in a range
pub record Agree (from n : ℕ) (mem mem' : List ℕ) : Type 0 where
  pub size : length mem ≡ length mem'
  pub bytes : (q : ℕ) → Among q from n → get_or mem q 0 ≡ get_or mem' q 0

-- what was done over two memories is the same: what became of it, all cells and, where it is no fault, the bytes written
pub record Alike (o : Op) (depth : ℕ) (cells : List ℕ) (d e : Done) : Type 0 where
  pub same_move : d.move ≡ e.move
  pub same_cells : d.cells ≡ e.cells
  pub same_bytes :
      is_fault d.move ≡ false → (q : ℕ) → Among q (writes_from (operand_of cells depth) o) (writes_count (operand_of cells depth) o)
      → get_or d.mem q 0 ≡ get_or e.mem q 0
