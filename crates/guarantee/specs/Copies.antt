-- Request No. 2, sentence by sentence: what a step does where the code is 02, and that it does what it did where it is 03. "demands 2 and 3
-- otherwise stand": no line of Demands changed for it.
use Rattle.std.specs.Prelude.{ℕ, ◌+◌, ◌-◌, ◌≤◌, ◌<◌, ◌≡◌, List, [], ◌∷◌, ◌++◌, length, get_or, take, drop}
use Rattle.basis.specs.Number.{Bytes}
use Rattle.effects.specs.Memory.{operand_of, pushed}
use Rattle.machine.specs.Machine.{Machine, machine, step_of}
use Rattle.machine.specs.Refusals.{Allowed}
use Rattle.machine.specs.declared.Status.TheVariants.{Running}
use Rattle.guarantee.specs.Demands.{with_fault}

-- A step that copies c bytes from b of a source to data a, in a machine that is allowed; the source's range is fault n. The ranges and the
-- pushed sum are whole numbers.
pub record Copies (program : List ℕ) (m : Machine) (source : List ℕ) (n a b c : ℕ) : Type 0 where
  -- the faults and their order: 4 "fewer values than are taken", 6 of the target, then the source's
  pub few : m.state.depth < 3 → step_of program m ≡ with_fault 4 m
  pub target_out : 3 ≤ m.state.depth → length m.mem < a + c → step_of program m ≡ with_fault 6 m
  pub source_out : 3 ≤ m.state.depth → a + c ≤ length m.mem → length source < b + c → step_of program m ≡ with_fault n m
  -- "all source bytes are read before any is written": the data is what stood before a, then the bytes that stood in the source's range, then
  -- what stood behind the range at a; of the three values taken nothing is left but a + c
  pub copies :
      3 ≤ m.state.depth → a + c ≤ length m.mem → b + c ≤ length source
      → step_of program m
      ≡ machine (record { address = m.state.address + 1; depth = m.state.depth - 2; status = Running })
      (take a m.mem ++ take c (drop b source) ++ drop (a + c) m.mem)
      (pushed m.cells (m.state.depth - 3) ((a + c) ∷ []))

-- wherever a code stands at the address of a running machine that is allowed, its step copies; "a is taken first, so it is the top; then b, then c"
abbrev pub CopiesAt : ℕ → (List ℕ → Machine → List ℕ) → ℕ → Type 0
CopiesAt code source_of n =
    (program : List ℕ) (m : Machine) → Bytes program → Allowed program m → m.state.status ≡ Running → m.state.address < length program → get_or program m.state.address 0 ≡ code
    → let arg = operand_of m.cells m.state.depth in Copies program m (source_of program m) n (arg 0) (arg 1) (arg 2)

-- "Overlapping dcopy": 02 copies from the data as it stood before, wherever its ranges lie, and either range is 6.
unfoldable pub CopiesData : Type 0
CopiesData = CopiesAt 0x02 (λ program m. m.mem) 6

-- "pcopy .. stand[s]": 03 copies from the program, whose range is 7.
unfoldable pub CopiesProgram : Type 0
CopiesProgram = CopiesAt 0x03 (λ program m. program) 7
