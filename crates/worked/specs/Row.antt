-- The shapes that rows of many operations share: the operands pushed, the instruction, a halt.
use Rattle.std.specs.Prelude.{ℕ, ◌/◌, ◌%◌, [], ◌∷◌}
use Rattle.machine.specs.Machine.{machine}
use Rattle.machine.specs.Run.{came}
use Rattle.machine.specs.declared.Status.TheVariants.{Halted}
use Rattle.guarantee.specs.Marked.{Example, runs, at}

-- "Operand a is taken first, so it is the top; then b": b is pushed before a, each in two bytes; over two cells that hold 7 and 7 the
-- operation takes both and pushes one value, the lower cell keeps a ("dead cells keep what was last written there")
abbrev pub of_two : ℕ → ℕ → ℕ → ℕ → Example
of_two code a b pushed =
    runs (0xCD ∷ (b % 256) ∷ (b / 256) ∷ (a % 256) ∷ (a / 256) ∷ code ∷ 0x00 ∷ []) [] (7 ∷ 7 ∷ []) (came (machine (at 6 1 Halted) [] (a ∷ pushed ∷ [])) 3)

-- a alone
abbrev pub of_one : ℕ → ℕ → ℕ → Example
of_one code a pushed = runs (0xC4 ∷ (a % 256) ∷ (a / 256) ∷ code ∷ 0x00 ∷ []) [] (7 ∷ []) (came (machine (at 4 1 Halted) [] (pushed ∷ [])) 3)

-- a, and x in one byte of the code
abbrev pub of_byte : ℕ → ℕ → ℕ → ℕ → Example
of_byte code a x pushed = runs (0xC4 ∷ (a % 256) ∷ (a / 256) ∷ code ∷ x ∷ 0x00 ∷ []) [] (7 ∷ []) (came (machine (at 5 1 Halted) [] (pushed ∷ [])) 3)

-- a, and x in two bytes of the code, "low byte first"
abbrev pub of_word : ℕ → ℕ → ℕ → ℕ → Example
of_word code a x pushed =
    runs (0xC4 ∷ (a % 256) ∷ (a / 256) ∷ code ∷ (x % 256) ∷ (x / 256) ∷ 0x00 ∷ []) [] (7 ∷ []) (came (machine (at 6 1 Halted) [] (pushed ∷ [])) 3)
