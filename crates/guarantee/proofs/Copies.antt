-- A step at 02 and at 03 copies: the instruction is told by its first byte, and its operation by the laws of `copies`.
-- Assumes nothing.
use Prim.Native.Nat.{ℕ, ◌+◌, ◌-◌, ◌%◌, ◌≤◌, ◌<◌}
use native.Mathlib.Omega.{arith}
use mathlib.Core.Path.{◌≡◌, refl, sym, ap, ◌∙◌}
use mathlib.Core.List.{List, ◌++◌}
use lib.ListN.{length, get_or, take, drop, length-drop}
use lib.Seq.{sets-eq, length-take-le}
use borrow.Author.Tests.{le-leb, lt-leb}
use Rattle.basis.specs.Number.{Bytes}
use Rattle.forms.specs.Form.{form_of, code_of}
use Rattle.isa.specs.Op.{Op, DataCopy, ProgramCopy, op_in}
use Rattle.isa.specs.Shape.{taken_of}
use Rattle.effects.specs.Memory.{operand_of, copied}
use Rattle.effects.specs.Act.{Done, do_of, act_of}
use Rattle.effects.proofs.Opens.{few}
use Rattle.dispatch.specs.First.{first_of}
use Rattle.dispatch.proofs.First.{act-first}
use Rattle.copies.proofs.Copies as laws
use Rattle.machine.specs.Machine.{Machine, landed, step_of}
use Rattle.machine.specs.Refusals.{Allowed}
use Rattle.guarantee.specs.Copies.{Copies, CopiesData, CopiesProgram}

-- the data after a copy, in three parts
laid : (source mem : List ℕ) (a b c : ℕ) → a + c ≤ length mem → b + c ≤ length source → copied source c a b mem ≡ take a mem ++ take c (drop b source) ++ drop (a + c) mem
laid source mem a b c k l =
    let e : length (take c (drop b source)) ≡ c = length-take-le c (drop b source) (omega (arith, length-drop b source)) in
    sets-eq (take c (drop b source)) mem a (omega arith) ∙ ap (λ (n : ℕ). take a mem ++ take c (drop b source) ++ drop (a + n) mem) e

module _ (program : List ℕ) (m : Machine) (allowed : Allowed program m) (o : Op) (source : List ℕ) (n : ℕ) where
  abbrev depth : ℕ
  depth = m.state.depth

  abbrev arg : ℕ → ℕ
  arg = operand_of m.cells depth

  abbrev did : Done
  did = do_of program (m.state.address + 1) o depth m.mem m.cells

  -- an operation that copies, where it is the machine's step
  stepped :
      act_of program m.state.address depth m.mem m.cells ≡ did → taken_of o ≡ 3
      → (3 ≤ depth → laws.Copies program (m.state.address + 1) o depth m.mem m.cells source (copied source (arg 2) (arg 0) (arg 1) m.mem) (arg 0) (arg 1) (arg 2) n)
      → Copies program m source n (arg 0) (arg 1) (arg 2)
  unfolding step_of
  stepped s t x =
      record {
        few = λ h. ap (landed m.state) (s ∙ few program _ o depth m.mem m.cells (rw t h));
        target_out = λ h k. ap (landed m.state) (s ∙ sym (laws.target-fails (x h) (lt-leb _ _ k)));
        source_out = λ h k l. ap (landed m.state) (s ∙ sym (laws.source-fails (x h) (le-leb _ _ k) (lt-leb _ _ l)));
        copies = λ h k l.
            let d : depth - 2 ≡ depth - 3 + 1 = omega arith in
            let v : (arg 0 + arg 2) % 65536 ≡ arg 0 + arg 2 = let q = allowed.data_size in omega arith in
            rw (d, ← laid source m.mem (arg 0) (arg 1) (arg 2) k l, ← v) (ap (landed m.state) (s ∙ sym (laws.copies (x h) (le-leb _ _ k) (le-leb _ _ l))));
      }

-- the instruction at the machine's address, by a first byte
first-is :
    (program : List ℕ) (m : Machine) (code : ℕ) → Bytes program → Allowed program m → m.state.address < length program → get_or program m.state.address 0 ≡ code
    → act_of program m.state.address m.state.depth m.mem m.cells ≡ first_of program m.state.address m.state.depth m.mem m.cells code
first-is program m code w a h e =
    act-first program _ _ m.mem m.cells a.program_size h w ∙ ap (first_of program m.state.address m.state.depth m.mem m.cells) e

pub copies_data : CopiesData
unfolding CopiesData first_of form_of code_of op_in
copies_data program m w a r h e =
    stepped program m a DataCopy m.mem 6 (first-is program m 0x02 w a h e) refl
    (λ k. record { taken = refl; pushes = refl; way = refl; effect = refl; enough = k; deep = a.deep })

pub copies-program : CopiesProgram
unfolding CopiesProgram first_of form_of code_of op_in
copies-program program m w a r h e =
    stepped program m a ProgramCopy program 7 (first-is program m 0x03 w a h e) refl
    (λ k. record { taken = refl; pushes = refl; way = refl; effect = refl; enough = k; deep = a.deep })
