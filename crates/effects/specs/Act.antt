-- One operation, and one instruction: decode, the stack check, the effect, the way.
use Rattle.std.specs.Prelude.{ℕ, ◌+◌, ◌-◌, List, length, Result}
use Rattle.basis.specs.Answer.{Answer, given, refused}
use Rattle.basis.specs.Refusal.{answer_of}
use Rattle.basis.specs.declared.refusal.Refusal.{Refusal}
use Rattle.isa.specs.Op.{Op, op_of}
use Rattle.isa.specs.Shape.{taken_of, pushed_of, way_of, depth_after}
use Rattle.decoder.specs.Decode.{Reading, decode_of}
use Rattle.effects.specs.Memory.{operand_of, pushed}
use Rattle.effects.specs.Effect.{Effect, fails, leaves, effect_of, Going, stays, goes, going_of}
use Rattle.effects.specs.declared.Move.{Move}
use Rattle.effects.specs.declared.Move.TheVariants.{To, Halt}

-- what became of it, and the data and the cells afterwards
pub record Done : Type 0 where
  pub move : Answer Move
  pub mem : List ℕ
  pub cells : List ℕ

abbrev pub became : Answer Move → List ℕ → List ℕ → Done
became m d c = record { move = m; mem = d; cells = c }

-- the same of the code's answer
abbrev pub done : Result Move Refusal → List ℕ → List ℕ → Done
done r d c = became (answer_of r) d c

-- on to an address, or "halt and keep the address"
abbrev pub move_of : ℕ → Going → Move
move_of depth stays = Halt depth
move_of depth (goes address) = To address depth

module _ (program : List ℕ) (next : ℕ) (o : Op) (depth : ℕ) (mem cells : List ℕ) where
  -- "A fault alters only the status"
  abbrev pub on_effect : ℕ → Effect → Done
  on_effect e (fails n) = became (refused n) mem cells
  on_effect e (leaves mem' vs) = became (given (move_of e (going_of (operand_of cells depth) next (way_of o)))) mem' (pushed cells (depth - taken_of o) vs)

  abbrev pub on_stack : Answer ℕ → Done
  on_stack (refused n) = became (refused n) mem cells
  on_stack (given e) = on_effect e (effect_of program mem (operand_of cells depth) next o)

  -- one operation, the next instruction being at next: 4, 5, then 6, 7, 8
  unfoldable pub do_of : Done
  do_of = on_stack (depth_after (length cells) depth (taken_of o) (pushed_of o))

module _ (program : List ℕ) (address depth : ℕ) (mem cells : List ℕ) where
  abbrev pub on_reading : Answer Reading → Done
  on_reading (refused n) = became (refused n) mem cells
  on_reading (given r) = do_of program (address + r.1) (op_of r.0) depth mem cells

  -- the instruction at an address: 1, 2, 3, 2, then the operation
  unfoldable pub act_of : Done
  act_of = on_reading (decode_of program address)
