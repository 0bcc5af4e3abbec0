-- An instruction faults by 1 to 8, and a fault leaves the data and the cells as they were, also where nothing is read.
-- Assumes nothing.
use Prim.Native.Nat.{ℕ, ◌+◌, ◌≤◌}
use native.Mathlib.Omega.{arith}
use mathlib.Core.Path.{◌≡◌, refl}
use mathlib.Core.Bool.{Bool, true, false}
use mathlib.Core.List.{List, []}
use lib.ListN.{length}
use lib.Dec.{eqb}
use Rattle.basis.specs.Pick.{pick}
use Rattle.basis.specs.Answer.{Answer, given, refused}
use Rattle.isa.specs.Op.{Op, op_of}
use Rattle.isa.specs.Shape.{taken_of, pushed_of, depth_after}
use Rattle.decoder.specs.Decode.{Reading, decode_of}
use Rattle.isa.specs.declared.Route.{Route}
use Rattle.isa.proofs.Numbers.{stack-number}
use Rattle.decoder.proofs.Numbers.{decode-number}
use Rattle.effects.specs.Memory.{operand_of, good}
use Rattle.effects.specs.Effect.{Effect, fails, leaves, place_of, routed, effect_of}
use Rattle.effects.specs.Act.{on_effect, on_stack, do_of, on_reading, act_of}
use Rattle.effects.specs.Reach.{is_fault}
use Rattle.effects.specs.declared.Move.{Move}
use Rattle.effects.proofs.Frame.{framed}
use Rattle.isa.specs.Op as op
use Rattle.isa.specs.declared.Route.TheVariants as route

-- an effect fails by 6, 7 or 8
abbrev pub FailsBy : Effect → Type 0
FailsBy (fails n) = (6 ≤ n) × (n ≤ 8)
FailsBy (leaves mem vs) = Unit {0}

fails-or : (t : Bool) (x y : Effect) → FailsBy x → FailsBy y → FailsBy (pick t x y)
fails-or true x y h k = h
fails-or false x y h k = k

module _ (program mem : List ℕ) (arg : ℕ → ℕ) (next : ℕ) where
  routed-by : (r : Route) (x : ℕ) → FailsBy (routed program mem arg next r x)
  routed-by route.Call x = tt
  routed-by route.Jump x = tt
  routed-by route.JumpIf x = tt
  routed-by route.JumpIfNot x = tt
  routed-by route.System x = fails-or (eqb x 0) (leaves mem []) (fails 8) tt (omega arith, omega arith)
  routed-by route.Extension x = (omega arith, omega arith)

  pub effect-by : (o : Op) → FailsBy (effect_of program mem arg next o)
  effect-by op.Halt = tt
  effect-by op.Discard = tt
  effect-by op.DataCopy =
      fails-or (good mem (arg 0) (arg 2)) _ (fails 6) (fails-or (good mem (arg 1) (arg 2)) _ (fails 6) tt (omega arith, omega arith)) (omega arith, omega arith)
  effect-by op.ProgramCopy =
      fails-or (good mem (arg 0) (arg 2)) _ (fails 6) (fails-or (good program (arg 1) (arg 2)) _ (fails 7) tt (omega arith, omega arith)) (omega arith, omega arith)
  effect-by op.Swap = tt
  effect-by (op.Taken r) = routed-by r (arg 0)
  effect-by (op.Given r x) = routed-by r x
  effect-by (op.Two p) = tt
  effect-by (op.TwoNumber p x) = tt
  effect-by (op.One s) = tt
  effect-by (op.Load w n x) = fails-or (good mem (place_of arg n x) w) _ (fails 6) tt (omega arith, omega arith)
  effect-by (op.Store w n x) = fails-or (good mem (place_of arg n x) w) _ (fails 6) tt (omega arith, omega arith)
  effect-by (op.Push vs) = tt
  effect-by op.NoOp = tt

-- a fault has a number from 1 to 8
abbrev pub FaultsBy : Answer Move → Type 0
FaultsBy (given m) = Unit {0}
FaultsBy (refused n) = (1 ≤ n) × (n ≤ 8)

module _ (program : List ℕ) (next : ℕ) (o : Op) (depth : ℕ) (mem cells : List ℕ) where
  on-effect-by : (e : ℕ) (x : Effect) → FailsBy x → FaultsBy (on_effect program next o depth mem cells e x).move
  on-effect-by e (fails n) h = (omega (arith, h.0), h.1)
  on-effect-by e (leaves mem' vs) h = tt

  do-by : FaultsBy (do_of program next o depth mem cells).move
  unfolding do_of
  do-by = by (depth_after (length cells) depth (taken_of o) (pushed_of o)) refl
    where
      by : (a : Answer ℕ) → depth_after (length cells) depth (taken_of o) (pushed_of o) ≡ a → FaultsBy (on_stack program next o depth mem cells a).move
      by (refused n) e = let k = stack-number (length cells) depth (taken_of o) (pushed_of o) n e in (omega (arith, k.0), omega (arith, k.1))
      by (given e) q =
          let arg = operand_of cells depth in
          on-effect-by e (effect_of program mem arg next o) (effect-by program mem arg next o)

module _ (program : List ℕ) (address depth : ℕ) (mem cells : List ℕ) where
  pub act_by : length program ≤ 16384 → FaultsBy (act_of program address depth mem cells).move
  unfolding act_of
  act_by s = by (decode_of program address) refl
    where
      by : (a : Answer Reading) → decode_of program address ≡ a → FaultsBy (on_reading program address depth mem cells a).move
      by (refused n) e = let k = decode-number program address n s e in (k.0, omega (arith, k.1))
      by (given r) e = do-by program (address + r.1) (op_of r.0) depth mem cells

  -- "A fault alters only the status"
  pub act-still : is_fault (act_of program address depth mem cells).move ≡ true
      → ((act_of program address depth mem cells).mem ≡ mem) × ((act_of program address depth mem cells).cells ≡ cells)
  unfolding act_of
  act-still = by (decode_of program address)
    where
      by : (a : Answer Reading) → is_fault (on_reading program address depth mem cells a).move ≡ true
          → ((on_reading program address depth mem cells a).mem ≡ mem) × ((on_reading program address depth mem cells a).cells ≡ cells)
      by (refused n) h = (refl, refl)
      by (given r) h = (framed program (address + r.1) (op_of r.0) depth mem cells).fault_keeps h
