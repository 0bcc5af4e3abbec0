-- A step with as many cells or more does what the rule foresees: it goes to one of the successors, halts where it stands, or
-- faults on a range.
-- Assumes nothing.
use Prim.Native.Nat.{ℕ, ◌+◌, ◌-◌, ◌≤◌}
use native.Mathlib.Omega.{arith}
use mathlib.Core.Path.{◌≡◌, refl}
use mathlib.Core.Logic.{◌⊎◌, inl, inr}
use mathlib.Core.Bool.{Bool, true, false}
use mathlib.Core.List.{List, [], ◌∷◌}
use lib.ListN.{length}
use lib.Dec.{ltb, eqb}
use borrow.Author.Tests.{ltb-false}
use Rattle.basis.specs.Pick.{pick}
use Rattle.basis.specs.Answer.{Answer, given, refused}
use Rattle.isa.specs.Op.{Op, op_of}
use Rattle.isa.specs.Shape.{taken_of, pushed_of, way_of, depth_after}
use Rattle.decoder.specs.Decode.{Reading, decode_of}
use Rattle.isa.specs.declared.Way.{Way}
use Rattle.effects.specs.Memory.{operand_of, good}
use Rattle.effects.specs.Effect.{fails, leaves, place_of, holds, effect_of}
use Rattle.effects.specs.Act.{on_effect, do_of, act_of}
use Rattle.effects.specs.Act.{on_reading as doing}
use Rattle.effects.specs.declared.Move.{Move}
use Rattle.effects.specs.declared.Move.TheVariants.{To, Halt}
use Rattle.effects.proofs.Opens.{opened}
use Rattle.paths.specs.Paths.{hop, Outcome, bad, leads, In, here, there}
use Rattle.look.specs.Look.{is_nine, on_way, look_at, on_reading, look_of}
use Rattle.isa.specs.Op as op
use Rattle.isa.specs.declared.Route.TheVariants as route

-- the move of an instruction met at depth d is one that the rule's outcome foresees
abbrev pub Foreseen : ℕ → Outcome → Answer Move → Type 0
Foreseen d (bad k) made = Unit {0}
Foreseen d (leads hs) (given (To a e)) = In a e hs
Foreseen d (leads hs) (given (Halt e)) = e ≡ d
Foreseen d (leads hs) (refused k) = (k ≡ 6) ⊎ (k ≡ 7)

-- an instruction that the stack check refuses is refused
shut : (d next k : ℕ) (w : Way) (made : Answer Move) → Foreseen d (on_way next w (refused k)) made
shut d next k w made = by (is_nine w)
  where
    by : (t : Bool) → Foreseen d (pick t (bad 9) (bad k)) made
    by true = tt
    by false = tt

either : (t : Bool) (next x e : ℕ) → In (pick t x next) e (hop next e ∷ hop x e ∷ [])
either true next x e = there here
either false next x e = here

module _ (program : List ℕ) (next depth : ℕ) (mem cells : List ℕ) where
  arg : ℕ → ℕ
  arg = operand_of cells depth

  -- behind an open stack check
  goes_on : (o : Op) (e : ℕ) → depth - taken_of o + pushed_of o ≡ e → Foreseen depth (on_way next (way_of o) (given e)) (on_effect program next o depth mem cells e (effect_of program mem arg next o)).move
  unfolding arg
  goes_on op.Halt e s = omega arith
  goes_on op.Discard e s = here
  goes_on op.DataCopy e s = by (good mem (arg 0) (arg 2)) (good mem (arg 1) (arg 2)) _ _
    where
      by : (t u : Bool) (mem' vs : List ℕ) → Foreseen depth (leads (hop next e ∷ [])) (on_effect program next op.DataCopy depth mem cells e (pick t (pick u (leaves mem' vs) (fails 6)) (fails 6))).move
      by true true mem' vs = here
      by true false mem' vs = inl refl
      by false u mem' vs = inl refl
  goes_on op.ProgramCopy e s = by (good mem (arg 0) (arg 2)) (good program (arg 1) (arg 2)) _ _
    where
      by : (t u : Bool) (mem' vs : List ℕ) → Foreseen depth (leads (hop next e ∷ [])) (on_effect program next op.ProgramCopy depth mem cells e (pick t (pick u (leaves mem' vs) (fails 7)) (fails 6))).move
      by true true mem' vs = here
      by true false mem' vs = inr refl
      by false u mem' vs = inl refl
  goes_on op.Swap e s = here
  goes_on (op.Taken r) e s = tt
  goes_on (op.Given route.Call x) e s = tt
  goes_on (op.Given route.Jump x) e s = here
  goes_on (op.Given route.JumpIf x) e s = either (holds true (arg 0)) next x e
  goes_on (op.Given route.JumpIfNot x) e s = either (holds false (arg 0)) next x e
  goes_on (op.Given route.System x) e s = by (eqb x 0)
    where
      by : (t : Bool) → Foreseen depth (pick t (leads []) (bad 8)) (on_effect program next (op.Given route.System x) depth mem cells e (pick t (leaves mem []) (fails 8))).move
      by true = omega arith
      by false = tt
  goes_on (op.Given route.Extension x) e s = tt
  goes_on (op.Two p) e s = here
  goes_on (op.TwoNumber p x) e s = here
  goes_on (op.One p) e s = here
  goes_on (op.Load w n x) e s = by (good mem (place_of arg n x) w) _ _
    where
      by : (t : Bool) (mem' vs : List ℕ) → Foreseen depth (leads (hop next e ∷ [])) (on_effect program next (op.Load w n x) depth mem cells e (pick t (leaves mem' vs) (fails 6))).move
      by true mem' vs = here
      by false mem' vs = inl refl
  goes_on (op.Store w n x) e s = by (good mem (place_of arg n x) w) _ _
    where
      by : (t : Bool) (mem' vs : List ℕ) → Foreseen depth (leads (hop next e ∷ [])) (on_effect program next (op.Store w n x) depth mem cells e (pick t (leaves mem' vs) (fails 6))).move
      by true mem' vs = here
      by false mem' vs = inl refl
  goes_on (op.Push vs) e s = here
  goes_on op.NoOp e s = here

  -- an operation, its stack check at n cells being the rule's, at as many or more the step's
  do-foreseen : (o : Op) (n : ℕ) → n ≤ length cells → Foreseen depth (look_at n next depth o) (do_of program next o depth mem cells).move
  unfolding depth_after arg
  do-foreseen o n l = by (ltb depth (taken_of o)) (ltb n (depth - taken_of o + pushed_of o)) refl refl
    where
      by : (t u : Bool) → ltb depth (taken_of o) ≡ t → ltb n (depth - taken_of o + pushed_of o) ≡ u
          → Foreseen depth (on_way next (way_of o) (pick t (refused 4) (pick u (refused 5) (given (depth - taken_of o + pushed_of o))))) (do_of program next o depth mem cells).move
      by true u p q = shut depth next 4 (way_of o) (do_of program next o depth mem cells).move
      by false true p q = shut depth next 5 (way_of o) (do_of program next o depth mem cells).move
      by false false p q =
          let r = ltb-false n (depth - taken_of o + pushed_of o) q in
          rw (opened program next o depth mem cells (depth - taken_of o + pushed_of o) (ltb-false _ _ p) refl (omega arith)) (goes_on o (depth - taken_of o + pushed_of o) refl)

-- an instruction
pub act-foreseen : (program : List ℕ) (address depth : ℕ) (mem cells : List ℕ) (n : ℕ) → n ≤ length cells
    → Foreseen depth (look_of program n address depth) (act_of program address depth mem cells).move
unfolding look_of act_of
act-foreseen program address depth mem cells n l = by (decode_of program address)
  where
    by : (r : Answer Reading) → Foreseen depth (on_reading n address depth r) (doing program address depth mem cells r).move
    by (refused k) = tt
    by (given r) = do-foreseen program (address + r.1) depth mem cells (op_of r.0) n l
