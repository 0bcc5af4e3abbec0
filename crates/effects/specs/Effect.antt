-- What each operation does to the data and pushes, and where it leads, in the words of 01.
use Rattle.std.specs.Prelude.{ℕ, zero, suc, ◌+◌, ◌%◌, ◌^◌, Bool, true, false, not, List, [], ◌∷◌, eqb}
use Rattle.std.proofs.lemmas.List.Edits.{sets}
use Rattle.basis.specs.Pick.{pick}
use Rattle.basis.specs.Number.{number_at, bytes_of}
use Rattle.alu.specs.Values.{pair_of, single_of}
use Rattle.isa.specs.Op.{Op}
use Rattle.isa.specs.Op as op
use Rattle.isa.specs.declared.Route.{Route}
use Rattle.isa.specs.declared.Route.TheVariants as route
use Rattle.isa.specs.declared.Way.{Way}
use Rattle.isa.specs.declared.Way.TheVariants.{Stop, Next, Jump, Branch, Call, Taken, System, Extension}
use Rattle.effects.specs.Memory.{good, copied}

-- the fault, or the data afterwards and the values pushed, first to last
pub data Effect : Type 0 where
  fails : ℕ → Effect
  leaves : List ℕ → List ℕ → Effect

-- The operands come as a function: operand 0 is a, 1 is b, 2 is c.

-- the address of a load or a store that takes n operands for it: x, x+a, or x+a+b, "exact whole numbers"
abbrev pub place_of : (ℕ → ℕ) → ℕ → ℕ → ℕ
place_of arg zero x = x
place_of arg (suc n) x = place_of arg n x + arg n

-- "go to a if b is not 0, is 0"
abbrev pub holds : Bool → ℕ → Bool
holds true v = not (eqb v 0)
holds false v = eqb v 0

-- the next instruction stands at next
module _ (program mem : List ℕ) (arg : ℕ → ℕ) (next : ℕ) where
  -- a copy from a source whose range is fault n: first the data's range, 6, then the source's; "push a+c"
  abbrev pub copied_from : List ℕ → ℕ → Effect
  copied_from source n =
      pick (good mem (arg 0) (arg 2))
      (pick (good source (arg 1) (arg 2)) (leaves (copied source (arg 2) (arg 0) (arg 1) mem) ((arg 0 + arg 2) % 65536 ∷ [])) (fails n))
      (fails 6)

  -- a load of w bytes at p
  abbrev pub loaded : ℕ → ℕ → Effect
  loaded w p = pick (good mem p w) (leaves mem (number_at w mem p ∷ [])) (fails 6)

  -- a store of v in w bytes at p: "A store pushes what it stored; a u8 store uses the value modulo 256"
  abbrev pub stored : ℕ → ℕ → ℕ → Effect
  stored w p v = pick (good mem p w) (leaves (sets mem p (bytes_of w v)) (v % 256 ^ w ∷ [])) (fails 6)

  -- a route to x: a call pushes the address of the next instruction; of the system functions there is 0, of the
  -- extension functions none: "8 no such function"
  abbrev pub routed : Route → ℕ → Effect
  routed route.Call x = leaves mem (next ∷ [])
  routed route.Jump x = leaves mem []
  routed route.JumpIf x = leaves mem []
  routed route.JumpIfNot x = leaves mem []
  routed route.System x = pick (eqb x 0) (leaves mem []) (fails 8)
  routed route.Extension x = fails 8

  abbrev pub effect_of : Op → Effect
  effect_of op.Halt = leaves mem []
  effect_of op.Discard = leaves mem []
  effect_of op.DataCopy = copied_from mem 6
  effect_of op.ProgramCopy = copied_from program 7
  effect_of op.Swap = leaves mem (arg 0 ∷ arg 1 ∷ [])
  effect_of (op.Taken r) = routed r (arg 0)
  effect_of (op.Given r x) = routed r x
  effect_of (op.Two p) = leaves mem (pair_of p (arg 0) (arg 1) ∷ [])
  effect_of (op.TwoNumber p x) = leaves mem (pair_of p (arg 0) x ∷ [])
  effect_of (op.One s) = leaves mem (single_of s (arg 0) ∷ [])
  effect_of (op.Load w n x) = loaded w (place_of arg n x)
  effect_of (op.Store w n x) = stored w (place_of arg n x) (arg n)
  effect_of (op.Push vs) = leaves mem vs
  effect_of op.NoOp = leaves mem []

-- on to an address, or "halt and keep the address"
pub data Going : Type 0 where
  stays : Going
  goes : ℕ → Going

module _ (arg : ℕ → ℕ) (next : ℕ) where
  -- where the stack says: the target is a, the condition b
  abbrev pub taken_to : Route → Going
  taken_to route.Call = goes (arg 0)
  taken_to route.Jump = goes (arg 0)
  taken_to route.JumpIf = goes (pick (holds true (arg 1)) (arg 0) next)
  taken_to route.JumpIfNot = goes (pick (holds false (arg 1)) (arg 0) next)
  taken_to route.System = stays
  taken_to route.Extension = stays

  -- by the way; the condition of a branch to a number is a
  abbrev pub going_of : Way → Going
  going_of Stop = stays
  going_of Next = goes next
  going_of (Jump x) = goes x
  going_of (Branch t x) = goes (pick (holds t (arg 0)) x next)
  going_of (Call x) = goes x
  going_of (Taken r) = taken_to r
  going_of (System x) = stays
  going_of (Extension x) = stays
