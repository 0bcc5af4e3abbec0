-- One operation, and one instruction, keeps the lengths of the data and of the cells, and leaves a depth within the cells.
-- Assumes nothing.
use Prim.Native.Nat.{ℕ, ◌+◌, ◌-◌, ◌%◌, ◌≤◌, ◌^◌}
use native.Mathlib.Omega.{arith}
use mathlib.Core.Path.{◌≡◌, refl}
use mathlib.Core.Bool.{Bool, true, false}
use mathlib.Core.List.{List, [], ◌∷◌}
use lib.ListN.{length, take, drop}
use lib.Seq.{sets, length-sets}
use lib.Dec.{ltb, eqb}
use borrow.Author.Tests.{ltb-false}
use Rattle.basis.specs.Pick.{pick}
use Rattle.basis.specs.Answer.{Answer, given, refused}
use Rattle.basis.specs.Number.{number_at, bytes_of}
use Rattle.isa.specs.Op.{Op, op_of}
use Rattle.isa.specs.Shape.{taken_of, pushed_of, way_of, depth_after}
use Rattle.decoder.specs.Decode.{Reading, decode_of}
use Rattle.isa.specs.declared.Route.{Route}
use Rattle.effects.specs.Memory.{good, copied, operand_of}
use Rattle.effects.specs.Effect.{Effect, fails, leaves, place_of, copied_from, routed, effect_of, Going, stays, goes, going_of}
use Rattle.effects.specs.Act.{became, Done, move_of, on_effect, on_stack, do_of, on_reading, act_of}
use Rattle.effects.specs.declared.Move.{Move}
use Rattle.effects.specs.declared.Move.TheVariants.{To, Halt}
use Rattle.effects.proofs.Opens.{length-pushed}
use Rattle.isa.specs.Op as op
use Rattle.isa.specs.declared.Route.TheVariants as route

-- the depth afterwards; a fault has none
abbrev pub depth_in : Answer Move → ℕ
depth_in (given (To address e)) = e
depth_in (given (Halt e)) = e
depth_in (refused n) = 0

pub record Keeps (mem cells : List ℕ) (d : Done) : Type 0 where
  pub mem-length : length d.mem ≡ length mem
  pub cells_length : length d.cells ≡ length cells
  pub depth-within : depth_in d.move ≤ length cells

-- the data that an effect leaves
abbrev mem_after : List ℕ → Effect → List ℕ
mem_after mem (fails n) = mem
mem_after mem (leaves mem' vs) = mem'

module _ (mem : List ℕ) where
  abbrev Same : Effect → Type 0
  Same x = length (mem_after mem x) ≡ length mem

  same_or : (t : Bool) (x : Effect) (n : ℕ) → Same x → Same (pick t x (fails n))
  same_or true x n h = h
  same_or false x n h = refl

module _ (program mem : List ℕ) (arg : ℕ → ℕ) (next : ℕ) where
  same-routed : (r : Route) (x : ℕ) → Same mem (routed program mem arg next r x)
  same-routed route.Call x = refl
  same-routed route.Jump x = refl
  same-routed route.JumpIf x = refl
  same-routed route.JumpIfNot x = refl
  same-routed route.System x = same_or mem (eqb x 0) (leaves mem []) 8 refl
  same-routed route.Extension x = refl

  same-copied : (source : List ℕ) (n : ℕ) → Same mem (copied_from program mem arg next source n)
  same-copied source n =
      let x = leaves (copied source (arg 2) (arg 0) (arg 1) mem) ((arg 0 + arg 2) % 65536 ∷ []) in
      same_or mem (good mem (arg 0) (arg 2)) (pick (good source (arg 1) (arg 2)) x (fails n)) 6
      (same_or mem (good source (arg 1) (arg 2)) x n (length-sets mem (arg 0) (take (arg 2) (drop (arg 1) source))))

  same_effect : (o : Op) → Same mem (effect_of program mem arg next o)
  same_effect op.Halt = refl
  same_effect op.Discard = refl
  same_effect op.DataCopy = same-copied mem 6
  same_effect op.ProgramCopy = same-copied program 7
  same_effect op.Swap = refl
  same_effect (op.Taken r) = same-routed r (arg 0)
  same_effect (op.Given r x) = same-routed r x
  same_effect (op.Two p) = refl
  same_effect (op.TwoNumber p x) = refl
  same_effect (op.One s) = refl
  same_effect (op.Load w n x) = let p = place_of arg n x in same_or mem (good mem p w) (leaves mem (number_at w mem p ∷ [])) 6 refl
  same_effect (op.Store w n x) =
      let p = place_of arg n x in
      same_or mem (good mem p w) (leaves (sets mem p (bytes_of w (arg n))) (arg n % 256 ^ w ∷ [])) 6 (length-sets mem p (bytes_of w (arg n)))
  same_effect (op.Push vs) = refl
  same_effect op.NoOp = refl

keeps-fault : (n : ℕ) (mem cells : List ℕ) → Keeps mem cells (became (refused n) mem cells)
keeps-fault n mem cells = record { mem-length = refl; cells_length = refl; depth-within = omega arith }

depth-move : (n e : ℕ) (g : Going) → e ≤ n → depth_in (given (move_of e g)) ≤ n
depth-move n e stays h = h
depth-move n e (goes address) h = h

module _ (program : List ℕ) (next : ℕ) (o : Op) (depth : ℕ) (mem cells : List ℕ) where
  keeps-effect : (e : ℕ) (x : Effect) → e ≤ length cells → Same mem x → Keeps mem cells (on_effect program next o depth mem cells e x)
  keeps-effect e (fails n) h s = keeps-fault n mem cells
  keeps-effect e (leaves mem' vs) h s = record {
    mem-length = s;
    cells_length = length-pushed vs cells (depth - taken_of o);
    depth-within = depth-move (length cells) e (going_of (operand_of cells depth) next (way_of o)) h;
  }

  pub do-deep : Keeps mem cells (do_of program next o depth mem cells)
  unfolding do_of depth_after
  do-deep = by (ltb depth (taken_of o)) (ltb (length cells) e) refl
    where
      e : ℕ
      e = depth - taken_of o + pushed_of o

      by : (t u : Bool) → ltb (length cells) e ≡ u → Keeps mem cells (on_stack program next o depth mem cells (pick t (refused 4) (pick u (refused 5) (given e))))
      by true u h = keeps-fault 4 mem cells
      by false true h = keeps-fault 5 mem cells
      by false false h =
          let arg = operand_of cells depth in
          keeps-effect e (effect_of program mem arg next o) (ltb-false (length cells) e h) (same_effect program mem arg next o)

module _ (program : List ℕ) (address depth : ℕ) (mem cells : List ℕ) where
  keeps-reading : (a : Answer Reading) → Keeps mem cells (on_reading program address depth mem cells a)
  keeps-reading (refused n) = keeps-fault n mem cells
  keeps-reading (given r) = do-deep program (address + r.1) (op_of r.0) depth mem cells

  pub act-deep : Keeps mem cells (act_of program address depth mem cells)
  unfolding act_of
  act-deep = keeps-reading (decode_of program address)
