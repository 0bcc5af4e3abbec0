-- What one operation does, by the outcome of the stack check: too few values, too many, or what the effect and the way say.
-- Assumes nothing.
use Prim.Native.Nat.{ℕ, ◌+◌, ◌-◌, ◌≤◌, ◌<◌}
use mathlib.Core.Path.{◌≡◌, refl, ap, ◌∙◌}
use mathlib.Core.List.{List, [], ◌∷◌}
use lib.ListN.{length, set, length-set}
use borrow.Author.Tests.{lt-ltb, le-ltb}
use Rattle.basis.specs.Answer.{given, refused}
use Rattle.isa.specs.Op.{Op}
use Rattle.isa.specs.Shape.{taken_of, pushed_of, way_of, depth_after}
use Rattle.effects.specs.Memory.{operand_of, pushed}
use Rattle.effects.specs.Effect.{Effect, fails, leaves, effect_of, Going, going_of}
use Rattle.effects.specs.Act.{became, move_of, on_effect, do_of}

-- a push keeps the number of cells
pub length-pushed : (vs cells : List ℕ) (d : ℕ) → length (pushed cells d vs) ≡ length cells
length-pushed [] cells d = refl
length-pushed (v ∷ vs) cells d = length-pushed vs (set cells (length cells - (d + 1)) v) (d + 1) ∙ length-set cells (length cells - (d + 1)) v

module _ (program : List ℕ) (next : ℕ) (o : Op) (depth : ℕ) (mem cells : List ℕ) where
  -- 4
  pub few : depth < taken_of o → do_of program next o depth mem cells ≡ became (refused 4) mem cells
  unfolding do_of depth_after
  few h = rw (lt-ltb depth (taken_of o) h)

  -- 5
  pub full : taken_of o ≤ depth → length cells < depth - taken_of o + pushed_of o → do_of program next o depth mem cells ≡ became (refused 5) mem cells
  unfolding do_of depth_after
  full t h = rw (le-ltb depth (taken_of o) t, lt-ltb (length cells) (depth - taken_of o + pushed_of o) h)

  module _ (e : ℕ) (t : taken_of o ≤ depth) (s : depth - taken_of o + pushed_of o ≡ e) (r : e ≤ length cells) where
    pub opened : do_of program next o depth mem cells ≡ on_effect program next o depth mem cells e (effect_of program mem (operand_of cells depth) next o)
    unfolding do_of depth_after
    opened = rw (le-ltb depth (taken_of o) t, s, le-ltb (length cells) e r)

    -- 6, 7, 8
    pub failed : (n : ℕ) → effect_of program mem (operand_of cells depth) next o ≡ fails n → do_of program next o depth mem cells ≡ became (refused n) mem cells
    failed n f = opened ∙ ap (λ (x : Effect). on_effect program next o depth mem cells e x) f

    -- the operation is done
    pub left :
        (mem' vs : List ℕ) (g : Going) → effect_of program mem (operand_of cells depth) next o ≡ leaves mem' vs → going_of (operand_of cells depth) next (way_of o) ≡ g
        → do_of program next o depth mem cells ≡ became (given (move_of e g)) mem' (pushed cells (depth - taken_of o) vs)
    left mem' vs g f w =
        opened
        ∙ ap (λ (x : Effect). on_effect program next o depth mem cells e x) f
        ∙ ap (λ (x : Going). became (given (move_of e x)) mem' (pushed cells (depth - taken_of o) vs)) w
