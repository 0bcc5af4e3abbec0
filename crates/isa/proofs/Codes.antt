-- Laws of the codes: what an operation takes, pushes and leads to, told by its code.
-- Assumes nothing.
use Prim.Native.Nat.{ℕ, ◌≤◌}
use mathlib.Core.Path.{◌≡◌, refl, sym, ap, ◌∙◌}
use mathlib.Core.Bool.{Bool, true, false}
use mathlib.Core.List.{List, [], ◌∷◌, map}
use lib.ListN.{get_or, get_or-map}
use lib.Seq.{length-take-le}
use lib.Dec.{eqb}
use borrow.Author.Tests.{eqb-true}
use Rattle.basis.specs.Pick.{pick}
use Rattle.isa.specs.Op.{Op, Push, NoOp, ops_of, op_in, values_of, op_of}
use Rattle.isa.specs.Shape.{taken_of, pushed_of, way_of, taken_in, pushed_in, way_in}
use Rattle.isa.specs.declared.Instruction.{Instruction}

-- a number told by the operation does not depend on the number in the code where it does not in the whole list
same : (f : Op → ℕ) (c x : ℕ) → map f (ops_of x) ≡ map f (ops_of 0) → f (Push (x ∷ [])) ≡ f (Push (0 ∷ [])) → f (op_in c x) ≡ f (op_in c 0)
unfolding op_in
same f c x e p = by (eqb c 0x80)
  where
    by : (t : Bool) → f (pick t (Push (x ∷ [])) (get_or (ops_of x) c NoOp)) ≡ f (pick t (Push (0 ∷ [])) (get_or (ops_of 0) c NoOp))
    by true = p
    by false = sym (get_or-map f (ops_of x) c NoOp) ∙ ap (λ (l : List ℕ). get_or l c (f NoOp)) e ∙ get_or-map f (ops_of 0) c NoOp

-- what an instruction's operation takes is told by its code
pub taken-op : (i : Instruction) → taken_of (op_of i) ≡ taken_in i.code
unfolding op_of taken_in op_in
taken-op i = by (eqb i.code 0xC0) refl
  where
    by : (t : Bool) → eqb i.code 0xC0 ≡ t → taken_of (pick t (Push (values_of i)) (op_in i.code i.number)) ≡ taken_of (op_in i.code 0)
    by true e = rw (eqb-true i.code 0xC0 e)
    by false e = same (λ o. taken_of o) i.code i.number refl refl

-- what it pushes by its code and its count
pub pushed-op : (i : Instruction) → i.count ≤ 4 → pushed_of (op_of i) ≡ pushed_in i.code i.count
unfolding op_of pushed_in
pushed-op i h = by (eqb i.code 0xC0)
  where
    by : (t : Bool) → pushed_of (pick t (Push (values_of i)) (op_in i.code i.number)) ≡ pick t i.count (pushed_of (op_in i.code 0))
    by true = length-take-le i.count (i.v0 ∷ i.v1 ∷ i.v2 ∷ i.v3 ∷ []) h
    by false = same (λ o. pushed_of o) i.code i.number refl refl

-- and where it leads by its code and its number
pub way-op : (i : Instruction) → way_of (op_of i) ≡ way_in i.code i.number
unfolding op_of way_in op_in
way-op i = by (eqb i.code 0xC0) refl
  where
    by : (t : Bool) → eqb i.code 0xC0 ≡ t → way_of (pick t (Push (values_of i)) (op_in i.code i.number)) ≡ way_of (op_in i.code i.number)
    by true e = rw (eqb-true i.code 0xC0 e)
    by false e = refl
