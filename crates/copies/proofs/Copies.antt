-- The two copies byte by byte, and what an operation that copies does: fault 6, its source's fault, or the copy and one value pushed.
-- Assumes nothing.
use Prim.Native.Nat.{ℕ, suc, ◌+◌, ◌-◌, ◌%◌, ◌≤◌, ◌<◌}
use native.Mathlib.Omega.{arith}
use native.Mathlib.Nat.{add-zero}
use native.Mathlib.Numerals.{add-one}
use mathlib.Core.Path.{◌≡◌, refl, sym, ap, ◌∙◌}
use mathlib.Core.Bool.{true, false}
use mathlib.Core.List.{List, [], ◌∷◌, ◌++◌}
use lib.ListN.{length, get_or, set, take, drop, length-drop}
use lib.Seq.{sets, drop-cons, take-suc, length-take-le, get_or-drop, set_comm}
use Rattle.basis.specs.Answer.{given, refused}
use Rattle.basis.specs.Pick.{pick}
use Rattle.isa.specs.Op.{Op, DataCopy, ProgramCopy}
use Rattle.isa.specs.Shape.{taken_of, pushed_of, way_of}
use Rattle.effects.specs.Memory.{operand_of, pushed, good, copied}
use Rattle.effects.specs.Effect.{fails, leaves, effect_of, goes, going_of}
use Rattle.effects.specs.Act.{became, do_of}
use Rattle.effects.specs.declared.Move.TheVariants.{To}
use Rattle.effects.proofs.Opens as opens

-- the first byte, then the rest
pub copied-first :
    (source : List ℕ) (n k a b : ℕ) (mem : List ℕ) → n ≡ k + 1 → b < length source
    → copied source n a b mem ≡ copied source k (a + 1) (b + 1) (set mem a (get_or source b 0))
copied-first source n k a b mem e l = rw (e, add-one k, add-one a, add-one b, drop-cons source b 0 l)

-- the last of some stores may come first
sets_last : (vs mem : List ℕ) (a v : ℕ) → sets mem a (vs ++ (v ∷ [])) ≡ sets (set mem (a + length vs) v) a vs
sets_last [] mem a v = rw add-zero
sets_last (w ∷ vs) mem a v =
    let e : a + suc (length vs) ≡ suc a + length vs = omega arith in
    sets_last vs (set mem a w) (suc a) v
    ∙ ap (λ (l : List ℕ). sets l (suc a) vs) (set_comm mem a (suc a + length vs) w v (λ z. omega arith) ∙ rw e)

-- the last byte, then the rest
pub copied-last :
    (source : List ℕ) (n k a b p q : ℕ) (mem : List ℕ) → n ≡ k + 1 → p ≡ a + k → q ≡ b + k → q < length source
    → copied source n a b mem ≡ copied source k a b (set mem p (get_or source q 0))
copied-last source n k a b p q mem e f g l =
    let h : k < length (drop b source) = omega (arith, length-drop b source) in
    let m = length-take-le k (drop b source) (omega arith) in
    rw (e, f, g, add-one k, take-suc (drop b source) k 0 h, get_or-drop b source k 0)
    (sets_last (take k (drop b source)) mem a (get_or source (b + k) 0) ∙ rw m)

-- an operation that copies c bytes from b of its source to a of the data, its source's range being fault n
pub record Copies (program : List ℕ) (next : ℕ) (o : Op) (depth : ℕ) (mem cells source after : List ℕ) (a b c n : ℕ) : Type 0 where
  pub taken : taken_of o ≡ 3
  pub pushes : pushed_of o ≡ 1
  pub way : going_of (operand_of cells depth) next (way_of o) ≡ goes next
  pub effect :
      effect_of program mem (operand_of cells depth) next o
      ≡ pick (good mem a c) (pick (good source b c) (leaves after ((a + c) % 65536 ∷ [])) (fails n)) (fails 6)
  pub enough : 3 ≤ depth
  pub deep : depth ≤ length cells

module _ (program : List ℕ) (next depth : ℕ) (mem cells : List ℕ) (enough : 3 ≤ depth) (deep : depth ≤ length cells) where
  -- the cell of a, the top
  abbrev top : ℕ
  top = length cells - depth

  pub data-copies :
      let a = get_or cells top 0 in
      let b = get_or cells (top + 1) 0 in
      let c = get_or cells (top + 2) 0 in
      Copies program next DataCopy depth mem cells mem (copied mem c a b mem) a b c 6
  data-copies = record { taken = refl; pushes = refl; way = refl; effect = rw add-zero; enough = enough; deep = deep }

  pub program-copies :
      let a = get_or cells top 0 in
      let b = get_or cells (top + 1) 0 in
      let c = get_or cells (top + 2) 0 in
      Copies program next ProgramCopy depth mem cells program (copied program c a b mem) a b c 7
  program-copies = record { taken = refl; pushes = refl; way = refl; effect = rw add-zero; enough = enough; deep = deep }

module _ {program : List ℕ} {next : ℕ} {o : Op} {depth : ℕ} {mem cells source after : List ℕ} {a b c n : ℕ} (x : Copies program next o depth mem cells source after a b c n) where
  -- 6
  pub target-fails : good mem a c ≡ false → became (refused 6) mem cells ≡ do_of program next o depth mem cells
  target-fails h =
      sym (opens.failed program next o depth mem cells (depth - 3 + 1) (omega arith) (rw (x.taken, x.pushes)) (omega arith) 6 (x.effect ∙ rw h))

  -- 6 for data, 7 for the program
  pub source-fails : good mem a c ≡ true → good source b c ≡ false → became (refused n) mem cells ≡ do_of program next o depth mem cells
  source-fails g h =
      sym (opens.failed program next o depth mem cells (depth - 3 + 1) (omega arith) (rw (x.taken, x.pushes)) (omega arith) n (x.effect ∙ rw (g, h)))

  -- the copy is done
  pub copies :
      good mem a c ≡ true → good source b c ≡ true
      → became (given (To next (depth - 3 + 1))) after (pushed cells (depth - 3) ((a + c) % 65536 ∷ [])) ≡ do_of program next o depth mem cells
  copies g h =
      sym
      (rw x.taken at
      (opens.left program next o depth mem cells (depth - 3 + 1) (omega arith) (rw (x.taken, x.pushes)) (omega arith) after ((a + c) % 65536 ∷ []) (goes next) (x.effect ∙ rw (g, h)) x.way))
