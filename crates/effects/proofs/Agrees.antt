-- Data that agree where an operation reads give the same move, the same cells and the same bytes written.
-- Assumes nothing.
use Prim.Native.Nat.{ℕ, zero, suc, ◌+◌, ◌-◌, ◌≤◌, ◌<◌}
use native.Mathlib.Omega.{arith}
use mathlib.Core.Path.{◌≡◌, refl, sym, ap, ◌∙◌, subst}
use mathlib.Core.Logic.{inl, ⊎_elim, ◌≢◌}
use mathlib.Core.Bool.{Bool, true, false}
use mathlib.Core.List.{List, [], ◌∷◌}
use lib.ListN.{length, get_or, set, take, drop, length-set, length-drop, get_or-eq_default}
use lib.Seq.{sets, get_or-set_same, get_or-set_other, length-take-le, get_or-take, get_or-drop, ext_get_or}
use lib.Dec.{leb, ltb, eqb}
use borrow.Author.Tests.{leb-true, ltb-true, ltb-false}
use Rattle.basis.specs.Pick.{pick}
use Rattle.basis.specs.Answer.{Answer, given, refused}
use Rattle.basis.specs.Number.{number_at, bytes_of}
use Rattle.basis.proofs.Numbers.{length-bytes}
use Rattle.basis.proofs.Tests.{false-true, test, same?}
use Rattle.isa.specs.Op.{Op, op_of}
use Rattle.isa.specs.Shape.{taken_of, pushed_of, depth_after}
use Rattle.decoder.specs.Decode.{decode_of}
use Rattle.isa.specs.declared.Instruction.{Instruction}
use Rattle.isa.specs.declared.Route.{Route}
use Rattle.effects.specs.Memory.{operand_of, pushed, good, copied}
use Rattle.effects.specs.Effect.{Effect, fails, leaves, place_of, copied_from, routed, effect_of}
use Rattle.effects.specs.Act.{became, on_effect, on_stack, do_of, act_of}
use Rattle.effects.specs.Reach.{writes_from, writes_count, reads_from, reads_count, Among, Agree, Alike}
use Rattle.effects.proofs.Frame.{sets-out}
use Rattle.isa.specs.Op as op
use Rattle.isa.specs.declared.Route.TheVariants as route

-- one element is stored into both
set-agree : (l l' : List ℕ) (at v q : ℕ) → length l ≡ length l' → (q ≢ at → get_or l q 0 ≡ get_or l' q 0) → get_or (set l at v) q 0 ≡ get_or (set l' at v) q 0
set-agree l l' at v q s h =
    ⊎_elim
    (λ e. subst (λ (k : ℕ). get_or (set l at v) k 0 ≡ get_or (set l' at v) k 0) (sym e) here)
    (λ n. get_or-set_other l at q v 0 n ∙ h n ∙ sym (get_or-set_other l' at q v 0 n))
    (same? q at)
  where
    here : get_or (set l at v) at 0 ≡ get_or (set l' at v) at 0
    here =
        ⊎_elim
        (λ t. let k = ltb-true at (length l) t in get_or-set_same l at v 0 k ∙ sym (get_or-set_same l' at v 0 (omega arith)))
        (λ t.
        let k = ltb-false at (length l) t in
        get_or-eq_default (set l at v) 0 (omega (arith, length-set l at v)) ∙ sym (get_or-eq_default (set l' at v) 0 (omega (arith, length-set l' at v))))
        (test (ltb at (length l)))

same_set : (l l' : List ℕ) (at v : ℕ) → length l ≡ length l' → length (set l at v) ≡ length (set l' at v)
same_set l l' at v s = length-set l at v ∙ s ∙ sym (length-set l' at v)

-- stores
sets-agree : (vs l l' : List ℕ) (at q : ℕ) → length l ≡ length l' → Among q at (length vs) → get_or (sets l at vs) q 0 ≡ get_or (sets l' at vs) q 0
sets-agree [] l l' at q s h = absurd (omega (arith, h.0, h.1))
sets-agree (v ∷ vs) l l' at q s h =
    ⊎_elim
    (λ e.
    sets-out vs (set l at v) (suc at) q (inl (omega arith))
    ∙ set-agree l l' at v q s (λ n. absurd (n e))
    ∙ sym (sets-out vs (set l' at v) (suc at) q (inl (omega arith))))
    (λ n. sets-agree vs (set l at v) (set l' at v) (suc at) q (same_set l l' at v s) (omega (arith, h.0), omega (arith, h.1)))
    (same? q at)

-- parts
part-agree : (b c : ℕ) (l l' : List ℕ) → Agree b c l l' → b + c ≤ length l → take c (drop b l) ≡ take c (drop b l')
part-agree b c l l' g h =
    let n = length-take-le c (drop b l) (omega (arith, length-drop b l)) in
    let n' = length-take-le c (drop b l') (omega (arith, g.size, length-drop b l')) in
    ext_get_or 0 _ _ (n ∙ sym n')
    (λ i k.
    let j : i < c = omega arith in
    rw (get_or-take c (drop b l) i 0 j, get_or-take c (drop b l') i 0 j, get_or-drop b l i 0, get_or-drop b l' i 0) (g.bytes (b + i) (omega arith, omega arith)))

-- copies
copied-agree :
    (source source' : List ℕ) (c a b : ℕ) (mem mem' : List ℕ) (q : ℕ) → length mem ≡ length mem' → Agree b c source source' → b + c ≤ length source → Among q a c
    → get_or (copied source c a b mem) q 0 ≡ get_or (copied source' c a b mem') q 0
copied-agree source source' c a b mem mem' q s g k h =
    let n = length-take-le c (drop b source) (omega (arith, length-drop b source)) in
    rw (← part-agree b c source source' g k) (sets-agree (take c (drop b source)) mem mem' a q s (h.0, omega (arith, h.1)))

-- numbers
number-agree : (w : ℕ) (mem mem' : List ℕ) (p : ℕ) → Agree p w mem mem' → number_at w mem p ≡ number_at w mem' p
number-agree zero mem mem' p g = refl
number-agree (suc w) mem mem' p g =
    let later : Agree (p + 1) w mem mem' = record { size = g.size; bytes = λ q i. g.bytes q (omega (arith, i.0), omega (arith, i.1)) } in
    rw (g.bytes p (omega arith, omega arith), number-agree w mem mem' (p + 1) later)

-- the same fault, or the same values pushed and the same bytes in a range
abbrev Same : ℕ → ℕ → Effect → Effect → Type 0
Same from n (fails j) (fails k) = j ≡ k
Same from n (fails j) (leaves mem vs) = ⊥
Same from n (leaves mem vs) (fails k) = ⊥
Same from n (leaves mem vs) (leaves mem' us) = (vs ≡ us) × ((q : ℕ) → Among q from n → get_or mem q 0 ≡ get_or mem' q 0)

-- behind a test that both pass or fail
same_or : (t u : Bool) (from n j : ℕ) (x y : Effect) → t ≡ u → (t ≡ true → Same from n x y) → Same from n (pick t x (fails j)) (pick u y (fails j))
same_or true true from n j x y e h = h refl
same_or true false from n j x y e h = absurd (false-true (sym e))
same_or false true from n j x y e h = absurd (false-true e)
same_or false false from n j x y e h = refl

same_good : (l l' : List ℕ) (p w : ℕ) → length l ≡ length l' → good l p w ≡ good l' p w
same_good l l' p w s = ap (λ (n : ℕ). leb (p + w) n) s

module _ (program mem mem' : List ℕ) (arg : ℕ → ℕ) (next : ℕ) where
  -- nothing is written
  still : (vs us : List ℕ) → vs ≡ us → Same 0 0 (leaves mem vs) (leaves mem' us)
  still vs us e = (e, λ q h. absurd (omega (arith, h.0, h.1)))

  same-routed : (r : Route) (x : ℕ) → Same 0 0 (routed program mem arg next r x) (routed program mem' arg next r x)
  same-routed route.Call x = still (next ∷ []) (next ∷ []) refl
  same-routed route.Jump x = still [] [] refl
  same-routed route.JumpIf x = still [] [] refl
  same-routed route.JumpIfNot x = still [] [] refl
  same-routed route.System x = same_or (eqb x 0) (eqb x 0) 0 0 8 (leaves mem []) (leaves mem' []) refl (λ t. still [] [] refl)
  same-routed route.Extension x = refl

  -- from sources that agree in the range
  same-copied :
      (source source' : List ℕ) (n : ℕ) → length mem ≡ length mem' → Agree (arg 1) (arg 2) source source'
      → Same (arg 0) (arg 2) (copied_from program mem arg next source n) (copied_from program mem' arg next source' n)
  same-copied source source' n s g =
      same_or (good mem (arg 0) (arg 2)) (good mem' (arg 0) (arg 2)) (arg 0) (arg 2) 6 _ _ (same_good mem mem' (arg 0) (arg 2) s)
      (λ t. same_or (good source (arg 1) (arg 2)) (good source' (arg 1) (arg 2)) (arg 0) (arg 2) n _ _ (same_good source source' (arg 1) (arg 2) g.size)
      (λ u. (refl, λ q h. copied-agree source source' (arg 2) (arg 0) (arg 1) mem mem' q s g (leb-true _ _ u) h)))

  same_effect : (o : Op) → Agree (reads_from arg o) (reads_count arg o) mem mem' → Same (writes_from arg o) (writes_count arg o) (effect_of program mem arg next o) (effect_of program mem' arg next o)
  same_effect op.Halt g = still [] [] refl
  same_effect op.Discard g = still [] [] refl
  same_effect op.DataCopy g = same-copied mem mem' 6 g.size g
  same_effect op.ProgramCopy g = same-copied program program 7 g.size (record { size = refl; bytes = λ q h. refl })
  same_effect op.Swap g = still (arg 0 ∷ arg 1 ∷ []) (arg 0 ∷ arg 1 ∷ []) refl
  same_effect (op.Taken r) g = same-routed r (arg 0)
  same_effect (op.Given r x) g = same-routed r x
  same_effect (op.Two p) g = still _ _ refl
  same_effect (op.TwoNumber p x) g = still _ _ refl
  same_effect (op.One s) g = still _ _ refl
  same_effect (op.Load w n x) g =
      same_or (good mem (place_of arg n x) w) (good mem' (place_of arg n x) w) 0 0 6 _ _ (same_good mem mem' (place_of arg n x) w g.size)
      (λ t. still _ _ (ap (λ (v : ℕ). v ∷ []) (number-agree w mem mem' (place_of arg n x) g)))
  same_effect (op.Store w n x) g =
      same_or (good mem (place_of arg n x) w) (good mem' (place_of arg n x) w) (place_of arg n x) w 6 _ _ (same_good mem mem' (place_of arg n x) w g.size)
      (λ t.
      let l = length-bytes w (arg n) in
      (refl, λ q h. sets-agree (bytes_of w (arg n)) mem mem' (place_of arg n x) q g.size (h.0, omega (arith, h.1))))
  same_effect (op.Push vs) g = still vs vs refl
  same_effect op.NoOp g = still [] [] refl

module _ (program : List ℕ) (next : ℕ) (o : Op) (depth : ℕ) (mem mem' cells : List ℕ) where
  alike-fault : (n : ℕ) → Alike o depth cells (became (refused n) mem cells) (became (refused n) mem' cells)
  alike-fault n = record { same_move = refl; same_cells = refl; same_bytes = λ f q h. absurd (false-true (sym f)) }

  alike-effect : (e : ℕ) (x y : Effect) → Same (writes_from (operand_of cells depth) o) (writes_count (operand_of cells depth) o) x y
      → Alike o depth cells (on_effect program next o depth mem cells e x) (on_effect program next o depth mem' cells e y)
  alike-effect e (fails j) (fails k) h = record { same_move = ap (λ (n : ℕ). refused n) h; same_cells = refl; same_bytes = λ f q i. absurd (false-true (sym f)) }
  alike-effect e (fails j) (leaves m us) h = absurd h
  alike-effect e (leaves m vs) (fails k) h = absurd h
  alike-effect e (leaves m vs) (leaves m' us) h = record { same_move = refl; same_cells = ap (λ (ws : List ℕ). pushed cells (depth - taken_of o) ws) h.0; same_bytes = λ f q i. h.1 q i }

  pub do-alike : Agree (reads_from (operand_of cells depth) o) (reads_count (operand_of cells depth) o) mem mem'
      → Alike o depth cells (do_of program next o depth mem cells) (do_of program next o depth mem' cells)
  unfolding do_of
  do-alike g = by (depth_after (length cells) depth (taken_of o) (pushed_of o))
    where
      by : (a : Answer ℕ) → Alike o depth cells (on_stack program next o depth mem cells a) (on_stack program next o depth mem' cells a)
      by (refused n) = alike-fault n
      by (given e) =
          let arg = operand_of cells depth in
          alike-effect e (effect_of program mem arg next o) (effect_of program mem' arg next o) (same_effect program mem mem' arg next o g)

-- an instruction
pub act-alike : (program : List ℕ) (address depth : ℕ) (mem mem' cells : List ℕ) (i : Instruction) (n : ℕ) → decode_of program address ≡ given (i, n)
    → Agree (reads_from (operand_of cells depth) (op_of i)) (reads_count (operand_of cells depth) (op_of i)) mem mem'
    → Alike (op_of i) depth cells (act_of program address depth mem cells) (act_of program address depth mem' cells)
unfolding act_of
act-alike program address depth mem mem' cells i n e g = rw e (do-alike program (address + n) (op_of i) depth mem mem' cells g)
