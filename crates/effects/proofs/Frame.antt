-- An operation that does not fault reaches only inside the memories, and what lies outside the ranges that it names, and
-- outside the cells that it pushes into, keeps what it held.
-- Assumes nothing.
use Prim.Native.Nat.{ℕ, suc, ◌+◌, ◌-◌, ◌≤◌}
use native.Mathlib.Omega.{arith}
use mathlib.Core.Path.{◌≡◌, refl, sym, ◌∙◌}
use mathlib.Core.Logic.{inl, inr, ◌≢◌}
use mathlib.Core.Bool.{Bool, true, false}
use mathlib.Core.List.{List, [], ◌∷◌}
use lib.ListN.{length, get_or, set, take, drop, length-set, length-take}
use lib.Seq.{sets, get_or-set_other}
use lib.Dec.{ltb, eqb}
use borrow.Author.Tests.{leb-true, ltb-true, ltb-false}
use Rattle.basis.specs.Pick.{pick}
use Rattle.basis.specs.Answer.{given, refused}
use Rattle.basis.specs.Number.{bytes_of}
use Rattle.basis.proofs.Numbers.{length-bytes}
use Rattle.basis.proofs.Tests.{false-true}
use Rattle.isa.specs.Op.{Op}
use Rattle.isa.specs.Shape.{taken_of, pushed_of}
use Rattle.isa.specs.Op.{op_of}
use Rattle.decoder.specs.Decode.{decode_of}
use Rattle.isa.specs.declared.Instruction.{Instruction}
use Rattle.isa.specs.declared.Route.{Route}
use Rattle.effects.specs.Memory.{operand_of, pushed, good, copied}
use Rattle.effects.specs.Effect.{Effect, fails, leaves, place_of, copied_from, routed, effect_of}
use Rattle.effects.specs.Act.{became, on_effect, do_of, act_of}
use Rattle.effects.proofs.Opens.{few, full, opened}
use Rattle.effects.proofs.Keeps.{Keeps, do-deep}
use Rattle.effects.specs.Reach.{writes_from, writes_count, InRange, Out, Framed}
use Rattle.isa.specs.Op as op
use Rattle.isa.specs.declared.Route.TheVariants as route

out-ne : (q from n : ℕ) → Out q from (suc n) → q ≢ from
out-ne q from n (inl h) e = omega arith
out-ne q from n (inr h) e = omega arith

out-next : (q from n : ℕ) → Out q from (suc n) → Out q (suc from) n
out-next q from n (inl h) = inl (omega arith)
out-next q from n (inr h) = inr (omega arith)

-- stores
pub sets-out : (vs l : List ℕ) (at q : ℕ) → Out q at (length vs) → get_or (sets l at vs) q 0 ≡ get_or l q 0
sets-out [] l at q h = refl
sets-out (v ∷ vs) l at q h = sets-out vs (set l at v) (suc at) q (out-next q at (length vs) h) ∙ get_or-set_other l at q v 0 (out-ne q at (length vs) h)

out-less : (q from n k : ℕ) → k ≤ n → Out q from n → Out q from k
out-less q from n k l (inl h) = inl h
out-less q from n k l (inr h) = inr (omega arith)

-- copies
copied-out : (source : List ℕ) (c a b : ℕ) (mem : List ℕ) (q : ℕ) → Out q a c → get_or (copied source c a b mem) q 0 ≡ get_or mem q 0
copied-out source c a b mem q h =
    let l : length (take c (drop b source)) ≤ c = simp length-take (omega arith) in
    sets-out (take c (drop b source)) mem a q (out-less q a c _ l h)

-- pushes: the cells from the new top up to the old one
out-push : (q n d k : ℕ) → d + suc k ≤ n → Out q (n - (d + suc k)) (suc k) → (q ≢ n - (d + 1)) × Out q (n - (d + 1 + k)) k
out-push q n d k l (inl h) = ((λ e. omega arith), inl (omega arith))
out-push q n d k l (inr h) = ((λ e. omega arith), inr (omega arith))

pub pushed-out : (vs cells : List ℕ) (d q : ℕ) → d + length vs ≤ length cells → Out q (length cells - (d + length vs)) (length vs) → get_or (pushed cells d vs) q 0 ≡ get_or cells q 0
pushed-out [] cells d q l h = refl
pushed-out (v ∷ vs) cells d q l h =
    let s = length-set cells (length cells - (d + 1)) v in
    let o = out-push q (length cells) d (length vs) l h in
    pushed-out vs (set cells (length cells - (d + 1)) v) (d + 1) q (omega arith) (rw s o.1)
    ∙ get_or-set_other cells (length cells - (d + 1)) q v 0 o.0

leaves-mem : (mem mem' vs vs' : List ℕ) → leaves mem vs ≡ leaves mem' vs' → mem ≡ mem'
leaves-mem mem mem' vs vs' e = cc

leaves-values : (mem mem' vs vs' : List ℕ) → leaves mem vs ≡ leaves mem' vs' → vs ≡ vs'
leaves-values mem mem' vs vs' e = cc

fails-leaves : (n : ℕ) (mem vs : List ℕ) → fails n ≡ leaves mem vs → ⊥
fails-leaves n mem vs e = let z : ◌≡◌ {A = ℕ} 0 1 = cc in omega arith

-- an effect behind a test of a range
ranged : (t : Bool) (x : Effect) (n : ℕ) (mem vs : List ℕ) → pick t x (fails n) ≡ leaves mem vs → (t ≡ true) × (x ≡ leaves mem vs)
ranged true x n mem vs e = (refl, e)
ranged false x n mem vs e = absurd (fails-leaves n mem vs e)

-- what an effect that does not fail shows: its ranges, how many values it pushes, and the bytes that it keeps
pub record Shown (program mem mem' vs : List ℕ) (arg : ℕ → ℕ) (o : Op) : Type 0 where
  pub inside : InRange arg program mem o
  pub pushes : length vs ≡ pushed_of o
  pub keeps : (q : ℕ) → Out q (writes_from arg o) (writes_count arg o) → get_or mem' q 0 ≡ get_or mem q 0

module _ (program mem : List ℕ) (arg : ℕ → ℕ) (next : ℕ) (mem' vs : List ℕ) where
  -- the data is as it was
  still : (o : Op) (us : List ℕ) → leaves mem us ≡ leaves mem' vs → InRange arg program mem o → length us ≡ pushed_of o → Shown program mem mem' vs arg o
  still o us e i l =
      let a = leaves-mem mem mem' us vs e in
      let b = leaves-values mem mem' us vs e in
      record { inside = i; pushes = rw (← b) l; keeps = λ q h. rw (← a) }

  shown-route : (o : Op) (r : Route) (x : ℕ) → InRange arg program mem o → pushed_of o ≡ pushed_of (op.Taken r) → routed program mem arg next r x ≡ leaves mem' vs → Shown program mem mem' vs arg o
  shown-route o route.Call x i p e = still o (next ∷ []) e i (sym p)
  shown-route o route.Jump x i p e = still o [] e i (sym p)
  shown-route o route.JumpIf x i p e = still o [] e i (sym p)
  shown-route o route.JumpIfNot x i p e = still o [] e i (sym p)
  shown-route o route.System x i p e = still o [] (ranged (eqb x 0) (leaves mem []) 8 mem' vs e).1 i (sym p)
  shown-route o route.Extension x i p e = absurd (fails-leaves 8 mem' vs e)

  -- a copy from a source: both its ranges are good
  shown-copy :
      (o : Op) (source : List ℕ) (n : ℕ) → (arg 0 + arg 2 ≤ length mem → arg 1 + arg 2 ≤ length source → InRange arg program mem o)
      → pushed_of o ≡ 1 → writes_from arg o ≡ arg 0 → writes_count arg o ≡ arg 2 → copied_from program mem arg next source n ≡ leaves mem' vs → Shown program mem mem' vs arg o
  shown-copy o source n i p f c e =
      let r = ranged (good mem (arg 0) (arg 2)) _ 6 mem' vs e in
      let s = ranged (good source (arg 1) (arg 2)) _ n mem' vs r.1 in
      let a = leaves-mem _ mem' _ vs s.1 in
      let b = leaves-values _ mem' _ vs s.1 in
      record {
        inside = i (leb-true _ _ r.0) (leb-true _ _ s.0);
        pushes = rw (← b) (sym p);
        keeps = λ q h. rw (← a) (copied-out source (arg 2) (arg 0) (arg 1) mem q (rw (← f, ← c) h));
      }

  shown-effect : (o : Op) → effect_of program mem arg next o ≡ leaves mem' vs → Shown program mem mem' vs arg o
  shown-effect op.Halt e = still op.Halt [] e tt refl
  shown-effect op.Discard e = still op.Discard [] e tt refl
  shown-effect op.DataCopy e = shown-copy op.DataCopy mem 6 (λ i j. (i, j)) refl refl refl e
  shown-effect op.ProgramCopy e = shown-copy op.ProgramCopy program 7 (λ i j. (i, j)) refl refl refl e
  shown-effect op.Swap e = still op.Swap _ e tt refl
  shown-effect (op.Taken r) e = shown-route (op.Taken r) r (arg 0) tt refl e
  shown-effect (op.Given r x) e = shown-route (op.Given r x) r x tt refl e
  shown-effect (op.Two p) e = still (op.Two p) _ e tt refl
  shown-effect (op.TwoNumber p x) e = still (op.TwoNumber p x) _ e tt refl
  shown-effect (op.One s) e = still (op.One s) _ e tt refl
  shown-effect (op.Load w n x) e =
      let r = ranged (good mem (place_of arg n x) w) _ 6 mem' vs e in
      still (op.Load w n x) _ r.1 (leb-true _ _ r.0) refl
  shown-effect (op.Store w n x) e =
      let r = ranged (good mem (place_of arg n x) w) _ 6 mem' vs e in
      let a = leaves-mem _ mem' _ vs r.1 in
      let b = leaves-values _ mem' _ vs r.1 in
      let l = length-bytes w (arg n) in
      record {
        inside = leb-true _ _ r.0;
        pushes = rw (← b);
        keeps = λ q h. rw (← a) (sets-out (bytes_of w (arg n)) mem (place_of arg n x) q (rw l h));
      }
  shown-effect (op.Push us) e = still (op.Push us) us e tt refl
  shown-effect op.NoOp e = still op.NoOp [] e tt refl

module _ (program : List ℕ) (next : ℕ) (o : Op) (depth : ℕ) (mem cells : List ℕ) where
  faulted : (n : ℕ) → Framed program o depth mem cells (became (refused n) mem cells)
  faulted n =
      record {
        in_range = λ h. absurd (false-true (sym h));
        fault_keeps = λ h. (refl, refl);
        data_length = refl;
        cells_length = refl;
        data_kept = λ q h. refl;
        cells_kept = λ q h. refl;
      }

  abbrev after : ℕ
  after = depth - taken_of o + pushed_of o

  framed-effect : after ≤ length cells → Keeps mem cells (on_effect program next o depth mem cells after (effect_of program mem (operand_of cells depth) next o))
      → Framed program o depth mem cells (on_effect program next o depth mem cells after (effect_of program mem (operand_of cells depth) next o))
  framed-effect l k = by (effect_of program mem (operand_of cells depth) next o) refl k
    where
      by : (x : Effect) → effect_of program mem (operand_of cells depth) next o ≡ x → Keeps mem cells (on_effect program next o depth mem cells after x)
          → Framed program o depth mem cells (on_effect program next o depth mem cells after x)
      by (fails n) e k = faulted n
      by (leaves mem' vs) e k =
          let s = shown-effect program mem (operand_of cells depth) next mem' vs o e in
          let p = s.pushes in
          record {
            in_range = λ h. s.inside;
            fault_keeps = λ h. absurd (false-true h);
            data_length = k.mem-length;
            cells_length = k.cells_length;
            data_kept = s.keeps;
            cells_kept = λ q h. pushed-out vs cells (depth - taken_of o) q (rw p l) (rw p h);
          }

  pub framed : Framed program o depth mem cells (do_of program next o depth mem cells)
  framed = by (ltb depth (taken_of o)) (ltb (length cells) after) refl refl
    where
      by : (t u : Bool) → ltb depth (taken_of o) ≡ t → ltb (length cells) after ≡ u → Framed program o depth mem cells (do_of program next o depth mem cells)
      by true u h k = rw (few program next o depth mem cells (ltb-true _ _ h)) (faulted 4)
      by false true h k = rw (full program next o depth mem cells (ltb-false _ _ h) (ltb-true _ _ k)) (faulted 5)
      by false false h k =
          let l = ltb-false (length cells) after k in
          let e = opened program next o depth mem cells after (ltb-false _ _ h) refl l in
          rw e (framed-effect l (rw e at (do-deep program next o depth mem cells)))

-- every access that succeeds lies in range; nothing outside the ranges named changes, of data or of cells
pub act-framed : (program : List ℕ) (address depth : ℕ) (mem cells : List ℕ) (i : Instruction) (n : ℕ) → decode_of program address ≡ given (i, n)
    → Framed program (op_of i) depth mem cells (act_of program address depth mem cells)
unfolding act_of
act-framed program address depth mem cells i n e = rw e (framed program (address + n) (op_of i) depth mem cells)
