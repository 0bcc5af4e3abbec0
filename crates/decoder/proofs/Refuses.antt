-- The decoder refuses by exactly the numbers of 01: a refusal has its reason, and a reason its refusal.
-- Assumes nothing.
use Prim.Native.Nat.{ℕ, ◌+◌, ◌-◌, ◌≤◌, ◌<◌}
use native.Mathlib.Omega.{arith}
use native.Mathlib.Nat.{add-zero}
use mathlib.Core.Path.{◌≡◌, refl, sym, ap, ◌∙◌}
use mathlib.Core.Bool.{Bool, true, false}
use mathlib.Core.List.{List}
use lib.ListN.{length, get_or, drop, length-drop}
use lib.Seq.{get_or-drop}
use lib.Count.{ones}
use lib.Dec.{ltb, leb, eqb}
use borrow.Author.Tests.{lt-ltb, le-ltb, le-leb, lt-leb, eq-eqb, ne_eqb, ltb-true, ltb-false, leb-true, leb-false, eqb-true, eqb-false}
use Rattle.basis.specs.Pick.{pick}
use Rattle.basis.specs.Answer.{Answer, given, refused}
use Rattle.basis.specs.Number.{number_at, Bytes}
use Rattle.basis.proofs.Tests.{refused-given}
use Rattle.basis.proofs.Numbers.{number_lt, bytes_drop}
use Rattle.forms.specs.Form.{form_of, code_of, length_of, limit_in}
use Rattle.forms.specs.declared.Form.{Form}
use Rattle.forms.specs.declared.Form.TheVariants.{Plain, Byte, Shift, Word, Short, Values, Illegal}
use Rattle.decoder.specs.Decode.{Reading, number_in, instruction_in, head_of, decode_of}
use Rattle.decoder.specs.Refusals.{Inside, Why, over_size, past_end, illegal_first, cut, illegal_shift}

-- a number at or over its limit is that of a shift, or of a form that admits no number
over : (f : Form) (s : List ℕ) → Bytes s → limit_in f ≤ number_in f s → (f ≡ Illegal → ⊥) → (f ≡ Shift) × (16 ≤ get_or s 1 0)
over Plain s h l n = absurd (omega arith)
over Byte s h l n = absurd (let k = number_lt 1 s 1 h in omega arith)
over Shift s h l n = (refl, omega arith)
over Word s h l n = absurd (let k = number_lt 2 s 1 h in omega arith)
over Short s h l n = absurd (omega arith)
over Values s h l n = absurd (omega arith)
over Illegal s h l n = absurd (n refl)

-- an illegal form has no length
no_length : (b : ℕ) (f : Form) → form_of (code_of b) ≡ f → f ≡ Illegal → length_of b ≡ 0
unfolding length_of
no_length b f e i = rw (e, i)

shift-length : (b : ℕ) → form_of (code_of b) ≡ Shift → length_of b ≡ 2
unfolding length_of ones
shift-length b e = rw e

module _ (p : List ℕ) (at : ℕ) where
  first_byte : get_or (drop at p) 0 0 ≡ get_or p at 0
  first_byte = get_or-drop at p 0 0 ∙ ap (λ (k : ℕ). get_or p k 0) (add-zero at)

  -- what the head of the rest says, told by the program's own byte
  head_at : head_of (drop at p)
      ≡ pick (eqb (length_of (get_or p at 0)) 0) (refused 2)
      (pick (ltb (length p - at) (length_of (get_or p at 0))) (refused 3)
      (pick (ltb (number_in (form_of (code_of (get_or p at 0))) (drop at p)) (limit_in (form_of (code_of (get_or p at 0)))))
      (given (instruction_in (form_of (code_of (get_or p at 0))) (drop at p), length_of (get_or p at 0)))
      (refused 2)))
  unfolding head_of
  head_at = rw (first_byte, length-drop)

why : (p : List ℕ) (at j k : ℕ) → Why p at j → ◌≡◌ {A = Answer Reading} (refused j) (refused k) → Why p at k
why p at j k w e = let q : j ≡ k = cc in rw (← q) w

-- a refusal has its reason
pub refusal-why : (p : List ℕ) (at k : ℕ) → Bytes p → decode_of p at ≡ refused k → Why p at k
unfolding decode_of
refusal-why p at k h e = go (ltb 16384 (length p)) (leb (length p) at) refl refl
  where
    b : ℕ
    b = get_or p at 0

    f : Form
    f = form_of (code_of b)

    head : length p ≤ 16384 → at < length p → head_of (drop at p) ≡ refused k → Why p at k
    head s l d = by (eqb (length_of b) 0) (ltb (length p - at) (length_of b)) (ltb (number_in f (drop at p)) (limit_in f)) refl refl refl
      where
        i : Inside p at b
        i = record { size = s; inside = l; byte = refl }

        by : (t u w : Bool) → eqb (length_of b) 0 ≡ t → ltb (length p - at) (length_of b) ≡ u → ltb (number_in f (drop at p)) (limit_in f) ≡ w → Why p at k
        by true u w x y z = why p at 2 k (illegal_first i (eqb-true _ _ x)) (rw x at (sym (head_at p at) ∙ d))
        by false true w x y z =
            let m = eqb-false (length_of b) 0 x in
            let c = ltb-true (length p - at) (length_of b) y in
            why p at 3 k (cut i (omega arith) (omega arith)) (rw (x, y) at (sym (head_at p at) ∙ d))
        by false false true x y z = absurd (refused-given k _ (sym (rw (x, y, z) at (sym (head_at p at) ∙ d))))
        by false false false x y z =
            let m = eqb-false (length_of b) 0 x in
            let c = ltb-false (length p - at) (length_of b) y in
            let o = over f (drop at p) (bytes_drop at p h) (ltb-false _ _ z) (λ q. m (no_length b f refl q)) in
            let n = shift-length b o.0 in
            let g : get_or (drop at p) 1 0 ≡ get_or p (at + 1) 0 = get_or-drop at p 1 0 in
            why p at 2 k (illegal_shift i o.0 (omega arith) (rw (← g) o.1)) (rw (x, y, z) at (sym (head_at p at) ∙ d))

    go : (t u : Bool) → ltb 16384 (length p) ≡ t → leb (length p) at ≡ u → Why p at k
    go true u x y = why p at 20 k (over_size (ltb-true _ _ x)) (rw x at e)
    go false true x y = why p at 1 k (past_end (ltb-false _ _ x) (leb-true _ _ y)) (rw (x, y) at e)
    go false false x y = head (ltb-false _ _ x) (leb-false _ _ y) (rw (x, y) at e)

-- a reason has its refusal
pub why-refusal : (p : List ℕ) (at k : ℕ) → Why p at k → decode_of p at ≡ refused k
unfolding decode_of
why-refusal p at k (over_size h) = rw (lt-ltb _ _ h)
why-refusal p at k (past_end s h) = rw (le-ltb _ _ s, le-leb _ _ h)
why-refusal p at k (illegal_first i z) =
    let q = i.byte in
    let e : length_of (get_or p at 0) ≡ 0 = rw q z in
    rw (le-ltb _ _ i.size, lt-leb _ _ i.inside, head_at p at, eq-eqb _ _ e)
why-refusal p at k (cut i z c) =
    let q = i.byte in
    let e : length_of (get_or p at 0) ≡ 0 → ⊥ = rw q (omega arith) in
    let l = i.inside in
    let s : length p - at < length_of (get_or p at 0) = rw q (omega arith) in
    rw (le-ltb _ _ i.size, lt-leb _ _ i.inside, head_at p at, ne_eqb _ _ e, lt-ltb _ _ s)
why-refusal p at k (illegal_shift i f r n) =
    let q = i.byte in
    let f' : form_of (code_of (get_or p at 0)) ≡ Shift = rw q f in
    let m = shift-length (get_or p at 0) f' in
    let g : get_or (drop at p) 1 0 ≡ get_or p (at + 1) 0 = get_or-drop at p 1 0 in
    let l : 16 ≤ number_at 1 (drop at p) 1 = omega arith in
    rw (le-ltb _ _ i.size, lt-leb _ _ i.inside, head_at p at, m, f')
    (rw (le-ltb (length p - at) 2 (omega arith), le-ltb (number_at 1 (drop at p) 1) 16 l))
