-- Laws of operands: their digits tell their widths and values, and the widths tell the count and the flags.
-- Assumes nothing.
use Prim.Native.Nat.{ℕ, zero, suc, ◌^◌, ◌≤◌, ◌<◌}
use native.Mathlib.Omega.{arith}
use mathlib.Core.Path.{◌≡◌, refl, sym, ap, ◌∙◌}
use mathlib.Core.Bool.{Bool, true}
use mathlib.Core.List.{List, ◌++◌}
use lib.ListN.{length}
use lib.Dec.{ltb, eqb}
use borrow.Author.Tests.{lt-ltb, eqb-true, eq-eqb}
use Rattle.basis.specs.Pick.{pick, both}
use Rattle.basis.proofs.Tests.{both_left, both_right}
use Rattle.basis.proofs.Tables.{every, at}
use Rattle.forms.specs.Form.{value_width, width0, width1, width2, width3}
use Rattle.text.specs.Text.{hex_of}
use Rattle.text.proofs.Puts.{length-hex}
use Rattle.lines.specs.Line.{operand_of}
use Rattle.distinct.proofs.Words.{front, word-stop, first, word-hex, hex-same}

pub operand-stop : (w v : ℕ) (l : List ℕ) → first l ≤ 32 → first (operand_of w v ++ l) ≤ 32
operand-stop zero v l h = h
operand-stop (suc w) v l h = omega arith

operand-absent : (w v : ℕ) (l : List ℕ) → w ≡ 0 → first l ≡ 10 → first (operand_of w v ++ l) ≡ 10
operand-absent w v l e h = rw e h

pub number_same : (w v v' : ℕ) (l l' : List ℕ) → v < 256 ^ w → v' < 256 ^ w → operand_of w v ++ l ≡ operand_of w v' ++ l' → (v ≡ v') × (l ≡ l')
number_same zero v v' l l' h h' e = (omega arith, e)
number_same (suc w) v v' l l' h h' e =
    let t : hex_of (suc w) v ++ l ≡ hex_of (suc w) v' ++ l' = cc in
    let r = front (hex_of (suc w) v) (hex_of (suc w) v') l l' (length-hex (suc w) v ∙ sym (length-hex (suc w) v')) t in
    (hex-same (suc w) v v' r.0 h h', r.1)

hex-same-at : (w w' m n : ℕ) → w ≡ w' → hex_of w m ≡ hex_of w' n → m < 256 ^ w → n < 256 ^ w' → m ≡ n
hex-same-at w w' m n e x h g = hex-same w' m n (rw e at x) (rw e at h) g

value_same : (w w' v v' : ℕ) (l l' : List ℕ) → v < 256 ^ w → v' < 256 ^ w' → first l ≤ 32 → first l' ≤ 32 → (w ≡ 0 → first l ≡ 10) → (w' ≡ 0 → first l' ≡ 10)
    → operand_of w v ++ l ≡ operand_of w' v' ++ l' → (w ≡ w') × (v ≡ v') × (l ≡ l')
value_same zero zero v v' l l' h h' s s' a a' e = (refl, omega arith, e)
value_same zero (suc w') v v' l l' h h' s s' a a' e = absurd (omega (arith, a refl, ap first e))
value_same (suc w) zero v v' l l' h h' s s' a a' e = absurd (omega (arith, a' refl, ap first e))
value_same (suc w) (suc w') v v' l l' h h' s s' a a' e =
    let t : hex_of (suc w) v ++ l ≡ hex_of (suc w') v' ++ l' = cc in
    let r = word-stop (hex_of (suc w) v) (hex_of (suc w') v') l l' (word-hex (suc w) v) (word-hex (suc w') v') s s' t in
    let k : suc w ≡ suc w' = omega (arith, length-hex (suc w) v, length-hex (suc w') v', ap length r.0) in
    (k, hex-same-at (suc w) (suc w') v v' k r.0 h h', r.1)

-- four values and what follows them
abbrev pub four : ℕ → ℕ → ℕ → ℕ → ℕ → ℕ → ℕ → ℕ → List ℕ → List ℕ
four w0 w1 w2 w3 v0 v1 v2 v3 l = operand_of w0 v0 ++ (operand_of w1 v1 ++ (operand_of w2 v2 ++ (operand_of w3 v3 ++ l)))

pub record Good (w0 w1 w2 w3 v0 v1 v2 v3 : ℕ) (l : List ℕ) : Type 0 where
  pub b0 : v0 < 256 ^ w0
  pub b1 : v1 < 256 ^ w1
  pub b2 : v2 < 256 ^ w2
  pub b3 : v3 < 256 ^ w3
  pub c1 : w0 ≡ 0 → w1 ≡ 0
  pub c2 : w1 ≡ 0 → w2 ≡ 0
  pub c3 : w2 ≡ 0 → w3 ≡ 0
  pub end : first l ≡ 10

module _ (w0 w1 w2 w3 v0 v1 v2 v3 : ℕ) (l : List ℕ) (g : Good w0 w1 w2 w3 v0 v1 v2 v3 l) where
  s3 : first (operand_of w3 v3 ++ l) ≤ 32
  s3 = operand-stop w3 v3 l (omega (arith, g.end))

  s2 : first (operand_of w2 v2 ++ (operand_of w3 v3 ++ l)) ≤ 32
  s2 = operand-stop w2 v2 (operand_of w3 v3 ++ l) s3

  pub s1 : first (operand_of w1 v1 ++ (operand_of w2 v2 ++ (operand_of w3 v3 ++ l))) ≤ 32
  s1 = operand-stop w1 v1 (operand_of w2 v2 ++ (operand_of w3 v3 ++ l)) s2

  a2 : w2 ≡ 0 → first (operand_of w3 v3 ++ l) ≡ 10
  a2 h = operand-absent w3 v3 l (g.c3 h) g.end

  a1 : w1 ≡ 0 → first (operand_of w2 v2 ++ (operand_of w3 v3 ++ l)) ≡ 10
  a1 h = operand-absent w2 v2 (operand_of w3 v3 ++ l) (g.c2 h) (a2 (g.c2 h))

  a0 : w0 ≡ 0 → first (operand_of w1 v1 ++ (operand_of w2 v2 ++ (operand_of w3 v3 ++ l))) ≡ 10
  a0 h = operand-absent w1 v1 (operand_of w2 v2 ++ (operand_of w3 v3 ++ l)) (g.c1 h) (a1 (g.c1 h))

pub record Equal (w0 w1 w2 w3 v0 v1 v2 v3 : ℕ) (l : List ℕ) (w0' w1' w2' w3' v0' v1' v2' v3' : ℕ) (l' : List ℕ) : Type 0 where
  pub e0 : w0 ≡ w0'
  pub e1 : w1 ≡ w1'
  pub e2 : w2 ≡ w2'
  pub e3 : w3 ≡ w3'
  pub x0 : v0 ≡ v0'
  pub x1 : v1 ≡ v1'
  pub x2 : v2 ≡ v2'
  pub x3 : v3 ≡ v3'
  pub rest : l ≡ l'

pub four_same : (w0 w1 w2 w3 v0 v1 v2 v3 : ℕ) (l : List ℕ) (w0' w1' w2' w3' v0' v1' v2' v3' : ℕ) (l' : List ℕ)
    → Good w0 w1 w2 w3 v0 v1 v2 v3 l → Good w0' w1' w2' w3' v0' v1' v2' v3' l'
    → four w0 w1 w2 w3 v0 v1 v2 v3 l ≡ four w0' w1' w2' w3' v0' v1' v2' v3' l' → Equal w0 w1 w2 w3 v0 v1 v2 v3 l w0' w1' w2' w3' v0' v1' v2' v3' l'
four_same w0 w1 w2 w3 v0 v1 v2 v3 l w0' w1' w2' w3' v0' v1' v2' v3' l' g g' e =
    let r0 = value_same w0 w0' v0 v0' _ _ g.b0 g'.b0 (s1 w0 w1 w2 w3 v0 v1 v2 v3 l g) (s1 w0' w1' w2' w3' v0' v1' v2' v3' l' g') (a0 w0 w1 w2 w3 v0 v1 v2 v3 l g) (a0 w0' w1' w2' w3' v0' v1' v2' v3' l' g') e in
    let r1 = value_same w1 w1' v1 v1' _ _ g.b1 g'.b1 (s2 w0 w1 w2 w3 v0 v1 v2 v3 l g) (s2 w0' w1' w2' w3' v0' v1' v2' v3' l' g') (a1 w0 w1 w2 w3 v0 v1 v2 v3 l g) (a1 w0' w1' w2' w3' v0' v1' v2' v3' l' g') r0.2 in
    let r2 = value_same w2 w2' v2 v2' _ _ g.b2 g'.b2 (s3 w0 w1 w2 w3 v0 v1 v2 v3 l g) (s3 w0' w1' w2' w3' v0' v1' v2' v3' l' g') (a2 w0 w1 w2 w3 v0 v1 v2 v3 l g) (a2 w0' w1' w2' w3' v0' v1' v2' v3' l' g') r1.2 in
    let r3 = value_same w3 w3' v3 v3' l l' g.b3 g'.b3 (omega (arith, g.end)) (omega (arith, g'.end)) (λ h. g.end) (λ h. g'.end) r2.2 in
    record { e0 = r0.0; e1 = r1.0; e2 = r2.0; e3 = r3.0; x0 = r0.1; x1 = r1.1; x2 = r2.1; x3 = r3.1; rest = r3.2 }

-- the widths of the values say how many there are, and their flags
abbrev alike : ℕ → ℕ → ℕ → ℕ → Bool
alike c f c' f' = both (eqb (width0 c f) (width0 c' f')) (both (eqb (width1 c f) (width1 c' f')) (both (eqb (width2 c f) (width2 c' f')) (eqb (width3 c f) (width3 c' f'))))

abbrev told : ℕ → ℕ → ℕ → ℕ → Bool
told c f c' f' = pick (both (ltb f (2 ^ c)) (both (ltb f' (2 ^ c')) (alike c f c' f'))) (both (eqb c c') (eqb f f')) true

all_told : every (λ (c : ℕ). every (λ (f : ℕ). every (λ (c' : ℕ). every (λ (f' : ℕ). told c f c' f') 16) 5) 16) 5 ≡ true
unfolding value_width
all_told = refl

pub widths-say : (c f c' f' : ℕ) → c < 5 → f < 16 → c' < 5 → f' < 16 → f < 2 ^ c → f' < 2 ^ c'
    → width0 c f ≡ width0 c' f' → width1 c f ≡ width1 c' f' → width2 c f ≡ width2 c' f' → width3 c f ≡ width3 c' f' → (c ≡ c') × (f ≡ f')
widths-say c f c' f' hc hf hc' hf' g g' p q r s =
    let t : told c f c' f' ≡ true = at (λ (k : ℕ). told c f c' k) 16 (at (λ (j : ℕ). every (λ (k : ℕ). told c f j k) 16) 5 (at (λ (i : ℕ). every (λ (j : ℕ). every (λ (k : ℕ). told c i j k) 16) 5) 16 (at (λ (h : ℕ). every (λ (i : ℕ). every (λ (j : ℕ). every (λ (k : ℕ). told h i j k) 16) 5) 16) 5 all_told c hc) f hf) c' hc') f' hf' in
    let u : both (eqb c c') (eqb f f') ≡ true = rw (lt-ltb _ _ g, lt-ltb _ _ g', eq-eqb _ _ p, eq-eqb _ _ q, eq-eqb _ _ r, eq-eqb _ _ s) at t in
    (eqb-true c c' (both_left (eqb c c') (eqb f f') u), eqb-true f f' (both_right (eqb c c') (eqb f f') u))
