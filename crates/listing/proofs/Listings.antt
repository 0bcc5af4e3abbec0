-- Laws of the listing: from an address on it is one line and the lines from the next address.
-- Assumes nothing.
use Prim.Native.Nat.{ℕ, zero, suc, ◌+◌, ◌-◌, ◌≤◌, ◌<◌}
use native.Mathlib.Omega.{arith}
use native.Mathlib.Nat.{add-zero, add-suc, suc-add}
use mathlib.Core.Path.{◌≡◌, refl, ◌∙◌}
use mathlib.Core.List.{List, [], ◌∷◌, ◌++◌}
use lib.ListN.{length, get_or, drop, length-drop, drop_of_length-le}
use lib.Seq.{drop-cons, drop-drop}
use borrow.Author.Tests.{le-ltb, lt-leb}
use Rattle.std.specs.Prelude.{Result}
use Rattle.basis.specs.Answer.{Answer, given, refused}
use Rattle.basis.specs.Refusal.{answer_of}
use Rattle.basis.specs.declared.refusal.Refusal.{Refusal}
use Rattle.decoder.specs.Decode.{Reading, head_of, decode_of}
use Rattle.decoder.proofs.Lengths.{head-length}
use Rattle.lines.specs.Line.{step_of, line_of}
use Rattle.listing.specs.Listing.{lines_of}
use Rattle.listing.specs.Walk.{left}
use Rattle.listing.specs.declared.walk.Walk.{Walk}

-- bytes of the line before
pub lines-past : (m at : ℕ) (s : List ℕ) → lines_of m at s ≡ lines_of 0 (at + m) (drop m s)
unfolding lines_of
lines-past zero at s = rw add-zero
lines-past (suc m) at [] = refl
lines-past (suc m) at (b ∷ s) = lines-past m (suc at) s ∙ rw (add-suc, suc-add)

-- a line is about one byte at least, and about no more than there are
pub step_in : (s : List ℕ) → 0 < length s → (1 ≤ step_of (head_of s)) × (step_of (head_of s) ≤ length s)
step_in s h = by (head_of s) refl
  where
    by : (d : Answer Reading) → head_of s ≡ d → (1 ≤ step_of d) × (step_of d ≤ length s)
    by (given r) e = let h = head-length s r e in (h.0, h.1)
    by (refused n) e = (omega arith, omega arith)

module _ (p : List ℕ) (at : ℕ) (h : length p ≤ 16384) (g : at < length p) where
  decode-head : decode_of p at ≡ head_of (drop at p)
  unfolding decode_of
  decode-head = rw (le-ltb _ _ h, lt-leb _ _ g)

  pub step_fits : (1 ≤ step_of (decode_of p at)) × (at + step_of (decode_of p at) ≤ length p)
  step_fits =
      let l = length-drop at p in
      let s = step_in (drop at p) (omega arith) in
      rw decode-head (s.0, omega arith)

lines-first : (at b : ℕ) (l s : List ℕ) → l ≡ b ∷ s → lines_of 0 at l ≡ line_of at (head_of l) b ++ lines_of (step_of (head_of l) - 1) (suc at) s
unfolding lines_of
lines-first at b l s e = rw e

-- the lines from an address on: one line, and the lines from the next
pub lines_step : (p : List ℕ) (at : ℕ) → length p ≤ 16384 → at < length p →
    lines_of 0 at (drop at p) ≡ line_of at (decode_of p at) (get_or p at 0) ++ lines_of 0 (at + step_of (decode_of p at)) (drop (at + step_of (decode_of p at)) p)
lines_step p at h g =
    let s = step_fits p at h g in
    let k : suc at + (step_of (decode_of p at) - 1) ≡ at + step_of (decode_of p at) = omega arith in
    lines-first at (get_or p at 0) (drop at p) (drop (suc at) p) (drop-cons p at 0 g)
    ∙ rw (← decode-head p at h g, lines-past (step_of (decode_of p at) - 1), drop-drop, k)

-- a walk at an address of its program, with the decoder's answer there and the bytes that its line is about
module _ (w : Walk) (a : Result Reading Refusal) (n : ℕ) (g : w.at < length w.program.now) (d : answer_of a ≡ decode_of w.program.now w.at) (e : n ≡ step_of (answer_of a)) where
  pub step-inside : (1 ≤ n) × (w.at + n ≤ length w.program.now)
  step-inside = rw (e, d) (step_fits w.program.now w.at w.within g)

  pub left-first : (b : ℕ) → b ≡ get_or w.program.now w.at 0 → left w ≡ line_of w.at (answer_of a) b ++ lines_of 0 (w.at + n) (drop (w.at + n) w.program.now)
  left-first b f = rw (f, e, d) (lines_step w.program.now w.at w.within g)

pub left-none : (w : Walk) → length w.program.now ≤ w.at → left w ≡ []
unfolding lines_of
left-none w h = let e = drop_of_length-le w.program.now h in rw e
