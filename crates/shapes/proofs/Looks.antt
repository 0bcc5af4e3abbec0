-- What the table holds at a first byte is that byte's row, and what the row says is what the definitions say.
-- Assumes nothing.
use Prim.Native.Nat.{ℕ, zero, suc, ◌+◌, ◌*◌, ◌<◌}
use native.Mathlib.Omega.{arith}
use mathlib.Core.Path.{◌≡◌, refl, sym, ap, ◌∙◌}
use mathlib.Core.Logic.{◌≢◌}
use mathlib.Core.Bool.{Bool, true, false}
use mathlib.Core.List.{List, ◌++◌}
use lib.Dec.{eqb}
use lib.ListN.{get_or, length, length-append}
use borrow.Author.Tests.{eqb-true, eqb-false}
use Rattle.basis.specs.Pick.{pick}
use Rattle.forms.specs.Form.{form_of, code_of, count_in, length_of}
use Rattle.isa.specs.Shape.{taken_in, pushed_in}
use Rattle.std.specs.Prelude.{Option, Some, None}
use Rattle.shapes.specs.declared.row.Row.{Row}
use Rattle.shapes.specs.Shapes.{row, shape_of, numbers_of, rows_from, shape_rows}

-- three numbers stand before the rest
three : (s : Option Row) → length (numbers_of s) ≡ 3
three (Some r) = refl
three None = refl

first : (s : Option Row) (rest : List ℕ) (k : ℕ) → k < 3 → get_or (numbers_of s ++ rest) k 0 ≡ get_or (numbers_of s) k 0
first (Some r) rest zero h = refl
first (Some r) rest (suc zero) h = refl
first (Some r) rest (suc (suc zero)) h = refl
first (Some r) rest (suc (suc (suc k))) h = absurd (omega arith)
first None rest zero h = refl
first None rest (suc zero) h = refl
first None rest (suc (suc zero)) h = refl
first None rest (suc (suc (suc k))) h = absurd (omega arith)

later : (s : Option Row) (rest : List ℕ) (j : ℕ) → get_or (numbers_of s ++ rest) (suc (suc (suc j))) 0 ≡ get_or rest j 0
later (Some r) rest j = refl
later None rest j = refl

from-length : (b n : ℕ) → length (rows_from b n) ≡ n * 3
from-length b zero = refl
from-length b (suc n) = let l = three (shape_of b) in let m = from-length (suc b) n in length-append (numbers_of (shape_of b)) (rows_from (suc b) n) ∙ omega arith

from_at : (b n i k : ℕ) → i < n → k < 3 → get_or (rows_from b n) (i * 3 + k) 0 ≡ get_or (numbers_of (shape_of (b + i))) k 0
from_at b zero i k h l = absurd (omega arith)
from_at b (suc n) zero k h l = let e : b + 0 ≡ b = omega arith in let z : 0 + k ≡ k = omega arith in rw (e, z) (first (shape_of b) (rows_from (suc b) n) k l)
from_at b (suc n) (suc i) k h l =
    let e : b + suc i ≡ suc b + i = omega arith in
    let j : suc i * 3 + k ≡ suc (suc (suc (i * 3 + k))) = omega arith in
    rw (e, j) (later (shape_of b) (rows_from (suc b) n) (i * 3 + k) ∙ from_at (suc b) n i k (omega arith) l)

pub rows-length : length shape_rows ≡ 768
unfolding shape_rows
rows-length = from-length 0 256

-- number k of a first byte's row
pub row_at : (b k : ℕ) → b < 256 → k < 3 → get_or shape_rows (b * 3 + k) 0 ≡ get_or (numbers_of (shape_of b)) k 0
unfolding shape_rows
row_at b k h l = let z : 0 + b ≡ b = omega arith in rw z at (from_at 0 256 b k h l)

-- what a row says of its first byte
pub record Says (b l t p : ℕ) : Type 0 where
  pub long : l ≡ length_of b
  pub some : 0 < l
  pub taken : t ≡ taken_in (code_of b)
  pub pushed : p ≡ pushed_in (code_of b) (count_in (form_of (code_of b)) b)

none-row : (r : Row) → None ≡ Some r → ⊥
none-row r e = let z : ◌≡◌ {A = ℕ} 0 1 = cc in omega arith

-- the row itself, 0 in each place for none
abbrev row_or : Option Row → Row
row_or (Some r) = r
row_or None = row 0 0 0

pub row-says : (b : ℕ) (r : Row) → Some r ≡ shape_of b → Says b r.length r.taken r.pushed
unfolding shape_of
row-says b r e = by (eqb (length_of b) 0) refl e
  where
    by : (u : Bool) → eqb (length_of b) 0 ≡ u → Some r ≡ pick u None (Some (row (length_of b) (taken_in (code_of b)) (pushed_in (code_of b) (count_in (form_of (code_of b)) b)))) → Says b r.length r.taken r.pushed
    by true z q = absurd (none-row r (sym q))
    by false z q = let n = eqb-false (length_of b) 0 z in let w = ap row_or q in let m : r.length ≡ length_of b = ap (λ (x : Row). x.length) w in
        record { long = m; some = omega arith; taken = ap (λ (x : Row). x.taken) w; pushed = ap (λ (x : Row). x.pushed) w }

pub none-says : (b : ℕ) → None ≡ shape_of b → length_of b ≡ 0
unfolding shape_of
none-says b e = by (eqb (length_of b) 0) refl e
  where
    by : (u : Bool) → eqb (length_of b) 0 ≡ u → None ≡ pick u None (Some (row (length_of b) (taken_in (code_of b)) (pushed_in (code_of b) (count_in (form_of (code_of b)) b)))) → length_of b ≡ 0
    by true z q = eqb-true (length_of b) 0 z
    by false z q = absurd (none-row _ q)

-- the row that the code makes of what it finds in the table
module _ (rows : List ℕ) (e : rows ≡ shape_rows) (b : ℕ) (h : b < 256) where
  found : (k : ℕ) → k < 3 → get_or rows (b * 3 + k) 0 ≡ get_or (numbers_of (shape_of b)) k 0
  found k l = ap (λ (z : List ℕ). get_or z (b * 3 + k) 0) e ∙ row_at b k h l

  begins : get_or rows (b * 3) 0 ≡ get_or (numbers_of (shape_of b)) 0 0
  begins = let z : b * 3 + 0 ≡ b * 3 = omega arith in rw z at (found 0 (omega arith))

  numbers : (s : Option Row) → shape_of b ≡ s → (get_or rows (b * 3) 0 ≡ get_or (numbers_of s) 0 0) × (get_or rows (b * 3 + 1) 0 ≡ get_or (numbers_of s) 1 0) × (get_or rows (b * 3 + 2) 0 ≡ get_or (numbers_of s) 2 0)
  numbers s q = (rw q at begins, rw q at (found 1 (omega arith)), rw q at (found 2 (omega arith)))

  pub row-none : get_or rows (b * 3) 0 ≡ 0 → None ≡ shape_of b
  row-none z = by (shape_of b) refl
    where
      by : (s : Option Row) → shape_of b ≡ s → None ≡ s
      by (Some r) q = let w = (row-says b r (sym q)).some in let n = (numbers (Some r) q).0 in absurd (omega arith)
      by None q = refl

  pub row-some : get_or rows (b * 3) 0 ≢ 0 → Some (row (get_or rows (b * 3) 0) (get_or rows (b * 3 + 1) 0) (get_or rows (b * 3 + 2) 0)) ≡ shape_of b
  row-some n = by (shape_of b) refl
    where
      by : (s : Option Row) → shape_of b ≡ s → Some (row (get_or rows (b * 3) 0) (get_or rows (b * 3 + 1) 0) (get_or rows (b * 3 + 2) 0)) ≡ s
      by (Some r) q = let m = numbers (Some r) q in rw (m.0, m.1, m.2) refl
      by None q = absurd (n (numbers None q).0)

-- what an entry of the table says of its row
pub ruleset row_looks = (row-none, row-some, rows-length)
