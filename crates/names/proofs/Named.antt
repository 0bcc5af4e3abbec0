-- Laws of the rows of names: the row of a code, its length and its name.
-- Assumes nothing.
use Prim.Native.Nat.{ℕ, zero, suc, ◌+◌, ◌-◌, ◌*◌, ◌≤◌, ◌<◌}
use Prim.Native.String.{String}
use native.Mathlib.Omega.{arith}
use native.Mathlib.Nat.{add-zero}
use mathlib.Core.Path.{◌≡◌, refl, sym, ap, ◌∙◌}
use mathlib.Core.Bool.{Bool, true}
use mathlib.Core.List.{List, [], ◌∷◌, ◌++◌, append_assoc}
use lib.ListN.{length, get_or, take, drop, length-drop, length-append, replicate, length-replicate}
use lib.Seq.{drop-append-add, get_or-drop, take-append_seam, drop-drop}
use lib.Dec.{leb}
use borrow.Author.Tests.{leb-true}
use Rattle.basis.specs.Pick.{both}
use Rattle.basis.proofs.Tests.{both_left, both_right}
use Rattle.text.specs.Text.{bytes}
use Rattle.names.specs.Names.{names, place_of, name_of}
use Rattle.names.specs.Rows.{row, rows, name_rows}

-- every name is at most 17 long
abbrev short : List String → Bool
short [] = true
short (s ∷ ss) = both (leb (length (bytes s)) 17) (short ss)

short-at : (ss : List String) → short ss ≡ true → (k : ℕ) → length (bytes (get_or ss k "")) ≤ 17
short-at [] t k = omega arith
short-at (s ∷ ss) t zero = leb-true _ _ (both_left (leb (length (bytes s)) 17) (short ss) t)
short-at (s ∷ ss) t (suc k) = short-at ss (both_right (leb (length (bytes s)) 17) (short ss) t) k

pub name-short : (c : ℕ) → length (name_of c) ≤ 17
unfolding name_of
name-short c = short-at names refl (place_of c)

length-row : (s : String) → length (bytes s) ≤ 17 → length (row s) ≡ 18
length-row s h = simp (length-append, length-replicate) (omega arith)

rows_at : (ss : List String) → short ss ≡ true → (k : ℕ) → k < length ss → drop (18 * k) (rows ss) ≡ row (get_or ss k "") ++ rows (drop (suc k) ss)
rows_at [] t k h = absurd (omega arith)
rows_at (s ∷ ss) t zero h = refl
rows_at (s ∷ ss) t (suc k) h =
    let g : 18 * suc k ≡ length (row s) + 18 * k = omega (arith, length-row s (leb-true _ _ (both_left (leb (length (bytes s)) 17) (short ss) t))) in
    rw (g, drop-append-add) (rows_at ss (both_right (leb (length (bytes s)) 17) (short ss) t) k (omega arith))

length-rows : length name_rows ≡ 1674
unfolding name_rows
length-rows = refl

-- the row of a code
row_at : (c : ℕ) → place_of c < 93 → drop (18 * place_of c) name_rows ≡ length (name_of c) ∷ (name_of c ++ (replicate (17 - length (name_of c)) 0x20 ++ rows (drop (suc (place_of c)) names)))
unfolding name_rows name_of
row_at c h = rows_at names refl (place_of c) h ∙ rw append_assoc

row-length : (c : ℕ) → place_of c < 93 → get_or name_rows (18 * place_of c) 0 ≡ length (name_of c)
row-length c h =
    ap (λ (n : ℕ). get_or name_rows n 0) (sym (add-zero (18 * place_of c))) ∙ sym (get_or-drop (18 * place_of c) name_rows 0 0) ∙ ap (λ (l : List ℕ). get_or l 0 0) (row_at c h)

row-name : (c : ℕ) → place_of c < 93 → take (length (name_of c)) (drop (18 * place_of c + 1) name_rows) ≡ name_of c
row-name c h = rw (← drop-drop 1 (18 * place_of c) name_rows, row_at c h) (take-append_seam (name_of c) _)

row_fits : (c : ℕ) → place_of c < 93 → 18 * place_of c + 1 + length (name_of c) ≤ 1674
row_fits c h = omega (arith, simp (length-drop, length-append, length-rows) at (ap length (row_at c h)))

pub length-lent : (lent : List ℕ) → lent ≡ name_rows → length lent ≡ 1674
length-lent lent e = rw (e, length-rows) refl

-- the table that the code was lent, at the row that it found
module _ (lent : List ℕ) (c k : ℕ) (e : lent ≡ name_rows) (f : k ≡ place_of c) (h : k < 93) where
  pub name-length-at : get_or lent (18 * k) 0 ≡ length (name_of c)
  name-length-at = let g : place_of c < 93 = omega arith in rw (e, f) (row-length c g)

  pub name-end : 18 * k + 1 + length (name_of c) ≤ length lent
  name-end = let g : place_of c < 93 = omega arith in rw (e, f, length-rows) (row_fits c g)

  pub name-part : take (18 * k + 1 + length (name_of c) - (18 * k + 1)) (drop (18 * k + 1) lent) ≡ name_of c
  name-part =
      let m : 18 * place_of c + 1 + length (name_of c) - (18 * place_of c + 1) ≡ length (name_of c) = omega arith in
      let g : place_of c < 93 = omega arith in
      rw (e, f, m) (row-name c g)

-- what is known of the table, for the search
pub ruleset tabled = (length-lent, name-length-at, name-short, name-end, name-part)
