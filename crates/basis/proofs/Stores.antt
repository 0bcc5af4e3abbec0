-- Laws of stores into a lent room, and of parts of a list.
-- Assumes nothing.
use Prim.Native.Nat.{ℕ, suc, ◌+◌, ◌-◌, ◌≤◌}
use native.Mathlib.Omega.{arith}
use native.Mathlib.Nat.{le_of_eq, add-zero, zero-add, add-suc, suc-add}
use mathlib.Core.Path.{◌≡◌, refl, ◌∙◌}
use mathlib.Core.List.{List, [], ◌∷◌, ◌++◌}
use lib.ListN.{length, get_or, take, drop, set, length-drop}
use lib.Seq.{take_all, sets, sets-eq}
use Rattle.basis.specs.Number.{bytes_of}
use Rattle.basis.proofs.Numbers.{length-bytes}

-- two runs of elements stored one after the other
pub sets-append : (xs l ys : List ℕ) (at : ℕ) → sets l at (xs ++ ys) ≡ sets (sets l at xs) (at + length xs) ys
sets-append [] l ys at = rw add-zero
sets-append (x ∷ xs) l ys at = sets-append xs (set l at x) ys (suc at) ∙ rw (add-suc, suc-add)

-- a number and what follows it
pub sets-bytes : (l ys : List ℕ) (at w v : ℕ) → sets l at (bytes_of w v ++ ys) ≡ sets (sets l at (bytes_of w v)) (at + w) ys
sets-bytes l ys at w v = sets-append (bytes_of w v) l ys at ∙ rw length-bytes

-- for the search
pub ruleset parts = (sets-bytes)

-- stores at the start of a room
pub sets-start : (vs l : List ℕ) → length vs ≤ length l → sets l 0 vs ≡ vs ++ drop (length vs) l
sets-start vs l h = sets-eq vs l 0 (omega arith) ∙ rw zero-add

-- for the search
pub ruleset starts = (sets-start)

-- the part of a list from a place to its end
pub tail : (at : ℕ) (p : List ℕ) → take (length p - at) (drop at p) ≡ drop at p
tail at p = take_all (length p - at) (drop at p) (le_of_eq (length-drop at p))

-- the first element and the next m are the first m + 1
pub head-take : (s : List ℕ) (m : ℕ) → 1 ≤ length s → get_or s 0 0 ∷ take m (drop 1 s) ≡ take (suc m) s
head-take [] m h = absurd (omega arith)
head-take (x ∷ s) m h = refl
