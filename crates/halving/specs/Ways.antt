-- Ways of comparing: which entry is compared next follows from what the comparisons before it came to, and from nothing else.
use Rattle.std.specs.Prelude.{ℕ, zero, suc, ◌+◌, ◌*◌, ◌<◌, List, ltb}
use Rattle.basis.specs.Pick.{pick}
use Rattle.basis.specs.Number.{number_at}

-- come to an entry, by its index; or compare the number of one with the number sought, and go on by one of two ways
pub data Way : Type 0 where
  comes : ℕ → Way
  compares : ℕ → Way → Way → Way

-- the index that a way comes to, of entries a stride apart from `start` on: it goes by the first of two ways where the number compared is above
-- the one sought, else by the second
abbrev pub followed : Way → ℕ → ℕ → List ℕ → ℕ → ℕ
followed (comes i) start stride s sought = i
followed (compares i above other) start stride s sought =
    pick (ltb sought (number_at 2 s (start + stride * i))) (followed above start stride s sought) (followed other start stride s sought)

-- a way with at most so many comparisons, whatever they come to, each with one of n entries; and it comes to one of them
abbrev pub Within : ℕ → ℕ → Way → Type 0
Within n many (comes i) = i < n
Within n zero (compares i above other) = ⊥
Within n (suc many) (compares i above other) = (i < n) × Within n many above × Within n many other
