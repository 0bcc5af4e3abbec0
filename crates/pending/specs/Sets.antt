-- A set of addresses below 16,384, a binary digit for each, with a second row of digits that says which words are not 0.
use Rattle.std.specs.Prelude.{ℕ, ◌<◌, ◌/◌, ◌%◌, ◌≡◌, ◌≢◌, List, length, get_or, eqb, Option, Some, None}
use Rattle.std.specs.Int.{bit_at}
use Rattle.basis.specs.Pick.{pick}

-- 1 where a is in the set, else 0: 64 addresses a word
abbrev pub held : List ℕ → ℕ → ℕ
held words a = bit_at (get_or words (a / 64) 0) (a % 64)

-- a has come into the set
pub record Joined (before : List ℕ) (a : ℕ) (after : List ℕ) : Type 0 where
  pub len : length after ≡ length before
  pub new : held after a ≡ 1
  pub others : (b : ℕ) → b ≢ a → held after b ≡ held before b
  pub words : (j : ℕ) → j ≢ a / 64 → get_or after j 0 ≡ get_or before j 0

-- a has gone from it
pub record Gone (before : List ℕ) (a : ℕ) (after : List ℕ) : Type 0 where
  pub len : length after ≡ length before
  pub out : held after a ≡ 0
  pub others : (b : ℕ) → b ≢ a → held after b ≡ held before b
  pub words : (j : ℕ) → j ≢ a / 64 → get_or after j 0 ≡ get_or before j 0

-- a is the lowest in the set
pub record First (words : List ℕ) (a : ℕ) : Type 0 where
  pub some : held words a ≡ 1
  pub none : (b : ℕ) → b < a → held words b ≡ 0

-- the tops hold the words that are not 0
pub record Topped (words tops : List ℕ) : Type 0 where
  pub wide : length words ≡ 256
  pub high : length tops ≡ 4
  pub empty : (j : ℕ) → held tops j ≡ 0 → get_or words j 0 ≡ 0
  pub full : (j : ℕ) → held tops j ≡ 1 → get_or words j 0 ≢ 0

-- 1 where a is in the set or is the one beside it
abbrev pub member : List ℕ → Option ℕ → ℕ → ℕ
member words None a = held words a
member words (Some b) a = pick (eqb a b) 1 (held words a)

-- what stands beside the set is an address, and not in it
abbrev pub Beside : List ℕ → Option ℕ → Type 0
Beside words None = Unit {0}
Beside words (Some b) = (b < 16384) × (held words b ≡ 0)

-- the addresses below an address, or all for none, end here
abbrev pub end_of : Option ℕ → ℕ
end_of None = 16384
end_of (Some a) = a

-- low is the lowest of the set and the one beside it, and is now beside it itself
pub record Taken (before : List ℕ) (beside low : Option ℕ) (after : List ℕ) : Type 0 where
  pub out : Beside after low
  pub none : (b : ℕ) → b < end_of low → member before beside b ≡ 0
  pub same : (b : ℕ) → b < 16384 → member after low b ≡ member before beside b
