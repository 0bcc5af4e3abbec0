-- Why a pack is refused, sentence by sentence: each number of 01 with what makes it the first to apply.
use Rattle.std.specs.Prelude.{◌≡◌, ℕ, zero, suc, ◌+◌, ◌*◌, ◌≤◌, ◌<◌, List, length}
use Rattle.pack.specs.Contents.{first_of, entry_at}
use Rattle.pack.specs.Read.{count_of}
use Rattle.pack.specs.declared.Entry.{Entry}

-- the entry at an index
abbrev pub entry_in : List ℕ → ℕ → Entry
entry_in s i = entry_at s (2 + 8 * i)

-- the least tag that it may have: the first may have any, the others one above the tag before
abbrev pub least_in : List ℕ → ℕ → ℕ
least_in s zero = 0
least_in s (suc i) = (entry_in s i).tag + 1

-- where its body is to begin: "the first offset is 2 + 8n", the others where the body before ends
abbrev pub due_in : List ℕ → ℕ → ℕ
due_in s zero = first_of (count_of s)
due_in s (suc i) = due_in s i + (entry_in s i).length

-- nothing is wrong with it
pub record Good (s : List ℕ) (i : ℕ) : Type 0 where
  pub tag : least_in s i ≤ (entry_in s i).tag
  pub cells : (entry_in s i).cells ≤ 1024
  pub length : (entry_in s i).length ≤ 16384
  pub offset : (entry_in s i).offset ≡ due_in s i

-- what is wrong with it first: "32 tag not above the one before, 35 cells over 1,024 or length over 16,384, 33 wrong offset"
pub data Wrong (s : List ℕ) (i : ℕ) : ℕ → Type 0 where
  not_above : (entry_in s i).tag < least_in s i → Wrong s i 32
  cells_over : least_in s i ≤ (entry_in s i).tag → 1024 < (entry_in s i).cells → Wrong s i 35
  length_over : least_in s i ≤ (entry_in s i).tag → 16384 < (entry_in s i).length → Wrong s i 35
  wrong_offset : least_in s i ≤ (entry_in s i).tag → (entry_in s i).cells ≤ 1024 → (entry_in s i).length ≤ 16384 → ((entry_in s i).offset ≡ due_in s i → ⊥) → Wrong s i 33

-- neither 31 nor 30
pub record Whole (s : List ℕ) : Type 0 where
  pub size : length s ≤ 24576
  pub head : 2 ≤ length s
  pub count : count_of s ≤ 64
  pub room : first_of (count_of s) ≤ length s

-- the entries before an index are good
abbrev pub GoodBefore : List ℕ → ℕ → Type 0
GoodBefore s i = (j : ℕ) → j < i → Good s j

pub data Why (s : List ℕ) : ℕ → Type 0 where
  too_long : 24576 < length s → Why s 31
  count_cut : length s < 2 → Why s 30
  too_many : length s ≤ 24576 → 2 ≤ length s → 64 < count_of s → Why s 30
  contents_cut : 2 ≤ length s → count_of s ≤ 64 → length s < first_of (count_of s) → Why s 30
  bad_entry : {i n : ℕ} → Whole s → i < count_of s → GoodBefore s i → Wrong s i n → Why s n
  not_at_end : Whole s → GoodBefore s (count_of s) → (due_in s (count_of s) ≡ length s → ⊥) → Why s 34

-- nothing is wrong with the pack
pub record Right (s : List ℕ) : Type 0 where
  pub whole : Whole s
  pub good : GoodBefore s (count_of s)
  pub ends : due_in s (count_of s) ≡ length s
