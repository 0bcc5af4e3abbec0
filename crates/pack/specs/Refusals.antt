-- Why a lookup refuses, of any bytes: each number of 01 with what makes it the first to apply.
use Rattle.std.specs.Prelude.{ℕ, ◌+◌, ◌*◌, ◌≤◌, ◌<◌, ◌≡◌, List, length}
use Rattle.basis.specs.Answer.{given, refused}
use Rattle.halving.specs.Halving.{reached}
use Rattle.pack.specs.Contents.{first_of, entry_at}
use Rattle.pack.specs.Read.{count_of, held_of}
use Rattle.pack.specs.declared.Entry.{Entry}

-- one of the entries that the bytes hold, the contents being inside them
pub record Held (s : List ℕ) (e : Entry) : Type 0 where
  pub size : length s ≤ 24576
  pub count : count_of s ≤ 64
  pub room : first_of (count_of s) ≤ length s
  pub index : ℕ
  pub few : index < count_of s
  pub entry : e ≡ entry_at s (2 + 8 * index)

-- the one that halving comes to
abbrev pub come_to : List ℕ → ℕ → Entry
come_to s tag = entry_at s (reached 2 8 s tag (count_of s))

pub data Why (s : List ℕ) (tag : ℕ) : ℕ → Type 0 where
  too_long : 24576 < length s → Why s tag 31
  contents_cut : length s ≤ 24576 → held_of s ≡ refused 30 → Why s tag 30
  no_entries : length s ≤ 24576 → held_of s ≡ given 0 → Why s tag 36
  another_tag : Held s (come_to s tag) → ((come_to s tag).tag ≡ tag → ⊥) → Why s tag 36
  over_cells : Held s (come_to s tag) → (come_to s tag).tag ≡ tag → 1024 < (come_to s tag).cells → Why s tag 35
  over_length : Held s (come_to s tag) → (come_to s tag).tag ≡ tag → 16384 < (come_to s tag).length → Why s tag 35
  past_end : Held s (come_to s tag) → (come_to s tag).tag ≡ tag → (come_to s tag).cells ≤ 1024 → (come_to s tag).length ≤ 16384
      → length s < (come_to s tag).offset + (come_to s tag).length → Why s tag 34
