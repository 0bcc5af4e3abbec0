-- What a pack stands for: a list of rules, each with its tag, its cells and its program. A pack is well-formed where it is
-- the bytes of rules that a pack can hold, whatever a reader checks and in which order.
use Rattle.std.specs.Prelude.{ℕ, ◌+◌, ◌≤◌, ◌<◌, ◌≡◌, length, get_or}
use mathlib.Core.List.{List, [], ◌∷◌, ◌++◌, map, Memᴰ}
use Rattle.basis.specs.Answer.{Answer}
use Rattle.pack.specs.Contents.{first_of}
use Rattle.pack.specs.Find.{body_of}
use Rattle.pack.specs.Format.{pack_of}
use Rattle.pack.specs.declared.Entry.{Entry}
use Rattle.packer.specs.Write.{entry_of, write_of}

pub record Rule : Type 0 where
  pub tag : ℕ
  pub cells : ℕ
  pub body : List ℕ

-- the entries of rules whose bodies begin at a place: "Bodies follow in entry order, without gaps"
abbrev pub entries_for : ℕ → List Rule → List Entry
entries_for at [] = []
entries_for at (r ∷ rs) = entry_of r.tag r.cells at (length r.body) ∷ entries_for (at + length r.body) rs

-- the bodies end to end
abbrev pub bodies_of : List Rule → List ℕ
bodies_of [] = []
bodies_of (r ∷ rs) = r.body ++ bodies_of rs

-- the entries of a pack of rules: "the first offset is 2 + 8n"; and its bytes
abbrev pub contents_for : List Rule → List Entry
contents_for rs = entries_for (first_of (length rs)) rs

unfoldable pub packed : List Rule → List ℕ
packed rs = pack_of (contents_for rs) (bodies_of rs)

-- each tag is above the one before
pub data Rising : List Rule → Type 0 where
  none : Rising []
  one : {r : Rule} → Rising (r ∷ [])
  more : {r q : Rule} {rs : List Rule} → r.tag < q.tag → Rising (q ∷ rs) → Rising (r ∷ (q ∷ rs))

-- the tag is a u16, neither "cells over 1,024" nor "length over 16,384"
pub record Admissible (r : Rule) : Type 0 where
  pub tag : r.tag < 65536
  pub cells : r.cells ≤ 1024
  pub body : length r.body ≤ 16384

-- a rule is one of these
abbrev pub Among : Rule → List Rule → Type 0
Among r rs = Memᴰ r rs

-- rules that a pack can hold: "count n (0 to 64)", "At most 24,576 bytes"
pub record Packable (rs : List Rule) : Type 0 where
  pub count : length rs ≤ 64
  pub rising : Rising rs
  pub each : (r : Rule) → Among r rs → Admissible r
  pub size : length (packed rs) ≤ 24576

pub record WellFormed (s : List ℕ) : Type 0 where
  pub rules : List Rule
  pub packable : Packable rules
  pub bytes : packed rules ≡ s

-- the rules that entries of a pack tell
abbrev pub rule_of : List ℕ → Entry → Rule
rule_of s e = record { tag = e.tag; cells = e.cells; body = body_of s e }

abbrev pub rules_of : List ℕ → List Entry → List Rule
rules_of s es = map (rule_of s) es

-- what a host relies on that reads the bytes which an entry names: they end no later than the pack does, as a whole-number sum, and
-- the body is as long as the entry says
pub record Inside (s : List ℕ) (e : Entry) : Type 0 where
  pub ends : e.offset + e.length ≤ length s
  pub whole : length (body_of s e) ≡ e.length

-- rules as the writer takes them
abbrev pub tags_of : List Rule → List ℕ
tags_of rs = map (λ (r : Rule). r.tag) rs

abbrev pub cells_of : List Rule → List ℕ
cells_of rs = map (λ (r : Rule). r.cells) rs

abbrev pub lengths_of : List Rule → List ℕ
lengths_of rs = map (λ (r : Rule). length r.body) rs

abbrev pub write_rules : List Rule → ℕ → Answer (List ℕ)
write_rules rs room = write_of (tags_of rs) (cells_of rs) (lengths_of rs) (bodies_of rs) room

-- these lists are the parts of rules
pub record PartsOf (tags cells lengths bodies : List ℕ) (rs : List Rule) : Type 0 where
  pub same_tags : tags_of rs ≡ tags
  pub same_cells : cells_of rs ≡ cells
  pub same_lengths : lengths_of rs ≡ lengths
  pub same_bodies : bodies_of rs ≡ bodies

-- every element is a u16
abbrev pub Words : List ℕ → Type 0
Words s = (k : ℕ) → get_or s k 0 < 65536
