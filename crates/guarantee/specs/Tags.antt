-- Request No. 4, sentence by sentence: "A reader with 64 table kinds scans the contents for each table. Find the entry by halving. The same tag
-- gives the same part of the pack, or 36." Asking for a tag (`find_of`) keeps its contract and its propositions in Demands, word for word; here is what
-- is promised of looking one up (`lookup_of`), which halves too and does not check the pack.
use Rattle.std.specs.Prelude.{ℕ, ◌+◌, ◌*◌, ◌^◌, ◌≤◌, ◌<◌, ◌≡◌, List, length}
use Rattle.basis.specs.Answer.{given, refused}
use Rattle.halving.specs.Ways.{Way, followed, Within}
use Rattle.pack.specs.Contents.{entry_at}
use Rattle.pack.specs.Read.{held_of, read_of}
use Rattle.pack.specs.Find.{find_of, body_of}
use Rattle.pack.specs.Lookup.{kept_of, lookup_of}
use Rattle.pack.specs.Refusals.{Held, Why}
use Rattle.pack.specs.declared.Entry.{Entry}
use Rattle.rules.specs.Rules.{Rule, Among, WellFormed, rule_of, Inside}

-- "The same tag gives the same part of the pack, or 36": in a pack that its check takes, looking a tag up is asking for it
unfoldable pub SameAsFind : Type 0
SameAsFind = (s : List ℕ) (es : List Entry) (tag : ℕ) → read_of s ≡ given es → lookup_of s tag ≡ find_of s tag

-- the same in the words of the rules that a well-formed pack holds: each rule is found by its tag, with its cells and its body; what is found is
-- a rule with that tag; and 36 is for the tags that no rule has
unfoldable pub LooksUpExactly : Type 0
LooksUpExactly =
    (s : List ℕ) (w : WellFormed s)
    → ((r : Rule) → Among r w.rules → (e : Entry) × (lookup_of s r.tag ≡ given e) × (e.cells ≡ r.cells) × (body_of s e ≡ r.body) × Inside s e)
    × ((tag : ℕ) (e : Entry) → lookup_of s tag ≡ given e → (e.tag ≡ tag) × Among (rule_of s e) w.rules × Inside s e)
    × ((tag : ℕ) → ((r : Rule) → Among r w.rules → r.tag ≡ tag → ⊥) → lookup_of s tag ≡ refused 36)

-- Of any bytes, checked or not: what is given is one of the entries that they hold, with the tag asked for, and what a host reads by it lies
-- inside the bytes and within the limits of an entry.
pub record Bounded (s : List ℕ) (tag : ℕ) (e : Entry) : Type 0 where
  pub asked : e.tag ≡ tag
  pub few : e.cells ≤ 1024
  pub short : e.length ≤ 16384
  pub inside : Inside s e
  pub held : Held s e

unfoldable pub GivesInside : Type 0
GivesInside = (s : List ℕ) (tag : ℕ) (e : Entry) → lookup_of s tag ≡ given e → Bounded s tag e

-- Of any bytes: a refusal is by 31, 30, 36, 35 or 34, exactly where its cause is there.
unfoldable pub RefusesFor : Type 0
RefusesFor = (s : List ℕ) (tag n : ℕ) → (lookup_of s tag ≡ refused n → Why s tag n) × (Why s tag n → lookup_of s tag ≡ refused n)

-- 31 and 30 come wherever asking for the tag gives them, by the size and by the count; and where a lookup refuses by another number than 36, the bytes
-- are no pack (of bytes that are none it may as well give 36, or an entry)
unfoldable pub RefusesOnlyNoPack : Type 0
RefusesOnlyNoPack =
    ((s : List ℕ) (tag : ℕ) → 24576 < length s → (lookup_of s tag ≡ refused 31) × (find_of s tag ≡ refused 31))
    × ((s : List ℕ) (tag n : ℕ) → length s ≤ 24576 → held_of s ≡ refused n → (lookup_of s tag ≡ refused n) × (find_of s tag ≡ refused n))
    × ((s : List ℕ) (tag n : ℕ) → lookup_of s tag ≡ refused n → (n ≡ 36 → ⊥) → (es : List Entry) → read_of s ≡ given es → ⊥)

-- "by halving": for each count of entries there is one way of comparing, fixed before the bytes and the tag are known, with at most m comparisons
-- for up to 2 ^ m entries, each with the tag of an entry. The answer is told by the one entry that it comes to, whose tag is compared too: so of 64
-- entries seven comparisons at most tell it.
unfoldable pub SevenComparisons : Type 0
SevenComparisons =
    (m n : ℕ) → m ≤ 6 → 0 < n → n ≤ 2 ^ m
    → (way : Way) × Within n m way
    × ((s : List ℕ) (tag : ℕ) → length s ≤ 24576 → held_of s ≡ given n → lookup_of s tag ≡ kept_of s tag (entry_at s (2 + 8 * followed way 2 8 s tag)))
