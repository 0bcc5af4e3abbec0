-- The contents of a pack: its entries, and what is asked of each.
use Rattle.std.specs.Prelude.{ℕ, zero, suc, ◌+◌, ◌*◌, List, [], ◌∷◌, ltb, eqb, Option, Some, None}
use Rattle.basis.specs.Pick.{pick}
use Rattle.basis.specs.Answer.{Answer, given, refused}
use Rattle.basis.specs.Number.{number_at}
use Rattle.basis.specs.Refusal.{number_of}
use Rattle.basis.specs.declared.refusal.Refusal.{Refusal}
use Rattle.pack.specs.declared.Entry.{Entry}

-- where the contents of n entries end: "the first offset is 2 + 8n"
abbrev pub first_of : ℕ → ℕ
first_of n = 2 + 8 * n

-- the entry at a place: "tag, cells, offset, length", "All fields u16, low byte first"
unfoldable pub entry_at : List ℕ → ℕ → Entry
entry_at s at = record {
  tag = number_at 2 s at;
  cells = number_at 2 s (at + 2);
  offset = number_at 2 s (at + 4);
  length = number_at 2 s (at + 6);
}

-- n entries, one after the other from a place
abbrev pub entries_from : List ℕ → ℕ → ℕ → List Entry
entries_from s at zero = []
entries_from s at (suc n) = entry_at s at ∷ entries_from s (at + 8) n

-- the first number that refuses an entry, 0 where none does: "32 tag not above the one before" (the first argument is the
-- least tag that is), "35 cells over 1,024 or length over 16,384", "33 wrong offset" (the second is the right one)
unfoldable pub refusal_of : ℕ → ℕ → Entry → ℕ
refusal_of least at e =
    pick (ltb e.tag least) 32
    (pick (ltb 1024 e.cells) 35
    (pick (ltb 16384 e.length) 35
    (pick (eqb e.offset at) 0 33)))

-- the code's answer so: the number of a refusal, 0 for none
abbrev pub number_or_0 : Option Refusal → ℕ
number_or_0 None = 0
number_or_0 (Some why) = number_of why

-- where the bodies end that begin at a place: "Bodies follow in entry order, without gaps"; or what refuses the first bad
-- entry. Every tag is above the one before; the sums are whole numbers.
abbrev pub end_of : ℕ → ℕ → List Entry → Answer ℕ
end_of least at [] = given at
end_of least at (e ∷ es) =
    pick (eqb (refusal_of least at e) 0)
    (end_of (e.tag + 1) (at + e.length) es)
    (refused (refusal_of least at e))
