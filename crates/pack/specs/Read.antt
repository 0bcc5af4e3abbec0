-- What the check of a pack answers: its entries, or its refusal.
use Rattle.std.specs.Prelude.{ℕ, List, length, ltb, eqb}
use Rattle.basis.specs.Pick.{pick}
use Rattle.basis.specs.Answer.{Answer, given, refused}
use Rattle.basis.specs.Number.{number_at}
use Rattle.pack.specs.Contents.{first_of, entries_from, end_of}
use Rattle.pack.specs.declared.Entry.{Entry}

-- "count n", "then n entries"
abbrev pub count_of : List ℕ → ℕ
count_of s = number_at 2 s 0

unfoldable pub entries_of : List ℕ → List Entry
entries_of s = entries_from s 2 (count_of s)

-- the count of the entries, all of them inside the bytes: "30 contents cut, or n over 64"
unfoldable pub held_of : List ℕ → Answer ℕ
held_of s =
    pick (ltb (length s) 2) (refused 30)
    (pick (ltb 64 (count_of s)) (refused 30)
    (pick (ltb (length s) (first_of (count_of s))) (refused 30)
    (given (count_of s))))

-- where the bodies end by the contents: "30 contents cut, or n over 64; then for each entry .."; how long the pack is after
-- its contents doesn't matter here
unfoldable pub contents_of : List ℕ → Answer ℕ
contents_of s =
    pick (ltb (length s) 2) (refused 30)
    (pick (ltb 64 (count_of s)) (refused 30)
    (pick (ltb (length s) (first_of (count_of s))) (refused 30)
    (end_of 0 (first_of (count_of s)) (entries_of s))))

-- "last 34 bodies don't end at the pack's end"
abbrev pub closed_of : List ℕ → Answer ℕ → Answer (List Entry)
closed_of s (given end) = pick (eqb end (length s)) (given (entries_of s)) (refused 34)
closed_of s (refused n) = refused n

-- the entries of a pack: "31 too long" first ("At most 24,576 bytes")
unfoldable pub read_of : List ℕ → Answer (List Entry)
read_of s = pick (ltb 24576 (length s)) (refused 31) (closed_of s (contents_of s))
