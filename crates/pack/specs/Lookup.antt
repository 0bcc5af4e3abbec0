-- What looking up a tag answers: by halving, without the check of the pack, and so for any bytes.
use Rattle.std.specs.Prelude.{ℕ, ◌+◌, List, length, ltb, eqb}
use Rattle.basis.specs.Pick.{pick}
use Rattle.basis.specs.Answer.{Answer, given, refused}
use Rattle.halving.specs.Halving.{reached}
use Rattle.pack.specs.Contents.{entry_at}
use Rattle.pack.specs.Read.{held_of}
use Rattle.pack.specs.declared.Entry.{Entry}

-- an entry that was come to: "36 if the tag is absent". Nobody need have checked these bytes, so what a host reads by is bounded here: "35 cells
-- over 1,024 or length over 16,384", and 34 where its body ends past their end (the sum is a whole number): "bodies don't end at the pack's end"
unfoldable pub kept_of : List ℕ → ℕ → Entry → Answer Entry
kept_of s tag e =
    pick (eqb e.tag tag)
    (pick (ltb 1024 e.cells) (refused 35)
    (pick (ltb 16384 e.length) (refused 35)
    (pick (ltb (length s) (e.offset + e.length)) (refused 34)
    (given e))))
    (refused 36)

-- "Find the entry by halving", among the n entries of the contents
unfoldable pub halved_of : List ℕ → ℕ → ℕ → Answer Entry
halved_of s n tag = pick (eqb n 0) (refused 36) (kept_of s tag (entry_at s (reached 2 8 s tag n)))

abbrev pub looked_in : List ℕ → ℕ → Answer ℕ → Answer Entry
looked_in s tag (given n) = halved_of s n tag
looked_in s tag (refused k) = refused k

-- the refusals of a pack that are seen without reading its entries come first, as in its check: "31 too long", then 30
unfoldable pub lookup_of : List ℕ → ℕ → Answer Entry
lookup_of s tag = pick (ltb 24576 (length s)) (refused 31) (looked_in s tag (held_of s))
