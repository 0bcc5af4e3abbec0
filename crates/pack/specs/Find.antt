-- What asking for a tag answers, and the body of an entry.
use Rattle.std.specs.Prelude.{ℕ, List, [], ◌∷◌, take, drop, eqb}
use Rattle.basis.specs.Pick.{pick}
use Rattle.basis.specs.Answer.{Answer, given, refused}
use Rattle.pack.specs.Read.{read_of}
use Rattle.pack.specs.declared.Entry.{Entry}

-- the entry with a tag: "36 if the tag is absent"
abbrev pub sought_in : ℕ → List Entry → Answer Entry
sought_in tag [] = refused 36
sought_in tag (e ∷ es) = pick (eqb e.tag tag) (given e) (sought_in tag es)

-- "the pack's own refusal first"
abbrev pub found_in : ℕ → Answer (List Entry) → Answer Entry
found_in tag (given es) = sought_in tag es
found_in tag (refused n) = refused n

unfoldable pub find_of : List ℕ → ℕ → Answer Entry
find_of s tag = found_in tag (read_of s)

-- "A found program is a part of the pack": the bytes that an entry names, as far as the pack has them
abbrev pub body_of : List ℕ → Entry → List ℕ
body_of s e = take e.length (drop e.offset s)
