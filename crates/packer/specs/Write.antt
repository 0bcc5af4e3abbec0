-- What the writer of packs answers and writes. The entries that it makes stand in layout/specs/Layout.
use Rattle.std.specs.Prelude.{ℕ, ◌+◌, List, length, ltb, eqb}
use Rattle.basis.specs.Pick.{pick}
use Rattle.basis.specs.Answer.{Answer, given, refused}
use Rattle.basis.specs.Room.{fitted}
use Rattle.pack.specs.Contents.{first_of, end_of}
use Rattle.pack.specs.Format.{pack_of}
use Rattle.pack.specs.declared.Entry.{Entry}
pub use Rattle.layout.specs.Layout.{entry_of, laid, laid_of, sum_of, alike}

-- where the bodies end, or the refusal of an entry, is known: "34, 31, 25"
abbrev pub ended_of : ℕ → List Entry → List ℕ → Answer ℕ → Answer (List ℕ)
ended_of room es bodies (given end) =
    pick (eqb end (first_of (length es) + length bodies))
    (pick (ltb 24576 end) (refused 31) (fitted room (pack_of es bodies)))
    (refused 34)
ended_of room es bodies (refused n) = refused n

-- what is written into a room of so many bytes: "it gives 30 .., 32, 35, 34, 31, 25, the entries in order as above"; the
-- offsets are the writer's own, so 33 cannot be
unfoldable pub write_of : List ℕ → List ℕ → List ℕ → List ℕ → ℕ → Answer (List ℕ)
write_of tags cells lengths bodies room =
    let es = laid_of tags cells lengths in
    pick (alike tags cells lengths) (ended_of room es bodies (end_of 0 (first_of (length tags)) es)) (refused 30)
