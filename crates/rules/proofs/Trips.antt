-- The theorems on packs: every well-formed pack is read, and written again gives the same bytes; the reverse holds too.
-- Assumes nothing.
use Prim.Native.Nat.{ℕ, ◌≤◌}
use mathlib.Core.Path.{◌≡◌, sym, ap, ◌∙◌}
use mathlib.Core.List.{List}
use lib.ListN.{length, take, drop}
use lib.Seq.{take-append_seam, drop-append_seam}
use Rattle.basis.specs.Answer.{given}
use Rattle.basis.specs.Number.{Bytes}
use Rattle.basis.specs.Room.{room_after}
use Rattle.basis.proofs.Tests.{given-one}
use Rattle.pack.specs.Read.{read_of}
use Rattle.pack.specs.declared.Entry.{Entry}
use Rattle.packer.specs.Write.{write_of}
use Rattle.rules.specs.Rules.{Rule, contents_for, packed, Packable, WellFormed, rules_of, write_rules, PartsOf, Words}
use Rattle.rules.proofs.Forth.{packed-read, packed-rules}
use Rattle.rules.proofs.Back.{read_told}
use Rattle.rules.proofs.Takes.{packable-written, written_held}

-- Every well-formed pack is read, and tells the rules that it is the pack of;
pub well-formed-read : (s : List ℕ) (w : WellFormed s) → (es : List Entry) × (read_of s ≡ given es) × (rules_of s es ≡ w.rules)
well-formed-read s w = (contents_for w.rules, rw (← w.bytes) (packed-read w.rules w.packable), rw (← w.bytes) (packed-rules w.rules w.packable))

-- and no other is.
pub read-well-formed : (s : List ℕ) (es : List Entry) → Bytes s → read_of s ≡ given es → WellFormed s
read-well-formed s es b h = let t = read_told s es b h in record { rules = rules_of s es; packable = t.packable; bytes = t.bytes }

-- What was read, written again, gives the same bytes, into any room that holds them.
pub read-written : (s : List ℕ) (es : List Entry) (room : ℕ) → Bytes s → read_of s ≡ given es → length s ≤ room → write_rules (rules_of s es) room ≡ given s
read-written s es room b h l =
    let t = read_told s es b h in
    packable-written (rules_of s es) room t.packable (rw t.bytes l) ∙ ap given t.bytes

parts-read : (tags cells lengths bodies bytes : List ℕ) (rs : List Rule) → PartsOf tags cells lengths bodies rs → Packable rs → packed rs ≡ bytes
    → (es : List Entry) × (read_of bytes ≡ given es) × PartsOf tags cells lengths bodies (rules_of bytes es)
parts-read tags cells lengths bodies bytes rs p g h = (contents_for rs, rw (← h) (packed-read rs g), rw (← h) (rw (packed-rules rs g) p))

-- What the writer took is read back as it was: the tags, the cells, the lengths and the bodies.
pub written_read : (tags cells lengths bodies : List ℕ) (room : ℕ) (bytes : List ℕ) → Words tags → write_of tags cells lengths bodies room ≡ given bytes
    → (es : List Entry) × (read_of bytes ≡ given es) × PartsOf tags cells lengths bodies (rules_of bytes es)
written_read tags cells lengths bodies room bytes w h =
    let t = written_held tags cells lengths bodies room bytes w h in
    parts-read tags cells lengths bodies bytes t.rules t.parts t.packable t.same

-- It took rules that a pack can hold, and wrote their pack.
pub written-well-formed : (tags cells lengths bodies : List ℕ) (room : ℕ) (bytes : List ℕ) → Words tags → write_of tags cells lengths bodies room ≡ given bytes → WellFormed bytes
written-well-formed tags cells lengths bodies room bytes w h =
    let t = written_held tags cells lengths bodies room bytes w h in
    record { rules = t.rules; packable = t.packable; bytes = t.same }

-- What was written stands at the start of the room, and what follows is what was there.
pub written_stands : (tags cells lengths bodies room bytes : List ℕ) → write_of tags cells lengths bodies (length room) ≡ given bytes
    → (take (length bytes) (room_after (write_of tags cells lengths bodies (length room)) room) ≡ bytes)
    × (drop (length bytes) (room_after (write_of tags cells lengths bodies (length room)) room) ≡ drop (length bytes) room)
written_stands tags cells lengths bodies room bytes h = rw h (take-append_seam bytes (drop (length bytes) room), drop-append_seam bytes (drop (length bytes) room))

-- No two lists of rules have the same pack.
pub packed-one : (rs qs : List Rule) → Packable rs → Packable qs → packed rs ≡ packed qs → rs ≡ qs
packed-one rs qs g k h =
    let e : contents_for rs ≡ contents_for qs = given-one _ _ (sym (packed-read rs g) ∙ ap read_of h ∙ packed-read qs k) in
    sym (packed-rules rs g) ∙ rw (h, e) (packed-rules qs k)
