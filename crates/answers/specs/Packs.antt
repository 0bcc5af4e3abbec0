-- What packs answer, as numbers.
use Rattle.std.specs.Prelude.{ℕ}
use Rattle.std.specs.Prelude as rust
use Rattle.std.proofs.Math.Option.{Option, none, some}
use Rattle.basis.specs.Answer.{Answer, given, refused}
use Rattle.pack.specs.declared.Entry.{Entry}
use Rattle.answers.specs.declared.KhxChecked.{KhxChecked}
use Rattle.answers.specs.declared.KhxEntry.{KhxEntry}

-- the count of the entries; or the refusal's number, and no count
abbrev pub checked_in : Answer ℕ → KhxChecked
checked_in (given n) = record { refusal = 0; entries = n }
checked_in (refused k) = record { refusal = k; entries = 0 }

-- an entry that is there
abbrev pub entry_in : Entry → KhxEntry
entry_in e = record { refusal = 0; present = 1; tag = e.tag; cells = e.cells; offset = e.offset; length = e.length }

-- none, by this refusal
abbrev pub no_entry : ℕ → KhxEntry
no_entry k = record { refusal = k; present = 0; tag = 0; cells = 0; offset = 0; length = 0 }

-- the entry at an index: none where the pack has not so many, which is no refusal
abbrev pub listed_in : Answer (Option Entry) → KhxEntry
listed_in (given (some e)) = entry_in e
listed_in (given none) = no_entry 0
listed_in (refused k) = no_entry k

-- the same, as the code answers it
abbrev pub placed_in : Answer (rust.Option Entry) → KhxEntry
placed_in (given (rust.Some e)) = entry_in e
placed_in (given rust.None) = no_entry 0
placed_in (refused k) = no_entry k

-- the entry of a tag
abbrev pub found_in : Answer Entry → KhxEntry
found_in (given e) = entry_in e
found_in (refused k) = no_entry k
