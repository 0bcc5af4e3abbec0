-- The numbers of an answer are those of one answer, since every refusal of the public functions has a number.
-- Assumes nothing.
use Prim.Native.Nat.{ℕ, ◌+◌}
use native.Mathlib.Omega.{arith}
use Rattle.std.specs.Prelude as rust
use mathlib.Core.Path.{◌≡◌, refl, sym, ap, ◌∙◌}
use mathlib.Core.Bool.{Bool, true, false}
use mathlib.Core.List.{List, [], ◌∷◌}
use mathlib.Core.Option.{Option, none, some}
use lib.ListN.{length, drop, get_or}
use lib.Dec.{leb, ltb, eqb}
use borrow.Author.Tests.{eq-eqb}
use Rattle.basis.specs.Pick.{pick}
use Rattle.basis.specs.Answer.{Answer, given, refused, seen}
use Rattle.basis.specs.Room.{fitted}
use Rattle.basis.proofs.Tests.{false-true}
use Rattle.forms.specs.Form.{form_of, code_of, limit_in, length_of}
use Rattle.decoder.specs.Decode.{Reading, number_in, head_of, decode_of}
use Rattle.isa.specs.declared.Instruction.{Instruction}
use Rattle.encoder.specs.Encode.{well_formed, encoded_of, encode_of}
use Rattle.listing.specs.Listing.{listing_of, list_of}
use Rattle.halving.specs.Halving.{reached}
use Rattle.pack.specs.Contents.{first_of, entry_at, refusal_of, end_of}
use Rattle.pack.specs.Read.{count_of, entries_of, held_of, contents_of, closed_of, read_of}
use Rattle.pack.specs.Find.{sought_in, found_in, find_of}
use Rattle.pack.specs.Lookup.{kept_of, halved_of, looked_in, lookup_of}
use Rattle.pack.specs.Format.{pack_of}
use Rattle.pack.specs.declared.Entry.{Entry}
use Rattle.packer.specs.Write.{laid_of, alike, ended_of, write_of}
use Rattle.report.specs.Report.{report_of}
use Rattle.report.specs.Report as report
use Rattle.answers.specs.declared.KhxWritten.{KhxWritten}
use Rattle.answers.specs.declared.KhxDecoded.{KhxDecoded}
use Rattle.answers.specs.declared.KhxChecked.{KhxChecked}
use Rattle.answers.specs.declared.KhxEntry.{KhxEntry}
use Rattle.answers.specs.Written.{written_in}
use Rattle.answers.specs.Instructions.{instruction_of, decoded_in, row_in}
use Rattle.shapes.specs.declared.row.Row.{Row}
use Rattle.shapes.specs.Shapes.{row}
use Rattle.answers.specs.declared.KhxRow.{KhxRow}
use Rattle.answers.specs.Packs.{checked_in, listed_in}
use Rattle.answers.specs.Packs as packs
use Rattle.tells.specs.Told.{Told}

pick-told : {A : Type 0} (t : Bool) (a b : Answer A) → Told a → Told b → Told (pick t a b)
pick-told true a b x y = x
pick-told false a b x y = y

-- what is given is seen through a function, a refusal stays
pub seen-told : {A B : Type 0} (f : A → B) (a : Answer A) → Told a → Told (seen f a)
seen-told f (given a) x = tt
seen-told f (refused n) x = x

head-told : (s : List ℕ) → Told (head_of s)
unfolding head_of
head-told s =
    pick-told (eqb (length_of (get_or s 0 0)) 0) _ _ (λ e. omega arith)
    (pick-told (ltb (length s) (length_of (get_or s 0 0))) _ _ (λ e. omega arith)
    (pick-told (ltb (number_in (form_of (code_of (get_or s 0 0))) s) (limit_in (form_of (code_of (get_or s 0 0))))) _ _ tt (λ e. omega arith)))

pub decode-told : (p : List ℕ) (at : ℕ) → Told (decode_of p at)
unfolding decode_of
decode-told p at = pick-told (ltb 16384 (length p)) _ _ (λ e. omega arith) (pick-told (leb (length p) at) _ _ (λ e. omega arith) (head-told (drop at p)))

fitted-told : (n : ℕ) (bytes : List ℕ) → Told (fitted n bytes)
fitted-told n bytes = pick-told (ltb n (length bytes)) _ _ (λ e. omega arith) tt

pub encode-told : (i : Instruction) (n : ℕ) → Told (encode_of i n)
unfolding encode_of
encode-told i n = pick-told (well_formed i) _ _ (fitted-told n (encoded_of i)) (λ e. omega arith)

pub list-told : (p : List ℕ) (n : ℕ) → Told (list_of p n)
unfolding list_of
list-told p n = pick-told (ltb 16384 (length p)) _ _ (λ e. omega arith) (fitted-told n (listing_of p))

-- an entry is refused by a number that is not 0
entry-told : (n : ℕ) (a : Answer ℕ) → Told a → Told (pick (eqb n 0) a (refused n))
entry-told n a x = by (eqb n 0) refl
  where
    by : (t : Bool) → eqb n 0 ≡ t → Told (pick t a (refused n))
    by true h = x
    by false h = λ e. false-true (sym h ∙ eq-eqb n 0 e)

end-told : (least at : ℕ) (es : List Entry) → Told (end_of least at es)
end-told least at [] = tt
end-told least at (e ∷ es) = entry-told (refusal_of least at e) _ (end-told (e.tag + 1) (at + e.length) es)

contents-told : (s : List ℕ) → Told (contents_of s)
unfolding contents_of
contents-told s =
    pick-told (ltb (length s) 2) _ _ (λ e. omega arith)
    (pick-told (ltb 64 (count_of s)) _ _ (λ e. omega arith)
    (pick-told (ltb (length s) (first_of (count_of s))) _ _ (λ e. omega arith)
    (end-told 0 (first_of (count_of s)) (entries_of s))))

closed-told : (s : List ℕ) (a : Answer ℕ) → Told a → Told (closed_of s a)
closed-told s (given end) x = pick-told (eqb end (length s)) _ _ tt (λ e. omega arith)
closed-told s (refused n) x = x

pub read_told : (s : List ℕ) → Told (read_of s)
unfolding read_of
read_told s = pick-told (ltb 24576 (length s)) _ _ (λ e. omega arith) (closed-told s (contents_of s) (contents-told s))

sought-told : (tag : ℕ) (es : List Entry) → Told (sought_in tag es)
sought-told tag [] = λ e. omega arith
sought-told tag (e ∷ es) = pick-told (eqb e.tag tag) _ _ tt (sought-told tag es)

found-told : (tag : ℕ) (a : Answer (List Entry)) → Told a → Told (found_in tag a)
found-told tag (given es) x = sought-told tag es
found-told tag (refused n) x = x

pub find-told : (s : List ℕ) (tag : ℕ) → Told (find_of s tag)
unfolding find_of
find-told s tag = found-told tag (read_of s) (read_told s)

pub lookup-told : (s : List ℕ) (tag : ℕ) → Told (lookup_of s tag)
unfolding lookup_of held_of halved_of kept_of
lookup-told s tag = pick-told (ltb 24576 (length s)) _ _ (λ e. omega arith) (in_held (held_of s) held)
  where
    held : Told (held_of s)
    held =
        pick-told (ltb (length s) 2) _ _ (λ e. omega arith)
        (pick-told (ltb 64 (count_of s)) _ _ (λ e. omega arith)
        (pick-told (ltb (length s) (first_of (count_of s))) _ _ (λ e. omega arith) tt))

    kept : (e : Entry) → Told (kept_of s tag e)
    kept e =
        pick-told (eqb e.tag tag) _ _
        (pick-told (ltb 1024 e.cells) _ _ (λ h. omega arith)
        (pick-told (ltb 16384 e.length) _ _ (λ h. omega arith)
        (pick-told (ltb (length s) (e.offset + e.length)) _ _ (λ h. omega arith) tt)))
        (λ h. omega arith)

    in_held : (a : Answer ℕ) → Told a → Told (looked_in s tag a)
    in_held (given n) x = pick-told (eqb n 0) _ _ (λ e. omega arith) (kept (entry_at s (reached 2 8 s tag n)))
    in_held (refused k) x = x

ended-told : (room : ℕ) (es : List Entry) (bodies : List ℕ) (a : Answer ℕ) → Told a → Told (ended_of room es bodies a)
ended-told room es bodies (given end) x =
    pick-told (eqb end (first_of (length es) + length bodies)) _ _
    (pick-told (ltb 24576 end) _ _ (λ e. omega arith) (fitted-told room (pack_of es bodies)))
    (λ e. omega arith)
ended-told room es bodies (refused n) x = x

pub write-told : (tags cells lengths bodies : List ℕ) (room : ℕ) → Told (write_of tags cells lengths bodies room)
unfolding write_of
write-told tags cells lengths bodies room =
    pick-told (alike tags cells lengths) _ _
    (ended-told room (laid_of tags cells lengths) bodies (end_of 0 (first_of (length tags)) (laid_of tags cells lengths)) (end-told 0 (first_of (length tags)) (laid_of tags cells lengths)))
    (λ e. omega arith)

pub report-told : (pack : List ℕ) (cells n : ℕ) → Told (report.write_of pack cells n)
unfolding report.write_of
report-told pack cells n = pick-told (ltb cells 16384) _ _ (λ e. omega arith) (fitted-told n (report_of pack))

-- the numbers of what was written are those of one answer
pub written-in-one : (a b : Answer ℕ) → Told a → Told b → written_in a ≡ written_in b → a ≡ b
written-in-one (given n) (given m) x y e = ap (λ (w : KhxWritten). given w.length) e
written-in-one (given n) (refused k) x y e = absurd (y (sym (ap (λ (w : KhxWritten). w.refusal) e)))
written-in-one (refused k) (given m) x y e = absurd (x (ap (λ (w : KhxWritten). w.refusal) e))
written-in-one (refused k) (refused l) x y e = ap (λ (w : KhxWritten). refused w.refusal) e

-- of what was read
pub decoded-in-one : (a b : Answer Reading) → Told a → Told b → decoded_in a ≡ decoded_in b → a ≡ b
decoded-in-one (given r) (given q) x y e = ap (λ (d : KhxDecoded). given (instruction_of d.instruction, d.length)) e
decoded-in-one (given r) (refused k) x y e = absurd (y (sym (ap (λ (d : KhxDecoded). d.refusal) e)))
decoded-in-one (refused k) (given q) x y e = absurd (x (ap (λ (d : KhxDecoded). d.refusal) e))
decoded-in-one (refused k) (refused l) x y e = ap (λ (d : KhxDecoded). refused d.refusal) e

-- of a first byte's row
pub row-in-one : (a b : rust.Option Row) → row_in a ≡ row_in b → a ≡ b
row-in-one (rust.Some a) (rust.Some b) e = ap (λ (r : KhxRow). rust.Some (row r.length r.taken r.pushed)) e
row-in-one (rust.Some a) rust.None e = absurd (let z = ap (λ (r : KhxRow). r.refusal) e in omega arith)
row-in-one rust.None (rust.Some b) e = absurd (let z = ap (λ (r : KhxRow). r.refusal) e in omega arith)
row-in-one rust.None rust.None e = refl

-- of the check of a pack
pub checked-in-one : (a b : Answer ℕ) → Told a → Told b → checked_in a ≡ checked_in b → a ≡ b
checked-in-one (given n) (given m) x y e = ap (λ (c : KhxChecked). given c.entries) e
checked-in-one (given n) (refused k) x y e = absurd (y (sym (ap (λ (c : KhxChecked). c.refusal) e)))
checked-in-one (refused k) (given m) x y e = absurd (x (ap (λ (c : KhxChecked). c.refusal) e))
checked-in-one (refused k) (refused l) x y e = ap (λ (c : KhxChecked). refused c.refusal) e

abbrev entry_of : KhxEntry → Entry
entry_of e = record { tag = e.tag; cells = e.cells; offset = e.offset; length = e.length }

-- of an entry by its tag
pub found-in-one : (a b : Answer Entry) → Told a → Told b → packs.found_in a ≡ packs.found_in b → a ≡ b
found-in-one (given n) (given m) x y e = ap (λ (c : KhxEntry). given (entry_of c)) e
found-in-one (given n) (refused k) x y e = absurd (y (sym (ap (λ (c : KhxEntry). c.refusal) e)))
found-in-one (refused k) (given m) x y e = absurd (x (ap (λ (c : KhxEntry). c.refusal) e))
found-in-one (refused k) (refused l) x y e = ap (λ (c : KhxEntry). refused c.refusal) e

none-some : ◌≡◌ {A = ℕ} 0 1 → ⊥
none-some e = omega arith

-- and by its index
pub listed-in-one : (a b : Answer (Option Entry)) → Told a → Told b → listed_in a ≡ listed_in b → a ≡ b
listed-in-one (given (some n)) (given (some m)) x y e = ap (λ (c : KhxEntry). given (some (entry_of c))) e
listed-in-one (given (some n)) (given none) x y e = absurd (none-some (sym (ap (λ (c : KhxEntry). c.present) e)))
listed-in-one (given none) (given (some m)) x y e = absurd (none-some (ap (λ (c : KhxEntry). c.present) e))
listed-in-one (given none) (given none) x y e = refl
listed-in-one (given (some n)) (refused k) x y e = absurd (y (sym (ap (λ (c : KhxEntry). c.refusal) e)))
listed-in-one (given none) (refused k) x y e = absurd (y (sym (ap (λ (c : KhxEntry). c.refusal) e)))
listed-in-one (refused k) (given (some m)) x y e = absurd (x (ap (λ (c : KhxEntry). c.refusal) e))
listed-in-one (refused k) (given none) x y e = absurd (x (ap (λ (c : KhxEntry). c.refusal) e))
listed-in-one (refused k) (refused l) x y e = ap (λ (c : KhxEntry). refused c.refusal) e
