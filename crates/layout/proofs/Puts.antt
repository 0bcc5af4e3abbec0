-- Laws of the stores of entries and bodies, and the lengths of their bytes.
-- Assumes nothing.
use Prim.Native.Nat.{ℕ, ◌+◌, ◌*◌, ◌≤◌, ◌<◌}
use native.Mathlib.Omega.{arith}
use mathlib.Core.Path.{◌≡◌, refl, sym, ◌∙◌}
use mathlib.Core.List.{List, [], ◌∷◌, ◌++◌}
use lib.ListN.{length, get_or, drop, length-append}
use lib.Seq.{sets, sets-eq, take_all}
use borrow.Rule.Slice.PartMut.{put_mid}
use Rattle.std.proofs.lemmas.Slice.{put_mid-paste}
use Rattle.basis.specs.Number.{bytes_of}
use Rattle.basis.proofs.Stores.{sets-append, sets-bytes}
use Rattle.pack.specs.Contents.{first_of}
use Rattle.pack.specs.Format.{entry_bytes, entries_bytes, pack_of}
use Rattle.pack.specs.declared.Entry.{Entry}
use Rattle.layout.specs.Layout.{entry_of, laid}
use Rattle.layout.proofs.Lists.{Alike, laid_next}

pub length-entry : (e : Entry) → length (entry_bytes e) ≡ 8
unfolding entry_bytes
length-entry e = simp length-append

pub length-entries : (es : List Entry) → length (entries_bytes es) ≡ 8 * length es
length-entries [] = refl
length-entries (e ∷ es) = rw (length-append, length-entry, length-entries es) (omega arith)

pub length-pack : (es : List Entry) (bodies : List ℕ) → length (pack_of es bodies) ≡ first_of (length es) + length bodies
unfolding pack_of
length-pack es bodies = simp (length-append, length-entries) (omega arith)

-- four numbers stored one after the other are an entry
pub put_four : (l x₁ x₂ x₃ x₄ : List ℕ) (at : ℕ) (e : Entry) → x₁ ≡ sets l at (bytes_of 2 e.tag) → x₂ ≡ sets x₁ (at + 2) (bytes_of 2 e.cells)
    → x₃ ≡ sets x₂ (at + 4) (bytes_of 2 e.offset) → x₄ ≡ sets x₃ (at + 6) (bytes_of 2 e.length) → x₄ ≡ sets l at (entry_bytes e)
unfolding entry_bytes
put_four l x₁ x₂ x₃ x₄ at e p q r s =
    let a : at + 2 + 2 ≡ at + 4 = omega arith in
    let b : at + 4 + 2 ≡ at + 6 = omega arith in
    rw (s, r, q, p, ← b, ← a) (simp sets-bytes)

-- one entry further: what the rest will write over the room now is what all would have written at the start
pub entries_next : (tags cells lengths room last want : List ℕ) (i offset : ℕ) (e : Entry) → Alike tags cells lengths → i < length tags
    → e ≡ entry_of (get_or tags i 0) (get_or cells i 0) offset (get_or lengths i 0) → last ≡ sets room (2 + 8 * i) (entry_bytes e)
    → sets room (2 + 8 * i) (entries_bytes (laid offset (drop i tags) (drop i cells) (drop i lengths))) ≡ want
    → sets last (2 + 8 * (i + 1)) (entries_bytes (laid (offset + e.length) (drop (i + 1) tags) (drop (i + 1) cells) (drop (i + 1) lengths))) ≡ want
entries_next tags cells lengths room last want i offset e g h told p whole =
    let x = rw (laid_next tags cells lengths g i h offset) at whole in
    let z : 2 + 8 * (i + 1) ≡ 2 + 8 * i + 8 = omega arith in
    let first = entry_of (get_or tags i 0) (get_or cells i 0) offset (get_or lengths i 0) in
    rw (p, told, z) (sym (sets-append (entry_bytes first) room _ (2 + 8 * i) ∙ rw (length-entry first)) ∙ x)

-- the count, the entries and the bodies stored one after the other are a pack
pub put_three : (l x₁ x₂ x₃ bodies : List ℕ) (es : List Entry) (n : ℕ) → n ≡ length es → x₁ ≡ sets l 0 (bytes_of 2 n) → x₂ ≡ sets x₁ 2 (entries_bytes es)
    → x₃ ≡ sets x₂ (first_of n) bodies → x₃ ≡ sets l 0 (pack_of es bodies)
unfolding pack_of
put_three l x₁ x₂ x₃ bodies es n a p q r =
    let k : first_of n ≡ 2 + length (entries_bytes es) = rw (length-entries, a) in
    rw (r, q, p, k, a)
    (rw (sets-bytes l (entries_bytes es ++ bodies) 0 2 (length es)) (sym (sets-append (entries_bytes es) (sets l 0 (bytes_of 2 (length es))) bodies 2)))
