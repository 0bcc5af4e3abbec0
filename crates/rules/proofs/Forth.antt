-- What was written is read: entries, and a whole pack of rules.
-- Assumes nothing.
use Prim.Native.Nat.{ℕ, ◌+◌, ◌≤◌, ◌<◌}
use native.Mathlib.Omega.{arith}
use mathlib.Core.Path.{◌≡◌, refl, sym, ◌∙◌, subst}
use mathlib.Core.List.{List, [], ◌∷◌, ◌++◌, append_assoc}
use lib.ListN.{length, take, drop, length-append}
use lib.Seq.{drop-drop, drop_at, take-append_seam, drop-append_seam}
use Rattle.basis.specs.Answer.{given}
use Rattle.basis.specs.Number.{bytes_of}
use Rattle.basis.proofs.Numbers.{length-bytes, read_at}
use Rattle.pack.specs.Contents.{first_of, entry_at, entries_from}
use Rattle.pack.specs.Read.{count_of, entries_of, read_of}
use Rattle.pack.specs.Format.{entry_bytes, entries_bytes, pack_of}
use Rattle.pack.specs.declared.Entry.{Entry}
use Rattle.pack.proofs.Sounds.{sound-read}
use Rattle.packer.specs.Write.{entry_of}
use Rattle.packer.proofs.Puts.{length-entry, length-entries}
use Rattle.rules.specs.Rules.{Rule, entries_for, bodies_of, contents_for, packed, Packable, rules_of}
use Rattle.rules.proofs.Kept.{Kept, nil, cons, packable-kept, kept-ends, length-for, length-packed}

-- an entry whose numbers fit their fields
record Fits (e : Entry) : Type 0 where
  tag : e.tag < 65536
  cells : e.cells < 65536
  offset : e.offset < 65536
  length : e.length < 65536

module _ (p q : List ℕ) (e : Entry) where
  placed : List ℕ
  placed = p ++ (entry_bytes e ++ q)

  entry-forth : Fits e → entry_at placed (length p) ≡ e
  unfolding placed entry_at entry_bytes
  entry-forth f =
      let b1 = bytes_of 2 e.tag in
      let b2 = bytes_of 2 e.cells in
      let b3 = bytes_of 2 e.offset in
      let b4 = bytes_of 2 e.length in
      let n = length p in
      let e1 = read_at 2 e.tag p ((b2 ++ (b3 ++ b4)) ++ q) placed n (simp append_assoc) refl f.tag in
      let e2 = read_at 2 e.cells (p ++ b1) ((b3 ++ b4) ++ q) placed (n + 2) (simp append_assoc) (simp (length-append, length-bytes) (omega arith)) f.cells in
      let e3 = read_at 2 e.offset (p ++ (b1 ++ b2)) (b4 ++ q) placed (n + 4) (simp append_assoc) (simp (length-append, length-bytes) (omega arith)) f.offset in
      let e4 = read_at 2 e.length (p ++ (b1 ++ (b2 ++ b3))) q placed (n + 6) (simp append_assoc) (simp (length-append, length-bytes) (omega arith)) f.length in
      rw (e1, e2, e3, e4)

-- the entries of rules whose bodies end before 65,536
entries-forth : (p q : List ℕ) (least at : ℕ) (rs : List Rule) → Kept least rs → at + length (bodies_of rs) < 65536
    → entries_from (p ++ (entries_bytes (entries_for at rs) ++ q)) (length p) (length rs) ≡ entries_for at rs
unfolding placed
entries-forth p q least at [] nil h = refl
entries-forth p q least at (r ∷ rs) (cons l a k) h =
    let e = entry_of r.tag r.cells at (length r.body) in
    let rest = entries_bytes (entries_for (at + length r.body) rs) in
    let n = length-append r.body (bodies_of rs) in
    let c = a.cells in
    let m = a.body in
    let f : Fits e = record { tag = a.tag; cells = omega arith; offset = omega arith; length = omega arith } in
    let b = entry_bytes e in
    let x : p ++ ((b ++ rest) ++ q) ≡ p ++ (b ++ (rest ++ q)) = simp append_assoc in
    let y : (p ++ b) ++ (rest ++ q) ≡ p ++ (b ++ (rest ++ q)) = simp append_assoc in
    let z : length (p ++ b) ≡ length p + 8 = length-append p b ∙ rw (length-entry e) in
    let ih = rw (y, z) at (entries-forth (p ++ b) q (r.tag + 1) (at + length r.body) rs k (omega arith)) in
    let P : List ℕ → Type 0 = λ s. entries_from s (length p) (length (r ∷ rs)) ≡ entries_for at (r ∷ rs) in
    subst P (sym x) (rw (entry-forth p (rest ++ q) e f, ih))

module _ (rs : List Rule) (g : Packable rs) where
  kept : Kept 0 rs
  kept = packable-kept rs g.rising g.each

  small : first_of (length rs) + length (bodies_of rs) ≤ 24576
  small = omega (arith, length-packed rs, g.size)

  count-forth : count_of (packed rs) ≡ length rs
  unfolding packed pack_of
  count-forth =
      let n = length-for (first_of (length rs)) rs in
      read_at 2 (length rs) [] (entries_bytes (contents_for rs) ++ bodies_of rs) (packed rs) 0 (rw n) refl (omega (arith, g.count))

  from-forth : entries_from (packed rs) 2 (length rs) ≡ contents_for rs
  unfolding packed pack_of
  from-forth =
      let n = length-for (first_of (length rs)) rs in
      rw n (entries-forth (bytes_of 2 (length rs)) (bodies_of rs) 0 (first_of (length rs)) rs kept (omega (arith, small)))

  pub bodies-forth : drop (first_of (length rs)) (packed rs) ≡ bodies_of rs
  unfolding packed pack_of
  bodies-forth =
      let n = length-for (first_of (length rs)) rs in
      let p = bytes_of 2 (length (contents_for rs)) ++ entries_bytes (contents_for rs) in
      let x : bytes_of 2 (length (contents_for rs)) ++ (entries_bytes (contents_for rs) ++ bodies_of rs) ≡ p ++ bodies_of rs = simp append_assoc in
      let l : length p ≡ first_of (length rs) = length-append (bytes_of 2 (length (contents_for rs))) (entries_bytes (contents_for rs)) ∙ rw (length-bytes, length-entries, n) in
      rw x (drop_at p (bodies_of rs) (first_of (length rs)) l)

  -- Every pack of rules that a pack can hold is read, and gives their entries.
  pub packed-read : read_of (packed rs) ≡ given (contents_for rs)
  unfolding entries_of
  packed-read =
      let l = length-packed rs in
      let n = count-forth in
      sound-read (packed rs) (record {
        small = g.size;
        whole = record { head = omega arith; count = omega (arith, g.count); room = rw n (omega arith) };
        ends = rw (n, from-forth, l) (kept-ends 0 (first_of (length rs)) rs kept);
      })
      ∙ rw (n, from-forth)

rules-for : (s : List ℕ) (at : ℕ) (rs : List Rule) → drop at s ≡ bodies_of rs → rules_of s (entries_for at rs) ≡ rs
rules-for s at [] h = refl
rules-for s at (r ∷ rs) h =
    let a : take (length r.body) (drop at s) ≡ r.body = rw h (take-append_seam r.body (bodies_of rs)) in
    let b : drop (at + length r.body) s ≡ bodies_of rs = sym (drop-drop (length r.body) at s) ∙ rw h (drop-append_seam r.body (bodies_of rs)) in
    rw (a, rules-for s (at + length r.body) rs b)

-- and these entries tell the rules.
pub packed-rules : (rs : List Rule) → Packable rs → rules_of (packed rs) (contents_for rs) ≡ rs
packed-rules rs g = rules-for (packed rs) (first_of (length rs)) rs (bodies-forth rs g)
