-- What was read is a pack of rules, with the bytes that it was read from.
-- Assumes nothing.
use Prim.Native.Nat.{ℕ, zero, suc, ◌+◌, ◌*◌, ◌≤◌, ◌<◌}
use native.Mathlib.Omega.{arith}
use mathlib.Core.Path.{◌≡◌, refl, sym, ap, ◌∙◌}
use mathlib.Core.List.{List, [], ◌∷◌, ◌++◌}
use lib.ListN.{length, take, drop, length-drop, take-append-drop, length-map}
use lib.Seq.{take-add, drop-drop, drop-length, length-take-le}
use Rattle.basis.specs.Answer.{given}
use Rattle.basis.specs.Number.{number_at, bytes_of, Bytes}
use Rattle.basis.proofs.Numbers.{number_lt, bytes_back}
use Rattle.basis.proofs.Tests.{given-one}
use Rattle.pack.specs.Contents.{first_of, entry_at, entries_from, end_of}
use Rattle.pack.specs.Read.{count_of, entries_of, read_of}
use Rattle.pack.specs.Find.{body_of}
use Rattle.pack.specs.Format.{entry_bytes, entries_bytes, pack_of}
use Rattle.pack.specs.declared.Entry.{Entry}
use Rattle.pack.proofs.Walks.{length_from, next, end_ge}
use Rattle.pack.proofs.Sounds.{read-sound, sound-read}
use Rattle.rules.specs.Rules.{entries_for, bodies_of, packed, Packable, rule_of, rules_of}
use Rattle.rules.proofs.Kept.{Kept, nil, cons, kept-rising, kept-each}

-- four numbers that stand one after the other, of any widths
four-back : (w₁ w₂ w₃ w₄ : ℕ) (s : List ℕ) (a₁ a₂ a₃ a₄ : ℕ) → Bytes s → a₂ ≡ a₁ + w₁ → a₃ ≡ a₂ + w₂ → a₄ ≡ a₃ + w₃ → a₄ + w₄ ≤ length s
    → bytes_of w₁ (number_at w₁ s a₁) ++ (bytes_of w₂ (number_at w₂ s a₂) ++ (bytes_of w₃ (number_at w₃ s a₃) ++ bytes_of w₄ (number_at w₄ s a₄)))
    ≡ take (w₁ + (w₂ + (w₃ + w₄))) (drop a₁ s)
four-back w₁ w₂ w₃ w₄ s a₁ a₂ a₃ a₄ h p q r l =
    rw (bytes_back w₁ s a₁ h (omega arith), bytes_back w₂ s a₂ h (omega arith), bytes_back w₃ s a₃ h (omega arith), bytes_back w₄ s a₄ h (omega arith))
    (sym (take-add w₁ (w₂ + (w₃ + w₄)) (drop a₁ s)
    ∙ rw (drop-drop w₁ a₁ s, ← p, take-add w₂ (w₃ + w₄) (drop a₂ s), drop-drop w₂ a₂ s, ← q, take-add w₃ w₄ (drop a₃ s), drop-drop w₃ a₃ s, ← r)))

entry-back : (s : List ℕ) (at : ℕ) → Bytes s → at + 8 ≤ length s → entry_bytes (entry_at s at) ≡ take 8 (drop at s)
unfolding entry_at entry_bytes
entry-back s at h l = four-back 2 2 2 2 s at (at + 2) (at + 4) (at + 6) h refl (omega arith) (omega arith) (omega arith)

entries-back : (s : List ℕ) (at n : ℕ) → Bytes s → at + 8 * n ≤ length s → entries_bytes (entries_from s at n) ≡ take (8 * n) (drop at s)
entries-back s at zero h l = refl
entries-back s at (suc n) h l =
    let e : 8 * suc n ≡ 8 + 8 * n = omega arith in
    rw (entry-back s at h (omega arith), entries-back s (at + 8) n h (omega arith), e) (sym (take-add 8 (8 * n) (drop at s) ∙ rw (drop-drop 8 at s)))

-- the count, the entries and the rest are all
glue : (s x y : List ℕ) (a b : ℕ) → x ≡ take a s → y ≡ take b (drop a s) → x ++ (y ++ drop (a + b) s) ≡ s
glue s x y a b p q = rw (p, q, ← drop-drop b a s, take-append-drop b (drop a s), take-append-drop a s)

pack-back : (s : List ℕ) (n : ℕ) → Bytes s → count_of s ≡ n → first_of n ≤ length s → pack_of (entries_from s 2 n) (drop (first_of n) s) ≡ s
unfolding pack_of
pack-back s n h c l =
    glue s (bytes_of 2 (length (entries_from s 2 n))) (entries_bytes (entries_from s 2 n)) 2 (8 * n)
    (ap (bytes_of 2) (length_from s 2 n ∙ sym c) ∙ bytes_back 2 s 0 h (omega arith))
    (entries-back s 2 n h l)

-- the rules that entries tell have these entries, and their bodies are the rest of the pack
record Same (s : List ℕ) (at : ℕ) (es : List Entry) : Type 0 where
  entries : entries_for at (rules_of s es) ≡ es
  bodies : bodies_of (rules_of s es) ≡ drop at s

pub length-body : (s : List ℕ) (e : Entry) → e.offset + e.length ≤ length s → length (body_of s e) ≡ e.length
length-body s e h = length-take-le e.length (drop e.offset s) (rw length-drop (omega arith))

same : (s : List ℕ) (least at : ℕ) (es : List Entry) → end_of least at es ≡ given (length s) → Same s at es
same s least at [] h = let z : at ≡ length s = cc in record { entries = refl; bodies = rw z (sym (drop-length s)) }
same s least at (e ∷ es) h =
    let n = next least at e es (length s) h in
    let p = n.passed in
    let o = p.offset in
    let l = end_ge (e.tag + 1) (at + e.length) es (length s) n.rest in
    let r = same s (e.tag + 1) (at + e.length) es n.rest in
    let k = length-body s e (omega arith) in
    record {
      entries = rw (k, r.entries, ← o);
      bodies = rw (r.bodies, o, ← drop-drop e.length at s) (take-append-drop e.length (drop at s));
    }

entry-tag : (s : List ℕ) (at : ℕ) → Bytes s → (entry_at s at).tag < 65536
unfolding entry_at
entry-tag s at h = number_lt 2 s at h

kept_back : (s : List ℕ) (least off at n : ℕ) → Bytes s → end_of least off (entries_from s at n) ≡ given (length s) → Kept least (rules_of s (entries_from s at n))
kept_back s least off at zero b h = nil
kept_back s least off at (suc n) b h =
    let e = entry_at s at in
    let x = next least off e (entries_from s (at + 8) n) (length s) h in
    let p = x.passed in
    let o = p.offset in
    let l = end_ge (e.tag + 1) (off + e.length) (entries_from s (at + 8) n) (length s) x.rest in
    let k = length-body s e (omega arith) in
    let m : length (body_of s e) ≤ 16384 = rw k p.length in
    cons p.tag (record { tag = entry-tag s at b; cells = p.cells; body = m }) (kept_back s (e.tag + 1) (off + e.length) (at + 8) n b x.rest)

-- Every pack that is read is well-formed: the rules that it tells can be held by a pack, and are it.
pub record Told (s : List ℕ) (es : List Entry) : Type 0 where
  pub packable : Packable (rules_of s es)
  pub bytes : packed (rules_of s es) ≡ s

pub read_told : (s : List ℕ) (es : List Entry) → Bytes s → read_of s ≡ given es → Told s es
unfolding packed entries_of
read_told s es b h =
    let g = read-sound s es h in
    let w = g.whole in
    let n = count_of s in
    let q : entries_from s 2 n ≡ es = given-one _ _ (sym (sound-read s g) ∙ h) in
    let rs = rules_of s (entries_from s 2 n) in
    let l : length rs ≡ n = length-map (entries_from s 2 n) (rule_of s) ∙ length_from s 2 n in
    let e = same s 0 (first_of n) (entries_from s 2 n) g.ends in
    let k = kept_back s 0 (first_of n) 2 n b g.ends in
    let t : packed rs ≡ s = rw (l, e.entries, e.bodies) (pack-back s n b refl w.room) in
    let u : Told s (entries_from s 2 n) = record {
      packable = record { count = omega (arith, w.count); rising = kept-rising 0 rs k; each = kept-each 0 rs k; size = rw t g.small };
      bytes = t;
    } in
    rw q at u
