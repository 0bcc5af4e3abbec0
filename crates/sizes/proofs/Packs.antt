-- A pack that the writer takes has at most 24,576 bytes, and one has as many; no entry is refused by 25.
-- Assumes nothing.
use Prim.Native.Nat.{ℕ, ◌+◌, ◌≤◌, ◌<◌}
use native.Mathlib.Omega.{arith}
use mathlib.Core.Path.{◌≡◌, refl, sym, ap, ◌∙◌}
use mathlib.Core.Logic.{◌≢◌}
use mathlib.Core.Bool.{Bool, true, false}
use mathlib.Core.List.{List, [], ◌∷◌}
use lib.Dec.{ltb, eqb}
use lib.ListN.{length, replicate, length-append, length-replicate}
use borrow.Author.Tests.{ltb-false, eqb-true}
use Rattle.basis.specs.Pick.{pick}
use Rattle.basis.specs.Answer.{Answer, given, refused}
use Rattle.basis.specs.Room.{fitted}
use Rattle.basis.proofs.Tests.{refused-given}
use Rattle.pack.specs.Contents.{first_of, refusal_of, end_of}
use Rattle.pack.specs.Format.{pack_of}
use Rattle.pack.specs.declared.Entry.{Entry}
use Rattle.packer.specs.Write.{laid_of, alike, ended_of, write_of}
use Rattle.packer.proofs.Puts.{length-pack}
use Rattle.rules.specs.Rules.{Rule, Admissible, bodies_of, packed, tags_of, cells_of, lengths_of, write_rules, Packable}
use Rattle.rules.proofs.Kept.{Kept, nil, cons, kept-rising, kept-each, length-packed}
use Rattle.rules.proofs.Takes.{packable-written}
use Rattle.sizes.specs.Sizes.{Parts}
use Rattle.sizes.proofs.Rooms.{Writes, early, late}

refusal-other : (least at : ℕ) (e : Entry) → refusal_of least at e ≢ 25
unfolding refusal_of
refusal-other least at e = by (ltb e.tag least) (ltb 1024 e.cells) (ltb 16384 e.length) (eqb e.offset at)
  where
    by : (t u v w : Bool) → ◌≡◌ {A = ℕ} (pick t 32 (pick u 35 (pick v 35 (pick w 0 33)))) 25 → ⊥
    by true u v w z = omega arith
    by false true v w z = omega arith
    by false false true w z = omega arith
    by false false false true z = omega arith
    by false false false false z = omega arith

end-other : (least at : ℕ) (es : List Entry) (k : ℕ) → end_of least at es ≡ refused k → k ≢ 25
end-other least at [] k h = absurd (refused-given k at (sym h))
end-other least at (e ∷ es) k h = by (λ g. end-other (e.tag + 1) (at + e.length) es k g) (eqb (refusal_of least at e) 0) h
  where
    by : (end_of (e.tag + 1) (at + e.length) es ≡ refused k → k ≢ 25) → (t : Bool)
        → pick t (end_of (e.tag + 1) (at + e.length) es) (refused (refusal_of least at e)) ≡ refused k → k ≢ 25
    by again true g = again g
    by again false g = λ z. refusal-other least at e (let y : refusal_of least at e ≡ k = cc in y ∙ z)

ended-writes : (es : List Entry) (bodies : List ℕ) (a : Answer ℕ) → ((k : ℕ) → a ≡ refused k → k ≢ 25) → Writes 24576 (λ room. ended_of room es bodies a)
ended-writes es bodies (refused k) h = early k (h k refl) (λ room. refl)
ended-writes es bodies (given end) h = by (eqb end (first_of (length es) + length bodies)) (ltb 24576 end) refl refl
  where
    by : (t u : Bool) → eqb end (first_of (length es) + length bodies) ≡ t → ltb 24576 end ≡ u
        → Writes 24576 (λ room. pick (eqb end (first_of (length es) + length bodies)) (pick (ltb 24576 end) (refused 31) (fitted room (pack_of es bodies))) (refused 34))
    by false u p q = early 34 (λ z. omega arith) (λ room. rw p)
    by true true p q = early 31 (λ z. omega arith) (λ room. rw (p, q))
    by true false p q =
        late (pack_of es bodies) (omega (arith, length-pack es bodies, eqb-true end (first_of (length es) + length bodies) p, ltb-false 24576 end q)) (λ room. rw (p, q))

pub pack-writes : (tags cells lengths bodies : List ℕ) → Writes 24576 (λ room. write_of tags cells lengths bodies room)
unfolding write_of
pack-writes tags cells lengths bodies = by (alike tags cells lengths)
  where
    es : List Entry
    es = laid_of tags cells lengths

    by : (t : Bool) → Writes 24576 (λ room. pick t (ended_of room es bodies (end_of 0 (first_of (length tags)) es)) (refused 30))
    by true = ended-writes es bodies (end_of 0 (first_of (length tags)) es) (λ k h. end-other 0 (first_of (length tags)) es k h)
    by false = early 30 (λ z. omega arith) (λ room. refl)

-- two rules that fill a pack
unfoldable pub half : List ℕ
half = replicate 12279 0

half-long : length half ≡ 12279
unfolding half
half-long = length-replicate {A = ℕ} 12279 0

abbrev filling : ℕ → Rule
filling tag = record { tag = tag; cells = 0; body = half }

abbrev pub full : List Rule
full = filling 0 ∷ filling 1 ∷ []

filling-good : (tag : ℕ) → tag < 65536 → Admissible (filling tag)
filling-good tag h = let l : length half ≤ 16384 = rw half-long (omega arith) in record { tag = h; cells = omega arith; body = l }

full-kept : Kept 0 full
full-kept = cons {least = 0} {r = filling 0} (omega arith) (filling-good 0 (omega arith)) (cons {least = 1} {r = filling 1} (omega arith) (filling-good 1 (omega arith)) nil)

pub full-long : length (packed full) ≡ 24576
full-long =
    let b : length (bodies_of full) ≡ length half + (length half + 0) = length-append half (bodies_of (filling 1 ∷ [])) ∙ ap (λ (n : ℕ). length half + n) (length-append half []) in
    omega (arith, length-packed full, b, half-long)

full-packable : Packable full
full-packable = record { count = omega arith; rising = kept-rising 0 full full-kept; each = kept-each 0 full full-kept; size = rw full-long (omega arith) }

abbrev pub full_parts : Parts
full_parts = record { tags = tags_of full; cells = cells_of full; lengths = lengths_of full; bodies = bodies_of full }

pub full-written : write_rules full 24576 ≡ given (packed full)
full-written = packable-written full 24576 full-packable (rw full-long (omega arith))
