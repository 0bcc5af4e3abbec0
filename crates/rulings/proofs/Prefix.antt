-- The contents of a pack, the bodies that are whole, and what the verifier says of them, don't depend on what follows them.
-- Assumes nothing.
use Prim.Native.Nat.{ℕ, zero, suc, ◌+◌, ◌*◌, ◌≤◌, ◌<◌}
use native.Mathlib.Omega.{arith}
use mathlib.Core.Path.{◌≡◌, refl, sym, ap, ◌∙◌}
use mathlib.Core.List.{List, ◌++◌}
use lib.ListN.{length, take, drop, replicate, length-append, length-drop, get_or-append}
use lib.Seq.{get_or-take, take-append-le, drop-append-le}
use borrow.Author.Tests.{le-ltb, lt-ltb}
use Rattle.basis.specs.Answer.{refused}
use Rattle.basis.specs.Number.{number_at}
use Rattle.pack.specs.Contents.{entry_at, entries_from}
use Rattle.pack.specs.Read.{count_of, contents_of}
use Rattle.pack.specs.Find.{body_of}
use Rattle.pack.specs.declared.Entry.{Entry}
use Rattle.pack.proofs.Sounds.{Whole, whole-walk}
use Rattle.verifier.specs.Verify.{verify_of}
use Rattle.rulings.specs.Rulings.{judged_of}

module _ (s t : List ℕ) where
  pub number-prefix : (w at : ℕ) → at + w ≤ length s → number_at w (s ++ t) at ≡ number_at w s at
  number-prefix zero at h = refl
  number-prefix (suc w) at h = rw (get_or-append s t 0 at (omega arith), number-prefix w (at + 1) (omega arith))

  pub entry-prefix : (at : ℕ) → at + 8 ≤ length s → entry_at (s ++ t) at ≡ entry_at s at
  unfolding entry_at
  entry-prefix at h =
      let a = number-prefix 2 at (omega arith) in
      let b = number-prefix 2 (at + 2) (omega arith) in
      let c = number-prefix 2 (at + 4) (omega arith) in
      let d = number-prefix 2 (at + 6) (omega arith) in
      rw (a, b, c, d)

  pub entries-prefix : (at n : ℕ) → at + 8 * n ≤ length s → entries_from (s ++ t) at n ≡ entries_from s at n
  entries-prefix at zero h = refl
  entries-prefix at (suc n) h = rw (entry-prefix at (omega arith), entries-prefix (at + 8) n (omega arith))

  pub count-prefix : 2 ≤ length s → count_of (s ++ t) ≡ count_of s
  count-prefix h = number-prefix 2 0 (omega arith)

  pub whole-prefix : Whole s → Whole (s ++ t)
  whole-prefix g =
      let l = length-append s t in
      let n = count-prefix g.head in
      record { head = omega (arith, g.head); count = omega (arith, g.count); room = rw n (omega (arith, g.room)) }

  -- once the contents are there, what follows changes neither their refusal nor where the bodies end
  pub contents-prefix : Whole s → contents_of (s ++ t) ≡ contents_of s
  contents-prefix g =
      let n = count-prefix g.head in
      whole-walk (s ++ t) (whole-prefix g) ∙ rw (n, entries-prefix 2 (count_of s) g.room) (sym (whole-walk s g))

  pub contents-many : 2 ≤ length s → 64 < count_of s → contents_of (s ++ t) ≡ refused 30
  unfolding contents_of
  contents-many h k =
      let l = length-append s t in
      let n = count-prefix h in
      rw (le-ltb (length (s ++ t)) 2 (omega arith), n, lt-ltb 64 (count_of s) k)

  pub body-prefix : (e : Entry) → e.offset + e.length ≤ length s → body_of (s ++ t) e ≡ body_of s e
  body-prefix e h =
      rw (drop-append-le e.offset s t (omega arith))
      (take-append-le e.length (drop e.offset s) t (rw length-drop (omega arith)))

  pub judged-prefix : (e : Entry) → e.offset + e.length ≤ length s → judged_of (s ++ t) e ≡ judged_of s e
  unfolding judged_of
  judged-prefix e h = ap (λ (p : List ℕ). (verify_of p e.cells (replicate (length p) 65535)).0) (body-prefix e h)

-- what stands in the first f bytes
pub number-take : (f w : ℕ) (s : List ℕ) (at : ℕ) → at + w ≤ f → number_at w (take f s) at ≡ number_at w s at
number-take f zero s at h = refl
number-take f (suc w) s at h = rw (get_or-take f s at 0 (omega arith), number-take f w s (at + 1) (omega arith))

pub number-alike : (f w : ℕ) (c s : List ℕ) (at : ℕ) → take f c ≡ take f s → at + w ≤ f → number_at w c at ≡ number_at w s at
number-alike f w c s at e h = sym (number-take f w c at h) ∙ ap (λ (x : List ℕ). number_at w x at) e ∙ number-take f w s at h
