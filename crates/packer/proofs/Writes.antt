-- Laws of the writer's answers: each case of its definition.
-- Assumes nothing.
use Prim.Native.Nat.{ℕ, ◌+◌, ◌≤◌}
use native.Mathlib.Omega.{arith}
use mathlib.Core.Path.{◌≡◌, refl, sym, ap, ◌∙◌}
use mathlib.Core.Bool.{Bool, true, false}
use mathlib.Core.List.{List}
use lib.Dec.{ltb, eqb}
use lib.ListN.{length}
use borrow.Author.Tests.{le-ltb, eq-eqb, ltb-false, eqb-true}
use Rattle.basis.specs.Answer.{Answer, given, refused, seen}
use Rattle.basis.proofs.Tests.{refused-given, given-one}
use Rattle.pack.specs.Contents.{first_of, end_of}
use Rattle.pack.specs.Format.{pack_of}
use Rattle.pack.specs.declared.Entry.{Entry}
use Rattle.packer.specs.Write.{laid_of, alike, ended_of, write_of}
use Rattle.packer.proofs.Lists.{Alike, alike-shown, alike-back, length-laid}
use Rattle.packer.proofs.Puts.{length-pack}

module _ (tags cells lengths bodies : List ℕ) (room : ℕ) where
  pub like : Alike tags cells lengths → (a : Answer ℕ) → end_of 0 (first_of (length tags)) (laid_of tags cells lengths) ≡ a
      → write_of tags cells lengths bodies room ≡ ended_of room (laid_of tags cells lengths) bodies a
  unfolding write_of
  like g a h = rw (alike-back tags cells lengths g, h)

  module _ (g : Alike tags cells lengths) (end : ℕ) (h : end_of 0 (first_of (length tags)) (laid_of tags cells lengths) ≡ given end) where
    count : length (laid_of tags cells lengths) ≡ length tags
    count = length-laid (first_of (length tags)) tags cells lengths g.cells-like g.lengths-like

    pub length-written : length (pack_of (laid_of tags cells lengths) bodies) ≡ first_of (length tags) + length bodies
    length-written = length-pack (laid_of tags cells lengths) bodies ∙ rw count

    pub taken : end ≡ first_of (length tags) + length bodies → end ≤ 24576 → end ≤ room → write_of tags cells lengths bodies room ≡ given (pack_of (laid_of tags cells lengths) bodies)
    taken p q r = like g (given end) h ∙ rw (count, eq-eqb _ _ p, le-ltb _ _ q, length-written, ← p, le-ltb _ _ r)

-- what a writer that takes its lists shows
pub record Took (tags cells lengths bodies : List ℕ) (room : ℕ) (bytes : List ℕ) : Type 0 where
  pub lists : Alike tags cells lengths
  pub ends : end_of 0 (first_of (length tags)) (laid_of tags cells lengths) ≡ given (first_of (length tags) + length bodies)
  pub small : first_of (length tags) + length bodies ≤ 24576
  pub fits : first_of (length tags) + length bodies ≤ room
  pub same : bytes ≡ pack_of (laid_of tags cells lengths) bodies

pub took : (tags cells lengths bodies : List ℕ) (room : ℕ) (bytes : List ℕ) → write_of tags cells lengths bodies room ≡ given bytes → Took tags cells lengths bodies room bytes
unfolding write_of
took tags cells lengths bodies room bytes h = by (alike tags cells lengths) (end_of 0 (first_of (length tags)) (laid_of tags cells lengths)) refl refl
  where
    es : List Entry
    es = laid_of tags cells lengths

    n : ℕ
    n = length bodies

    last : (end : ℕ) (t u v : Bool) → alike tags cells lengths ≡ true → end_of 0 (first_of (length tags)) es ≡ given end
        → eqb end (first_of (length es) + n) ≡ t → ltb 24576 end ≡ u → ltb room (length (pack_of es bodies)) ≡ v → Took tags cells lengths bodies room bytes
    last end false u v a e p q r = absurd (refused-given 34 bytes (rw (a, e, p) at h))
    last end true true v a e p q r = absurd (refused-given 31 bytes (rw (a, e, p, q) at h))
    last end true false true a e p q r = absurd (refused-given 25 bytes (rw (a, e, p, q, r) at h))
    last end true false false a e p q r =
        let g = alike-shown tags cells lengths a in
        let c = length-laid (first_of (length tags)) tags cells lengths g.cells-like g.lengths-like in
        let z : end ≡ first_of (length tags) + n = eqb-true _ _ p ∙ rw c in
        let l : length (pack_of es bodies) ≡ first_of (length tags) + n = length-pack es bodies ∙ rw c in
        record {
          lists = g;
          ends = e ∙ ap given z;
          small = omega (arith, ltb-false 24576 end q);
          fits = omega (arith, ltb-false room (length (pack_of es bodies)) r);
          same = sym (given-one _ _ (rw (a, e, p, q, r) at h));
        }

    by : (t : Bool) (a : Answer ℕ) → alike tags cells lengths ≡ t → end_of 0 (first_of (length tags)) es ≡ a → Took tags cells lengths bodies room bytes
    by false a p q = absurd (refused-given 30 bytes (rw p at h))
    by true (refused k) p q = absurd (refused-given k bytes (rw (p, q) at h))
    by true (given end) p q = last end (eqb end (first_of (length es) + n)) (ltb 24576 end) (ltb room (length (pack_of es bodies))) p q refl refl refl

-- a length that was given is that of the pack
pub given-write : (tags cells lengths bodies : List ℕ) (room n : ℕ) → seen length (write_of tags cells lengths bodies room) ≡ given n
    → write_of tags cells lengths bodies room ≡ given (pack_of (laid_of tags cells lengths) bodies)
given-write tags cells lengths bodies room n h = by (write_of tags cells lengths bodies room) refl
  where
    by : (a : Answer (List ℕ)) → write_of tags cells lengths bodies room ≡ a → write_of tags cells lengths bodies room ≡ given (pack_of (laid_of tags cells lengths) bodies)
    by (refused k) p = absurd (refused-given k n (rw p at h))
    by (given bytes) p = p ∙ ap given (took tags cells lengths bodies room bytes p).same
