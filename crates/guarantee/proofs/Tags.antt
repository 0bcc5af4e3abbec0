-- Looking up a tag: what request No. 4 promises.
-- Assumes nothing.
use Prim.Native.Nat.{ℕ, ◌+◌, ◌*◌, ◌^◌, ◌≤◌}
use native.Mathlib.Omega.{arith}
use mathlib.Core.Path.{◌≡◌, refl, sym, ◌∙◌}
use mathlib.Core.Bool.{Bool, true, false}
use mathlib.Core.List.{List, [], ◌∷◌}
use lib.Dec.{eqb}
use lib.ListN.{length}
use lib.Pow.{pow_mono}
use borrow.Author.Tests.{lt-ltb, le-ltb}
use Rattle.basis.specs.Answer.{Answer, given, refused}
use Rattle.basis.proofs.Tests.{refused-given}
use Rattle.halving.specs.Ways.{followed}
use Rattle.halving.proofs.Ways.{reaching}
use Rattle.pack.specs.Contents.{entry_at}
use Rattle.pack.specs.Read.{read_of}
use Rattle.pack.specs.Find.{sought_in, find_of}
use Rattle.pack.specs.Lookup.{kept_of, lookup_of}
use Rattle.pack.specs.declared.Entry.{Entry}
use Rattle.pack.proofs.Sounds.{contents_cut}
use Rattle.pack.proofs.Tags.{lookup-find}
use Rattle.pack.proofs.Keeps.{lookup-long, lookup-cut, lookup-halved, halved-kept, given-held, why, because}
use Rattle.rules.specs.Rules.{contents_for}
use Rattle.rules.proofs.Forth.{packed-read}
use Rattle.rules.proofs.Back.{length-body}
use Rattle.guarantee.specs.Demands.{FindsExactly}
use Rattle.guarantee.specs.Tags.{SameAsFind, LooksUpExactly, GivesInside, RefusesFor, RefusesOnlyNoPack, SevenComparisons}
use Rattle.guarantee.proofs.Demands as demands

pub same-as-find : SameAsFind
unfolding SameAsFind
same-as-find s es tag h = lookup-find s es tag h

pub looks-up-exactly : LooksUpExactly
unfolding LooksUpExactly FindsExactly
looks-up-exactly s w =
    let read : read_of s ≡ given (contents_for w.rules) = rw (← w.bytes) (packed-read w.rules w.packable) in
    let same : (tag : ℕ) → lookup_of s tag ≡ find_of s tag = λ tag. lookup-find s (contents_for w.rules) tag read in
    let f = demands.finds-exactly s w in (
      (λ r m. let g = f.0 r m in (g.0, same r.tag ∙ g.1, g.2, g.3, g.4)),
      (λ tag e h. f.1 tag e (sym (same tag) ∙ h)),
      (λ tag none. same tag ∙ f.2 tag none),
    )

pub gives-inside : GivesInside
unfolding GivesInside
gives-inside s tag e h =
    let g = given-held s tag e h in
    let k = g.1 in
    record {
      asked = k.asked;
      few = k.few;
      short = k.short;
      inside = record { ends = k.ends; whole = length-body s e k.ends };
      held = g.0;
    }

-- a pack that is read is refused by 36 alone
sought-refused : (tag n : ℕ) (es : List Entry) → sought_in tag es ≡ refused n → n ≡ 36
sought-refused tag n [] h = let z : 36 ≡ n = cc in sym z
sought-refused tag n (e ∷ es) h = by (λ g. sought-refused tag n es g) (eqb e.tag tag) refl
  where
    by : (sought_in tag es ≡ refused n → n ≡ 36) → (t : Bool) → eqb e.tag tag ≡ t → n ≡ 36
    by again true p = absurd (refused-given n e (sym (rw p at h)))
    by again false p = again (rw p at h)

found : (s : List ℕ) (tag : ℕ) (es : List Entry) → read_of s ≡ given es → find_of s tag ≡ sought_in tag es
unfolding find_of
found s tag es r = rw r

pub refuses-for : RefusesFor
unfolding RefusesFor
refuses-for s tag n = (why s tag n, because s tag n)

pub refuses-only-no-pack : RefusesOnlyNoPack
unfolding RefusesOnlyNoPack find_of read_of
refuses-only-no-pack = (
  (λ s tag h. (sym (lookup-long s tag h), rw (lt-ltb 24576 (length s) h))),
  (λ s tag n h k. (sym (lookup-cut s tag h n k), rw (le-ltb 24576 (length s) h, ← contents_cut s n k))),
  (λ s tag n h other es r. other (sought-refused tag n es (sym (found s tag es r) ∙ sym (lookup-find s es tag r) ∙ h))),
)

pub seven-comparisons : SevenComparisons
unfolding SevenComparisons
seven-comparisons m n small some many =
    let most : 2 ^ m ≤ 64 = pow_mono small in
    let r = reaching n m some (omega arith) many in (
      r.way,
      r.within,
      λ s tag size h.
          let way : Answer Entry = kept_of s tag (entry_at s (2 + 8 * followed r.way 2 8 s tag)) in
          sym (lookup-halved s tag size n way h (halved-kept s n tag (2 + 8 * followed r.way 2 8 s tag) way (omega arith) (sym (r.comes-to 2 8 s tag)) refl)),
    )
