-- A found program is exactly the body of that tag, and a tag is found exactly where it is among the rules.
-- Assumes nothing.
use Prim.Native.Nat.{ℕ, ◌+◌}
use native.Mathlib.Omega.{arith}
use mathlib.Core.Path.{◌≡◌, refl, sym, ap, ◌∙◌}
use mathlib.Core.Bool.{Bool, true, false}
use mathlib.Core.Logic.{⊎_elim}
use mathlib.Core.List.Memᴰ
use mathlib.Core.List.{List, [], ◌∷◌}
use lib.Dec.{eqb}
use lib.ListN.{length, take, drop}
use lib.Seq.{drop-drop, take-append_seam, drop-append_seam}
use borrow.Author.Tests.{eq-eqb, ne_eqb, eqb-true}
use Rattle.basis.specs.Answer.{given, refused}
use Rattle.basis.proofs.Tests.{refused-given, given-one}
use Rattle.pack.specs.Contents.{first_of}
use Rattle.pack.specs.Read.{read_of}
use Rattle.pack.specs.Find.{sought_in, find_of, body_of}
use Rattle.pack.specs.declared.Entry.{Entry}
use Rattle.packer.specs.Write.{entry_of}
use Rattle.rules.specs.Rules.{Rule, entries_for, bodies_of, contents_for, Among, WellFormed, rule_of, Inside}
use Rattle.rules.proofs.Kept.{Kept, nil, cons, packable-kept, kept-least}
use Rattle.rules.proofs.Forth.{packed-read, bodies-forth}
use Rattle.rules.proofs.Inside.{found_inside}

-- the first entry tells the first rule, and the other bodies follow its body
rule-here : (s : List ℕ) (at : ℕ) (r : Rule) (rs : List Rule) → drop at s ≡ bodies_of (r ∷ rs) → rule_of s (entry_of r.tag r.cells at (length r.body)) ≡ r
rule-here s at r rs h = let b : take (length r.body) (drop at s) ≡ r.body = rw h (take-append_seam r.body (bodies_of rs)) in rw b

bodies-next : (s : List ℕ) (at : ℕ) (r : Rule) (rs : List Rule) → drop at s ≡ bodies_of (r ∷ rs) → drop (at + length r.body) s ≡ bodies_of rs
bodies-next s at r rs h = sym (drop-drop (length r.body) at s) ∙ rw h (drop-append_seam r.body (bodies_of rs))

-- an entry that is found for a tag and tells a rule
pub record Finds (s : List ℕ) (es : List Entry) (tag : ℕ) (r : Rule) : Type 0 where
  pub entry : Entry
  pub found : sought_in tag es ≡ given entry
  pub rule : rule_of s entry ≡ r

sought-among : (s : List ℕ) (least at : ℕ) (rs : List Rule) → Kept least rs → drop at s ≡ bodies_of rs → (r : Rule) → Among r rs → Finds s (entries_for at rs) r.tag r
sought-among s least at [] nil h r m = absurd (Memᴰ.not-nil m)
sought-among s least at (q ∷ rs) (cons l a k) h r m = ⊎_elim here (λ t. later t (sought-among s (q.tag + 1) (at + length q.body) rs k (bodies-next s at q rs h) r t)) (Memᴰ.cases_cons m)
  where
    here : r ≡ q → Finds s (entries_for at (q ∷ rs)) r.tag r
    here e = record {
      entry = entry_of q.tag q.cells at (length q.body);
      found = rw (eq-eqb q.tag r.tag (rw e));
      rule = rule-here s at q rs h ∙ sym e;
    }

    later : Among r rs → Finds s (entries_for (at + length q.body) rs) r.tag r → Finds s (entries_for at (q ∷ rs)) r.tag r
    later t f =
        let n = kept-least (q.tag + 1) rs k r t in
        record { entry = f.entry; found = rw (ne_eqb q.tag r.tag (omega arith)) f.found; rule = f.rule }

sought-absent : (at : ℕ) (rs : List Rule) (tag : ℕ) → ((r : Rule) → Among r rs → r.tag ≡ tag → ⊥) → sought_in tag (entries_for at rs) ≡ refused 36
sought-absent at [] tag n = refl
sought-absent at (q ∷ rs) tag n =
    rw (ne_eqb q.tag tag (n q (Memᴰ.head refl))) (sought-absent (at + length q.body) rs tag (λ r m. n r (Memᴰ.tail m)))

sought-only : (s : List ℕ) (at : ℕ) (rs : List Rule) (tag : ℕ) (e : Entry) → drop at s ≡ bodies_of rs → sought_in tag (entries_for at rs) ≡ given e → (e.tag ≡ tag) × Among (rule_of s e) rs
sought-only s at [] tag e h f = absurd (refused-given 36 e f)
sought-only s at (q ∷ rs) tag e h f = by (λ g. sought-only s (at + length q.body) rs tag e (bodies-next s at q rs h) g) (eqb q.tag tag) refl
  where
    by : (sought_in tag (entries_for (at + length q.body) rs) ≡ given e → (e.tag ≡ tag) × Among (rule_of s e) rs) → (t : Bool) → eqb q.tag tag ≡ t
        → (e.tag ≡ tag) × Among (rule_of s e) (q ∷ rs)
    by again true p =
        let z : entry_of q.tag q.cells at (length q.body) ≡ e = given-one _ _ (rw p at f) in
        let y : rule_of s e ≡ q = rw (← z) (rule-here s at q rs h) in
        (rw (← z) (eqb-true _ _ p), Memᴰ.head y)
    by again false p = let r = again (rw p at f) in (r.0, Memᴰ.tail r.1)

module _ (s : List ℕ) (w : WellFormed s) where
  read : read_of s ≡ given (contents_for w.rules)
  read = rw (← w.bytes) (packed-read w.rules w.packable)

  bodies : drop (first_of (length w.rules)) s ≡ bodies_of w.rules
  bodies = rw (← w.bytes) (bodies-forth w.rules w.packable)

  -- Every rule of a well-formed pack is found by its tag: its cells, and the part of the pack that is its program;
  pub rule_found : (r : Rule) → Among r w.rules → (e : Entry) × (find_of s r.tag ≡ given e) × (e.cells ≡ r.cells) × (body_of s e ≡ r.body) × Inside s e
  unfolding find_of
  rule_found r m =
      let g = w.packable in
      let f = sought-among s 0 (first_of (length w.rules)) w.rules (packable-kept w.rules g.rising g.each) bodies r m in
      let h : find_of s r.tag ≡ given f.entry = rw read f.found in
      (f.entry, h, ap (λ (x : Rule). x.cells) f.rule, ap (λ (x : Rule). x.body) f.rule, found_inside s r.tag f.entry h)

  -- whatever is found for a tag is the rule with that tag;
  pub found-rule : (tag : ℕ) (e : Entry) → find_of s tag ≡ given e → (e.tag ≡ tag) × Among (rule_of s e) w.rules × Inside s e
  unfolding find_of
  found-rule tag e h = let r = sought-only s (first_of (length w.rules)) w.rules tag e bodies (rw read at h) in (r.0, r.1, found_inside s tag e h)

  -- and a tag that no rule has is 36.
  pub absent-refused : (tag : ℕ) → ((r : Rule) → Among r w.rules → r.tag ≡ tag → ⊥) → find_of s tag ≡ refused 36
  unfolding find_of
  absent-refused tag n = rw read (sought-absent (first_of (length w.rules)) w.rules tag n)
