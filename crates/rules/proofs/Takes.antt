-- The writer takes exactly the rules that a pack can hold.
-- Assumes nothing.
use Prim.Native.Nat.{ℕ, suc, ◌+◌, ◌≤◌}
use native.Mathlib.Omega.{arith}
use mathlib.Core.Path.{◌≡◌, refl, sym, ◌∙◌}
use mathlib.Core.List.{List, [], ◌∷◌}
use lib.ListN.{length, take, drop, length-drop, take-append-drop, length-map}
use lib.Seq.{length-take-le}
use Rattle.basis.specs.Answer.{given}
use Rattle.pack.specs.Contents.{first_of, end_of}
use Rattle.pack.proofs.Walks.{next}
use Rattle.packer.specs.Write.{entry_of, laid, laid_of, sum_of, write_of}
use Rattle.packer.proofs.Lists.{Alike, end-sum}
use Rattle.packer.proofs.Writes.{taken, took}
use Rattle.rules.specs.Rules.{Rule, entries_for, bodies_of, packed, Admissible, Packable, tags_of, cells_of, lengths_of, write_rules, PartsOf, Words}
use Rattle.rules.proofs.Kept.{Kept, nil, cons, packable-kept, kept-rising, kept-each, kept-ends, length-packed}

laid-for : (at : ℕ) (rs : List Rule) → laid at (tags_of rs) (cells_of rs) (lengths_of rs) ≡ entries_for at rs
laid-for at [] = refl
laid-for at (r ∷ rs) = rw (laid-for (at + length r.body) rs)

-- The rules that a pack can hold are written as their pack, into any room that holds it.
pub packable-written : (rs : List Rule) (room : ℕ) → Packable rs → length (packed rs) ≤ room → write_rules rs room ≡ given (packed rs)
unfolding packed
packable-written rs room g h =
    let t : length (tags_of rs) ≡ length rs = length-map rs (λ (r : Rule). r.tag) in
    let c : length (cells_of rs) ≡ length rs = length-map rs (λ (r : Rule). r.cells) in
    let l : length (lengths_of rs) ≡ length rs = length-map rs (λ (r : Rule). length r.body) in
    let a : Alike (tags_of rs) (cells_of rs) (lengths_of rs) = record { count = omega (arith, g.count); cells-like = c ∙ sym t; lengths-like = l ∙ sym t } in
    let n = length-packed rs in
    let e : end_of 0 (first_of (length (tags_of rs))) (laid_of (tags_of rs) (cells_of rs) (lengths_of rs)) ≡ given (first_of (length rs) + length (bodies_of rs)) =
    rw (t, laid-for (first_of (length rs)) rs) (kept-ends 0 (first_of (length rs)) rs (packable-kept rs g.rising g.each)) in
    taken (tags_of rs) (cells_of rs) (lengths_of rs) (bodies_of rs) room a _ e (omega arith) (omega (arith, g.size)) (omega arith)
    ∙ rw (t, laid-for (first_of (length rs)) rs)

-- the rules with these tags, cells and lengths, cut from the bodies end to end
cut : List ℕ → List ℕ → List ℕ → List ℕ → List Rule
cut [] cells lengths bodies = []
cut (t ∷ tags) [] lengths bodies = []
cut (t ∷ tags) (c ∷ cells) [] bodies = []
cut (t ∷ tags) (c ∷ cells) (l ∷ lengths) bodies = record { tag = t; cells = c; body = take l bodies } ∷ cut tags cells lengths (drop l bodies)

cut-given : (tags cells lengths bodies : List ℕ) → length cells ≡ length tags → length lengths ≡ length tags → length bodies ≡ sum_of lengths
    → PartsOf tags cells lengths bodies (cut tags cells lengths bodies)
unfolding cut
cut-given [] [] [] [] p q s = record { same_tags = refl; same_cells = refl; same_lengths = refl; same_bodies = refl }
cut-given [] [] [] (b ∷ bodies) p q s = absurd (omega arith)
cut-given [] [] (l ∷ lengths) bodies p q s = absurd (omega arith)
cut-given [] (c ∷ cells) lengths bodies p q s = absurd (omega arith)
cut-given (t ∷ tags) [] lengths bodies p q s = absurd (omega arith)
cut-given (t ∷ tags) (c ∷ cells) [] bodies p q s = absurd (omega arith)
cut-given (t ∷ tags) (c ∷ cells) (l ∷ lengths) bodies p q s =
    let d = length-drop l bodies in
    let g = cut-given tags cells lengths (drop l bodies) (omega arith) (omega arith) (omega arith) in
    let k : length (take l bodies) ≡ l = length-take-le l bodies (omega arith) in
    record {
      same_tags = rw g.same_tags;
      same_cells = rw g.same_cells;
      same_lengths = rw (k, g.same_lengths);
      same_bodies = rw g.same_bodies (take-append-drop l bodies);
    }

-- rules over whose entries a walk comes to an end are kept
ended-kept : (least at end : ℕ) (rs : List Rule) → Words (tags_of rs) → end_of least at (entries_for at rs) ≡ given end → Kept least rs
ended-kept least at end [] w h = nil
ended-kept least at end (r ∷ rs) w h =
    let e = entry_of r.tag r.cells at (length r.body) in
    let x = next least at e (entries_for (at + length r.body) rs) end h in
    let p = x.passed in
    let a : Admissible r = record { tag = w 0; cells = p.cells; body = p.length } in
    cons p.tag a (ended-kept (r.tag + 1) (at + length r.body) end rs (λ k. w (suc k)) x.rest)

-- What the writer takes are the parts of rules that a pack can hold, and it writes their pack.
pub record Held (tags cells lengths bodies bytes : List ℕ) : Type 0 where
  pub rules : List Rule
  pub parts : PartsOf tags cells lengths bodies rules
  pub packable : Packable rules
  pub same : packed rules ≡ bytes

pub written_held : (tags cells lengths bodies : List ℕ) (room : ℕ) (bytes : List ℕ) → Words tags → write_of tags cells lengths bodies room ≡ given bytes → Held tags cells lengths bodies bytes
unfolding packed
written_held tags cells lengths bodies room bytes w h =
    let t = took tags cells lengths bodies room bytes h in
    let a = t.lists in
    let s = end-sum 0 (first_of (length tags)) tags cells lengths (first_of (length tags) + length bodies) a.cells-like a.lengths-like t.ends in
    let rs = cut tags cells lengths bodies in
    let g = cut-given tags cells lengths bodies a.cells-like a.lengths-like (omega arith) in
    let n : length rs ≡ length tags = sym (length-map rs (λ (r : Rule). r.tag)) ∙ rw g.same_tags in
    let e : entries_for (first_of (length tags)) rs ≡ laid_of tags cells lengths =
    sym (laid-for (first_of (length tags)) rs) ∙ rw (g.same_tags, g.same_cells, g.same_lengths) in
    let u : Words (tags_of rs) = rw g.same_tags w in
    let k = ended-kept 0 (first_of (length tags)) (first_of (length tags) + length bodies) rs u (rw e t.ends) in
    let b : packed rs ≡ bytes = rw (n, e, g.same_bodies) (sym t.same) in
    let l : length (packed rs) ≤ 24576 = rw (length-packed rs, n, g.same_bodies) t.small in
    record {
      rules = rs;
      parts = g;
      packable = record { count = omega (arith, a.count); rising = kept-rising 0 rs k; each = kept-each 0 rs k; size = l };
      same = b;
    }
