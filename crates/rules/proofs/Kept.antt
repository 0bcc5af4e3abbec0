-- Packable rules as a walk meets them, with the least tag that is still allowed.
-- Assumes nothing.
use Prim.Native.Nat.{ℕ, suc, ◌+◌, ◌≤◌, ◌<◌}
use native.Mathlib.Omega.{arith}
use native.Mathlib.Nat.{add-zero}
use mathlib.Core.Path.{◌≡◌, refl, sym, ap, ◌∙◌}
use mathlib.Core.Logic.{⊎_elim}
use mathlib.Core.List.Memᴰ
use mathlib.Core.List.{List, [], ◌∷◌, ◌++◌}
use lib.ListN.{length, length-append}
use Rattle.basis.specs.Answer.{given}
use Rattle.pack.specs.Contents.{first_of, refusal_of, end_of}
use Rattle.pack.proofs.Walks.{passes}
use Rattle.packer.specs.Write.{entry_of}
use Rattle.packer.proofs.Puts.{length-pack}
use Rattle.rules.specs.Rules.{Rule, entries_for, bodies_of, contents_for, packed, Rising, none, one, more, Admissible, Among}

pub data Kept : ℕ → List Rule → Type 0 where
  nil : {least : ℕ} → Kept least []
  cons : {least : ℕ} {r : Rule} {rs : List Rule} → least ≤ r.tag → Admissible r → Kept (r.tag + 1) rs → Kept least (r ∷ rs)

rising-kept : (least : ℕ) (r : Rule) (rs : List Rule) → least ≤ r.tag → Rising (r ∷ rs) → ((q : Rule) → Among q (r ∷ rs) → Admissible q) → Kept least (r ∷ rs)
rising-kept least r [] h one a = cons h (a r (Memᴰ.head refl)) nil
rising-kept least r (q ∷ rs) h (more l u) a =
    cons h (a r (Memᴰ.head refl)) (rising-kept (r.tag + 1) q rs (omega arith) u (λ x m. a x (Memᴰ.tail m)))

pub packable-kept : (rs : List Rule) → Rising rs → ((r : Rule) → Among r rs → Admissible r) → Kept 0 rs
packable-kept [] u a = nil
packable-kept (r ∷ rs) u a = rising-kept 0 r rs (omega arith) u a

pub kept-rising : (least : ℕ) (rs : List Rule) → Kept least rs → Rising rs
kept-rising least [] nil = none
kept-rising least (r ∷ []) (cons h a nil) = one
kept-rising least (r ∷ (q ∷ rs)) (cons h a (cons l b k)) = let up : r.tag < q.tag = omega arith in more up (kept-rising (r.tag + 1) (q ∷ rs) (cons l b k))

pub kept-each : (least : ℕ) (rs : List Rule) → Kept least rs → (r : Rule) → Among r rs → Admissible r
kept-each least [] nil r m = absurd (Memᴰ.not-nil m)
kept-each least (q ∷ rs) (cons h a k) r m = ⊎_elim (λ e. rw e a) (λ t. kept-each (q.tag + 1) rs k r t) (Memᴰ.cases_cons m)

-- every rule that is kept has at least that tag
pub kept-least : (least : ℕ) (rs : List Rule) → Kept least rs → (r : Rule) → Among r rs → least ≤ r.tag
kept-least least [] nil r m = absurd (Memᴰ.not-nil m)
kept-least least (q ∷ rs) (cons h a k) r m =
    ⊎_elim (λ e. rw e h) (λ t. let l = kept-least (q.tag + 1) rs k r t in omega arith) (Memᴰ.cases_cons m)

-- the walk over the entries of such rules comes to the end of their bodies
pub kept-ends : (least at : ℕ) (rs : List Rule) → Kept least rs → end_of least at (entries_for at rs) ≡ given (at + length (bodies_of rs))
kept-ends least at [] nil = ap given (sym (add-zero at))
kept-ends least at (r ∷ rs) (cons h a k) =
    let e = entry_of r.tag r.cells at (length r.body) in
    let p : refusal_of least at e ≡ 0 = passes least at e (record { tag = h; cells = a.cells; length = a.body; offset = refl }) in
    let n : at + length r.body + length (bodies_of rs) ≡ at + length (r.body ++ bodies_of rs) = rw length-append (omega arith) in
    rw p (kept-ends (r.tag + 1) (at + length r.body) rs k ∙ ap given n)

pub length-for : (at : ℕ) (rs : List Rule) → length (entries_for at rs) ≡ length rs
length-for at [] = refl
length-for at (r ∷ rs) = ap suc (length-for (at + length r.body) rs)

pub length-packed : (rs : List Rule) → length (packed rs) ≡ first_of (length rs) + length (bodies_of rs)
unfolding packed
length-packed rs = length-pack (contents_for rs) (bodies_of rs) ∙ rw (length-for (first_of (length rs)) rs)
