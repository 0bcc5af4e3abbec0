-- Laws of looking up, as the code comes to its answers.
-- Assumes nothing.
use Prim.Native.Nat.{ℕ, ◌+◌, ◌*◌, ◌≤◌, ◌<◌}
use native.Mathlib.Omega.{arith}
use mathlib.Core.Path.{◌≡◌, refl, sym, ap, ◌∙◌}
use mathlib.Core.Logic.{◌⊎◌, inl, inr, ◌≢◌}
use mathlib.Core.Bool.{Bool, true, false}
use mathlib.Core.List.{List}
use lib.Dec.{ltb, eqb}
use lib.ListN.{length}
use borrow.Author.Tests.{lt-ltb, le-ltb, eq-eqb, ne_eqb, ltb-true, ltb-false, eqb-true, eqb-false}
use Rattle.basis.specs.Answer.{Answer, given, refused}
use Rattle.basis.proofs.Tests.{same?, refused-given, refused-one, given-one}
use Rattle.halving.specs.Halving.{reached}
use Rattle.halving.proofs.Finds.{reaches}
use Rattle.pack.specs.Contents.{first_of, entry_at}
use Rattle.pack.specs.Read.{count_of, held_of}
use Rattle.pack.specs.Lookup.{kept_of, halved_of, lookup_of}
use Rattle.pack.specs.Refusals.{Held, come_to, Why, too_long, contents_cut, no_entries, another_tag, over_cells, over_length, past_end}
use Rattle.pack.specs.declared.Entry.{Entry}
use Rattle.pack.proofs.Sounds.{whole-held, held_whole, held-thirty}

-- the place that halving comes to is that of an entry
pub reached-in : (s : List ℕ) (n tag at : ℕ) → n ≢ 0 → n ≤ 64 → first_of n ≤ length s → at ≡ reached 2 8 s tag n → at + 8 ≤ length s
reached-in s n tag at some few room e =
    let r = reaches 2 8 s tag n (omega arith) few in
    let i = r.inside in
    let p : at ≡ 2 + 8 * r.index = e ∙ r.place in
    omega arith

pub halved_none : (s : List ℕ) (n tag : ℕ) → n ≡ 0 → refused 36 ≡ halved_of s n tag
unfolding halved_of
halved_none s n tag z = rw (eq-eqb n 0 z)

pub halved-kept : (s : List ℕ) (n tag at : ℕ) (answer : Answer Entry) → n ≢ 0 → at ≡ reached 2 8 s tag n → answer ≡ kept_of s tag (entry_at s at) → answer ≡ halved_of s n tag
unfolding halved_of
halved-kept s n tag at answer some e k = rw (ne_eqb n 0 some, ← e) k

-- what is refused without reading the entries
module _ (s : List ℕ) (tag : ℕ) where
  pub lookup-long : 24576 < length s → refused 31 ≡ lookup_of s tag
  unfolding lookup_of
  lookup-long h = rw (lt-ltb 24576 (length s) h)

  module _ (small : length s ≤ 24576) where
    pub lookup-cut : (k : ℕ) → held_of s ≡ refused k → refused k ≡ lookup_of s tag
    unfolding lookup_of
    lookup-cut k h = rw (le-ltb 24576 (length s) small, h)

    pub lookup-halved : (n : ℕ) (answer : Answer Entry) → held_of s ≡ given n → answer ≡ halved_of s n tag → answer ≡ lookup_of s tag
    unfolding lookup_of
    lookup-halved n answer h e = rw (le-ltb 24576 (length s) small, h) e

-- an entry that was kept is the one that was come to
pub record Kept (s : List ℕ) (tag : ℕ) (e : Entry) : Type 0 where
  pub asked : e.tag ≡ tag
  pub few : e.cells ≤ 1024
  pub short : e.length ≤ 16384
  pub ends : e.offset + e.length ≤ length s

pub kept-given : (s : List ℕ) (tag : ℕ) (x e : Entry) → kept_of s tag x ≡ given e → (x ≡ e) × Kept s tag e
unfolding kept_of
kept-given s tag x e h = go (eqb x.tag tag) (ltb 1024 x.cells) (ltb 16384 x.length) (ltb (length s) (x.offset + x.length)) refl refl refl refl
  where
    go : (a b c d : Bool) → eqb x.tag tag ≡ a → ltb 1024 x.cells ≡ b → ltb 16384 x.length ≡ c → ltb (length s) (x.offset + x.length) ≡ d → (x ≡ e) × Kept s tag e
    go false b c d p q r t = absurd (refused-given 36 e (rw p at h))
    go true true c d p q r t = absurd (refused-given 35 e (rw (p, q) at h))
    go true false true d p q r t = absurd (refused-given 35 e (rw (p, q, r) at h))
    go true false false true p q r t = absurd (refused-given 34 e (rw (p, q, r, t) at h))
    go true false false false p q r t =
        let z : x ≡ e = given-one x e (rw (p, q, r, t) at h) in
        (z, record { asked = rw (← z) (eqb-true _ _ p); few = rw (← z) (ltb-false _ _ q); short = rw (← z) (ltb-false _ _ r); ends = rw (← z) (ltb-false _ _ t) })

-- what a lookup comes to, of any bytes
pub data Coming (s : List ℕ) (tag : ℕ) : Type 0 where
  long : 24576 < length s → Coming s tag
  cut : length s ≤ 24576 → held_of s ≡ refused 30 → Coming s tag
  empty : length s ≤ 24576 → held_of s ≡ given 0 → Coming s tag
  entry : Held s (come_to s tag) → Coming s tag

coming : (s : List ℕ) (tag : ℕ) → Coming s tag
coming s tag = go (ltb 24576 (length s)) (held_of s) refl refl
  where
    some : (n : ℕ) → length s ≤ 24576 → held_of s ≡ given n → (n ≡ 0) ⊎ (n ≢ 0) → Coming s tag
    some n small h (inl z) = empty small (h ∙ ap given z)
    some n small h (inr z) =
        let w = held_whole s n h in
        let e = w.1 in
        let r = reaches 2 8 s tag (count_of s) (omega arith) w.0.count in
        entry record { size = small; count = w.0.count; room = w.0.room; index = r.index; few = r.inside; entry = ap (entry_at s) r.place }

    go : (t : Bool) (a : Answer ℕ) → ltb 24576 (length s) ≡ t → held_of s ≡ a → Coming s tag
    go true a p q = long (ltb-true _ _ p)
    go false (refused k) p q = cut (ltb-false _ _ p) (q ∙ ap refused (held-thirty s k q))
    go false (given n) p q = some n (ltb-false _ _ p) q (same? n 0)

-- and what it answers then
pub lookup-empty : (s : List ℕ) (tag : ℕ) → length s ≤ 24576 → held_of s ≡ given 0 → refused 36 ≡ lookup_of s tag
lookup-empty s tag small h = lookup-halved s tag small 0 (refused 36) h (halved_none s 0 tag refl)

pub lookup_entry : (s : List ℕ) (tag : ℕ) → Held s (come_to s tag) → kept_of s tag (come_to s tag) ≡ lookup_of s tag
lookup_entry s tag h =
    let f = h.few in
    let r = h.room in
    let w = whole-held s record { head = omega arith; count = h.count; room = h.room } in
    lookup-halved s tag h.size (count_of s) (kept_of s tag (come_to s tag)) w (halved-kept s (count_of s) tag (reached 2 8 s tag (count_of s)) (kept_of s tag (come_to s tag)) (omega arith) refl refl)

-- what an entry that is given shows
pub given-held : (s : List ℕ) (tag : ℕ) (e : Entry) → lookup_of s tag ≡ given e → Held s e × Kept s tag e
given-held s tag e h = go (coming s tag)
  where
    go : Coming s tag → Held s e × Kept s tag e
    go (long p) = absurd (refused-given 31 e (lookup-long s tag p ∙ h))
    go (cut p q) = absurd (refused-given 30 e (lookup-cut s tag p 30 q ∙ h))
    go (empty p q) = absurd (refused-given 36 e (lookup-empty s tag p q ∙ h))
    go (entry held) = let k = kept-given s tag (come_to s tag) e (lookup_entry s tag held ∙ h) in (rw k.0 at held, k.1)

-- why an entry that was come to is refused, and back
kept-why : (s : List ℕ) (tag n : ℕ) → Held s (come_to s tag) → kept_of s tag (come_to s tag) ≡ refused n → Why s tag n
unfolding kept_of
kept-why s tag n held h = go (eqb e.tag tag) (ltb 1024 e.cells) (ltb 16384 e.length) (ltb (length s) (e.offset + e.length)) refl refl refl refl
  where
    e : Entry
    e = come_to s tag

    go : (a b c d : Bool) → eqb e.tag tag ≡ a → ltb 1024 e.cells ≡ b → ltb 16384 e.length ≡ c → ltb (length s) (e.offset + e.length) ≡ d → Why s tag n
    go false b c d p q r t = rw (← refused-one 36 n (rw p at h)) (another_tag held (eqb-false _ _ p))
    go true true c d p q r t = rw (← refused-one 35 n (rw (p, q) at h)) (over_cells held (eqb-true _ _ p) (ltb-true _ _ q))
    go true false true d p q r t = rw (← refused-one 35 n (rw (p, q, r) at h)) (over_length held (eqb-true _ _ p) (ltb-true _ _ r))
    go true false false true p q r t = rw (← refused-one 34 n (rw (p, q, r, t) at h)) (past_end held (eqb-true _ _ p) (ltb-false _ _ q) (ltb-false _ _ r) (ltb-true _ _ t))
    go true false false false p q r t = absurd (refused-given n e (sym (rw (p, q, r, t) at h)))

pub why : (s : List ℕ) (tag n : ℕ) → lookup_of s tag ≡ refused n → Why s tag n
why s tag n h = go (coming s tag)
  where
    go : Coming s tag → Why s tag n
    go (long p) = rw (← refused-one 31 n (lookup-long s tag p ∙ h)) (too_long p)
    go (cut p q) = rw (← refused-one 30 n (lookup-cut s tag p 30 q ∙ h)) (contents_cut p q)
    go (empty p q) = rw (← refused-one 36 n (lookup-empty s tag p q ∙ h)) (no_entries p q)
    go (entry held) = kept-why s tag n held (lookup_entry s tag held ∙ h)

over-length-kept : (s : List ℕ) (tag : ℕ) (e : Entry) (t : Bool) → ltb 1024 e.cells ≡ t → e.tag ≡ tag → 16384 < e.length → kept_of s tag e ≡ refused 35
unfolding kept_of
over-length-kept s tag e true p z h = rw (eq-eqb _ _ z, p)
over-length-kept s tag e false p z h = rw (eq-eqb _ _ z, p, lt-ltb _ _ h)

pub because : (s : List ℕ) (tag n : ℕ) → Why s tag n → lookup_of s tag ≡ refused n
unfolding kept_of
because s tag n (too_long p) = sym (lookup-long s tag p)
because s tag n (contents_cut p q) = sym (lookup-cut s tag p 30 q)
because s tag n (no_entries p q) = sym (lookup-empty s tag p q)
because s tag n (another_tag held z) = sym (lookup_entry s tag held) ∙ rw (ne_eqb _ _ z)
because s tag n (over_cells held z h) = sym (lookup_entry s tag held) ∙ rw (eq-eqb _ _ z, lt-ltb _ _ h)
because s tag n (over_length held z h) = sym (lookup_entry s tag held) ∙ over-length-kept s tag (come_to s tag) (ltb 1024 (come_to s tag).cells) refl z h
because s tag n (past_end held z few short h) = sym (lookup_entry s tag held) ∙ rw (eq-eqb _ _ z, le-ltb _ _ few, le-ltb _ _ short, lt-ltb _ _ h)
