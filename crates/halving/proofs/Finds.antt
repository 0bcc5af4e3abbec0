-- Where the numbers rise, halving comes to the one entry that begins with the number sought, if there is one; and in any bytes to one of
-- the entries.
-- Assumes nothing.
use Prim.Native.Nat.{ℕ, zero, suc, ◌+◌, ◌-◌, ◌*◌, ◌/◌, ◌^◌, ◌≤◌, ◌<◌}
use native.Mathlib.Omega.{arith}
use native.Mathlib.Nat.{mul-zero, mul-add}
use mathlib.Core.Path.{◌≡◌, refl, sym, ap, ◌∙◌}
use mathlib.Core.Bool.{Bool, true, false}
use mathlib.Core.List.{List}
use lib.Dec.{ltb}
use borrow.Author.Tests.{ltb-true, ltb-false, lt-ltb, le-ltb}
use Rattle.basis.specs.Pick.{pick}
use Rattle.basis.specs.Number.{number_at}
use Rattle.halving.specs.Halving.{later_of, halved, narrowed, rounds_of, reached}

-- numbers by their index, that rise
abbrev pub Rising : (ℕ → ℕ) → ℕ → Type 0
Rising f n = (i j : ℕ) → i < j → j < n → f i < f j

pub rise-before : (f : ℕ → ℕ) (n i j : ℕ) → Rising f n → i < n → f i < f j → i < j
rise-before f n i j rise h k = go (ltb i j) (ltb j i) refl refl
  where
    go : (t u : Bool) → ltb i j ≡ t → ltb j i ≡ u → i < j
    go true u p q = ltb-true i j p
    go false true p q = absurd (let a = rise j i (ltb-true j i q) h in omega arith)
    go false false p q = absurd (let a = ltb-false i j p in let b = ltb-false j i q in let z : i ≡ j = omega arith in let y : f i ≡ f j = rw z in omega arith)

pub rise-behind : (f : ℕ → ℕ) (n i j : ℕ) → Rising f n → i < n → f i ≤ f j → i ≤ j
rise-behind f n i j rise h k = go (ltb j i) refl
  where
    go : (t : Bool) → ltb j i ≡ t → i ≤ j
    go true p = absurd (let a = rise j i (ltb-true j i p) h in omega arith)
    go false p = ltb-false j i p

-- ---- the same comparisons by index
abbrev pub later_in : (ℕ → ℕ) → ℕ → ℕ → ℕ → ℕ → ℕ
later_in f x i next mid = pick (ltb x (f mid)) i next

abbrev pub halved_in : ℕ → (ℕ → ℕ) → ℕ → ℕ → ℕ → ℕ
halved_in zero f x i left = i
halved_in (suc more) f x i left = halved_in more f x (later_in f x i (i + left / 2) (i + left / 2)) (left - left / 2)

-- enough comparisons to leave one
abbrev pub Enough : ℕ → ℕ → Type 0
Enough zero left = left ≤ 1
Enough (suc more) left = Enough more (left - left / 2)

-- one comparison, with the entry at `mid`, leaves `left` of n: those from i on, or those from `next` on
pub record Leaves (f : ℕ → ℕ) (x i n next mid left : ℕ) : Type 0 where
  pub least : i ≤ later_in f x i next mid
  pub most : later_in f x i next mid + left ≤ i + n
  pub holds : (m : ℕ) → Rising f m → i + n ≤ m → (j : ℕ) → i ≤ j → j < i + n → f j ≡ x → (later_in f x i next mid ≤ j) × (j < later_in f x i next mid + left)

pub leaves : (f : ℕ → ℕ) (x i n next mid left : ℕ) → next + left ≡ i + n → i ≤ next → next ≤ mid → mid ≤ i + left → mid < i + n → Leaves f x i n next mid left
leaves f x i n next mid left z a b c d = go (ltb x (f mid)) refl
  where
    go : (t : Bool) → ltb x (f mid) ≡ t → Leaves f x i n next mid left
    go true e = record {
      least = rw e (omega arith);
      most = rw e (omega arith);
      holds = λ m rise fit j k l s.
          let u : x < f mid = ltb-true x (f mid) e in
          let v : f j < f mid = omega arith in
          let w : j < mid = rise-before f m j mid rise (omega arith) v in
          rw e (k, omega arith);
    }
    go false e = record {
      least = rw e (omega arith);
      most = rw e (omega arith);
      holds = λ m rise fit j k l s.
          let u : f mid ≤ x = ltb-false x (f mid) e in
          let v : f mid ≤ f j = omega arith in
          let w : mid ≤ j = rise-behind f m mid j rise (omega arith) v in
          rw e (omega arith, omega arith);
    }

-- the comparisons come to one of the entries; where they are enough and the numbers rise, to the one with the number
pub record Come (f : ℕ → ℕ) (x i n r : ℕ) : Type 0 where
  pub least : i ≤ r
  pub most : r < i + n
  pub only : (m : ℕ) → Rising f m → i + n ≤ m → (j : ℕ) → i ≤ j → j < i + n → f j ≡ x → r ≡ j

pub come : (more : ℕ) (f : ℕ → ℕ) (x i left : ℕ) → Enough more left → 0 < left → Come f x i left (halved_in more f x i left)
come zero f x i left enough h = record {
  least = omega arith;
  most = omega arith;
  only = λ m rise fit j a b s. omega arith;
}
come (suc more) f x i left enough h =
    let half = left / 2 in
    let k = leaves f x i left (i + half) (i + half) (left - half) (omega arith) (omega arith) (omega arith) (omega arith) (omega arith) in
    let at = later_in f x i (i + half) (i + half) in
    let r = come more f x at (left - half) enough (omega arith) in
    let l = k.least in
    let m = k.most in
    record {
      least = let a = r.least in omega arith;
      most = let a = r.most in omega arith;
      only = λ m rise fit j a b s. let d = k.holds m rise fit j a b s in r.only m rise (omega arith) j d.0 d.1 s;
    }

-- ---- by place: the entry with index i stands at start + stride * i
abbrev pub number_in : ℕ → ℕ → List ℕ → ℕ → ℕ
number_in start stride s i = number_at 2 s (start + stride * i)

place-next : (start stride i k : ℕ) → start + stride * i + stride * k ≡ start + stride * (i + k)
place-next start stride i k = let a = mul-add stride i k in omega arith

later-place : (start stride : ℕ) (s : List ℕ) (x i next mid : ℕ)
    → later_of s x (start + stride * i) (start + stride * next) (start + stride * mid) ≡ start + stride * later_in (number_in start stride s) x i next mid
later-place start stride s x i next mid = go (ltb x (number_in start stride s mid)) refl
  where
    go : (t : Bool) → ltb x (number_in start stride s mid) ≡ t
        → later_of s x (start + stride * i) (start + stride * next) (start + stride * mid) ≡ start + stride * later_in (number_in start stride s) x i next mid
    go true p = rw p
    go false p = rw p

halved-place : (more start stride : ℕ) (s : List ℕ) (x i left : ℕ) → halved more stride s x (start + stride * i) left ≡ start + stride * halved_in more (number_in start stride s) x i left
halved-place zero start stride s x i left = refl
halved-place (suc more) start stride s x i left =
    rw (place-next start stride i (left / 2), later-place start stride s x i (i + left / 2) (i + left / 2))
    (halved-place more start stride s x (later_in (number_in start stride s) x i (i + left / 2) (i + left / 2)) (left - left / 2))

-- the largest power of two below n is what the first comparison can leave
pub record Sized (n rounds : ℕ) : Type 0 where
  pub below : 2 ^ rounds < n
  pub twice : n ≤ 2 ^ rounds + 2 ^ rounds
  pub some : 0 < 2 ^ rounds
  pub enough : Enough rounds (2 ^ rounds)

pub sized : (n : ℕ) → 1 < n → n ≤ 64 → Sized n (rounds_of n)
unfolding rounds_of
sized n h k = go (ltb 32 n) (ltb 16 n) (ltb 8 n) (ltb 4 n) (ltb 2 n) refl refl refl refl refl
  where
    go : (a b c d e : Bool) → ltb 32 n ≡ a → ltb 16 n ≡ b → ltb 8 n ≡ c → ltb 4 n ≡ d → ltb 2 n ≡ e → Sized n (rounds_of n)
    go true b c d e p q r s t = let u = ltb-true 32 n p in rw p record { below = omega arith; twice = omega arith; some = omega arith; enough = omega arith }
    go false true c d e p q r s t = let u = ltb-true 16 n q in let v = ltb-false 32 n p in rw (p, q) record { below = omega arith; twice = omega arith; some = omega arith; enough = omega arith }
    go false false true d e p q r s t = let u = ltb-true 8 n r in let v = ltb-false 16 n q in rw (p, q, r) record { below = omega arith; twice = omega arith; some = omega arith; enough = omega arith }
    go false false false true e p q r s t = let u = ltb-true 4 n s in let v = ltb-false 8 n r in rw (p, q, r, s) record { below = omega arith; twice = omega arith; some = omega arith; enough = omega arith }
    go false false false false true p q r s t = let u = ltb-true 2 n t in let v = ltb-false 4 n s in rw (p, q, r, s, t) record { below = omega arith; twice = omega arith; some = omega arith; enough = omega arith }
    go false false false false false p q r s t = let v = ltb-false 2 n t in rw (p, q, r, s, t) record { below = omega arith; twice = omega arith; some = omega arith; enough = omega arith }

-- the place that halving comes to is that of one of the n entries, and of the one with the number sought where the numbers rise
pub record Reached (start stride : ℕ) (s : List ℕ) (x n : ℕ) : Type 0 where
  pub index : ℕ
  pub place : reached start stride s x n ≡ start + stride * index
  pub inside : index < n
  pub only : Rising (number_in start stride s) n → (j : ℕ) → j < n → number_in start stride s j ≡ x → index ≡ j

pub at-start : (start stride : ℕ) → start + stride * 0 ≡ start
at-start start stride = omega (arith, mul-zero stride)

reaches-one : (start stride : ℕ) (s : List ℕ) (x n : ℕ) → n ≡ 1 → Reached start stride s x n
unfolding reached
reaches-one start stride s x n z = record {
  index = 0;
  place = rw (le-ltb 1 n (omega arith)) (sym (at-start start stride));
  inside = omega arith;
  only = λ rise j l e. omega arith;
}

-- halving by index, among more than one
pub reached-index : (start stride : ℕ) (s : List ℕ) (x n : ℕ) → 1 < n
    → reached start stride s x n
    ≡ start + stride * halved_in (rounds_of n) (number_in start stride s) x (later_in (number_in start stride s) x 0 (n - 2 ^ rounds_of n) (2 ^ rounds_of n)) (2 ^ rounds_of n)
unfolding reached narrowed
reached-index start stride s x n h =
    let f = number_in start stride s in
    let whole = 2 ^ rounds_of n in
    let at = later_in f x 0 (n - whole) whole in
    let first : later_of s x start (start + stride * (n - whole)) (start + stride * whole) ≡ start + stride * at =
    ap (λ (y : ℕ). later_of s x y (start + stride * (n - whole)) (start + stride * whole)) (sym (at-start start stride)) ∙ later-place start stride s x 0 (n - whole) whole in
    rw (lt-ltb 1 n h, first) (halved-place (rounds_of n) start stride s x at whole)

reaches_more : (start stride : ℕ) (s : List ℕ) (x n : ℕ) → 1 < n → n ≤ 64 → Reached start stride s x n
reaches_more start stride s x n h k =
    let z = sized n h k in
    let f = number_in start stride s in
    let rounds = rounds_of n in
    let whole = 2 ^ rounds in
    let b = z.below in
    let t = z.twice in
    let p = z.some in
    let a = leaves f x 0 n (n - whole) whole whole (omega arith) (omega arith) (omega arith) (omega arith) (omega arith) in
    let all : 0 + n ≡ n = omega arith in
    let at = later_in f x 0 (n - whole) whole in
    let most : at + whole ≤ n = rw all at a.most in
    let c = come rounds f x at whole z.enough z.some in
    record {
      index = halved_in rounds f x at whole;
      place = reached-index start stride s x n h;
      inside = let d = c.most in omega arith;
      only = λ rise j l e. let d = a.holds n rise (omega arith) j (omega arith) (omega arith) e in c.only n rise most j d.0 d.1 e;
    }

pub reaches : (start stride : ℕ) (s : List ℕ) (x n : ℕ) → 0 < n → n ≤ 64 → Reached start stride s x n
reaches start stride s x n h k = go (ltb 1 n) refl
  where
    go : (t : Bool) → ltb 1 n ≡ t → Reached start stride s x n
    go true p = reaches_more start stride s x n (ltb-true 1 n p) k
    go false p = reaches-one start stride s x n (let a = ltb-false 1 n p in omega arith)
