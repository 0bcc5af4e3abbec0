-- Halving is a way of comparing, the same for all bytes and all numbers sought: at most m comparisons among up to 2 ^ m entries.
-- Assumes nothing.
use Prim.Native.Nat.{ℕ, zero, suc, ◌+◌, ◌-◌, ◌*◌, ◌/◌, ◌^◌, ◌≤◌, ◌<◌}
use native.Mathlib.Omega.{arith}
use mathlib.Core.Path.{◌≡◌, refl, sym, ap, ◌∙◌}
use mathlib.Core.Bool.{Bool, true, false}
use mathlib.Core.List.{List}
use lib.Dec.{ltb}
use lib.Pow.{pow_mono}
use borrow.Author.Tests.{ltb-true, ltb-false, le-ltb}
use Rattle.halving.specs.Halving.{rounds_of, reached}
use Rattle.halving.specs.Ways.{Way, comes, compares, followed, Within}
use Rattle.halving.proofs.Finds.{halved_in, later_in, number_in, sized, at-start, reached-index}

-- the comparisons of halving among those left from an index on
abbrev halved_way : ℕ → ℕ → ℕ → Way
halved_way zero i left = comes i
halved_way (suc more) i left = compares (i + left / 2) (halved_way more i (left - left / 2)) (halved_way more (i + left / 2) (left - left / 2))

halved-followed : (more start stride : ℕ) (s : List ℕ) (x i left : ℕ) → followed (halved_way more i left) start stride s x ≡ halved_in more (number_in start stride s) x i left
halved-followed zero start stride s x i left = refl
halved-followed (suc more) start stride s x i left =
    go (halved-followed more start stride s x i (left - left / 2)) (halved-followed more start stride s x (i + left / 2) (left - left / 2)) (ltb x (number_in start stride s (i + left / 2))) refl
  where
    Goes : ℕ → Type 0
    Goes j = followed (halved_way more j (left - left / 2)) start stride s x ≡ halved_in more (number_in start stride s) x j (left - left / 2)

    go : Goes i → Goes (i + left / 2) → (t : Bool) → ltb x (number_in start stride s (i + left / 2)) ≡ t
        → followed (halved_way (suc more) i left) start stride s x ≡ halved_in (suc more) (number_in start stride s) x i left
    go above other true p = rw p above
    go above other false p = rw p other

halved-within : (n more i left : ℕ) → 0 < left → i + left ≤ n → Within n more (halved_way more i left)
halved-within n zero i left h k = omega arith
halved-within n (suc more) i left h k = (omega arith, halved-within n more i (left - left / 2) (omega arith) (omega arith), halved-within n more (i + left / 2) (left - left / 2) (omega arith) (omega arith))

-- fewer comparisons are within more
within_more : (n less more : ℕ) (way : Way) → less ≤ more → Within n less way → Within n more way
within_more n less more (comes i) h w = w
within_more n zero more (compares i above other) h w = absurd w
within_more n (suc less) zero (compares i above other) h w = absurd (omega arith)
within_more n (suc less) (suc more) (compares i above other) h w = (w.0, within_more n less more above (omega arith) w.1, within_more n less more other (omega arith) w.2)

-- halving among n entries as a way
pub record Reaching (n many : ℕ) : Type 0 where
  pub way : Way
  pub within : Within n many way
  pub comes-to : (start stride : ℕ) (s : List ℕ) (x : ℕ) → reached start stride s x n ≡ start + stride * followed way start stride s x

reaching-more : (n : ℕ) → 1 < n → n ≤ 64 → Reaching n (suc (rounds_of n))
reaching-more n h k =
    let z = sized n h k in
    let rounds = rounds_of n in
    let whole = 2 ^ rounds in
    let b = z.below in
    let p = z.some in
    record {
      way = compares whole (halved_way rounds 0 whole) (halved_way rounds (n - whole) whole);
      within = (b, halved-within n rounds 0 whole p (omega arith), halved-within n rounds (n - whole) whole p (omega arith));
      comes-to = λ start stride s x. reached-index start stride s x n h ∙ ap (λ (i : ℕ). start + stride * i) (sym (chosen start stride s x (ltb x (number_in start stride s whole)) refl));
    }
  where
    chosen : (start stride : ℕ) (s : List ℕ) (x : ℕ) (t : Bool) → ltb x (number_in start stride s (2 ^ rounds_of n)) ≡ t
        → followed (compares (2 ^ rounds_of n) (halved_way (rounds_of n) 0 (2 ^ rounds_of n)) (halved_way (rounds_of n) (n - 2 ^ rounds_of n) (2 ^ rounds_of n))) start stride s x
        ≡ halved_in (rounds_of n) (number_in start stride s) x (later_in (number_in start stride s) x 0 (n - 2 ^ rounds_of n) (2 ^ rounds_of n)) (2 ^ rounds_of n)
    chosen start stride s x true p = rw p (halved-followed (rounds_of n) start stride s x 0 (2 ^ rounds_of n))
    chosen start stride s x false p = rw p (halved-followed (rounds_of n) start stride s x (n - 2 ^ rounds_of n) (2 ^ rounds_of n))

reaching-one : (n : ℕ) → n ≡ 1 → Reaching n 0
unfolding reached
reaching-one n z = record {
  way = comes 0;
  within = omega arith;
  comes-to = λ start stride s x. rw (le-ltb 1 n (omega arith)) (sym (at-start start stride));
}

-- the power below n is below 2 ^ m, so its exponent is below m
rounds-below : (n m : ℕ) → 2 ^ rounds_of n < n → n ≤ 2 ^ m → suc (rounds_of n) ≤ m
rounds-below n m h k = go (ltb (rounds_of n) m) refl
  where
    go : (t : Bool) → ltb (rounds_of n) m ≡ t → suc (rounds_of n) ≤ m
    go true p = ltb-true (rounds_of n) m p
    go false p = absurd (let z = pow_mono (ltb-false (rounds_of n) m p) in omega arith)

pub reaching : (n m : ℕ) → 0 < n → n ≤ 64 → n ≤ 2 ^ m → Reaching n m
reaching n m h k l = go (ltb 1 n) refl
  where
    more : (less : ℕ) → less ≤ m → Reaching n less → Reaching n m
    more less e r = record { way = r.way; within = within_more n less m r.way e r.within; comes-to = r.comes-to }

    go : (t : Bool) → ltb 1 n ≡ t → Reaching n m
    go true p = let b = ltb-true 1 n p in more (suc (rounds_of n)) (rounds-below n m (sized n b k).below l) (reaching-more n b k)
    go false p = let b = ltb-false 1 n p in more 0 (omega arith) (reaching-one n (omega arith))
