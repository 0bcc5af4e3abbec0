-- Laws of a set in words, and of the tops over them.
-- Assumes nothing.
use Prim.Native.Nat.{ℕ, zero, suc, ◌+◌, ◌*◌, ◌/◌, ◌%◌, ◌^◌, ◌<◌}
use native.Mathlib.Omega.{arith}
use mathlib.Core.Path.{◌≡◌, refl, sym, ap, ap₂, ◌∙◌}
use mathlib.Core.Logic.{⊎_elim, ◌≢◌}
use mathlib.Core.List.{List}
use lib.ListN.{get_or, replicate, length-replicate}
use lib.Count.{count_trailing_zeros}
use lib.Bits.{bit_xor}
use Rattle.basis.proofs.Tests.{same?}
use Rattle.pending.specs.Sets.{held, Joined, Gone, First, Topped}
use Rattle.std.proofs.lemmas.Grind.{one_shifted}
use Rattle.std.specs.Int.{bit_at, w64}
use Rattle.std.proofs.lemmas.Nat.Bits.{bit_at-zero, bit_at-lt, bit_at_xor, bit_at-pow_same, bit_at-pow_other, bit_at-trailing_zeros}

-- a shifted 1 fits
shifted : (t : ℕ) → t < 64 → 1 * 2 ^ t % 18446744073709551616 ≡ 2 ^ t
shifted t h = (one_shifted t 18446744073709551615 refl h).0

-- a set digit taken away, and the others
pub without-same : (w t : ℕ) → t < 64 → bit_at w t ≡ 1 → bit_at (bit_xor w (1 * 2 ^ t % 18446744073709551616)) t ≡ 0
without-same w t h e = rw (shifted t h, bit_at_xor w (2 ^ t) t, e, bit_at-pow_same t) refl

pub without-other : (w t : ℕ) → t < 64 → (i : ℕ) → i ≢ t → bit_at (bit_xor w (1 * 2 ^ t % 18446744073709551616)) i ≡ bit_at w i
without-other w t h i n = rw (shifted t h, bit_at_xor w (2 ^ t) i, bit_at-pow_other t i n) (omega (arith, bit_at-lt w i))

-- a word that is 0 holds nothing, and one that holds something is not 0
zero_held : (words : List ℕ) (b : ℕ) → get_or words (b / 64) 0 ≡ 0 → held words b ≡ 0
zero_held words b e = ap (λ (w : ℕ). bit_at w (b % 64)) e ∙ bit_at-zero (b % 64)

held-filled : (words : List ℕ) (b : ℕ) → held words b ≡ 1 → get_or words (b / 64) 0 ≢ 0
held-filled words b h e = let z = zero_held words b e in omega arith

-- the lowest of a set is the lowest digit of its first word that is not 0
pub first-is :
    (words : List ℕ) (j : ℕ) → get_or words j 0 < 18446744073709551616 → get_or words j 0 ≢ 0 → ((i : ℕ) → i < j → get_or words i 0 ≡ 0)
    → ((j * 64 + count_trailing_zeros 64 (get_or words j 0)) / 64 ≡ j) × First words (j * 64 + count_trailing_zeros 64 (get_or words j 0))
first-is words j w n z =
    let t = count_trailing_zeros 64 (get_or words j 0) in
    let s = bit_at-trailing_zeros w64 (get_or words j 0) (omega arith) w in
    let l = s.0 in
    let q : (j * 64 + t) / 64 ≡ j = omega arith in
    let r : (j * 64 + t) % 64 ≡ t = omega arith in (
      q,
      record {
        some = ap₂ (λ (x y : ℕ). bit_at (get_or words x 0) y) q r ∙ s.1;
        none = λ b h.
            ⊎_elim
            (λ e. ap (λ (x : ℕ). bit_at (get_or words x 0) (b % 64)) e ∙ s.2 (b % 64) (omega arith))
            (λ e. zero_held words b (z (b / 64) (omega arith)))
            (same? (b / 64) j);
      },
    )

-- a set without a filled word is empty
pub none-held : (words : List ℕ) → ((j : ℕ) → get_or words j 0 ≡ 0) → (b : ℕ) → held words b ≡ 0
none-held words z b = zero_held words b (z (b / 64))

zeros : (n j : ℕ) → ◌≡◌ {A = ℕ} (get_or (replicate n 0) j 0) 0
zeros zero j = refl
zeros (suc n) zero = refl
zeros (suc n) (suc j) = zeros n j

pub empty-held : (n b : ℕ) → held (replicate n 0) b ≡ 0
empty-held n = none-held (replicate n 0) (zeros n)

pub empty-topped : Topped (replicate 256 0) (replicate 4 0)
empty-topped =
    record {
      wide = length-replicate {A = ℕ} 256 0;
      high = length-replicate {A = ℕ} 4 0;
      empty = λ j z. zeros 256 j;
      full = λ j o. let z = empty-held 4 j in absurd (omega arith);
    }

module _ {words tops : List ℕ} (t : Topped words tops) where
  -- where the tops hold nothing, neither do the words
  pub topped-none : ((j : ℕ) → held tops j ≡ 0) → (b : ℕ) → held words b ≡ 0
  topped-none z b = zero_held words b (t.empty (b / 64) (z (b / 64)))

  -- what the words hold, the tops hold
  pub topped-held : (a : ℕ) → held words a ≡ 1 → held tops (a / 64) ≡ 1
  topped-held a h =
      ⊎_elim (λ e. absurd (held-filled words a h (t.empty (a / 64) e))) (λ n. omega (arith, bit_at-lt (get_or tops (a / 64 / 64) 0) (a / 64 % 64))) (same? (held tops (a / 64)) 0)

  -- an address comes in
  pub topped-put : (a : ℕ) {after above : List ℕ} → Joined words a after → Joined tops (a / 64) above → Topped after above
  topped-put a {after} {above} p q =
      record {
        wide = p.len ∙ t.wide;
        high = q.len ∙ t.high;
        empty = λ j h.
            ⊎_elim
            (λ e. let n : held above j ≡ 1 = ap (held above) e ∙ q.new in absurd (omega arith))
            (λ n. p.words j n ∙ t.empty j (sym (q.others j n) ∙ h))
            (same? j (a / 64));
        full = λ j h.
            ⊎_elim
            (λ e z. held-filled after a p.new (ap (λ (x : ℕ). get_or after x 0) (sym e) ∙ z))
            (λ n z. t.full j (sym (q.others j n) ∙ h) (sym (p.words j n) ∙ z))
            (same? j (a / 64));
      }

  -- an address goes out, and its word j is not 0 yet
  pub topped-kept : (a j : ℕ) {after : List ℕ} → a / 64 ≡ j → held words a ≡ 1 → Gone words a after → get_or after j 0 ≢ 0 → Topped after tops
  topped-kept a j {after} w o p f =
      record {
        wide = p.len ∙ t.wide;
        high = t.high;
        empty = λ k h.
            ⊎_elim
            (λ e. absurd (held-filled words a o (ap (λ (x : ℕ). get_or words x 0) (w ∙ sym e) ∙ t.empty k h)))
            (λ n. p.words k (λ q. n (q ∙ w)) ∙ t.empty k h)
            (same? k j);
        full = λ k h.
            ⊎_elim
            (λ e z. f (ap (λ (x : ℕ). get_or after x 0) (sym e) ∙ z))
            (λ n z. t.full k h (sym (p.words k (λ q. n (q ∙ w))) ∙ z))
            (same? k j);
      }
