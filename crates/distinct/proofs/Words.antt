-- Laws of words and digits: where a word ends, and that the digits of a number tell it.
-- Assumes nothing.
use Prim.Native.Nat.{ℕ, zero, suc, ◌+◌, ◌*◌, ◌/◌, ◌%◌, ◌^◌, ◌≤◌, ◌<◌}
use native.Mathlib.Omega.{arith}
use native.Mathlib.Numerals.{unary_clauses}
use mathlib.Core.Path.{◌≡◌, refl, sym, ◌∙◌}
use mathlib.Core.Bool.{Bool, true, false}
use mathlib.Core.List.{List, [], ◌∷◌, ◌++◌}
use lib.ListN.{length, get_or}
use lib.Dec.{ltb}
use borrow.Author.Tests.{lt-ltb, ltb-true, ltb-false}
use Rattle.basis.specs.Pick.{pick, both}
use Rattle.basis.proofs.Tests.{both_left, both_right}
use Rattle.text.specs.Text.{digit_of, hex_of}
use Rattle.text.proofs.Puts.{length-hex}

-- a word: bytes above a blank
abbrev pub word : List ℕ → Bool
word [] = true
word (x ∷ xs) = both (ltb 32 x) (word xs)

-- where two lists are equal and each begins with a word that a byte of at most 32 ends, the words are equal
word_end : (xs xs' ys ys' : List ℕ) (b b' : ℕ) → word xs ≡ true → word xs' ≡ true → b ≤ 32 → b' ≤ 32
    → xs ++ (b ∷ ys) ≡ xs' ++ (b' ∷ ys') → (xs ≡ xs') × (b ∷ ys ≡ b' ∷ ys')
word_end [] [] ys ys' b b' w w' h h' e = (refl, e)
word_end [] (x ∷ xs) ys ys' b b' w w' h h' e = absurd (let z : b ≡ x = cc in omega (arith, ltb-true 32 x (both_left (ltb 32 x) (word xs) w')))
word_end (x ∷ xs) [] ys ys' b b' w w' h h' e = absurd (let z : x ≡ b' = cc in omega (arith, ltb-true 32 x (both_left (ltb 32 x) (word xs) w)))
word_end (x ∷ xs) (x' ∷ xs') ys ys' b b' w w' h h' e =
    let z : x ≡ x' = cc in
    let t : xs ++ (b ∷ ys) ≡ xs' ++ (b' ∷ ys') = cc in
    let r = word_end xs xs' ys ys' b b' (both_right (ltb 32 x) (word xs) w) (both_right (ltb 32 x') (word xs') w') h h' t in
    (let s = r.0 in cc, r.1)

-- the first of what follows a word; where nothing does, a byte that ends none
abbrev pub first : List ℕ → ℕ
first l = get_or l 0 33

pub word-stop : (xs xs' l l' : List ℕ) → word xs ≡ true → word xs' ≡ true → first l ≤ 32 → first l' ≤ 32 → xs ++ l ≡ xs' ++ l' → (xs ≡ xs') × (l ≡ l')
word-stop xs xs' [] l' w w' h h' e = absurd (omega arith)
word-stop xs xs' (b ∷ ys) [] w w' h h' e = absurd (omega arith)
word-stop xs xs' (b ∷ ys) (b' ∷ ys') w w' h h' e = word_end xs xs' ys ys' b b' w w' h h' e

-- fronts of one length
pub front : (xs ys l l' : List ℕ) → length xs ≡ length ys → xs ++ l ≡ ys ++ l' → (xs ≡ ys) × (l ≡ l')
front [] [] l l' h e = (refl, e)
front [] (y ∷ ys) l l' h e = absurd (omega arith)
front (x ∷ xs) [] l l' h e = absurd (omega arith)
front (x ∷ xs) (y ∷ ys) l l' h e =
    let z : x ≡ y = cc in
    let t : xs ++ l ≡ ys ++ l' = cc in
    let r = front xs ys l l' (omega arith) t in
    let s = r.0 in
    ((cc), r.1)

-- a digit tells its number, and the digits of some bytes tell theirs
digit-same : (m n : ℕ) → digit_of m ≡ digit_of n → m < 16 → n < 16 → m ≡ n
unfolding digit_of
digit-same m n e h g = go (ltb m 10) (ltb n 10) refl refl e
  where
    go : (t u : Bool) → ltb m 10 ≡ t → ltb n 10 ≡ u → pick t (0x30 + m) (0x37 + m) ≡ pick u (0x30 + n) (0x37 + n) → m ≡ n
    go true true p q r = omega arith
    go true false p q r = omega (arith, ltb-true m 10 p, ltb-false n 10 q)
    go false true p q r = omega (arith, ltb-false m 10 p, ltb-true n 10 q)
    go false false p q r = omega arith

below : (m k : ℕ) → m < 256 * k → m / 256 < k
below m k h = omega arith

parts : (m : ℕ) → m ≡ 256 * (m / 256) + 16 * (m / 16 % 16) + m % 16
parts m = omega arith

sums : (m n a b c a' b' c' : ℕ) → m ≡ 256 * a + 16 * b + c → n ≡ 256 * a' + 16 * b' + c' → a ≡ a' → b ≡ b' → c ≡ c' → m ≡ n
sums m n a b c a' b' c' p q x y z = omega arith

whole : (m n : ℕ) → m / 256 ≡ n / 256 → m / 16 % 16 ≡ n / 16 % 16 → m % 16 ≡ n % 16 → m ≡ n
whole m n x y z = sums m n (m / 256) (m / 16 % 16) (m % 16) (n / 256) (n / 16 % 16) (n % 16) (parts m) (parts n) x y z

pub hex-same : (w m n : ℕ) → hex_of w m ≡ hex_of w n → m < 256 ^ w → n < 256 ^ w → m ≡ n
hex-same zero m n e h g = omega arith
hex-same (suc w) m n e h g =
    let l : length (hex_of w (m / 256)) ≡ length (hex_of w (n / 256)) = length-hex w (m / 256) ∙ sym (length-hex w (n / 256)) in
    let r = front (hex_of w (m / 256)) (hex_of w (n / 256)) (digit_of (m / 16 % 16) ∷ digit_of (m % 16) ∷ []) (digit_of (n / 16 % 16) ∷ digit_of (n % 16) ∷ []) l e in
    let d = r.1 in
    let c : digit_of (m / 16 % 16) ≡ digit_of (n / 16 % 16) = cc in
    let f : digit_of (m % 16) ≡ digit_of (n % 16) = cc in
    let q = hex-same w (m / 256) (n / 256) r.0 (below m (256 ^ w) (omega (arith, simp unary_clauses at h))) (below n (256 ^ w) (omega (arith, simp unary_clauses at g))) in
    let a = digit-same (m / 16 % 16) (n / 16 % 16) c (omega arith) (omega arith) in
    let b = digit-same (m % 16) (n % 16) f (omega arith) (omega arith) in
    whole m n q a b

-- digits are words
word-append : (xs ys : List ℕ) → word xs ≡ true → word ys ≡ true → word (xs ++ ys) ≡ true
word-append [] ys h g = g
word-append (x ∷ xs) ys h g = rw (both_left (ltb 32 x) (word xs) h) (word-append xs ys (both_right (ltb 32 x) (word xs) h) g)

word-digit : (n : ℕ) → ltb 32 (digit_of n) ≡ true
unfolding digit_of
word-digit n = go (ltb n 10)
  where
    go : (t : Bool) → ltb 32 (pick t (0x30 + n) (0x37 + n)) ≡ true
    go true = lt-ltb 32 (0x30 + n) (omega arith)
    go false = lt-ltb 32 (0x37 + n) (omega arith)

pub word-hex : (w v : ℕ) → word (hex_of w v) ≡ true
word-hex zero v = refl
word-hex (suc w) v = word-append (hex_of w (v / 256)) (digit_of (v / 16 % 16) ∷ digit_of (v % 16) ∷ []) (word-hex w (v / 256)) (rw (word-digit (v / 16 % 16), word-digit (v % 16)))
