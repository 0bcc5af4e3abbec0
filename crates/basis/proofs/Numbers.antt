-- Laws of numbers and their bytes: each is read back from the other.
-- Assumes nothing.
use Prim.Native.Nat.{ℕ, zero, suc, ◌+◌, ◌*◌, ◌/◌, ◌%◌, ◌^◌, ◌≤◌, ◌<◌}
use native.Mathlib.Omega.{arith}
use native.Mathlib.Nat.{pow-suc}
use native.Mathlib.Numerals.{add-one}
use mathlib.Core.Path.{◌≡◌, refl, ap}
use mathlib.Core.List.{List, [], ◌∷◌, ◌++◌}
use lib.ListN.{length, get_or, take, drop, length-append}
use lib.Seq.{append_snoc, get_or-append_seam, drop-cons, get_or-drop}
use Rattle.basis.specs.Number.{number_at, bytes_of, Bytes}

pub length-bytes : (w v : ℕ) → length (bytes_of w v) ≡ w
length-bytes zero v = refl
length-bytes (suc w) v = ap suc (length-bytes w (v / 256))

-- a number read from w bytes is below 256 to the w
pub number_lt : (w : ℕ) (s : List ℕ) (at : ℕ) → Bytes s → number_at w s at < 256 ^ w
number_lt zero s at h = omega arith
number_lt (suc w) s at h = rw pow-suc (omega (arith, number_lt w s (at + 1) h, h at))

-- the bytes of a number read are the bytes that it was read from
pub bytes_back : (w : ℕ) (s : List ℕ) (at : ℕ) → Bytes s → at + w ≤ length s → bytes_of w (number_at w s at) ≡ take w (drop at s)
bytes_back zero s at h l = refl
bytes_back (suc w) s at h l =
    let x = get_or s at 0 in
    let n = number_at w s (at + 1) in
    let b = h at in
    let e : (x + 256 * n) % 256 ≡ x = omega arith in
    let q : (x + 256 * n) / 256 ≡ n = omega arith in
    let k : at < length s = omega arith in
    rw (e, q, bytes_back w s (at + 1) h (omega arith), drop-cons s at 0 k, add-one)

-- a number whose bytes stand somewhere is read there
pub read_back : (w v : ℕ) (p q : List ℕ) → v < 256 ^ w → number_at w (p ++ (bytes_of w v ++ q)) (length p) ≡ v
read_back zero v p q h = omega arith
read_back (suc w) v p q h =
    let x = v % 256 in
    let k = rw pow-suc at h in
    let ih = read_back w (v / 256) (p ++ (x ∷ [])) q (omega arith) in
    let e = rw (append_snoc, length-append) at ih in
    rw (get_or-append_seam, e) (omega arith)

-- the same, the place and the whole list being known by equations
pub read_at : (w v : ℕ) (p q s : List ℕ) (at : ℕ) → s ≡ p ++ (bytes_of w v ++ q) → length p ≡ at → v < 256 ^ w → number_at w s at ≡ v
read_at w v p q s at e l h = rw (e, ← l) (read_back w v p q h)

-- what is left of bytes is bytes
pub bytes_drop : (at : ℕ) (s : List ℕ) → Bytes s → Bytes (drop at s)
bytes_drop at s h k = rw get_or-drop (h (at + k))
