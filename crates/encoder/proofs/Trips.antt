-- The round trips of decoder and encoder, at any place of any program, and what follows from them.
-- Assumes nothing.
use Prim.Native.Nat.{ℕ, ◌+◌, ◌≤◌}
use native.Mathlib.Omega.{arith}
use mathlib.Core.Path.{◌≡◌, refl, sym, ap, ◌∙◌}
use mathlib.Core.Bool.{Bool, true, false}
use mathlib.Core.List.{List, [], ◌++◌}
use lib.Dec.{ltb, leb}
use lib.ListN.{length, take, drop, length-drop, length-append}
use lib.Seq.{drop-append_seam, length-take-le}
use borrow.Author.Tests.{le-ltb, lt-leb, leb-false, ltb-false}
use Rattle.basis.specs.Answer.{Answer, given}
use Rattle.basis.specs.Number.{Bytes}
use Rattle.basis.specs.Room.{room_after}
use Rattle.basis.proofs.Tests.{refused-given, given-one}
use Rattle.basis.proofs.Numbers.{bytes_drop}
use Rattle.decoder.specs.Decode.{Reading, head_of, decode_of}
use Rattle.isa.specs.declared.Instruction.{Instruction}
use Rattle.encoder.specs.Encode.{well_formed, encoded_of, encode_of}
use Rattle.encoder.proofs.Wells.{length-encoded}
use Rattle.encoder.proofs.Back.{head-back}
use Rattle.encoder.proofs.Forth.{head-forth}

-- What an instruction that was read is: well-formed, its bytes those of the program, inside the program.
pub record Stands (p : List ℕ) (at n : ℕ) (i : Instruction) : Type 0 where
  pub well : well_formed i ≡ true
  pub bytes : encoded_of i ≡ take n (drop at p)
  pub inside : at + n ≤ length p

pub read-stands : (p : List ℕ) (at n : ℕ) (i : Instruction) → Bytes p → decode_of p at ≡ given (i, n) → Stands p at n i
unfolding decode_of
read-stands p at n i h e = go (ltb 16384 (length p)) (leb (length p) at) refl refl
  where
    go : (t u : Bool) → ltb 16384 (length p) ≡ t → leb (length p) at ≡ u → Stands p at n i
    go true u x y = absurd (refused-given 20 (i, n) (rw x at e))
    go false true x y = absurd (refused-given 1 (i, n) (rw (x, y) at e))
    go false false x y =
        let l = leb-false (length p) at y in
        let d = head-back (drop at p) i n (bytes_drop at p h) (rw (x, y) at e) in
        record { well = d.0; bytes = d.1; inside = omega (arith, length-drop at p, d.2) }

-- Every well-formed instruction that stands in a program is what the decoder reads there.
pub stands_read : (p q : List ℕ) (i : Instruction) → well_formed i ≡ true → length (p ++ (encoded_of i ++ q)) ≤ 16384
    → decode_of (p ++ (encoded_of i ++ q)) (length p) ≡ given (i, length (encoded_of i))
unfolding decode_of
stands_read p q i h l =
    let a = length-append p (encoded_of i ++ q) in
    let b = length-append (encoded_of i) q in
    let c = length-encoded i in
    rw (le-ltb _ _ l, lt-leb (length (p ++ (encoded_of i ++ q))) (length p) (omega arith), drop-append_seam p (encoded_of i ++ q)) (head-forth i q h)

-- what the encoder writes are the bytes of a well-formed instruction
pub record Wrote (i : Instruction) (n : ℕ) (bytes : List ℕ) : Type 0 where
  pub well : well_formed i ≡ true
  pub same : bytes ≡ encoded_of i
  pub fits : length bytes ≤ n

pub wrote : (i : Instruction) (n : ℕ) (bytes : List ℕ) → encode_of i n ≡ given bytes → Wrote i n bytes
unfolding encode_of
wrote i n bytes e = go (well_formed i) (ltb n (length (encoded_of i))) refl refl
  where
    go : (t u : Bool) → well_formed i ≡ t → ltb n (length (encoded_of i)) ≡ u → Wrote i n bytes
    go false u x y = absurd (refused-given 26 bytes (rw x at e))
    go true true x y = absurd (refused-given 25 bytes (rw (x, y) at e))
    go true false x y =
        let q : encoded_of i ≡ bytes = given-one _ _ (rw (x, y) at e) in
        record { well = x; same = sym q; fits = rw (← q) (ltb-false _ _ y) }

-- Decode of what encode wrote, at any place in any program that fits, is the instruction and the bytes written.
pub written_read : (p room bytes : List ℕ) (i : Instruction) → encode_of i (length room) ≡ given bytes
    → length (p ++ room_after (given bytes) room) ≤ 16384 → decode_of (p ++ room_after (given bytes) room) (length p) ≡ given (i, length bytes)
written_read p room bytes i e l =
    let w = wrote i (length room) bytes e in
    let q = w.same in
    rw q (stands_read p (drop (length (encoded_of i)) room) i w.well (rw (← q) l))

-- Encode of what decode read gives the same bytes, in any room that is long enough.
pub read-written : (p : List ℕ) (at n room : ℕ) (i : Instruction) → Bytes p → decode_of p at ≡ given (i, n) → n ≤ room
    → encode_of i room ≡ given (take n (drop at p))
unfolding encode_of
read-written p at n room i h e r =
    let s = read-stands p at n i h e in
    let l : length (encoded_of i) ≤ room = rw s.bytes (omega (arith, length-take-le n (drop at p) (let d = length-drop at p in let k = s.inside in omega arith))) in
    rw (s.well, le-ltb _ _ l, s.bytes)

-- No two well-formed instructions have the same bytes, nor does one begin with the bytes of another.
pub apart : (i j : Instruction) (p q : List ℕ) → well_formed i ≡ true → well_formed j ≡ true → encoded_of i ++ p ≡ encoded_of j ++ q → i ≡ j
apart i j p q h k e =
    let d : ◌≡◌ {A = Answer Reading} (given (i, length (encoded_of i))) (given (j, length (encoded_of j))) = sym (head-forth i p h) ∙ ap head_of e ∙ head-forth j q k in
    ap (λ (x : Reading). x.0) (given-one _ _ d)

pub encoded-one : (i j : Instruction) → well_formed i ≡ true → well_formed j ≡ true → encoded_of i ≡ encoded_of j → i ≡ j
encoded-one i j h k e = apart i j [] [] h k (rw e)
