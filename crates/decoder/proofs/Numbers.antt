-- The numbers by which the decoder refuses.
-- Assumes nothing.
use Prim.Native.Nat.{ℕ, ◌≤◌}
use native.Mathlib.Omega.{arith}
use mathlib.Core.Path.{◌≡◌, subst}
use mathlib.Core.List.{List}
use lib.ListN.{length, get_or, drop}
use lib.Dec.{leb, ltb, eqb}
use borrow.Author.Tests.{le-ltb}
use Rattle.basis.specs.Answer.{refused}
use Rattle.forms.specs.Form.{form_of, code_of, length_of, limit_in}
use Rattle.isa.proofs.Numbers.{Between, between-or}
use Rattle.decoder.specs.Decode.{number_in, head_of, decode_of}

head-between : (s : List ℕ) → Between 1 3 (head_of s)
unfolding head_of
head-between s =
    let b = get_or s 0 0 in
    let f = form_of (code_of b) in
    between-or 1 3 (eqb (length_of b) 0) _ _ (omega arith, omega arith)
    (between-or 1 3 (ltb (length s) (length_of b)) _ _ (omega arith, omega arith)
    (between-or 1 3 (ltb (number_in f s) (limit_in f)) _ _ tt (omega arith, omega arith)))

-- in a program of an allowed size
pub decode-number : (program : List ℕ) (at k : ℕ) → length program ≤ 16384 → decode_of program at ≡ refused k → (1 ≤ k) × (k ≤ 3)
unfolding decode_of
decode-number program at k s e =
    subst (Between 1 3) (rw (le-ltb 16384 (length program) s) at e)
    (between-or 1 3 (leb (length program) at) _ _ (omega arith, omega arith) (head-between (drop at program)))
