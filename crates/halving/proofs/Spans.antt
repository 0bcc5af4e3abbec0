-- Laws of the bytes that entries take, a stride each, and of one comparison within them.
-- Assumes nothing.
use Prim.Native.Nat.{ℕ, suc, ◌+◌, ◌*◌, ◌≤◌, ◌<◌}
use native.Mathlib.Omega.{arith}
use native.Mathlib.Nat.{mul-suc, mul-add, mul-le-mul_left}
use mathlib.Core.Path.{◌≡◌, sym, ap, ◌∙◌}
use mathlib.Core.List.{List}
use lib.Dec.{ltb}
use Rattle.basis.specs.Number.{number_at}
use Rattle.basis.proofs.Tests.{pick-cases}
use Rattle.halving.specs.Halving.{later_of}

-- an entry among some, which have two bytes at least
pub span-in : (stride i n : ℕ) → i < n → stride * i + stride ≤ stride * n
span-in stride i n h =
    let a : stride * suc i ≤ stride * n = mul-le-mul_left stride h in
    let b = mul-suc stride i in
    omega arith

-- what a comparison leaves stands within what there was: `left` entries of n, from the first or behind `first` of them
pub left-next : (stride at n first left size : ℕ) (s : List ℕ) (sought mid next : ℕ) → first + left ≡ n → left ≤ n → at + stride * n ≤ size
    → next ≡ later_of s sought at (at + stride * first) mid → next + stride * left ≤ size
left-next stride at n first left size s sought mid next z q fit e =
    rw e
    (pick-cases (λ (x : ℕ). x + stride * left ≤ size) (ltb sought (number_at 2 s mid)) at (at + stride * first)
    (λ _. let a : stride * left ≤ stride * n = mul-le-mul_left stride q in omega arith)
    (λ _. let b : stride * first + stride * left ≡ stride * n = sym (mul-add stride first left) ∙ ap (λ (k : ℕ). stride * k) z in omega arith))
