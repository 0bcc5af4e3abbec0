-- Laws of the comparisons as the code makes them.
-- Assumes nothing.
use Prim.Native.Nat.{ℕ, suc, ◌+◌, ◌-◌, ◌*◌, ◌/◌, ◌^◌, ◌≤◌, ◌<◌}
use mathlib.Core.Path.{◌≡◌}
use mathlib.Core.List.{List}
use borrow.Author.Tests.{lt-ltb, le-ltb}
use Rattle.halving.specs.Halving.{later_of, halved, narrowed, rounds_of, reached}

-- one comparison of those that are left, where what all of them come to is known
pub halved-next : (more less stride : ℕ) (s : List ℕ) (sought at left next want : ℕ) → more ≡ suc less → halved more stride s sought at left ≡ want
    → next ≡ later_of s sought at (at + stride * (left / 2)) (at + stride * (left / 2)) → halved less stride s sought next (left - left / 2) ≡ want
halved-next more less stride s sought at left next want z whole e = rw e (rw z at whole)

pub narrowed-by : (rounds whole start stride : ℕ) (s : List ℕ) (sought n at end : ℕ) → at ≡ later_of s sought start (start + stride * (n - whole)) (start + stride * whole)
    → end ≡ halved rounds stride s sought at whole → end ≡ narrowed rounds whole start stride s sought n
unfolding narrowed
narrowed-by rounds whole start stride s sought n at end p q = rw (← p) q

pub reached-by : (rounds whole start stride : ℕ) (s : List ℕ) (sought n end : ℕ) → 1 < n → rounds_of n ≡ rounds → 2 ^ rounds ≡ whole
    → end ≡ narrowed rounds whole start stride s sought n → end ≡ reached start stride s sought n
unfolding reached
reached-by rounds whole start stride s sought n end h p q e = rw (lt-ltb 1 n h, p, q) e

pub reached-one : (start stride : ℕ) (s : List ℕ) (sought n : ℕ) → n ≤ 1 → start ≡ reached start stride s sought n
unfolding reached
reached-one start stride s sought n h = rw (le-ltb 1 n h)
