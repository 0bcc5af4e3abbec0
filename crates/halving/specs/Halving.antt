-- "Find the entry by halving": of up to 64 entries that stand one after the other, each with a number of two bytes at its beginning, the one
-- that can begin with the number sought, if these numbers rise.
use Rattle.std.specs.Prelude.{ℕ, zero, suc, ◌+◌, ◌-◌, ◌*◌, ◌/◌, ◌^◌, List, ltb}
use Rattle.basis.specs.Pick.{pick}
use Rattle.basis.specs.Number.{number_at}

-- one comparison: go on from the second of two places, unless the number at `mid` is above the one sought; then from the first
abbrev pub later_of : List ℕ → ℕ → ℕ → ℕ → ℕ → ℕ
later_of s sought at next mid = pick (ltb sought (number_at 2 s mid)) at next

-- so many comparisons, each with the entry in the middle of those left, a stride from one to the next: what is left is then what stands
-- before it, or it and what stands behind it (where they are odd in number, one entry more than stands before it)
abbrev pub halved : ℕ → ℕ → List ℕ → ℕ → ℕ → ℕ → ℕ
halved zero stride s sought at left = at
halved (suc more) stride s sought at left =
    halved more stride s sought (later_of s sought at (at + stride * (left / 2)) (at + stride * (left / 2))) (left - left / 2)

-- one comparison that makes n entries `whole`, the first of them or the last, and then so many more
unfoldable pub narrowed : ℕ → ℕ → ℕ → ℕ → List ℕ → ℕ → ℕ → ℕ
narrowed rounds whole start stride s sought n =
    halved rounds stride s sought (later_of s sought start (start + stride * (n - whole)) (start + stride * whole)) whole

-- the largest power of two below n, for n from 2 to 64, as its exponent: how many comparisons come after the first. At most five, which makes seven
-- with the first one and with the test of what was come to.
unfoldable pub rounds_of : ℕ → ℕ
rounds_of n = pick (ltb 32 n) 5 (pick (ltb 16 n) 4 (pick (ltb 8 n) 3 (pick (ltb 4 n) 2 (pick (ltb 2 n) 1 0))))

-- the place that halving comes to among n entries, of which the first stands at `start`
unfoldable pub reached : ℕ → ℕ → List ℕ → ℕ → ℕ → ℕ
reached start stride s sought n = pick (ltb 1 n) (narrowed (rounds_of n) (2 ^ rounds_of n) start stride s sought n) start
