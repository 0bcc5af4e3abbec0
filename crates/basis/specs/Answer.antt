-- What a call answers: what it was asked for, or the number of a refusal as in 01's table.
use Rattle.std.specs.Prelude.{ℕ}

pub data Answer (A : Type 0) : Type 0 where
  given : A → Answer A
  refused : ℕ → Answer A

-- the same answer, with what was given seen through f
abbrev pub seen : {A B : Type 0} → (A → B) → Answer A → Answer B
seen f (given a) = given (f a)
seen f (refused n) = refused n
