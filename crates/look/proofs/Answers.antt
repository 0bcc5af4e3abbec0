-- The code's answers are told apart by the outcomes that they stand for.
-- Assumes nothing.
use Prim.Native.Nat.{ℕ}
use mathlib.Core.Path.{◌≡◌, refl, ap}
use mathlib.Core.List.{List, []}
use Rattle.std.specs.Prelude.{Result, Ok, Err}
use Rattle.basis.specs.declared.refusal.Refusal.{Refusal}
use Rattle.basis.proofs.Refusals.{number-one}
use Rattle.paths.specs.Paths.{Hop, Outcome, bad, leads}
use Rattle.look.specs.Look.{hops_in, outcome_in}
use Rattle.look.specs.declared.Look.{Look}
use Rattle.look.specs.declared.Look.TheVariants.{Nowhere, One, Two}

hops-one : (a b : Look) → hops_in a ≡ hops_in b → a ≡ b
hops-one Nowhere Nowhere e = refl
hops-one Nowhere (One b d) e = cc
hops-one Nowhere (Two b x d) e = cc
hops-one (One b d) Nowhere e = cc
hops-one (One b d) (One c f) e = cc
hops-one (One b d) (Two c y f) e = cc
hops-one (Two b x d) Nowhere e = cc
hops-one (Two b x d) (One c f) e = cc
hops-one (Two b x d) (Two c y f) e = cc

-- what an outcome leads to, or the number by which it is refused, each read out of it
abbrev hops_or : Outcome → List Hop
hops_or (bad k) = []
hops_or (leads hs) = hs

abbrev number_or : Outcome → ℕ
number_or (bad k) = k
number_or (leads hs) = 0

pub look_one : (a b : Result Look Refusal) → outcome_in a ≡ outcome_in b → a ≡ b
look_one (Ok a) (Ok b) e = ap (λ (l : Look). Ok l) (hops-one a b (ap hops_or e))
look_one (Ok a) (Err w) e = cc
look_one (Err v) (Ok b) e = cc
look_one (Err v) (Err w) e = ap (λ (r : Refusal). Err r) (number-one v w (ap number_or e))
