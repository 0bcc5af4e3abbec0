-- Numbers and memory within which every place is found, for the contracts of inner functions.
use Rattle.std.specs.Prelude.{◌≤◌, ◌<◌, ◌≡◌, ◌⊎◌, length}
use Rattle.admission.specs.Admission.{Mach}
use Rattle.admission.specs.declared.Admission.{Admission}

-- what is not damaged, as propositions
pub record Sound (st : Admission) : Type 0 where
  pub counted : st.counted ≤ 24577
  pub least : 2 ≤ st.want
  pub want : st.want ≤ 514
  pub programs : st.programs ≤ 64
  pub judged : st.judged ≤ st.programs
  pub have : st.have ≤ 16384
  pub closed : st.closed ≤ 1
  pub early : st.counted < st.want → st.programs ≡ 0
  pub told : (st.refusal ≡ 0) ⊎ ((st.programs ≡ 0) × (30 ≤ st.refusal) × (st.refusal ≤ 35))

-- with enough memory
pub record Fit (m : Mach) : Type 0 where
  pub sound : Sound m.st
  pub contents : 514 ≤ length m.contents
  pub body : 16384 ≤ length m.body
  pub map : 16384 ≤ length m.map
  pub verdicts : 192 ≤ length m.verdicts
