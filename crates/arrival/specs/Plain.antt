-- Bytes that end nothing and are only stored, for the contracts of inner functions.
use Rattle.std.specs.Prelude.{ℕ, ◌+◌, ◌≤◌, ◌<◌, ◌⊎◌, List}
use Rattle.admission.specs.Admission.{length_at}
use Rattle.admission.specs.declared.Admission.{Admission}

-- so many bytes of the contents, behind their count, that do not make them whole
pub record Waits (k : ℕ) (st : Admission) : Type 0 where
  pub sized : 2 ≤ st.counted
  pub short : st.counted + k < st.want

-- so many bytes of a body that do not make it whole
pub record Grows (k : ℕ) (st : Admission) (c : List ℕ) : Type 0 where
  pub told : st.want ≤ st.counted
  pub some : st.judged < st.programs
  pub short : st.have + k < length_at c st.judged
  pub room : st.have + k ≤ 16384
  pub small : st.counted + k ≤ 24576

abbrev pub Plain : ℕ → Admission → List ℕ → Type 0
Plain k st c = Waits k st ⊎ Grows k st c
