-- Bytes that are only counted, for the contracts of inner functions.
use Rattle.std.specs.Prelude.{ℕ, Bool, false, ltb, leb}
use Rattle.basis.specs.Pick.{pick}
use Rattle.admission.specs.declared.Admission.{Admission}

-- counted up to one more than a pack has
abbrev pub capped_at : ℕ → ℕ
capped_at n = pick (ltb 24576 n) 24577 n

-- the contents are whole, and no program waits for its body
unfoldable pub idle_of : Admission → Bool
idle_of st = pick (ltb st.counted st.want) false (leb st.programs st.judged)
