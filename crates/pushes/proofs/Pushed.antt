-- Values pushed one after the other: one step, the number of their bytes, and that they are those of the instruction.
-- Assumes nothing.
use Prim.Native.Nat.{ℕ, zero, suc, ◌+◌, ◌/◌, ◌%◌, ◌^◌, ◌<◌, ◌≤◌}
use native.Mathlib.Omega.{arith}
use native.Mathlib.Nat.{pow-suc}
use mathlib.Core.Path.{◌≡◌, refl}
use mathlib.Core.List.{List, [], ◌∷◌}
use lib.Count.{ones, ones_step, ones-le}
use Rattle.basis.specs.Number.{number_at}
use Rattle.forms.specs.Form.{value_width}
use Rattle.forms.proofs.Widths.{half-four, half-eight}
use Rattle.effects.specs.Memory.{pushed}
use Rattle.pushes.specs.Values.{values_at, values_from, bytes_in}

-- one value, and the others
pub bytes-step : (left n rest : ℕ) → left ≡ suc n → bytes_in left rest ≡ 1 + rest % 2 + bytes_in n (rest / 2)
bytes-step left n rest h = rw h

pub push_step :
    (left n rest place d : ℕ) → left ≡ suc n → (s k : List ℕ) {k₁ e : List ℕ} → k₁ ≡ pushed k d (number_at (1 + rest % 2) s place ∷ [])
    → pushed k d (values_from left rest s place) ≡ e → pushed k₁ (d + 1) (values_from n (rest / 2) s (place + (1 + rest % 2))) ≡ e
push_step left n rest place d h s k p q = rw p (rw h at q)

-- "one, plus the count, plus the number of set flags", but for the one
pub bytes-ones : (count flags : ℕ) → flags < 2 ^ count → bytes_in count flags ≡ count + ones flags
bytes-ones zero flags h = omega (arith, ones-le 0 flags h)
bytes-ones (suc n) flags h =
    let k = rw pow-suc at h in
    omega (arith, ones_step flags, bytes-ones n (flags / 2) (omega arith))

-- at most four values are those of the instruction
pub values-four : (count flags : ℕ) → count ≤ 4 → (s : List ℕ) (at : ℕ) → values_from count flags s at ≡ values_at count flags s at
unfolding value_width
values-four zero flags h s at = refl
values-four (suc zero) flags h s at = refl
values-four (suc (suc zero)) flags h s at = refl
values-four (suc (suc (suc zero))) flags h s at = rw (half-four flags)
values-four (suc (suc (suc (suc zero)))) flags h s at = rw (half-four flags, half-eight flags)
values-four (suc (suc (suc (suc (suc n))))) flags h s at = absurd (omega arith)
