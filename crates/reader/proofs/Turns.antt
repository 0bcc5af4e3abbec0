-- A turn of the code stands for one of 01.
-- Assumes nothing.
use Prim.Native.Nat.{ℕ}
use mathlib.Core.Path.{◌≡◌, ap}
use Rattle.std.specs.Prelude.{Result}
use Rattle.basis.specs.Answer.{Answer}
use Rattle.basis.specs.declared.refusal.Refusal.{Refusal}
use Rattle.basis.proofs.Refusals.{answer-one}
use Rattle.decoder.specs.Decode.{Reading}
use Rattle.reader.specs.Turn.{turn_answer}

-- each turn of the code stands for one answer and one address
pub turn_one : (c d : Result Reading Refusal) (m n : ℕ) → turn_answer c m ≡ turn_answer d n → (c ≡ d) × (m ≡ n)
turn_one c d m n e = (answer-one c d (ap (λ (x : Answer Reading × ℕ). x.0) e), ap (λ (x : Answer Reading × ℕ). x.1) e)
