-- Writers that answer in any room by a refusal that no room changes, or by what fits.
-- Assumes nothing.
use Prim.Native.Nat.{ℕ, ◌≤◌, ◌<◌}
use native.Mathlib.Omega.{arith}
use mathlib.Core.Path.{◌≡◌, refl, sym, ◌∙◌, subst}
use mathlib.Core.Logic.{◌≢◌}
use mathlib.Core.Bool.{Bool, true, false}
use mathlib.Core.List.{List}
use lib.Dec.{ltb}
use lib.ListN.{length}
use borrow.Author.Tests.{lt-ltb, le-ltb, ltb-false}
use Rattle.basis.specs.Pick.{pick}
use Rattle.basis.specs.Answer.{Answer, given, refused}
use Rattle.basis.specs.Room.{fitted}
use Rattle.basis.proofs.Tests.{refused-given, refused-one, given-one}
use Rattle.sizes.specs.Sizes.{Enough}

pub data Writes (most : ℕ) (write : ℕ → Answer (List ℕ)) : Type 0 where
  early : (k : ℕ) → k ≢ 25 → ((room : ℕ) → write room ≡ refused k) → Writes most write
  late : (bytes : List ℕ) → length bytes ≤ most → ((room : ℕ) → write room ≡ fitted room bytes) → Writes most write

module _ (most : ℕ) (write : ℕ → Answer (List ℕ)) where
  -- a room of so many bytes is enough
  pub writes-never : Writes most write → (room : ℕ) → most ≤ room → write room ≢ refused 25
  writes-never (early k n w) room h e = n (refused-one k 25 (sym (w room) ∙ e))
  writes-never (late bytes l w) room h e =
      let k : length bytes ≤ room = omega arith in
      refused-given 25 bytes (sym e ∙ w room ∙ rw (le-ltb room (length bytes) k))

  -- what is written is no longer than the room
  writes-within : Writes most write → (room : ℕ) (bytes : List ℕ) → write room ≡ given bytes → (length bytes ≤ room) × (length bytes ≤ most)
  writes-within (early k n w) room bytes e = absurd (refused-given k bytes (sym (w room) ∙ e))
  writes-within (late out l w) room bytes e = by (ltb room (length out)) refl (sym (w room) ∙ e)
    where
      by : (t : Bool) → ltb room (length out) ≡ t → pick t (refused 25) (given out) ≡ given bytes → (length bytes ≤ room) × (length bytes ≤ most)
      by true p q = absurd (refused-given 25 bytes q)
      by false p q = let z = given-one out bytes q in rw (← z) (ltb-false room (length out) p, l)

  -- what fills the room is refused in a smaller one
  writes-needed : Writes most write → (bytes : List ℕ) → length bytes ≡ most → write most ≡ given bytes → (room : ℕ) → room < most → write room ≡ refused 25
  writes-needed (early k n w) bytes q e room h = absurd (refused-given k bytes (sym (w most) ∙ e))
  writes-needed (late out l w) bytes q e room h =
      let z : out ≡ bytes = given-one out bytes (sym (rw (le-ltb most (length out) l) at (w most)) ∙ e) in
      let k : room < length out = rw z (omega arith) in
      w room ∙ rw (lt-ltb room (length out) k)

-- the same number
pub as-large : {A : Type 0} {write : A → ℕ → Answer (List ℕ)} {n most : ℕ} → n ≡ most → Enough A write n → Enough A write most
as-large {A} {write} e h = subst (Enough A write) e h

-- a room of so many bytes is enough, and needed where something fills it
pub enough : {A : Type 0} (write : A → ℕ → Answer (List ℕ)) (most : ℕ) → ((a : A) → Writes most (write a)) → (a : A) (bytes : List ℕ)
    → length bytes ≡ most → write a most ≡ given bytes → Enough A write most
enough write most w a bytes l e = record {
  never = λ x room h. writes-never most (write x) (w x) room h;
  needed = (a, λ room h. writes-needed most (write a) (w a) bytes l e room h);
  within = λ x room out q. writes-within most (write x) (w x) room out q;
}
