-- The number tells the refusal, and so the answer as 01 gives it tells the code's answer.
-- Assumes nothing.
use Prim.Native.Nat.{ℕ}
use native.Mathlib.Omega.{arith}
use mathlib.Core.Path.{◌≡◌, refl, sym, ap, ◌∙◌}
use lib.Dec.{eqb}
use Rattle.std.specs.Prelude.{Result, Ok, Err}
use Rattle.basis.specs.Pick.{pick}
use Rattle.basis.specs.Answer.{Answer, given, refused}
use Rattle.basis.specs.declared.refusal.Refusal.{Refusal}
use Rattle.basis.specs.declared.refusal.Refusal.TheVariants.{PastEnd, Illegal, Cut, TooFew, TooMany, DataRange, ProgramRange, NoFunction, Untraced, TwoDepths, LongProgram, LongData, LongCells, MapLength, DeepState, ShortRoom, Unwritable, CutContents, LongPack, TagOrder, WrongOffset, WrongEnd, OverLimit, NoTag, Closed, ShortMemory, Damaged}
use Rattle.basis.specs.Refusal.{number_of, answer_of}

-- the refusal of a number
refusal_of : ℕ → Refusal
refusal_of n =
    (pick (eqb n 1) PastEnd
    (pick (eqb n 2) Illegal
    (pick (eqb n 3) Cut
    (pick (eqb n 4) TooFew
    (pick (eqb n 5) TooMany
    (pick (eqb n 6) DataRange
    (pick (eqb n 7) ProgramRange
    (pick (eqb n 8) NoFunction
    (pick (eqb n 9) Untraced
    (pick (eqb n 10) TwoDepths
    (pick (eqb n 20) LongProgram
    (pick (eqb n 21) LongData
    (pick (eqb n 22) LongCells
    (pick (eqb n 23) MapLength
    (pick (eqb n 24) DeepState
    (pick (eqb n 25) ShortRoom
    (pick (eqb n 26) Unwritable
    (pick (eqb n 30) CutContents
    (pick (eqb n 31) LongPack
    (pick (eqb n 32) TagOrder
    (pick (eqb n 33) WrongOffset
    (pick (eqb n 34) WrongEnd
    (pick (eqb n 35) OverLimit
    (pick (eqb n 36) NoTag
    (pick (eqb n 37) Closed
    (pick (eqb n 90) ShortMemory
    Damaged))))))))))))))))))))))))))

back : (why : Refusal) → refusal_of (number_of why) ≡ why
unfolding refusal_of
back PastEnd = refl
back Illegal = refl
back Cut = refl
back TooFew = refl
back TooMany = refl
back DataRange = refl
back ProgramRange = refl
back NoFunction = refl
back Untraced = refl
back TwoDepths = refl
back LongProgram = refl
back LongData = refl
back LongCells = refl
back MapLength = refl
back DeepState = refl
back ShortRoom = refl
back Unwritable = refl
back CutContents = refl
back LongPack = refl
back TagOrder = refl
back WrongOffset = refl
back WrongEnd = refl
back OverLimit = refl
back NoTag = refl
back Closed = refl
back ShortMemory = refl
back Damaged = refl

pub number-one : (a b : Refusal) → number_of a ≡ number_of b → a ≡ b
number-one a b e = sym (back a) ∙ ap refusal_of e ∙ back b

-- what was given or why not, each read out of an answer
abbrev given_or : {A : Type 0} → A → Answer A → A
given_or d (given a) = a
given_or d (refused n) = d

abbrev number_or : {A : Type 0} → Answer A → ℕ
number_or (given a) = 0
number_or (refused n) = n

apart : {A : Type 0} (a : A) (n : ℕ) → given a ≡ refused n → ⊥
apart a n e = let z : ◌≡◌ {A = ℕ} 0 1 = cc in omega arith

pub answer-one : {A : Type 0} (a b : Result A Refusal) → answer_of a ≡ answer_of b → a ≡ b
answer-one (Ok x) (Ok y) e = ap (λ z. Ok z) (ap (given_or x) e)
answer-one (Ok x) (Err w) e = absurd (apart x (number_of w) e)
answer-one (Err v) (Ok y) e = absurd (apart y (number_of v) (sym e))
answer-one (Err v) (Err w) e = ap (λ z. Err z) (number-one v w (ap number_or e))
