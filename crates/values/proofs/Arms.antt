-- Of the first bytes from C0 up, those without an arm have a flag of an absent value.
-- Assumes nothing.
use Prim.Native.Nat.{ℕ, ◌<◌, ◌≤◌}
use mathlib.Core.Path.{◌≡◌, refl, subst}
use mathlib.Core.Bool.{Bool, true, false}
use mathlib.Core.List.{List, [], ◌∷◌}
use lib.Dec.{eqb}
use lib.Count.{ones}
use borrow.Author.Tests.{eqb-true, ne_eqb}
use Rattle.basis.specs.Answer.{refused}
use Rattle.basis.specs.Pick.{pick}
use Rattle.basis.proofs.Tables.{span, inside}
use Rattle.forms.specs.Form.{form_of, code_of, length_of}
use Rattle.decoder.specs.Refusals.{Inside, illegal_first}
use Rattle.decoder.proofs.Refuses.{why-refusal}
use Rattle.effects.specs.Act.{became, act_of}

-- the first bytes that have an arm, the last first, as a match passes them on to what comes after
abbrev pub arms : List ℕ
arms =
    0xFF ∷ 0xFB ∷ 0xF7 ∷ 0xF3 ∷ 0xEF ∷ 0xEB ∷ 0xE7 ∷ 0xE3 ∷ 0xDF ∷ 0xDE ∷ 0xDB ∷ 0xDA ∷ 0xD7 ∷ 0xD6 ∷ 0xD3 ∷ 0xD2 ∷ 0xCF ∷ 0xCE ∷ 0xCD ∷ 0xCB ∷ 0xCA ∷ 0xC9
    ∷ 0xC7 ∷ 0xC6 ∷ 0xC5 ∷ 0xC4 ∷ 0xC3 ∷ 0xC2 ∷ 0xC1 ∷ 0xC0 ∷ []

-- b is none of them
abbrev pub Past : ℕ → List ℕ → Type 0
Past b [] = Unit {0}
Past b (a ∷ rest) = Past b rest × (b ≡ a → ⊥)

abbrev among : ℕ → List ℕ → Bool
among b [] = false
among b (a ∷ rest) = pick (eqb b a) true (among b rest)

past-none : (b : ℕ) (as' : List ℕ) → Past b as' → among b as' ≡ false
past-none b [] p = refl
past-none b (a ∷ rest) p = rw (ne_eqb b a p.1) (past-none b rest p.0)

-- a first byte from C0 up has an arm, or no length
abbrev settled : ℕ → Bool
settled b = pick (among b arms) true (eqb (length_of b) 0)

all : span settled 0xC0 64 ≡ true
unfolding code_of form_of length_of ones
all = refl

no_length : (b : ℕ) → 192 ≤ b → b < 256 → Past b arms → length_of b ≡ 0
no_length b h l p =
    let t : settled b ≡ true = inside settled 0xC0 64 all b h l in
    eqb-true (length_of b) 0 (subst (λ (u : Bool). pick u true (eqb (length_of b) 0) ≡ true) (past-none b arms p) t)

-- 2
pub unarmed :
    {program : List ℕ} {address b : ℕ} → Inside program address b → 192 ≤ b → b < 256 → Past b arms → (depth : ℕ) (mem cells : List ℕ)
    → act_of program address depth mem cells ≡ became (refused 2) mem cells
unfolding act_of
unarmed {program} {address} {b} i h l p depth mem cells = rw (why-refusal program address 2 (illegal_first i (no_length b h l p)))
