-- Laws of the names: no two codes have the same, and none is `byte`.
-- Assumes nothing.
use Prim.Native.Nat.{ℕ, ◌≤◌, ◌<◌}
use native.Mathlib.Omega.{arith}
use mathlib.Core.Path.{◌≡◌, refl, sym, ap, ◌∙◌}
use mathlib.Core.Bool.{Bool, true, false, not}
use mathlib.Core.List.{List, [], ◌∷◌}
use lib.ListN.{get_or}
use lib.Dec.{ltb, eqb}
use borrow.Author.Tests.{lt-leb, ltb-true, ltb-false, eqb-true, eq-eqb, ne_eqb}
use Rattle.basis.specs.Pick.{pick, both}
use Rattle.basis.proofs.Tests.{both_left, both_right}
use Rattle.basis.proofs.Tables.{every, at}
use Rattle.forms.specs.Form.{form_of, limit_in}
use Rattle.text.specs.Text.{bytes}
use Rattle.names.specs.Names.{names, place_of, name_of}
use Rattle.distinct.proofs.Words.{word}

-- the same bytes
abbrev eqs : List ℕ → List ℕ → Bool
eqs [] [] = true
eqs [] (y ∷ ys) = false
eqs (x ∷ xs) [] = false
eqs (x ∷ xs) (y ∷ ys) = both (eqb x y) (eqs xs ys)

eqs-refl : (xs : List ℕ) → eqs xs xs ≡ true
eqs-refl [] = refl
eqs-refl (x ∷ xs) = rw (eq-eqb x x refl) (eqs-refl xs)

-- the names at r and k are not the same, or r is k
abbrev apart : ℕ → ℕ → Bool
apart r k = pick (eqs (bytes (get_or names r "")) (bytes (get_or names k ""))) (eqb r k) true

abbrev own : ℕ → Bool
own r = both (both (word (bytes (get_or names r ""))) (not (eqs (bytes (get_or names r "")) (bytes "byte")))) (every (λ (k : ℕ). apart r k) 93)

all_own : every own 93 ≡ true
all_own = refl

pub name-same : (r k : ℕ) → r < 93 → k < 93 → bytes (get_or names r "") ≡ bytes (get_or names k "") → r ≡ k
name-same r k h g e =
    let t = both_right (both (word (bytes (get_or names r ""))) (not (eqs (bytes (get_or names r "")) (bytes "byte")))) (every (λ (j : ℕ). apart r j) 93) (at own 93 all_own r h) in
    let u : apart r k ≡ true = at (λ (j : ℕ). apart r j) 93 t k g in
    eqb-true r k (rw (e, eqs-refl (bytes (get_or names k ""))) at u)

own_at : (r : ℕ) → r < 93 → both (word (bytes (get_or names r ""))) (not (eqs (bytes (get_or names r "")) (bytes "byte"))) ≡ true
own_at r h = both_left (both (word (bytes (get_or names r ""))) (not (eqs (bytes (get_or names r "")) (bytes "byte")))) (every (λ (j : ℕ). apart r j) 93) (at own 93 all_own r h)

pub place-lt : (c : ℕ) → place_of c < 93
unfolding place_of
place-lt c = go (ltb c 0x5B) (ltb c 0xC0) refl
  where
    go : (t u : Bool) → ltb c 0x5B ≡ t → pick t c (pick u 0x5B 0x5C) < 93
    go true u p = omega (arith, ltb-true c 0x5B p)
    go false true p = omega arith
    go false false p = omega arith

pub name-word : (c : ℕ) → word (name_of c) ≡ true
unfolding name_of
name-word c = both_left (word (bytes (get_or names (place_of c) ""))) (not (eqs (bytes (get_or names (place_of c) "")) (bytes "byte"))) (own_at (place_of c) (place-lt c))

pub name-byte : (c : ℕ) → name_of c ≡ bytes "byte" → ⊥
unfolding name_of
name-byte c e =
    let t : not (eqs (bytes (get_or names (place_of c) "")) (bytes "byte")) ≡ true = both_right (word (bytes (get_or names (place_of c) ""))) (not (eqs (bytes (get_or names (place_of c) "")) (bytes "byte"))) (own_at (place_of c) (place-lt c)) in
    let u : false ≡ true = rw e at t in
    let z : ◌≡◌ {A = ℕ} 0 1 = cc in omega arith

-- the code of a name's place
abbrev code_in : ℕ → ℕ
code_in r = pick (ltb r 0x5B) r (pick (ltb r 0x5C) 0x80 0xC0)

abbrev back : ℕ → Bool
back c = pick (eqb (limit_in (form_of c)) 0) true (eqb (code_in (place_of c)) c)

all_back : every back 256 ≡ true
unfolding form_of place_of
all_back = refl

form-large : (c : ℕ) → 256 ≤ c → limit_in (form_of c) ≡ 0
unfolding form_of
form-large c h =
    let a : 0x24 < c = omega arith in
    let b : 0x30 < c = omega arith in
    let d : 0x32 < c = omega arith in
    let e : 0x40 < c = omega arith in
    let f : 0x5A < c = omega arith in
    rw (lt-leb _ _ a, lt-leb _ _ b, lt-leb _ _ d, lt-leb _ _ e, lt-leb _ _ f, ne_eqb c 0x80 (λ z. omega arith), ne_eqb c 0xC0 (λ z. omega arith))

code-small : (c : ℕ) → 0 < limit_in (form_of c) → c < 256
code-small c h = go (ltb c 256) refl
  where
    illegal : 256 ≤ c → limit_in (form_of c) ≡ 0
    illegal g = form-large c g

    go : (t : Bool) → ltb c 256 ≡ t → c < 256
    go true p = ltb-true c 256 p
    go false p = absurd (omega (arith, illegal (ltb-false c 256 p)))

code-back : (c : ℕ) → 0 < limit_in (form_of c) → code_in (place_of c) ≡ c
code-back c h =
    let t : back c ≡ true = at back 256 all_back c (code-small c h) in
    eqb-true _ _ (rw (ne_eqb (limit_in (form_of c)) 0 (λ z. omega arith)) at t)

pub code_same : (c k : ℕ) → 0 < limit_in (form_of c) → 0 < limit_in (form_of k) → name_of c ≡ name_of k → c ≡ k
unfolding name_of
code_same c k h g e =
    let r = name-same (place_of c) (place_of k) (place-lt c) (place-lt k) e in
    sym (code-back c h) ∙ ap code_in r ∙ code-back k g
