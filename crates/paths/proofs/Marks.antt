-- What meeting successors does to the marks, and which address is the lowest due.
-- Assumes nothing.
use Prim.Native.Nat.{ℕ, zero, suc, ◌+◌, ◌<◌, ◌≤◌}
use native.Mathlib.Omega.{arith}
use native.Mathlib.Nat.{le_of_suc-le-suc, not-suc-le-zero}
use mathlib.Core.Path.{◌≡◌, refl, sym, ap, ◌∙◌, subst}
use mathlib.Core.Logic.{◌⊎◌, inl, inr, ⊎_elim, ◌≢◌}
use mathlib.Core.Bool.{true, false}
use mathlib.Core.List.{List, [], ◌∷◌}
use lib.Dec.{ltb, eqb}
use lib.ListN.{length, get_or, set, length-set, get_or-eq_default}
use lib.Seq.{get_or-set_same, get_or-set_other}
use borrow.Author.Tests.{ltb-true, ltb-false, eqb-true, eqb-false}
use Rattle.basis.proofs.Tests.{false-true, test, pick-cases, same?}
use Rattle.paths.specs.Paths.{Hop, hop, In, here, there}
use Rattle.paths.specs.Walk.{Mark, unmet, due, examined, Meeting, kept, broke, again, meet_at, meet, on_meeting, meets, is_due, lowest}

-- the mark says met, at depth d
abbrev pub Says : Mark → ℕ → Type 0
Says unmet d = ⊥
Says (due x) d = x ≡ d
Says (examined x) d = x ≡ d

pub says-one : (m : Mark) (d e : ℕ) → Says m d → Says m e → d ≡ e
says-one unmet d e p q = absurd p
says-one (due x) d e p q = sym p ∙ q
says-one (examined x) d e p q = sym p ∙ q

-- a is met at depth d
pub record At (ms : List Mark) (a d : ℕ) : Type 0 where
  pub says : Says (get_or ms a unmet) d

pub at_one : {ms : List Mark} {a d e : ℕ} → At ms a d → At ms a e → d ≡ e
at_one {ms} {a} {d} {e} p q = says-one (get_or ms a unmet) d e p.says q.says

pub at-is : (ms : List Mark) (a d : ℕ) (m : Mark) → get_or ms a unmet ≡ m → Says m d → At ms a d
at-is ms a d m e h = record { says = subst (λ (z : Mark). Says z d) (sym e) h }

pub at-move : {ms : List Mark} {a b d e : ℕ} → a ≡ b → d ≡ e → At ms b e → At ms a d
at-move {ms} {a} {b} {d} {e} p q h = subst (λ (x : ℕ). At ms x d) (sym p) (subst (λ (y : ℕ). At ms b y) (sym q) h)

pub at-unmet : (ms : List Mark) (a d : ℕ) → get_or ms a unmet ≡ unmet → At ms a d → ⊥
at-unmet ms a d u h = subst (λ (z : Mark). Says z d) u h.says

pub at-inside : {ms : List Mark} {a d : ℕ} → At ms a d → a < length ms
at-inside {ms} {a} {d} h =
    ⊎_elim (ltb-true a (length ms))
    (λ t. absurd (at-unmet ms a d (get_or-eq_default ms unmet (ltb-false a (length ms) t)) h))
    (test (ltb a (length ms)))

pub set_same : (ms : List Mark) (a : ℕ) (v : Mark) (d : ℕ) → a < length ms → Says v d → At (set ms a v) a d
set_same ms a v d h s = at-is (set ms a v) a d v (get_or-set_same ms a v unmet h) s

pub set_other : (ms : List Mark) (b : ℕ) (v : Mark) (a d : ℕ) → a ≢ b → At ms a d → At (set ms b v) a d
set_other ms b v a d n h = at-is (set ms b v) a d (get_or ms a unmet) (get_or-set_other ms b a v unmet n) h.says

pub set_back : (ms : List Mark) (b : ℕ) (v : Mark) (a d : ℕ) → a ≢ b → At (set ms b v) a d → At ms a d
set_back ms b v a d n h = at-is ms a d (get_or (set ms b v) a unmet) (sym (get_or-set_other ms b a v unmet n)) h.says

-- how many addresses are not examined
abbrev pub ahead : Mark → ℕ
ahead unmet = 1
ahead (due d) = 1
ahead (examined d) = 0

unfoldable pub all_ahead : List Mark → ℕ
all_ahead [] = 0
all_ahead (m ∷ ms) = ahead m + all_ahead ms

pub ahead-set : (ms : List Mark) (a : ℕ) (v : Mark) → a < length ms → all_ahead (set ms a v) + ahead (get_or ms a unmet) ≡ all_ahead ms + ahead v
unfolding all_ahead
ahead-set [] a v h = absurd (not-suc-le-zero h)
ahead-set (m ∷ ms) zero v h = omega arith
ahead-set (m ∷ ms) (suc a) v h = omega (arith, ahead-set ms a v (le_of_suc-le-suc h))

-- later has all that ms has, and nothing more is examined
pub record Ext (ms later : List Mark) : Type 0 where
  pub len : length later ≡ length ms
  pub keeps : (a d : ℕ) → At ms a d → At later a d
  pub olds : (a d : ℕ) → get_or later a unmet ≡ examined d → get_or ms a unmet ≡ examined d
  pub count : all_ahead later ≡ all_ahead ms

pub ext_refl : (ms : List Mark) → Ext ms ms
ext_refl ms = record { len = refl; keeps = λ a d h. h; olds = λ a d h. h; count = refl }

pub ext_trans : {ms later last : List Mark} → Ext ms later → Ext later last → Ext ms last
ext_trans p q =
    record {
      len = q.len ∙ p.len;
      keeps = λ a d h. q.keeps a d (p.keeps a d h);
      olds = λ a d h. p.olds a d (q.olds a d h);
      count = q.count ∙ p.count;
    }

pub due-examined : (d e : ℕ) → due d ≡ examined e → ⊥
due-examined d e p = let z : ◌≡◌ {A = ℕ} 0 1 = cc in omega arith

pub unmet-examined : (d : ℕ) → unmet ≡ examined d → ⊥
unmet-examined d p = let z : ◌≡◌ {A = ℕ} 0 1 = cc in omega arith

-- an address that was not met is due
set-ext : (ms : List Mark) (b e : ℕ) → b < length ms → get_or ms b unmet ≡ unmet → Ext ms (set ms b (due e))
set-ext ms b e h u =
    record {
      len = length-set ms b (due e);
      keeps = λ a d p.
          ⊎_elim
          (λ q. absurd (at-unmet ms a d (ap (λ (x : ℕ). get_or ms x unmet) q ∙ u) p))
          (λ q. set_other ms b (due e) a d q p)
          (same? a b);
      olds = λ a d p.
          ⊎_elim
          (λ q. absurd (due-examined e d (sym (get_or-set_same ms b (due e) unmet h) ∙ ap (λ (x : ℕ). get_or (set ms b (due e)) x unmet) (sym q) ∙ p)))
          (λ q. sym (get_or-set_other ms b a (due e) unmet q) ∙ p)
          (same? a b);
      count = let o : ahead (get_or ms b unmet) ≡ 1 = ap ahead u in omega (arith, ahead-set ms b (due e) h);
    }

pub in-cases : {a d b e : ℕ} {hs : List Hop} → In a d (hop b e ∷ hs) → ((a ≡ b) × (d ≡ e)) ⊎ In a d hs
in-cases here = inl (refl, refl)
in-cases (there i) = inr i

pub in-nil : {a d : ℕ} → In a d [] → ⊥
in-nil i = elim i [ ]

-- the marks after the successors hs were met
pub record Kept (ms : List Mark) (hs : List Hop) (later : List Mark) : Type 0 where
  pub ext : Ext ms later
  pub has : (b e : ℕ) → In b e hs → At later b e
  pub from : (a d : ℕ) → At later a d → At ms a d ⊎ In a d hs

-- why they cannot be met
pub data Clash (clash : ℕ → ℕ → ℕ) (ms : List Mark) (hs : List Hop) : ℕ → Type 0 where
  outside : {b e : ℕ} → In b e hs → length ms ≤ b → Clash clash ms hs 1
  twice : {b e x : ℕ} → In b e hs → b < length ms → At ms b x ⊎ In b x hs → x ≢ e → Clash clash ms hs (clash x e)

abbrev pub Right : (ℕ → ℕ → ℕ) → List Mark → List Hop → Meeting → Type 0
Right clash ms hs (kept later) = Kept ms hs later
Right clash ms hs (broke k) = Clash clash ms hs k

again-right : (clash : ℕ → ℕ → ℕ) (ms : List Mark) (b e d : ℕ) → At ms b d → Right clash ms (hop b e ∷ []) (again clash ms d e)
again-right clash ms b e d h =
    pick-cases (Right clash ms (hop b e ∷ [])) (eqb d e) _ _
    (λ v. record {
      ext = ext_refl ms;
      has = λ x y p. ⊎_elim (λ q. at-move q.0 (q.1 ∙ sym (eqb-true d e v)) h) (λ q. absurd (in-nil q)) (in-cases p);
      from = λ a y p. inl p;
    })
    (λ v. twice here (at-inside h) (inl h) (eqb-false d e v))

meet-at : (clash : ℕ → ℕ → ℕ) (ms : List Mark) (b e : ℕ) → b < length ms → (m : Mark) → get_or ms b unmet ≡ m → Right clash ms (hop b e ∷ []) (meet_at clash ms b e m)
meet-at clash ms b e i unmet u =
    let s = set_same ms b (due e) e i refl in
    record {
      ext = set-ext ms b e i u;
      has = λ x y p. ⊎_elim (λ q. at-move q.0 q.1 s) (λ q. absurd (in-nil q)) (in-cases p);
      from = λ a d p.
          ⊎_elim
          (λ q. inr (subst (λ (x : ℕ). In x d (hop b e ∷ [])) (sym q) (subst (λ (y : ℕ). In b y (hop b e ∷ [])) (at_one s (at-move (sym q) refl p)) here)))
          (λ q. inl (set_back ms b (due e) a d q p))
          (same? a b);
    }
meet-at clash ms b e i (due d) u = again-right clash ms b e d (at-is ms b d (due d) u refl)
meet-at clash ms b e i (examined d) u = again-right clash ms b e d (at-is ms b d (examined d) u refl)

meet_right : (clash : ℕ → ℕ → ℕ) (ms : List Mark) (b e : ℕ) → Right clash ms (hop b e ∷ []) (meet clash ms b e)
unfolding meet
meet_right clash ms b e =
    pick-cases (Right clash ms (hop b e ∷ [])) (ltb b (length ms)) _ _
    (λ t. meet-at clash ms b e (ltb-true b (length ms) t) (get_or ms b unmet) refl)
    (λ t. outside here (ltb-false b (length ms) t))

-- one successor is met, then the rest
in-wide : {a d b e : ℕ} (hs : List Hop) → In a d (hop b e ∷ []) → In a d (hop b e ∷ hs)
in-wide hs here = here
in-wide hs (there j) = absurd (in-nil j)

was : {ms : List Mark} {a d b e : ℕ} (hs : List Hop) → At ms a d ⊎ In a d (hop b e ∷ []) → At ms a d ⊎ In a d (hop b e ∷ hs)
was hs (inl q) = inl q
was hs (inr q) = inr (in-wide hs q)

clash-one : {clash : ℕ → ℕ → ℕ} {ms : List Mark} {b e : ℕ} (hs : List Hop) {k : ℕ} → Clash clash ms (hop b e ∷ []) k → Clash clash ms (hop b e ∷ hs) k
clash-one hs (outside i h) = outside (in-wide hs i) h
clash-one hs (twice i l w n) = twice (in-wide hs i) l (was hs w) n

clash-on : {clash : ℕ → ℕ → ℕ} {ms later : List Mark} {b e : ℕ} {hs : List Hop} {k : ℕ} → Kept ms (hop b e ∷ []) later → Clash clash later hs k → Clash clash ms (hop b e ∷ hs) k
clash-on p (outside i h) = outside (there i) (omega (arith, p.ext.len))
clash-on {hs = hs} p (twice {b = x} {x = z} i l w n) = twice (there i) (omega (arith, p.ext.len)) (⊎_elim (λ q. was hs (p.from x z q)) (λ q. inr (there q)) w) n

kept_on : {ms later last : List Mark} {b e : ℕ} {hs : List Hop} → Kept ms (hop b e ∷ []) later → Kept later hs last → Kept ms (hop b e ∷ hs) last
kept_on {hs = hs} p q =
    record {
      ext = ext_trans p.ext q.ext;
      has = λ x y i. ⊎_elim (λ w. at-move w.0 w.1 (q.ext.keeps _ _ (p.has _ _ here))) (λ w. q.has x y w) (in-cases i);
      from = λ x y h. ⊎_elim (λ w. was hs (p.from x y w)) (λ w. inr (there w)) (q.from x y h);
    }

right-on : (clash : ℕ → ℕ → ℕ) {ms later : List Mark} {b e : ℕ} (hs : List Hop) → Kept ms (hop b e ∷ []) later → (r : Meeting) → Right clash later hs r → Right clash ms (hop b e ∷ hs) r
right-on clash hs p (kept last) q = kept_on p q
right-on clash hs p (broke k) q = clash-on p q

on-right :
    (clash : ℕ → ℕ → ℕ) (ms : List Mark) (b e : ℕ) (hs : List Hop) (r : Meeting) (f : List Mark → Meeting)
    → Right clash ms (hop b e ∷ []) r → ((later : List Mark) → Right clash later hs (f later)) → Right clash ms (hop b e ∷ hs) (on_meeting r f)
on-right clash ms b e hs (kept later) f p g = right-on clash hs p (f later) (g later)
on-right clash ms b e hs (broke k) f p g = clash-one hs p

pub meets-right : (clash : ℕ → ℕ → ℕ) (ms : List Mark) (hs : List Hop) → Right clash ms hs (meets clash ms hs)
unfolding meets
meets-right clash ms [] = record { ext = ext_refl ms; has = λ b e i. absurd (in-nil i); from = λ a d h. inl h }
meets-right clash ms (hop b e ∷ hs) = on-right clash ms b e hs (meet clash ms b e) (λ later. meets clash later hs) (meet_right clash ms b e) (λ later. meets-right clash later hs)

-- a is the lowest due, or the length where none is
pub record Lowest (ms : List Mark) (a : ℕ) : Type 0 where
  pub bound : a ≤ length ms
  pub none : (k : ℕ) → k < a → is_due (get_or ms k unmet) ≡ false
  pub some : a < length ms → is_due (get_or ms a unmet) ≡ true

low-here : (m : Mark) (ms : List Mark) → is_due m ≡ true → Lowest (m ∷ ms) 0
low-here m ms e = record { bound = omega arith; none = λ k h. absurd (not-suc-le-zero h); some = λ h. e }

low-on : (m : Mark) (ms : List Mark) (a : ℕ) → is_due m ≡ false → Lowest ms a → Lowest (m ∷ ms) (suc a)
low-on m ms a e p = record { bound = omega (arith, p.bound); none = before; some = λ h. p.some (le_of_suc-le-suc h) }
  where
    before : (k : ℕ) → k < suc a → is_due (get_or (m ∷ ms) k unmet) ≡ false
    before zero h = e
    before (suc k) h = p.none k (le_of_suc-le-suc h)

pub lowest-is : (ms : List Mark) → Lowest ms (lowest ms)
unfolding lowest
lowest-is [] = record { bound = omega arith; none = λ k h. absurd (not-suc-le-zero h); some = λ h. absurd (not-suc-le-zero h) }
lowest-is (m ∷ ms) =
    pick-cases (Lowest (m ∷ ms)) (is_due m) 0 (suc (lowest ms)) (λ e. low-here m ms e) (λ e. low-on m ms (lowest ms) e (lowest-is ms))

pub lowest-one : (ms : List Mark) (a b : ℕ) → Lowest ms a → Lowest ms b → a ≡ b
lowest-one ms a b p q =
    ⊎_elim (λ h. h)
    (λ n. ⊎_elim
    (λ h. let l = ltb-true a b h in absurd (false-true (sym (q.none a l) ∙ p.some (omega (arith, q.bound)))))
    (λ h. let l : b < a = omega (arith, ltb-false a b h) in absurd (false-true (sym (p.none b l) ∙ q.some (omega (arith, p.bound)))))
    (test (ltb a b)))
    (same? a b)
