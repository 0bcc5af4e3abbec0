-- The walk is right: it ends, accepts exactly where the path condition holds, finds the depths, and shows each refusal by a path.
-- Assumes nothing.
use Prim.Native.Nat.{ℕ, zero, suc, ◌<◌}
use native.Mathlib.Omega.{arith}
use native.Mathlib.Nat.{not-suc-le-zero, le_refl}
use mathlib.Core.Path.{◌≡◌, refl, sym, ap, ap₂, ◌∙◌, subst}
use mathlib.Core.Logic.{⊎_elim}
use mathlib.Core.Bool.{true, false}
use mathlib.Core.List.{List, map}
use lib.Dec.{ltb}
use lib.ListN.{length, get_or, set, replicate, length-set, length-map, length-replicate, get_or-map, get_or-eq_default}
use lib.Seq.{get_or-set_same, get_or-set_other}
use borrow.Author.Tests.{ltb-true, ltb-false}
use Rattle.basis.proofs.Tests.{false-true, test, same?}
use Rattle.paths.specs.Paths.{Hop, Outcome, bad, leads, In, Met, start, onward, Fine, Shown, empty, refuses, leaves, differs, Mapped}
use Rattle.paths.specs.Walk.{Mark, unmet, due, examined, Walked, accepted, refused, Meeting, kept, broke, Turn, done, more, meets, is_due, lowest, turned, examine, begun, go_on, turn_at, turn, turns, walk, cell_of}
use Rattle.paths.proofs.Marks.{Says, At, at_one, at-is, at-unmet, unmet-examined, at-move, at-inside, set_same, set_other, set_back, due-examined, ahead, all_ahead, ahead-set, outside, twice, Right, meets-right, Lowest, lowest-is, lowest-one}

-- a is examined at depth d, and all it leads to is met
pub record Closed (look : ℕ → ℕ → Outcome) (ms : List Mark) (a d : ℕ) : Type 0 where
  pub hops : List Hop
  pub leading : look a d ≡ leads hops
  pub onto : (b e : ℕ) → In b e hops → At ms b e

-- what holds at every turn
pub record Sound (look : ℕ → ℕ → Outcome) (ms : List Mark) : Type 0 where
  pub begins : At ms 0 0
  pub real : (a d : ℕ) → At ms a d → Met look a d
  pub closed : (a d : ℕ) → get_or ms a unmet ≡ examined d → Closed look ms a d

-- and when nothing is due
pub record Final (look : ℕ → ℕ → Outcome) (ms : List Mark) : Type 0 where
  pub sound : Sound look ms
  pub rest : (a : ℕ) → is_due (get_or ms a unmet) ≡ false

-- marking a due address as examined changes nothing of what is met
module _ (ms : List Mark) (a d : ℕ) (e : get_or ms a unmet ≡ due d) where
  due-at : At ms a d
  due-at = at-is ms a d (due d) e refl

  mark-to : (b x : ℕ) → At ms b x → At (set ms a (examined d)) b x
  mark-to b x h =
      ⊎_elim
      (λ q. at-move q (at_one (at-move (sym q) refl h) due-at) (set_same ms a (examined d) d (at-inside due-at) refl))
      (λ q. set_other ms a (examined d) b x q h)
      (same? b a)

  mark-back : (b x : ℕ) → At (set ms a (examined d)) b x → At ms b x
  mark-back b x h =
      ⊎_elim
      (λ q. at-move q (at_one (at-move (sym q) refl h) (set_same ms a (examined d) d (at-inside due-at) refl)) due-at)
      (λ q. set_back ms a (examined d) b x q h)
      (same? b a)

examined-one : (d e : ℕ) → examined d ≡ examined e → d ≡ e
examined-one d e p = cc

due-mark : (m : Mark) → is_due m ≡ true → (d : ℕ) × (m ≡ due d)
due-mark unmet h = absurd (false-true h)
due-mark (due d) h = (d, refl)
due-mark (examined d) h = absurd (false-true h)

-- the first mark that is not due
not-due : (ms : List Mark) → Lowest ms (length ms) → (a : ℕ) → is_due (get_or ms a unmet) ≡ false
not-due ms l a = by (get_or ms a unmet) refl
  where
    by : (m : Mark) → get_or ms a unmet ≡ m → is_due m ≡ false
    by unmet e = refl
    by (due d) e = sym (ap is_due e) ∙ l.none a (at-inside (at-is ms a d (due d) e refl))
    by (examined d) e = refl

all-unmet : (n a : ℕ) → get_or (replicate n unmet) a unmet ≡ unmet
all-unmet zero a = refl
all-unmet (suc n) zero = refl
all-unmet (suc n) (suc a) = all-unmet n a

unmet-ahead : (n : ℕ) → all_ahead (replicate n unmet) ≡ n
unfolding all_ahead
unmet-ahead zero = refl
unmet-ahead (suc n) = omega (arith, unmet-ahead n)

module _ (clash : ℕ → ℕ → ℕ) (look : ℕ → ℕ → Outcome) where
  abbrev Answered : ℕ → Walked → Type 0
  Answered n (accepted ms) = Final look ms × (length ms ≡ n)
  Answered n (refused k a) = Shown clash look n k a

  abbrev Turned : List Mark → Turn → Type 0
  Turned ms (done w) = Answered (length ms) w
  Turned ms (more later) = Sound look later × (all_ahead later < all_ahead ms) × (length later ≡ length ms)

  module _ (ms : List Mark) (s : Sound look ms) (a d : ℕ) (e : get_or ms a unmet ≡ due d) where
    here-met : Met look a d
    here-met = s.real a d (due-at ms a d e)

    here-inside : a < length ms
    here-inside = at-inside (due-at ms a d e)

    after-right : (hs : List Hop) → look a d ≡ leads hs → (r : Meeting) → Right clash (set ms a (examined d)) hs r → Turned ms (turned a r)
    after-right hs l (kept later) k = (
      record {
        begins = k.ext.keeps 0 0 (mark-to ms a d e 0 0 s.begins);
        real = λ b y h. ⊎_elim (λ w. s.real b y (mark-back ms a d e b y w)) (λ w. onward here-met l w) (k.from b y h);
        closed = closing;
      },
      let o : ahead (get_or ms a unmet) ≡ 1 = ap ahead e in
          omega (arith, k.ext.count, ahead-set ms a (examined d) (at-inside (due-at ms a d e))),
      k.ext.len ∙ length-set ms a (examined d),
    )
      where
        closing : (x y : ℕ) → get_or later x unmet ≡ examined y → Closed look later x y
        closing x y h =
            let o = k.ext.olds x y h in
            ⊎_elim
            (λ q.
            let z : d ≡ y = examined-one d y (sym (get_or-set_same ms a (examined d) unmet (at-inside (due-at ms a d e))) ∙ ap (λ (i : ℕ). get_or (set ms a (examined d)) i unmet) (sym q) ∙ o) in
            record { hops = hs; leading = ap₂ look q (sym z) ∙ l; onto = k.has })
            (λ q.
            let c = s.closed x y (sym (get_or-set_other ms a x (examined d) unmet q) ∙ o) in
            record {
              hops = c.hops;
              leading = c.leading;
              onto = λ b z j. k.ext.keeps b z (mark-to ms a d e b z (c.onto b z j));
            })
            (same? x a)
    after-right hs l (broke j) (outside w h) = leaves here-met here-inside l w (omega (arith, length-set ms a (examined d)))
    after-right hs l (broke j) (twice {b = b} {x = x} w i h n) =
        differs here-met here-inside l w (omega (arith, length-set ms a (examined d))) (⊎_elim (λ q. s.real b x (mark-back ms a d e b x q)) (λ q. onward here-met l q) h) n

    examine-right : (o : Outcome) → look a d ≡ o → Turned ms (examine clash ms a d o)
    examine-right (bad k) l = refuses here-met here-inside l
    examine-right (leads hs) l = after-right hs l (meets clash (set ms a (examined d)) hs) (meets-right clash (set ms a (examined d)) hs)

  turn-right : (ms : List Mark) → Sound look ms → Turned ms (turn clash look ms)
  unfolding turn
  turn-right ms s = by (get_or ms (lowest ms) unmet) refl
    where
      none : is_due (get_or ms (lowest ms) unmet) ≡ false → Final look ms
      none h =
          let low = lowest-is ms in
          let l : lowest ms ≡ length ms = ⊎_elim (λ t. absurd (false-true (sym h ∙ low.some (ltb-true (lowest ms) (length ms) t)))) (λ t. omega (arith, low.bound, ltb-false (lowest ms) (length ms) t)) (test (ltb (lowest ms) (length ms))) in
          record { sound = s; rest = not-due ms (subst (Lowest ms) l low) }

      by : (m : Mark) → get_or ms (lowest ms) unmet ≡ m → Turned ms (turn_at clash look ms (lowest ms) m)
      by unmet e = (none (ap is_due e), refl)
      by (due d) e = examine-right ms s (lowest ms) d e (look (lowest ms) d) refl
      by (examined d) e = (none (ap is_due e), refl)

  go_right :
      (n f : ℕ) (ms : List Mark) (r : Turn) (g : List Mark → Walked) → length ms ≡ n → all_ahead ms < suc f → Turned ms r
      → ((later : List Mark) → Sound look later → all_ahead later < f → length later ≡ n → Answered n (g later)) → Answered n (go_on r g)
  go_right n f ms (done w) g l c k h = subst (λ (x : ℕ). Answered x w) l k
  go_right n f ms (more later) g l c k h = h later k.0 (omega (arith, k.1)) (k.2 ∙ l)

  turns-right : (n f : ℕ) (ms : List Mark) → Sound look ms → all_ahead ms < f → length ms ≡ n → Answered n (turns clash look f ms)
  unfolding turns
  turns-right n zero ms s c l = absurd (not-suc-le-zero c)
  turns-right n (suc f) ms s c l = go_right n f ms (turn clash look ms) (λ later. turns clash look f later) l c (turn-right ms s) (λ later p q r. turns-right n f later p q r)

  begun-real : (n a d : ℕ) → At (begun n) a d → Met look a d
  begun-real n zero d h = subst (λ (x : ℕ). Met look 0 x) h.says start
  begun-real n (suc a) d h = absurd (at-unmet (begun n) (suc a) d (all-unmet n a) h)

  begun-sound : (n : ℕ) → Sound look (begun n)
  begun-sound n =
      record {
        begins = record { says = refl };
        real = begun-real n;
        closed = shut n;
      }
    where
      shut : (k a d : ℕ) → get_or (begun k) a unmet ≡ examined d → Closed look (begun k) a d
      shut k zero d h = absurd (due-examined 0 d h)
      shut k (suc a) d h = absurd (unmet-examined d (sym (all-unmet k a) ∙ h))

  walk-right : (n : ℕ) → Answered n (walk clash look n)
  unfolding walk all_ahead
  walk-right zero = empty refl
  walk-right (suc n) = turns-right (suc n) (suc (suc n)) (begun n) (begun-sound n) (omega (arith, unmet-ahead n)) (ap suc (length-replicate n unmet))

  same-hops : {hs is : List Hop} → leads hs ≡ leads is → hs ≡ is
  same-hops {hs} {is} p = cc

  -- what is met when nothing is due is examined
  settled : (ms : List Mark) → Final look ms → (a d : ℕ) → At ms a d → get_or ms a unmet ≡ examined d
  settled ms f a d h = by (get_or ms a unmet) refl
    where
      by : (m : Mark) → get_or ms a unmet ≡ m → get_or ms a unmet ≡ examined d
      by unmet e = absurd (at-unmet ms a d e h)
      by (due x) e = absurd (false-true (sym (f.rest a) ∙ ap is_due e))
      by (examined x) e = e ∙ ap examined (at_one (at-is ms a x (examined x) e refl) h)

  pub final-at : (ms : List Mark) → Final look ms → (a d : ℕ) → Met look a d → At ms a d
  final-at ms f a d start = f.sound.begins
  final-at ms f a d (onward {a = x} {d = y} {hs = hs} p e i) =
      let c = f.sound.closed x y (settled ms f x y (final-at ms f x y p)) in
      c.onto a d (subst (In a d) (same-hops (sym e ∙ c.leading)) i)

  clear : (ms : List Mark) → Final look ms → (a d k : ℕ) → Met look a d → look a d ≡ bad k → ⊥
  clear ms f a d k p e =
      let c = f.sound.closed a d (settled ms f a d (final-at ms f a d p)) in
      let l = c.leading in
      let z : ◌≡◌ {A = ℕ} 0 1 = cc in
      omega arith

  -- each refusal is shown by a path, or two
  pub shows : (n k a : ℕ) → walk clash look n ≡ refused k a → Shown clash look n k a
  shows n k a e = subst (Answered n) e (walk-right n)

  -- and none can be shown where the path condition holds
  pub fine-unshown : (n k a : ℕ) → Fine look n → Shown clash look n k a → ⊥
  fine-unshown n k a f (empty z) = omega (arith, f.within 0 0 start)
  fine-unshown n k a f (refuses p l e) = f.good _ _ _ p e
  fine-unshown n k a f (leaves p l e i h) = omega (arith, f.within _ _ (onward p e i))
  fine-unshown n k a f (differs p l e i m q h) = h (f.once _ _ _ q (onward p e i))

  pub final : (n : ℕ) (ms : List Mark) → walk clash look n ≡ accepted ms → Final look ms × (length ms ≡ n)
  final n ms e = subst (Answered n) e (walk-right n)

  pub final-fine : (ms : List Mark) → Final look ms → Fine look (length ms)
  final-fine ms f =
      record {
        within = λ a d p. at-inside (final-at ms f a d p);
        good = λ a d k p z. clear ms f a d k p z;
        once = λ a d x p q. at_one (final-at ms f a d p) (final-at ms f a x q);
      }

  -- an accepted program is fine
  pub accepted-fine : (n : ℕ) (ms : List Mark) → walk clash look n ≡ accepted ms → Fine look n
  accepted-fine n ms e = subst (Fine look) (final n ms e).1 (final-fine ms (final n ms e).0)

  -- a fine program is accepted
  pub fine-accepted : (n : ℕ) → Fine look n → (ms : List Mark) × (walk clash look n ≡ accepted ms)
  fine-accepted n f = by (walk clash look n) refl
    where
      by : (r : Walked) → walk clash look n ≡ r → (ms : List Mark) × (walk clash look n ≡ accepted ms)
      by (accepted ms) e = (ms, e)
      by (refused k a) e = absurd (fine-unshown n k a f (shows n k a e))

  -- the map of an accepted program
  cell_at : (ms : List Mark) (a d : ℕ) → At ms a d → get_or (map cell_of ms) a 65535 ≡ d
  cell_at ms a d h = get_or-map cell_of ms a unmet ∙ by (get_or ms a unmet) h.says
    where
      by : (m : Mark) → Says m d → cell_of m ≡ d
      by unmet s = absurd s
      by (due x) s = s
      by (examined x) s = s

  pub accepted-mapped : (n : ℕ) (ms : List Mark) → walk clash look n ≡ accepted ms → Mapped look n (map cell_of ms)
  accepted-mapped n ms e =
      let f = (final n ms e).0 in
      record {
        size = length-map ms cell_of ∙ (final n ms e).1;
        met = λ a d p. cell_at ms a d (final-at ms f a d p);
        unmet = λ a h never. get_or-map cell_of ms a unmet ∙ by f a never (get_or ms a unmet) refl;
      }
    where
      by : Final look ms → (a : ℕ) → ((d : ℕ) → Met look a d → ⊥) → (m : Mark) → get_or ms a unmet ≡ m → cell_of m ≡ 65535
      by f a never unmet q = refl
      by f a never (due d) q = absurd (never d (f.sound.real a d (at-is ms a d (due d) q refl)))
      by f a never (examined d) q = absurd (never d (f.sound.real a d (at-is ms a d (examined d) q refl)))

  -- what the loop that walks keeps
  pub record Going (n : ℕ) (ms : List Mark) : Type 0 where
    pub fuel : ℕ
    pub answer : walk clash look n ≡ turns clash look fuel ms
    pub enough : all_ahead ms < fuel
    pub sound : Sound look ms
    pub size : length ms ≡ n

  pub going_start : (n : ℕ) → Going (suc n) (begun n)
  unfolding walk all_ahead
  going_start n =
      record { fuel = suc (suc n); answer = refl; enough = omega (arith, unmet-ahead n); sound = begun-sound n; size = ap suc (length-replicate n unmet) }

  turn-turns : (f : ℕ) (ms : List Mark) (x : Turn) → turn clash look ms ≡ x → turns clash look (suc f) ms ≡ go_on x (λ later. turns clash look f later)
  unfolding turns
  turn-turns f ms x e = ap (λ (z : Turn). go_on z (λ later. turns clash look f later)) e

  pub going_on : (n : ℕ) (ms later : List Mark) → Going n ms → turn clash look ms ≡ more later → Going n later × (all_ahead later < all_ahead ms)
  going_on n ms later g e = by g.fuel g.answer g.enough
    where
      by : (f : ℕ) → walk clash look n ≡ turns clash look f ms → all_ahead ms < f → Going n later × (all_ahead later < all_ahead ms)
      by zero a c = absurd (not-suc-le-zero c)
      by (suc f) a c =
          let k : Turned ms (more later) = subst (Turned ms) e (turn-right ms g.sound) in
          (record { fuel = f; answer = a ∙ turn-turns f ms (more later) e; enough = omega (arith, k.1); sound = k.0; size = k.2 ∙ g.size }, k.1)

  pub going-stop : (n : ℕ) (ms : List Mark) (w : Walked) → Going n ms → turn clash look ms ≡ done w → walk clash look n ≡ w
  going-stop n ms w g e = by g.fuel g.answer g.enough
    where
      by : (f : ℕ) → walk clash look n ≡ turns clash look f ms → all_ahead ms < f → walk clash look n ≡ w
      by zero a c = absurd (not-suc-le-zero c)
      by (suc f) a c = a ∙ turn-turns f ms (done w) e

  -- a turn, where the lowest due is known
  pub turn-due : (ms : List Mark) (a d : ℕ) → Lowest ms a → get_or ms a unmet ≡ due d → turn clash look ms ≡ examine clash ms a d (look a d)
  unfolding turn
  turn-due ms a d l e =
      let q : lowest ms ≡ a = lowest-one ms (lowest ms) a (lowest-is ms) l in
      ap (λ (x : ℕ). turn_at clash look ms x (get_or ms x unmet)) q ∙ ap (λ (m : Mark). turn_at clash look ms a m) e

  -- and where there is none
  pub turn-none : (ms : List Mark) → Lowest ms (length ms) → turn clash look ms ≡ done (accepted ms)
  unfolding turn
  turn-none ms l =
      let q : lowest ms ≡ length ms = lowest-one ms (lowest ms) (length ms) (lowest-is ms) l in
      ap (λ (x : ℕ). turn_at clash look ms x (get_or ms x unmet)) q ∙ ap (λ (m : Mark). turn_at clash look ms (length ms) m) (get_or-eq_default ms unmet (le_refl (length ms)))
