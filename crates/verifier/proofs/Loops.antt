-- What the loop that walks keeps, from its start to its end, and what falls.
-- Assumes nothing.
use Prim.Native.Nat.{ℕ, zero, suc, ◌+◌, ◌<◌, ◌≤◌}
use native.Mathlib.Omega.{arith}
use native.Mathlib.Nat.{le_of_suc-le-suc, not-suc-le-zero, add-zero}
use mathlib.Core.Path.{◌≡◌, refl, sym, ap, ◌∙◌, subst}
use mathlib.Core.Bool.{false}
use mathlib.Core.List.{List, [], ◌∷◌, map}
use lib.Dec.{eqb}
use lib.ListN.{length, get_or, set, replicate, length-map, length-replicate, get_or-replicate}
use lib.Seq.{ext_get_or}
use Rattle.std.proofs.lemmas.List.{get_or-map}
use borrow.Author.Tests.{ne_eqb}
use Rattle.std.specs.Prelude.{Option, Some, None, Ok, Err}
use Rattle.basis.specs.Pick.{pick}
use Rattle.basis.specs.Refusal.{number_of}
use Rattle.basis.specs.declared.refusal.Refusal.{Refusal}
use Rattle.paths.specs.Walk.{Mark, unmet, due, examined, accepted, refused, done, is_due, examine, begun, turn, cell_of}
use Rattle.paths.proofs.Marks.{all_ahead}
use Rattle.paths.proofs.Walks.{Going, going_start, going_on, going-stop, turn-due, turn-none}
use Rattle.pending.specs.Sets.{held, member, Beside, Taken, end_of}
use Rattle.look.specs.Look.{look_of}
use Rattle.meeting.specs.Clash.{two_depths}
use Rattle.verifier.specs.Verify.{good, names, walk_of, on_walk}
use Rattle.meeting.specs.Stands.{Small, Maps, due_in, Stands, Turned, TurnedAny}
use Rattle.meeting.proofs.Turns.{member-beside, member-other, beside-due, beside-inside}

-- the marks that a map and a set hold, from address k on
abbrev mark_of : ℕ → ℕ → Mark
mark_of c m = pick (eqb c 65535) unmet (pick (eqb m 1) (due c) (examined c))

abbrev marks_from : List ℕ → Option ℕ → ℕ → List ℕ → List Mark
marks_from words beside k [] = []
marks_from words beside k (c ∷ cs) = mark_of c (member words beside k) ∷ marks_from words beside (suc k) cs

-- how many addresses are not examined
unfoldable pub to_go : List ℕ → List ℕ → Option ℕ → ℕ
to_go depths words beside = all_ahead (marks_from words beside 0 depths)

from-length : (words : List ℕ) (beside : Option ℕ) (k : ℕ) (cs : List ℕ) → length (marks_from words beside k cs) ≡ length cs
from-length words beside k [] = refl
from-length words beside k (c ∷ cs) = ap suc (from-length words beside (suc k) cs)

from_at : (words : List ℕ) (beside : Option ℕ) (k : ℕ) (cs : List ℕ) (i : ℕ) → i < length cs → get_or (marks_from words beside k cs) i unmet ≡ mark_of (get_or cs i 0) (member words beside (k + i))
from_at words beside k [] i h = absurd (not-suc-le-zero h)
from_at words beside k (c ∷ cs) zero h = ap (λ (j : ℕ). mark_of c (member words beside j)) (sym (add-zero k))
from_at words beside k (c ∷ cs) (suc i) h = from_at words beside (suc k) cs i (le_of_suc-le-suc h) ∙ ap (λ (j : ℕ). mark_of (get_or cs i 0) (member words beside j)) (omega arith)

mark-is : (c m : ℕ) (x : Mark) → c ≡ cell_of x → m ≡ due_in x → Small x → mark_of c m ≡ x
mark-is c m unmet p q s = rw p
mark-is c m (due d) p q s = rw (p, q, ne_eqb d 65535 (λ e. omega (arith, e)))
mark-is c m (examined d) p q s = rw (p, q, ne_eqb d 65535 (λ e. omega (arith, e)))

to-go : {depths words : List ℕ} {beside : Option ℕ} {marks : List Mark} → Stands depths words beside marks → to_go depths words beside ≡ all_ahead marks
unfolding to_go
to-go {depths} {words} {beside} {marks} s =
    ap all_ahead
    (ext_get_or unmet (marks_from words beside 0 depths) marks (from-length words beside 0 depths ∙ s.maps.len)
    (λ i h.
    let l : i < length depths = omega (arith, from-length words beside 0 depths) in
    let k : i < length marks = let e = s.maps.len in omega arith in
    from_at words beside 0 depths i l
    ∙ mark-is (get_or depths i 0) (member words beside (0 + i)) (get_or marks i unmet) (s.maps.cells i k) (ap (member words beside) (omega arith) ∙ s.dues i (let z = s.size in omega arith)) (s.maps.small i)))

-- the state of the loop: the marks that it holds, and the lowest address that is due, if any is
pub record Walking (program : List ℕ) (cells : ℕ) (depths words : List ℕ) (due : Option ℕ) : Type 0 where
  pub marks : List Mark
  pub stands : Stands depths words due marks
  pub none : (b : ℕ) → b < end_of due → held words b ≡ 0
  pub going : Going two_depths (look_of program cells) (length program) marks

not-due : (x : Mark) → due_in x ≡ 0 → is_due x ≡ false
not-due unmet e = refl
not-due (due d) e = absurd (omega arith)
not-due (examined d) e = refl

-- an address is due
module _ {program : List ℕ} {cells : ℕ} {depths words : List ℕ} {at : ℕ} (w : Walking program cells depths words (Some at)) where
  below : (b : ℕ) → b < at → is_due (get_or w.marks b unmet) ≡ false
  below b h =
      not-due (get_or w.marks b unmet)
      (sym (w.stands.dues b (let z = w.stands.out.0 in omega arith)) ∙ member-other words at b (λ e. omega (arith, e)) ∙ w.none b h)

  turn_at : turn two_depths (look_of program cells) w.marks ≡ examine two_depths w.marks at (get_or depths at 0) (look_of program cells at (get_or depths at 0))
  turn_at =
      let i = beside-inside w.stands in
      let u = beside-due w.stands in
      turn-due two_depths (look_of program cells) w.marks at (get_or depths at 0) (record { bound = omega arith; none = below; some = λ l. ap is_due u }) u

  pub walking-inside : at < length depths
  walking-inside = let i = beside-inside w.stands in let e = w.stands.maps.len in omega arith

  pub walking-size : length depths ≤ 16384
  walking-size = let i = w.stands.size in let e = w.stands.maps.len in omega arith

  -- the walk ends with a refusal
  pub walking-stop :
      (why : Refusal) → examine two_depths w.marks at (get_or depths at 0) (look_of program cells at (get_or depths at 0)) ≡ done (refused (number_of why) at)
      → walk_of program cells ≡ refused (number_of why) at
  walking-stop why e = going-stop two_depths (look_of program cells) (length program) w.marks (refused (number_of why) at) w.going (turn_at ∙ e)

  -- it goes on
  pub walking_on :
      {after mid last : List ℕ} (beside low : Option ℕ)
      → Turned at (examine two_depths w.marks at (get_or depths at 0) (look_of program cells at (get_or depths at 0))) (Ok beside) after mid
      → Taken mid beside low last → Walking program cells after last low × (to_go after last low < to_go depths words (Some at))
  walking_on {after} {mid} {last} beside low t k =
      let later = t.0 in
      let g = going_on two_depths (look_of program cells) (length program) w.marks later w.going (turn_at ∙ t.1) in
      let s : Stands after last low later = record {
        maps = t.2.maps;
        size = t.2.size;
        out = k.out;
        dues = λ a l. k.same a l ∙ t.2.dues a l;
      } in (
        record {
          marks = later;
          stands = s;
          none = λ b l. sym (before-end low last k.out b l) ∙ k.same b (let z = end-bound low last k.out in omega arith) ∙ k.none b l;
          going = g.0;
        },
        let x = g.1 in omega (arith, to-go s, to-go w.stands),
      )
    where
      before-end : (low : Option ℕ) (words : List ℕ) → Beside words low → (b : ℕ) → b < end_of low → member words low b ≡ held words b
      before-end None words h b l = refl
      before-end (Some a) words h b l = member-other words a b (λ e. omega (arith, e))

      end-bound : (low : Option ℕ) (words : List ℕ) → Beside words low → end_of low ≤ 16384
      end-bound None words h = omega arith
      end-bound (Some a) words h = let l = h.0 in omega arith

-- nothing is due
module _ {program : List ℕ} {cells : ℕ} {depths words : List ℕ} (w : Walking program cells depths words None) where
  pub walking-end : (walk_of program cells ≡ accepted w.marks) × (depths ≡ map cell_of w.marks)
  walking-end = (
    going-stop two_depths (look_of program cells) (length program) w.marks (accepted w.marks) w.going
        (turn-none two_depths (look_of program cells) w.marks
        (record { bound = omega arith; none = λ k l. let z = w.stands.size in not-due (get_or w.marks k unmet) (sym (w.stands.dues k (omega arith)) ∙ w.none k (omega arith)); some = λ l. absurd (omega arith) })),
    ext_get_or 0 depths (map cell_of w.marks) (w.stands.maps.len ∙ sym (length-map w.marks cell_of))
        (λ i l.
        let k : i < length w.marks = let e = w.stands.maps.len in omega arith in
        w.stands.maps.cells i k ∙ sym (get_or-map cell_of w.marks i unmet 0 k)),
  )

-- it starts: nothing but address 0 is met
begun-at : (n a : ℕ) → get_or (begun n) (suc a) unmet ≡ unmet
begun-at zero a = refl
begun-at (suc n) zero = refl
begun-at (suc n) (suc a) = begun-at n a

begun-maps : (n : ℕ) → Maps (0 ∷ replicate n 65535) (begun n)
begun-maps n =
    record {
      len = ap suc (length-replicate n 65535 ∙ sym (length-replicate n unmet));
      cells = cells_at;
      small = small_at;
    }
  where
    cells_at : (a : ℕ) → a < length (begun n) → get_or (0 ∷ replicate n 65535) a 0 ≡ cell_of (get_or (begun n) a unmet)
    cells_at zero h = refl
    cells_at (suc a) h = get_or-replicate n a 65535 0 (omega (arith, length-replicate n unmet)) ∙ sym (ap cell_of (begun-at n a))

    small_at : (a : ℕ) → Small (get_or (begun n) a unmet)
    small_at zero = omega arith
    small_at (suc a) = subst Small (sym (begun-at n a)) tt

begun-walking : (program : List ℕ) (cells n : ℕ) (words : List ℕ) → suc n ≡ length program → suc n ≤ 16384 → ((a : ℕ) → held words a ≡ 0)
    → Walking program cells (0 ∷ replicate n 65535) words (Some 0)
begun-walking program cells n words l h e =
    record {
      marks = begun n;
      stands = record {
        maps = begun-maps n;
        size = omega (arith, length-replicate n unmet);
        out = (omega arith, e 0);
        dues = dues-at;
      };
      none = λ b k. absurd (not-suc-le-zero k);
      going = subst (λ (k : ℕ). Going two_depths (look_of program cells) k (begun n)) l (going_start two_depths (look_of program cells) n);
    }
  where
    dues-at : (a : ℕ) → a < 16384 → member words (Some 0) a ≡ due_in (get_or (begun n) a unmet)
    dues-at zero k = member-beside words 0 0 refl
    dues-at (suc a) k = member-other words 0 (suc a) (λ q. omega (arith, q)) ∙ e (suc a) ∙ sym (ap due_in (begun-at n a))

pub walking_start :
    (program : List ℕ) (cells n : ℕ) (depths words : List ℕ) → n ≡ length program → 0 < n → n ≤ 16384 → depths ≡ replicate n 65535 → ((a : ℕ) → held words a ≡ 0)
    → Walking program cells (set depths 0 0) words (Some 0)
walking_start program cells zero depths words l p h d e = absurd (not-suc-le-zero p)
walking_start program cells (suc n) depths words l p h d e =
    subst (λ (ds : List ℕ). Walking program cells (set ds 0 0) words (Some 0)) (sym d) (begun-walking program cells n words l h e)

-- what the code's answer to an examination says
module _ {program : List ℕ} {cells : ℕ} {depths words : List ℕ} {at : ℕ} (w : Walking program cells depths words (Some at)) (after mid : List ℕ) where
  pub walking-next :
      (beside low : Option ℕ) → TurnedAny (look_of program cells) at (get_or depths at 0) depths words (Ok beside) after mid → {last : List ℕ} → Taken mid beside low last
      → Walking program cells after last low × (to_go after last low < to_go depths words (Some at))
  walking-next beside low t k = walking_on w beside low (t w.marks w.stands) k

  pub walking-refused :
      (why : Refusal) → TurnedAny (look_of program cells) at (get_or depths at 0) depths words (Err why) after mid → (n : ℕ) (wiped : List ℕ) → wiped ≡ replicate n 65535 → n ≡ length program
      → (names (number_of why) at, wiped) ≡ on_walk (length program) (walk_of program cells)
  walking-refused why t n wiped e l = rw (walking-stop w why (t w.marks w.stands), e, l)

pub walking-accepted :
    {program : List ℕ} {cells : ℕ} {depths words : List ℕ} → Walking program cells depths words None → (good, depths) ≡ on_walk (length program) (walk_of program cells)
walking-accepted w = let e = walking-end w in rw e.0 (ap (λ (m : List ℕ). (good, m)) e.1)
