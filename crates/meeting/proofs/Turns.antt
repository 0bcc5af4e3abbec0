-- What the code's steps do to the marks that the map and the set hold.
-- Assumes nothing.
use Prim.Native.Nat.{ℕ, ◌<◌, ◌≤◌}
use native.Mathlib.Omega.{arith}
use mathlib.Core.Path.{◌≡◌, refl, sym, ap, ◌∙◌, subst}
use mathlib.Core.Logic.{⊎_elim, ◌≢◌}
use mathlib.Core.List.{List, [], ◌∷◌}
use lib.Dec.{eqb}
use lib.ListN.{length, get_or, set, length-set}
use lib.Seq.{get_or-set_same, get_or-set_other}
use borrow.Author.Tests.{lt-ltb, le-ltb, eq-eqb, ne_eqb}
use Rattle.std.specs.Prelude.{Option, Some, None, Result, Ok, Err}
use Rattle.basis.specs.Pick.{pick}
use Rattle.basis.specs.declared.refusal.Refusal.{Refusal}
use Rattle.basis.proofs.Tests.{same?}
use Rattle.paths.specs.Paths.{Hop, hop}
use Rattle.paths.specs.Walk.{Mark, unmet, due, examined, Meeting, kept, broke, meet_at, meet, on_meeting, meets, turned, cell_of}
use Rattle.paths.proofs.Marks.{at-is, at-inside}
use Rattle.pending.specs.Sets.{held, member, Joined, Beside}
use Rattle.meeting.specs.Clash.{two_depths}
use Rattle.meeting.specs.Stands.{Small, Maps, due_in, Stands, Went, Turned}

-- a depth in range is no 65,535
module _ {depths : List ℕ} {marks : List Mark} (m : Maps depths marks) (b : ℕ) (i : b < length depths) where
  inside : b < length marks
  inside = let l = m.len in omega arith

  pub cell-unmet : get_or depths b 0 ≡ 65535 → get_or marks b unmet ≡ unmet
  cell-unmet e = by (get_or marks b unmet) refl (m.small b)
    where
      by : (x : Mark) → get_or marks b unmet ≡ x → Small x → x ≡ unmet
      by unmet q s = refl
      by (due d) q s = let c : get_or depths b 0 ≡ d = m.cells b inside ∙ ap cell_of q in absurd (omega arith)
      by (examined d) q s = let c : get_or depths b 0 ≡ d = m.cells b inside ∙ ap cell_of q in absurd (omega arith)

  -- meeting an address whose cell is not 65,535
  again-at : get_or depths b 0 ≢ 65535 → (e : ℕ) → meet two_depths marks b e ≡ pick (eqb (get_or depths b 0) e) (kept marks) (broke 10)
  unfolding meet
  again-at n e = rw (lt-ltb b (length marks) inside) (by (get_or marks b unmet) refl)
    where
      by : (x : Mark) → get_or marks b unmet ≡ x → meet_at two_depths marks b e x ≡ pick (eqb (get_or depths b 0) e) (kept marks) (broke 10)
      by unmet q = absurd (n (m.cells b inside ∙ ap cell_of q))
      by (due d) q = rw (m.cells b inside ∙ ap cell_of q)
      by (examined d) q = rw (m.cells b inside ∙ ap cell_of q)

  pub meet-known : get_or depths b 0 ≢ 65535 → (e : ℕ) → get_or depths b 0 ≡ e → meet two_depths marks b e ≡ kept marks
  meet-known n e q = again-at n e ∙ rw (eq-eqb (get_or depths b 0) e q)

  pub meet-clash : get_or depths b 0 ≢ 65535 → (e : ℕ) → get_or depths b 0 ≢ e → meet two_depths marks b e ≡ broke 10
  meet-clash n e q = again-at n e ∙ rw (ne_eqb (get_or depths b 0) e q)

  -- one cell and its mark are stored
  pub maps-set : (x : Mark) → Small x → Maps (set depths b (cell_of x)) (set marks b x)
  maps-set x s =
      record {
        len = length-set depths b (cell_of x) ∙ m.len ∙ sym (length-set marks b x);
        cells = λ a h.
            ⊎_elim
            (λ e. ap (λ (k : ℕ). get_or (set depths b (cell_of x)) k 0) e ∙ get_or-set_same depths b (cell_of x) 0 i
            ∙ sym (ap cell_of (ap (λ (k : ℕ). get_or (set marks b x) k unmet) e ∙ get_or-set_same marks b x unmet inside)))
            (λ n. get_or-set_other depths b a (cell_of x) 0 n ∙ m.cells a (omega (arith, length-set marks b x)) ∙ sym (ap cell_of (get_or-set_other marks b a x unmet n)))
            (same? a b);
        small = λ a.
            ⊎_elim
            (λ e. subst Small (sym (ap (λ (k : ℕ). get_or (set marks b x) k unmet) e ∙ get_or-set_same marks b x unmet inside)) s)
            (λ n. subst Small (sym (get_or-set_other marks b a x unmet n)) (m.small a))
            (same? a b);
      }

pub meet-past : {depths : List ℕ} {marks : List Mark} → Maps depths marks → (b e : ℕ) → length depths ≤ b → meet two_depths marks b e ≡ broke 1
unfolding meet
meet-past {depths} {marks} m b e h = let l = m.len in rw (le-ltb b (length marks) (omega arith))

pub meet-unmet : (marks : List Mark) (b e : ℕ) → b < length marks → get_or marks b unmet ≡ unmet → meet two_depths marks b e ≡ kept (set marks b (due e))
unfolding meet
meet-unmet marks b e h u = rw (lt-ltb b (length marks) h, u)

-- successors met one after another
kept-one : (ms later : List Mark) → kept ms ≡ kept later → ms ≡ later
kept-one ms later e = cc

broke-kept : (k : ℕ) (ms : List Mark) → broke k ≡ kept ms → ⊥
broke-kept k ms e = let z : ◌≡◌ {A = ℕ} 0 1 = cc in omega arith

module _ (marks : List Mark) (b e : ℕ) where
  pub one-met : (r : Meeting) → meet two_depths marks b e ≡ r → meets two_depths marks (hop b e ∷ []) ≡ r
  unfolding meets
  one-met (kept later) q = rw q
  one-met (broke k) q = rw q

  pub then-met : (later : List Mark) (hs : List Hop) → meets two_depths marks (hop b e ∷ []) ≡ kept later → meets two_depths marks (hop b e ∷ hs) ≡ meets two_depths later hs
  unfolding meets
  then-met later hs q = by (meet two_depths marks b e) q
    where
      by : (r : Meeting) → on_meeting r (λ l. kept l) ≡ kept later → on_meeting r (λ l. meets two_depths l hs) ≡ meets two_depths later hs
      by (kept l) w = ap (λ (z : List Mark). meets two_depths z hs) (kept-one l later w)
      by (broke k) w = absurd (broke-kept k later w)

  pub then-broke : (k : ℕ) (hs : List Hop) → meets two_depths marks (hop b e ∷ []) ≡ broke k → meets two_depths marks (hop b e ∷ hs) ≡ broke k
  unfolding meets
  then-broke k hs q = by (meet two_depths marks b e) q
    where
      by : (r : Meeting) → on_meeting r (λ l. kept l) ≡ broke k → on_meeting r (λ l. meets two_depths l hs) ≡ broke k
      by (kept l) w = absurd (broke-kept k l (sym w))
      by (broke j) w = w

-- what the set says of one address
pub member-beside : (words : List ℕ) (beside b : ℕ) → b ≡ beside → member words (Some beside) b ≡ 1
member-beside words beside b e = rw (eq-eqb b beside e)

pub member-other : (words : List ℕ) (beside b : ℕ) → b ≢ beside → member words (Some beside) b ≡ held words b
member-other words beside b n = rw (ne_eqb b beside n)

due-digit : (x : Mark) → due_in x ≡ 1 → (d : ℕ) × (x ≡ due d)
due-digit unmet e = absurd (omega arith)
due-digit (due d) e = (d, refl)
due-digit (examined d) e = absurd (omega arith)

-- an address x comes into the set, beside which another may stand
module _ {words later : List ℕ} {x : ℕ} (j : Joined words x later) where
  joined-same : (beside : Option ℕ) → member later beside x ≡ 1
  joined-same None = j.new
  joined-same (Some b) = ⊎_elim (member-beside later b x) (λ n. member-other later b x n ∙ j.new) (same? x b)

  joined-other : (beside : Option ℕ) (a : ℕ) → a ≢ x → member later beside a ≡ member words beside a
  joined-other None a n = j.others a n
  joined-other (Some b) a n = ap (pick (eqb a b) 1) (j.others a n)

  joined-beside : (beside : Option ℕ) → member words beside x ≡ 0 → Beside words beside → Beside later beside
  joined-beside None z h = tt
  joined-beside (Some b) z h = (h.0, j.others b (λ q. let o : ◌≡◌ {A = ℕ} 1 0 = sym (member-beside words b x (sym q)) ∙ z in omega arith) ∙ h.1)

-- the address x is met for the first time and put into the set
pub stands-put :
    {depths words after later : List ℕ} {beside : Option ℕ} {marks : List Mark} → Stands depths words beside marks → (x e : ℕ) → x < length marks → get_or marks x unmet ≡ unmet
    → Maps after (set marks x (due e)) → Joined words x later → Stands after later beside (set marks x (due e))
stands-put {later = later} {beside = beside} {marks = marks} s x e i u m j =
    let l = s.size in
    record {
      maps = m;
      size = omega (arith, length-set marks x (due e));
      out = joined-beside j beside (s.dues x (omega arith) ∙ ap due_in u) s.out;
      dues = λ a h.
          ⊎_elim
          (λ q. ap (member later beside) q ∙ joined-same j beside ∙ sym (ap due_in (ap (λ (k : ℕ). get_or (set marks x (due e)) k unmet) q ∙ get_or-set_same marks x (due e) unmet i)))
          (λ n. joined-other j beside a n ∙ s.dues a h ∙ sym (ap due_in (get_or-set_other marks x a (due e) unmet n)))
          (same? a x);
    }

-- the address b is met for the first time, with nothing beside the set, and stands beside it
pub stands-beside :
    {depths words after : List ℕ} {marks : List Mark} → Stands depths words None marks → (b e : ℕ) → b < length marks → get_or marks b unmet ≡ unmet
    → Maps after (set marks b (due e)) → Stands after words (Some b) (set marks b (due e))
stands-beside {words = words} {marks = marks} s b e i u m =
    let l = s.size in
    record {
      maps = m;
      size = omega (arith, length-set marks b (due e));
      out = (omega arith, s.dues b (omega arith) ∙ ap due_in u);
      dues = λ a h.
          ⊎_elim
          (λ q. member-beside words b a q ∙ sym (ap due_in (ap (λ (k : ℕ). get_or (set marks b (due e)) k unmet) q ∙ get_or-set_same marks b (due e) unmet i)))
          (λ n. member-other words b a n ∙ s.dues a h ∙ sym (ap due_in (get_or-set_other marks b a (due e) unmet n)))
          (same? a b);
    }

-- the address beside the set is due at the depth in its cell
pub beside-due : {depths words : List ℕ} {at : ℕ} {marks : List Mark} → Stands depths words (Some at) marks → get_or marks at unmet ≡ due (get_or depths at 0)
beside-due {depths} {words} {at} {marks} s =
    let p = due-digit (get_or marks at unmet) (sym (s.dues at s.out.0) ∙ member-beside words at at refl) in
    let i : at < length marks = at-inside (at-is marks at p.0 (due p.0) p.1 refl) in
    p.1 ∙ ap due (sym (s.maps.cells at i ∙ ap cell_of p.1))

pub beside-inside : {depths words : List ℕ} {at : ℕ} {marks : List Mark} → Stands depths words (Some at) marks → at < length marks
beside-inside {depths} {words} {at} {marks} s = at-inside (at-is marks at (get_or depths at 0) (due (get_or depths at 0)) (beside-due s) refl)

due-small : (x : Mark) (d : ℕ) → x ≡ due d → Small x → d ≤ 1024
due-small x d e h = subst Small e h

-- once it is marked as examined, nothing is beside the set
pub stands-examined :
    {depths words : List ℕ} {at : ℕ} {marks : List Mark} → Stands depths words (Some at) marks
    → Stands depths words None (set marks at (examined (get_or depths at 0)))
stands-examined {depths} {words} {at} {marks} s =
    let d : ℕ = get_or depths at 0 in
    let i = beside-inside s in
    let u = beside-due s in
    record {
      maps = record {
        len = s.maps.len ∙ sym (length-set marks at (examined d));
        cells = λ a l.
            ⊎_elim
            (λ q. ap (λ (k : ℕ). get_or depths k 0) q ∙ sym (ap cell_of (ap (λ (k : ℕ). get_or (set marks at (examined d)) k unmet) q ∙ get_or-set_same marks at (examined d) unmet i)))
            (λ n. s.maps.cells a (omega (arith, length-set marks at (examined d))) ∙ sym (ap cell_of (get_or-set_other marks at a (examined d) unmet n)))
            (same? a at);
        small = λ a.
            ⊎_elim
            (λ q. subst Small (sym (ap (λ (k : ℕ). get_or (set marks at (examined d)) k unmet) q ∙ get_or-set_same marks at (examined d) unmet i)) (due-small (get_or marks at unmet) d u (s.maps.small at)))
            (λ n. subst Small (sym (get_or-set_other marks at a (examined d) unmet n)) (s.maps.small a))
            (same? a at);
      };
      size = let l = s.size in omega (arith, length-set marks at (examined d));
      out = tt;
      dues = λ a l.
          ⊎_elim
          (λ q. ap (held words) q ∙ s.out.1 ∙ sym (ap due_in (ap (λ (k : ℕ). get_or (set marks at (examined d)) k unmet) q ∙ get_or-set_same marks at (examined d) unmet i)))
          (λ n. sym (member-other words at a n) ∙ s.dues a l ∙ sym (ap due_in (get_or-set_other marks at a (examined d) unmet n)))
          (same? a at);
    }

-- what meeting gave is what examining gives
pub went-turned : (a : ℕ) (m : Meeting) (r : Result (Option ℕ) Refusal) (depths words : List ℕ) → Went m r depths words → Turned a (turned a m) r depths words
went-turned a m (Ok beside) depths words w = (w.0, ap (turned a) w.1, w.2)
went-turned a m (Err why) depths words w = ap (turned a) w
