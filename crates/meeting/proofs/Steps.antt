-- What the code's answers say, by their cases.
-- Assumes nothing.
use Prim.Native.Nat.{ℕ, ◌≤◌}
use mathlib.Core.Path.{◌≡◌, refl, sym, ◌∙◌, subst}
use mathlib.Core.List.{List, [], ◌∷◌}
use lib.ListN.{get_or, set}
use Rattle.std.specs.Prelude.{Option, Some, None, Result, Ok, Err}
use Rattle.basis.specs.Refusal.{number_of}
use Rattle.basis.specs.declared.refusal.Refusal.{Refusal}
use Rattle.paths.specs.Paths.{Hop, hop, Outcome, leads, here}
use Rattle.paths.specs.Walk.{due, examined, kept, broke, meets, examine}
use Rattle.pending.specs.Sets.{Joined}
use Rattle.look.specs.Look.{look_of}
use Rattle.look.proofs.Shallow.{shallow}
use Rattle.meeting.specs.Clash.{two_depths}
use Rattle.meeting.specs.Stands.{MeetsAny, WentAny, Turned, TurnedAny}
use Rattle.meeting.specs.declared.Meeting.TheVariants.{New, Known}
use Rattle.meeting.proofs.Turns.{meet-unmet, one-met, then-met, then-broke, stands-put, stands-beside, stands-examined, went-turned}

-- one successor
module _ (before after : List ℕ) (b e : ℕ) where
  pub one-new : MeetsAny before b e (Ok New) after → (words : List ℕ) → WentAny before words (hop b e ∷ []) (Ok (Some b)) after words
  one-new m words marks s =
      let k = m marks s.maps in
      (set marks b (due e), one-met marks b e (kept (set marks b (due e))) (meet-unmet marks b e k.0 k.1), stands-beside s b e k.0 k.1 k.2)

  pub one-known : MeetsAny before b e (Ok Known) after → (words : List ℕ) → WentAny before words (hop b e ∷ []) (Ok None) after words
  one-known m words marks s =
      let k = m marks s.maps in
      (marks, one-met marks b e (kept marks) k.0, record { maps = k.1; size = s.size; out = tt; dues = s.dues })

  pub one-refused : (why : Refusal) → MeetsAny before b e (Err why) after → (words : List ℕ) → WentAny before words (hop b e ∷ []) (Err why) after words
  one-refused why m words marks s = one-met marks b e (broke (number_of why)) (m marks s.maps)

-- and another
module _ (before mid : List ℕ) (b e : ℕ) where
  pub two-refused-first :
      (why : Refusal) → ((words : List ℕ) → WentAny before words (hop b e ∷ []) (Err why) mid words) → (hs : List Hop) (words : List ℕ)
      → WentAny before words (hop b e ∷ hs) (Err why) mid words
  two-refused-first why w hs words marks s = then-broke marks b e (number_of why) hs (w words marks s)

  module _ (beside : Option ℕ) (w : (words : List ℕ) → WentAny before words (hop b e ∷ []) (Ok beside) mid words) (after : List ℕ) (x y : ℕ) where
    pub two-new : MeetsAny mid x y (Ok New) after → (words later : List ℕ) → Joined words x later → WentAny before words (hop b e ∷ hop x y ∷ []) (Ok beside) after later
    two-new m words later j marks s =
        let a = w words marks s in
        let ms = a.0 in
        let k = m ms a.2.maps in (
          set ms x (due y),
          then-met marks b e ms (hop x y ∷ []) a.1 ∙ one-met ms x y (kept (set ms x (due y))) (meet-unmet ms x y k.0 k.1),
          stands-put a.2 x y k.0 k.1 k.2 j,
        )

    pub two-known : MeetsAny mid x y (Ok Known) after → (words : List ℕ) → WentAny before words (hop b e ∷ hop x y ∷ []) (Ok beside) after words
    two-known m words marks s =
        let a = w words marks s in
        let ms = a.0 in
        let k = m ms a.2.maps in (
          ms,
          then-met marks b e ms (hop x y ∷ []) a.1 ∙ one-met ms x y (kept ms) k.0,
          record { maps = k.1; size = a.2.size; out = a.2.out; dues = a.2.dues },
        )

    pub two-refused : (why : Refusal) → MeetsAny mid x y (Err why) after → (words : List ℕ) → WentAny before words (hop b e ∷ hop x y ∷ []) (Err why) after words
    two-refused why m words marks s =
        let a = w words marks s in
        then-met marks b e a.0 (hop x y ∷ []) a.1 ∙ one-met a.0 x y (broke (number_of why)) (m a.0 a.2.maps)

pub went-none : (before words : List ℕ) → WentAny before words [] (Ok None) before words
unfolding meets
went-none before words marks s = (marks, refl, s)

-- an address is examined
pub turned-leads :
    (look : ℕ → ℕ → Outcome) (a : ℕ) (hs : List Hop) (before words after later : List ℕ) (r : Result (Option ℕ) Refusal) → leads hs ≡ look a (get_or before a 0)
    → WentAny before words hs r after later → TurnedAny look a (get_or before a 0) before words r after later
turned-leads look a hs before words after later r e w marks s =
    let d : ℕ = get_or before a 0 in
    let v = w (set marks a (examined d)) (stands-examined s) in
    subst (λ (z : Outcome). Turned a (examine two_depths marks a d z) r after later) e (went-turned a (meets two_depths (set marks a (examined d)) hs) r after later v)

-- what the code looked at is no deeper than the cells
module _ (program : List ℕ) (cells a d : ℕ) where
  pub one-deep : (b e : ℕ) → leads (hop b e ∷ []) ≡ look_of program cells a d → e ≤ cells
  one-deep b e o = shallow program cells a d b e (hop b e ∷ []) (sym o) here

  pub two-deep : (b x e : ℕ) → leads (hop b e ∷ hop x e ∷ []) ≡ look_of program cells a d → e ≤ cells
  two-deep b x e o = shallow program cells a d b e (hop b e ∷ hop x e ∷ []) (sym o) here
