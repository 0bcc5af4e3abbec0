-- What the verifier's answer says of the program: from the answer back to the checks and the walk, and the map of an accepted
-- program is sealed.
-- Assumes nothing.
use Prim.Native.Nat.{ℕ, ◌≤◌}
use native.Mathlib.Omega.{arith}
use mathlib.Core.Path.{◌≡◌, refl, sym, ap, ◌∙◌, subst}
use mathlib.Core.Logic.{◌⊎◌, inl, inr, ⊎_elim, ◌≢◌}
use mathlib.Core.Bool.{Bool, true, false}
use mathlib.Core.List.{List, map}
use lib.Dec.{ltb, eqb}
use lib.ListN.{length, get_or, replicate, get_or-map}
use borrow.Author.Tests.{ltb-true, ltb-false, eqb-true, eqb-false}
use Rattle.basis.specs.Pick.{pick}
use Rattle.basis.proofs.Tests.{false-true}
use Rattle.paths.specs.Walk.{Mark, unmet, due, examined, Walked, accepted, refused, is_due, cell_of}
use Rattle.paths.proofs.Marks.{Says, At}
use Rattle.paths.proofs.Walks.{Final, Closed}
use Rattle.look.specs.Look.{look_of}
use Rattle.look.proofs.Shallow.{shallow}
use Rattle.verifier.specs.Verify.{Judged, good, names, nameless, walk_of, Verified, on_walk, verify_of}
use Rattle.safety.specs.Sealed.{Sealed}
use Rattle.guarantee.specs.Demands.{Admissible, Early, long_program, many_cells, unlike_map}

pair_one : (a b : Judged) (m n : List ℕ) → ◌≡◌ {A = Verified} (a, m) (b, n) → (a ≡ b) × (m ≡ n)
pair_one a b m n e = (ap (λ (v : Verified). v.0) e, ap (λ (v : Verified). v.1) e)

good-names : (n a : ℕ) → good ≡ names n a → ⊥
good-names n a e = let z : ◌≡◌ {A = ℕ} 0 1 = cc in omega arith

good-nameless : (n : ℕ) → good ≡ nameless n → ⊥
good-nameless n e = let z : ◌≡◌ {A = ℕ} 0 1 = cc in omega arith

nameless-names : (k n a : ℕ) → nameless k ≡ names n a → ⊥
nameless-names k n a e = let z : ◌≡◌ {A = ℕ} 0 1 = cc in omega arith

nameless-one : (k n : ℕ) → nameless k ≡ nameless n → k ≡ n
nameless-one k n e = cc

names-one : (k a n b : ℕ) → names k a ≡ names n b → (k ≡ n) × (a ≡ b)
names-one k a n b e = (cc, cc)

-- what the walk gave, where the verifier came to it
abbrev Walking : List ℕ → ℕ → List ℕ → Verified → Type 0
Walking program cells depths v = Admissible program cells depths × (v ≡ on_walk (length program) (walk_of program cells))

-- the answer is a check's, or the walk's
pub split : (program : List ℕ) (cells : ℕ) (depths : List ℕ) (v : Verified) → verify_of program cells depths ≡ v
    → ((n : ℕ) × Early program cells depths n × (v ≡ (nameless n, depths))) ⊎ Walking program cells depths v
unfolding verify_of
split program cells depths v e = by (ltb 16384 (length program)) (ltb 1024 cells) (eqb (length depths) (length program)) refl refl refl e
  where
    by : (t u w : Bool) → ltb 16384 (length program) ≡ t → ltb 1024 cells ≡ u → eqb (length depths) (length program) ≡ w
        → pick t (nameless 20, depths) (pick u (nameless 22, depths) (pick w (on_walk (length program) (walk_of program cells)) (nameless 23, depths))) ≡ v
        → ((n : ℕ) × Early program cells depths n × (v ≡ (nameless n, depths))) ⊎ Walking program cells depths v
    by true u w x y z q = inl (20, long_program (ltb-true 16384 (length program) x), sym q)
    by false true w x y z q = inl (22, many_cells (ltb-false 16384 (length program) x) (ltb-true 1024 cells y), sym q)
    by false false true x y z q = inr (record { size = ltb-false 16384 (length program) x; few = ltb-false 1024 cells y; alike = eqb-true (length depths) (length program) z }, sym q)
    by false false false x y z q = inl (23, unlike_map (ltb-false 16384 (length program) x) (ltb-false 1024 cells y) (eqb-false (length depths) (length program) z), sym q)

-- an accepted program: the walk's marks, and the map
pub record Marked (program : List ℕ) (cells : ℕ) (depths after : List ℕ) : Type 0 where
  pub admissible : Admissible program cells depths
  pub marks : List Mark
  pub walked : walk_of program cells ≡ accepted marks
  pub filled : after ≡ map cell_of marks

pub accepted-marks : (program : List ℕ) (cells : ℕ) (depths after : List ℕ) → verify_of program cells depths ≡ (good, after) → Marked program cells depths after
accepted-marks program cells depths after e = ⊎_elim (λ z. absurd (good-nameless z.0 (pair_one _ _ _ _ z.2).0)) walked (split program cells depths (good, after) e)
  where
    walked : Walking program cells depths (good, after) → Marked program cells depths after
    walked w = by (walk_of program cells) refl w.1
      where
        by : (x : Walked) → walk_of program cells ≡ x → (good, after) ≡ on_walk (length program) x → Marked program cells depths after
        by (accepted ms) q h = record { admissible = w.0; marks = ms; walked = q; filled = (pair_one _ _ _ _ h).1 }
        by (refused k a) q h = absurd (good-names k a (pair_one _ _ _ _ h).0)

-- a program that the walk refused
pub refused-walk : (program : List ℕ) (cells : ℕ) (depths after : List ℕ) (n a : ℕ) → verify_of program cells depths ≡ (names n a, after)
    → (walk_of program cells ≡ refused n a) × (after ≡ replicate (length program) 65535)
refused-walk program cells depths after n a e = ⊎_elim (λ z. absurd (nameless-names z.0 n a (sym (pair_one _ _ _ _ z.2).0))) walked (split program cells depths (names n a, after) e)
  where
    walked : Walking program cells depths (names n a, after) → (walk_of program cells ≡ refused n a) × (after ≡ replicate (length program) 65535)
    walked w = by (walk_of program cells) refl w.1
      where
        by : (x : Walked) → walk_of program cells ≡ x → (names n a, after) ≡ on_walk (length program) x → (x ≡ refused n a) × (after ≡ replicate (length program) 65535)
        by (accepted ms) q h = absurd (good-names n a (sym (pair_one _ _ _ _ h).0))
        by (refused k b) q h =
            let p = names-one n a k b (pair_one _ _ _ _ h).0 in
            (rw (p.0, p.1), (pair_one _ _ _ _ h).1)

-- the map of an accepted program is sealed
module _ (program : List ℕ) (cells : ℕ) (few : cells ≤ 1024) (ms : List Mark) (f : Final (look_of program cells) ms) where
  cell_at : (b e : ℕ) → At ms b e → get_or (map cell_of ms) b 65535 ≡ e
  cell_at b e h = get_or-map cell_of ms b unmet ∙ by (get_or ms b unmet) h.says
    where
      by : (m : Mark) → Says m e → cell_of m ≡ e
      by unmet s = absurd s
      by (due x) s = s
      by (examined x) s = s

  shut : (a d : ℕ) → get_or (map cell_of ms) a 65535 ≡ d → d ≢ 65535 → Closed (look_of program cells) ms a d
  shut a d e n = by (get_or ms a unmet) refl
    where
      cell : (m : Mark) → get_or ms a unmet ≡ m → cell_of m ≡ d
      cell m q = sym (ap cell_of q) ∙ sym (get_or-map cell_of ms a unmet) ∙ e

      by : (m : Mark) → get_or ms a unmet ≡ m → Closed (look_of program cells) ms a d
      by unmet q = absurd (n (sym (cell unmet q)))
      by (due x) q = absurd (false-true (sym (f.rest a) ∙ ap is_due q))
      by (examined x) q = f.sound.closed a d (q ∙ ap examined (cell (examined x) q))

  pub final-sealed : Sealed program cells (map cell_of ms)
  final-sealed =
      record {
        begun = cell_at 0 0 f.sound.begins;
        closed = λ a d e n.
            let c = shut a d e n in
            (c.hops, c.leading, λ b x i. (cell_at b x (c.onto b x i), λ q. let l = shallow program cells a d b x c.hops c.leading i in omega arith));
      }

-- a refusal before the walk
pub early-refused : (program : List ℕ) (cells : ℕ) (depths after : List ℕ) (n : ℕ) → verify_of program cells depths ≡ (nameless n, after) → Early program cells depths n
early-refused program cells depths after n e =
    ⊎_elim
    (λ z. subst (Early program cells depths) (nameless-one z.0 n (sym (pair_one _ _ _ _ z.2).0)) z.1)
    (λ w. absurd (none (walk_of program cells) w.1))
    (split program cells depths (nameless n, after) e)
  where
    none : (x : Walked) → (nameless n, after) ≡ on_walk (length program) x → ⊥
    none (accepted ms) h = good-nameless n (sym (pair_one _ _ _ _ h).0)
    none (refused k a) h = nameless-names n k a (pair_one _ _ _ _ h).0

-- there is always an answer
pub answer : (program : List ℕ) (cells : ℕ) (depths : List ℕ)
    → ((after : List ℕ) × (verify_of program cells depths ≡ (good, after)))
    ⊎ (((n : ℕ) × (verify_of program cells depths ≡ (nameless n, depths)))
    ⊎ ((n : ℕ) × (a : ℕ) × (verify_of program cells depths ≡ (names n a, replicate (length program) 65535))))
answer program cells depths =
    ⊎_elim (λ z. inr (inl (z.0, z.2))) (λ w. by (walk_of program cells) w.1) (split program cells depths (verify_of program cells depths) refl)
  where
    by : (x : Walked) → verify_of program cells depths ≡ on_walk (length program) x
        → ((after : List ℕ) × (verify_of program cells depths ≡ (good, after)))
        ⊎ (((n : ℕ) × (verify_of program cells depths ≡ (nameless n, depths)))
        ⊎ ((n : ℕ) × (a : ℕ) × (verify_of program cells depths ≡ (names n a, replicate (length program) 65535))))
    by (accepted ms) h = inl (map cell_of ms, h)
    by (refused k a) h = inr (inr (k, a, h))
