-- The rule refuses an instruction exactly where something is wrong with it.
-- Assumes nothing.
use Prim.Native.Nat.{ℕ, ◌+◌, ◌-◌, ◌<◌, ◌≤◌}
use native.Mathlib.Omega.{arith}
use mathlib.Core.Path.{◌≡◌, refl}
use mathlib.Core.Logic.{◌⊎◌, inl, inr, ⊎_elim}
use mathlib.Core.Bool.{Bool, true, false}
use mathlib.Core.List.{List, []}
use lib.Dec.{ltb, eqb}
use lib.ListN.{length}
use borrow.Author.Tests.{ltb-true, ltb-false, eqb-false, lt-ltb, ne_eqb}
use Rattle.basis.specs.Pick.{pick}
use Rattle.basis.specs.Answer.{Answer, given, refused}
use Rattle.basis.proofs.Tests.{false-true, test}
use Rattle.isa.specs.Op.{op_of}
use Rattle.isa.specs.Shape.{taken_of, pushed_of, way_of, depth_after}
use Rattle.decoder.specs.Decode.{Reading, decode_of}
use Rattle.isa.specs.declared.Way.{Way}
use Rattle.isa.specs.declared.Way.TheVariants.{Stop, Next, Jump, Branch, Call, Taken, System, Extension}
use Rattle.paths.specs.Paths.{Hop, bad, leads, Fine}
use Rattle.look.specs.Look.{is_nine, along, on_depth, on_way, on_reading, look_of}
use Rattle.look.specs.Wrong.{Wrong, ended, unread, calls, taken, unknown, extension, few, many, Clear}

leads-bad : (hs : List Hop) (k : ℕ) → leads hs ≡ bad k → ⊥
leads-bad hs k e = let z : ◌≡◌ {A = ℕ} 0 1 = cc in omega arith

module _ (program : List ℕ) (cells a d : ℕ) where
  module _ (r : Reading) (e : decode_of program a ≡ given r) where
    -- a way that 9 refuses
    nine-wrong : (w : Way) → way_of (op_of r.0) ≡ w → is_nine w ≡ true → Wrong program cells a d
    nine-wrong Stop q h = absurd (false-true h)
    nine-wrong Next q h = absurd (false-true h)
    nine-wrong (Jump x) q h = absurd (false-true h)
    nine-wrong (Branch t x) q h = absurd (false-true h)
    nine-wrong (Call x) q h = calls e q
    nine-wrong (Taken t) q h = taken e q
    nine-wrong (System x) q h = absurd (false-true h)
    nine-wrong (Extension x) q h = absurd (false-true h)

    -- a way that is refused behind the stack check
    along-wrong : (next x k : ℕ) (w : Way) → way_of (op_of r.0) ≡ w → along next x w ≡ bad k → Wrong program cells a d
    along-wrong next x k Stop q h = absurd (leads-bad _ k h)
    along-wrong next x k Next q h = absurd (leads-bad _ k h)
    along-wrong next x k (Jump y) q h = absurd (leads-bad _ k h)
    along-wrong next x k (Branch t y) q h = absurd (leads-bad _ k h)
    along-wrong next x k (Call y) q h = calls e q
    along-wrong next x k (Taken t) q h = taken e q
    along-wrong next x k (System y) q h = by (eqb y 0) refl h
      where
        by : (t : Bool) → eqb y 0 ≡ t → pick t (leads []) (bad 8) ≡ bad k → Wrong program cells a d
        by true z w = absurd (leads-bad [] k w)
        by false z w = unknown e q (eqb-false y 0 z)
    along-wrong next x k (Extension y) q h = extension e q

    way-wrong : (next k : ℕ) → on_way next (way_of (op_of r.0)) (depth_after cells d (taken_of (op_of r.0)) (pushed_of (op_of r.0))) ≡ bad k → Wrong program cells a d
    unfolding depth_after
    way-wrong next k h = by (is_nine w) (ltb d t) (ltb cells (d - t + p)) refl refl refl h
      where
        w : Way
        w = way_of (op_of r.0)

        t : ℕ
        t = taken_of (op_of r.0)

        p : ℕ
        p = pushed_of (op_of r.0)

        by : (i j l : Bool) → is_nine w ≡ i → ltb d t ≡ j → ltb cells (d - t + p) ≡ l
            → pick i (bad 9) (on_depth next w (pick j (refused 4) (pick l (refused 5) (given (d - t + p))))) ≡ bad k → Wrong program cells a d
        by true j l x y z q = nine-wrong w refl x
        by false true l x y z q = few e (ltb-true d t y)
        by false false true x y z q = many e (ltb-true cells (d - t + p) z)
        by false false false x y z q = along-wrong next (d - t + p) k w refl q

  pub bad-wrong : (k : ℕ) → look_of program cells a d ≡ bad k → Wrong program cells a d
  unfolding look_of
  bad-wrong k h = by (decode_of program a) refl h
    where
      by : (r : Answer Reading) → decode_of program a ≡ r → on_reading cells a d r ≡ bad k → Wrong program cells a d
      by (refused n) e q = unread e
      by (given r) e q = way-wrong r e (a + r.1) k q

  -- whatever the way, a refusing stack check refuses
  shut : (next n : ℕ) (w : Way) → (k : ℕ) × (on_way next w (refused n) ≡ bad k)
  shut next n w = by (is_nine w)
    where
      by : (t : Bool) → (k : ℕ) × (pick t (bad 9) (bad n) ≡ bad k)
      by true = (9, refl)
      by false = (n, refl)

  module _ (r : Reading) (e : decode_of program a ≡ given r) where
    refused_as : (w : Way) → way_of (op_of r.0) ≡ w → ((m : Answer ℕ) → (k : ℕ) × (on_way (a + r.1) w m ≡ bad k)) → (k : ℕ) × (look_of program cells a d ≡ bad k)
    unfolding look_of
    refused_as w q f = let z = f (depth_after cells d (taken_of (op_of r.0)) (pushed_of (op_of r.0))) in (z.0, rw (e, q) z.1)

    few-bad : d < taken_of (op_of r.0) → (k : ℕ) × (look_of program cells a d ≡ bad k)
    unfolding look_of depth_after
    few-bad h = let z = shut (a + r.1) 4 (way_of (op_of r.0)) in (z.0, rw (e, lt-ltb d (taken_of (op_of r.0)) h) z.1)

    many-bad : cells < d - taken_of (op_of r.0) + pushed_of (op_of r.0) → (k : ℕ) × (look_of program cells a d ≡ bad k)
    unfolding look_of depth_after
    many-bad h = by (ltb d (taken_of (op_of r.0))) refl
      where
        by : (t : Bool) → ltb d (taken_of (op_of r.0)) ≡ t → (k : ℕ) × (look_of program cells a d ≡ bad k)
        by true q = few-bad (ltb-true d (taken_of (op_of r.0)) q)
        by false q = let z = shut (a + r.1) 5 (way_of (op_of r.0)) in (z.0, rw (e, q, lt-ltb cells (d - taken_of (op_of r.0) + pushed_of (op_of r.0)) h) z.1)

  pub wrong-bad : Wrong program cells a d → (length program ≤ a) ⊎ ((k : ℕ) × (look_of program cells a d ≡ bad k))
  unfolding look_of
  wrong-bad (ended h) = inl h
  wrong-bad (unread {k = k} e) = inr (k, rw e)
  wrong-bad (calls {r = r} {x = x} e q) = inr (refused_as r e (Call x) q (λ m. (9, refl)))
  wrong-bad (taken {r = r} {t = t} e q) = inr (refused_as r e (Taken t) q (λ m. (9, refl)))
  wrong-bad (unknown {r = r} {x = x} e q n) = inr (refused_as r e (System x) q by)
    where
      by : (m : Answer ℕ) → (k : ℕ) × (on_way (a + r.1) (System x) m ≡ bad k)
      by (refused k) = (k, refl)
      by (given y) = (8, rw (ne_eqb x 0 n))
  wrong-bad (extension {r = r} {x = x} e q) = inr (refused_as r e (Extension x) q by)
    where
      by : (m : Answer ℕ) → (k : ℕ) × (on_way (a + r.1) (Extension x) m ≡ bad k)
      by (refused k) = (k, refl)
      by (given y) = (8, refl)
  wrong-bad (few {r = r} e h) = inr (few-bad r e h)
  wrong-bad (many {r = r} e h) = inr (many-bad r e h)

-- so the path condition in the demand's words is the one that the walk decides
pub clear-fine : (program : List ℕ) (cells : ℕ) → Clear program cells → Fine (look_of program cells) (length program)
clear-fine program cells c =
    record {
      within = λ a d m. ⊎_elim (ltb-true a (length program)) (λ t. absurd (c.right a d m (ended (ltb-false a (length program) t)))) (test (ltb a (length program)));
      good = λ a d k m e. c.right a d m (bad-wrong program cells a d k e);
      once = c.once;
    }

pub fine-clear : (program : List ℕ) (cells : ℕ) → Fine (look_of program cells) (length program) → Clear program cells
fine-clear program cells f =
    record {
      right = λ a d m w. ⊎_elim (λ h. let i = f.within a d m in omega arith) (λ z. f.good a d z.0 m z.1) (wrong-bad program cells a d w);
      once = f.once;
    }
