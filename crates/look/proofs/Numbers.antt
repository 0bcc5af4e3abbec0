-- The numbers by which an instruction is refused: 1 to 5, 8 and 9.
-- Assumes nothing.
use Prim.Native.Nat.{ℕ, ◌+◌, ◌≤◌}
use native.Mathlib.Omega.{arith}
use mathlib.Core.Path.{◌≡◌, refl, subst}
use mathlib.Core.Logic.{◌⊎◌, inl, inr}
use mathlib.Core.Bool.{Bool, true, false}
use mathlib.Core.List.{List}
use lib.ListN.{length}
use lib.Dec.{eqb}
use Rattle.basis.specs.Pick.{pick}
use Rattle.basis.specs.Answer.{Answer, given, refused}
use Rattle.isa.specs.Op.{op_of}
use Rattle.isa.specs.Shape.{taken_of, pushed_of, way_of, depth_after}
use Rattle.decoder.specs.Decode.{Reading, decode_of}
use Rattle.isa.specs.declared.Way.{Way}
use Rattle.isa.specs.declared.Way.TheVariants.{Stop, Next, Jump, Branch, Call, Taken, System, Extension}
use Rattle.isa.proofs.Numbers.{stack-number}
use Rattle.decoder.proofs.Numbers.{decode-number}
use Rattle.paths.specs.Paths.{Outcome, bad, leads}
use Rattle.look.specs.Look.{along, on_depth, is_nine, on_reading, look_of}

abbrev Number : ℕ → Type 0
Number k = ((1 ≤ k) × (k ≤ 5)) ⊎ ((8 ≤ k) × (k ≤ 9))

abbrev RefusedBy : Outcome → Type 0
RefusedBy (bad k) = Number k
RefusedBy (leads hs) = Unit {0}

by-or : (t : Bool) (a b : Outcome) → RefusedBy a → RefusedBy b → RefusedBy (pick t a b)
by-or true a b x y = x
by-or false a b x y = y

along-by : (next e : ℕ) (w : Way) → RefusedBy (along next e w)
along-by next e Stop = tt
along-by next e Next = tt
along-by next e (Jump x) = tt
along-by next e (Branch t x) = tt
along-by next e (Call x) = inr (omega arith, omega arith)
along-by next e (Taken r) = inr (omega arith, omega arith)
along-by next e (System x) = by-or (eqb x 0) _ _ tt (inr (omega arith, omega arith))
along-by next e (Extension x) = inr (omega arith, omega arith)

depth-by : (next cells d taken pushed : ℕ) (w : Way) (a : Answer ℕ) → depth_after cells d taken pushed ≡ a → RefusedBy (on_depth next w a)
depth-by next cells d taken pushed w (given e) q = along-by next e w
depth-by next cells d taken pushed w (refused k) q = let h = stack-number cells d taken pushed k q in inl (omega (arith, h.0), h.1)

reading-by : (program : List ℕ) (cells a d : ℕ) → length program ≤ 16384 → (r : Answer Reading) → decode_of program a ≡ r → RefusedBy (on_reading cells a d r)
reading-by program cells a d s (refused k) q = let h = decode-number program a k s q in inl (h.0, omega (arith, h.1))
reading-by program cells a d s (given r) q =
    let o = op_of r.0 in
    by-or (is_nine (way_of o)) _ _ (inr (omega arith, omega arith)) (depth-by (a + r.1) cells d (taken_of o) (pushed_of o) (way_of o) _ refl)

pub look-number : (program : List ℕ) (cells a d k : ℕ) → length program ≤ 16384 → look_of program cells a d ≡ bad k → ((1 ≤ k) × (k ≤ 5)) ⊎ ((8 ≤ k) × (k ≤ 9))
unfolding look_of
look-number program cells a d k s e = subst RefusedBy e (reading-by program cells a d s (decode_of program a) refl)
