-- An entry of a report: where it stands, and what the verifier said of its program.
-- Assumes nothing.
use Prim.Native.Nat.{ℕ, zero, suc, ◌+◌, ◌≤◌, ◌<◌}
use native.Mathlib.Omega.{arith}
use native.Mathlib.Nat.{suc-add}
use mathlib.Core.Path.{◌≡◌, sym, ap, ◌∙◌}
use mathlib.Core.List.{List, [], ◌∷◌, ◌++◌}
use Rattle.basis.specs.declared.refusal.Refusal.{Refusal}
use Rattle.std.specs.Prelude.{Result}
use mathlib.Core.Option.{some, none-ne-some, some-injective}
use lib.ListN.{length, take, drop, replicate, get_elem?, length-replicate}
use lib.Seq.{length-take-le}
use Rattle.pack.specs.Find.{body_of}
use Rattle.pack.specs.declared.Entry.{Entry}
use Rattle.verifier.specs.Verify.{Judged, Verified, verify_of, judged_in}
use Rattle.verifier.specs.declared.Rejected.{Rejected}
use Rattle.rulings.specs.Rulings.{judged_of}
use Rattle.rulings.proofs.Entries.{judged-same}
use Rattle.text.specs.Pen.{Puts}
use Rattle.text.specs.declared.pen.Pen.{Pen}
use Rattle.verdicts.specs.Line.{line_of}
use Rattle.report.specs.Report.{laid_over}

-- an entry at an index, and the others behind it
pub record There (es : List Entry) (i : ℕ) (e : Entry) : Type 0 where
  pub inside : i < length es
  pub rest : drop i es ≡ e ∷ drop (i + 1) es

pub there : (es : List Entry) (i : ℕ) (e : Entry) → get_elem? es i ≡ some e → There es i e
there [] i e h = absurd (none-ne-some e h)
there (x ∷ es) zero e h = record { inside = omega arith; rest = ap (λ (y : Entry). y ∷ es) (some-injective x e h) }
there (x ∷ es) (suc i) e h = let t = there es i e h in record { inside = let l = t.inside in omega arith; rest = rw suc-add t.rest }

-- what the verifier said of an entry's program over the map's first cells
pub entry_done :
    (pack : List ℕ) (e : Entry) (map program after : List ℕ) (v : Result (Unit {0}) (Rejected Refusal)) → program ≡ body_of pack e → length (body_of pack e) ≤ length map
    → ◌≡◌ {A = Verified} (judged_in v, after) (verify_of program e.cells (take (length program) map))
    → (judged_in v ≡ judged_of pack e) × (after ++ drop (length program) map ≡ laid_over pack e map)
unfolding judged_of laid_over
entry_done pack e map program after v p h q =
    let n = length (body_of pack e) in
    let r : ◌≡◌ {A = Verified} (judged_in v, after) (verify_of (body_of pack e) e.cells (take n map)) = rw p at q in (
      ap (λ (x : Verified). x.0) r ∙ judged-same (body_of pack e) e.cells (take n map) (replicate n 65535) (length-take-le n map h ∙ sym (length-replicate n 65535)),
      rw p (ap (λ (x : Verified). x.1 ++ drop n map) r),
    )

pub put-judged : (tag : ℕ) (j k : Judged) {p q : Pen} → j ≡ k → Puts (line_of tag j) p q → Puts (line_of tag k) p q
put-judged tag j k e h = rw e at h
