-- The entries of a good pack: each is small enough for the verifier, whose answer doesn't depend on what the map held.
-- Assumes nothing.
use Prim.Native.Nat.{ℕ, zero, suc, ◌+◌, ◌≤◌}
use native.Mathlib.Omega.{arith}
use mathlib.Core.Path.{◌≡◌, refl, sym, ap, ◌∙◌, subst}
use mathlib.Core.Bool.{Bool, true, false}
use mathlib.Core.List.{List, [], ◌∷◌}
use mathlib.Core.Option.{some, none-ne-some, some-injective}
use lib.Dec.{ltb, eqb}
use lib.ListN.{length, replicate, get_elem?, length-take, length-replicate}
use Rattle.basis.specs.Pick.{pick}
use Rattle.basis.specs.Answer.{given}
use Rattle.basis.proofs.Tests.{given-one}
use Rattle.pack.specs.Contents.{end_of}
use Rattle.pack.specs.Read.{entries_of, read_of}
use Rattle.pack.specs.Find.{body_of}
use Rattle.pack.specs.declared.Entry.{Entry}
use Rattle.pack.proofs.Walks.{next}
use Rattle.pack.proofs.Sounds.{read-sound, sound-read, length-entries}
use Rattle.paths.specs.Walk.{Walked, accepted, refused as refuses}
use Rattle.verifier.specs.Verify.{Verified, nameless, walk_of, on_walk, verify_of}
use Rattle.verifier.proofs.Verdicts.{walks}
use Rattle.rulings.specs.Rulings.{judged_of}

-- the verifier's answer over two maps of one length
pub judged-same : (program : List ℕ) (cells : ℕ) (m o : List ℕ) → length m ≡ length o → (verify_of program cells m).0 ≡ (verify_of program cells o).0
unfolding verify_of
judged-same program cells m o e = rw e (by (ltb 16384 (length program)) (ltb 1024 cells) (eqb (length o) (length program)))
  where
    walked : Verified
    walked = on_walk (length program) (walk_of program cells)

    by : (t u v : Bool)
        → (pick t (nameless 20, m) (pick u (nameless 22, m) (pick v walked (nameless 23, m)))).0
        ≡ (pick t (nameless 20, o) (pick u (nameless 22, o) (pick v walked (nameless 23, o)))).0
    by true u v = refl
    by false true v = refl
    by false false true = refl
    by false false false = refl

-- every entry of a walk that comes to an end passes
passed-there : (least at end : ℕ) (es : List Entry) (i : ℕ) (e : Entry) → end_of least at es ≡ given end → get_elem? es i ≡ some e → (e.cells ≤ 1024) × (e.length ≤ 16384)
passed-there least at end [] i e h g = absurd (none-ne-some e g)
passed-there least at end (x ∷ es) zero e h g =
    let p = (next least at x es end h).passed in
    subst (λ (y : Entry). (y.cells ≤ 1024) × (y.length ≤ 16384)) (some-injective x e g) (p.cells, p.length)
passed-there least at end (x ∷ es) (suc i) e h g = passed-there (x.tag + 1) (at + x.length) end es i e (next least at x es end h).rest g

pub length-body : (s : List ℕ) (e : Entry) → length (body_of s e) ≤ e.length
length-body s e = rw length-take (omega arith)

-- an entry of a good pack
pub record Good (s : List ℕ) (es : List Entry) (i : ℕ) (e : Entry) : Type 0 where
  pub few : length es ≤ 64
  pub cells : e.cells ≤ 1024
  pub body : length (body_of s e) ≤ 16384

pub good-there : (s : List ℕ) (es : List Entry) (i : ℕ) (e : Entry) → read_of s ≡ given es → get_elem? es i ≡ some e → Good s es i e
unfolding entries_of
good-there s es i e r g =
    let k = read-sound s es r in
    let same : entries_of s ≡ es = given-one (entries_of s) es (sym (sound-read s k) ∙ r) in
    let p = passed-there 0 _ _ (entries_of s) i e k.ends (rw same g) in
    record {
      few = rw (← same) (let n : length (entries_of s) ≤ 64 = omega (arith, length-entries s, k.whole.count) in n);
      cells = p.0;
      body = omega (arith, length-body s e, p.1);
    }

-- no program of an allowed size and number of cells is refused before the walk
pub small-walked : (s : List ℕ) (e : Entry) → length (body_of s e) ≤ 16384 → e.cells ≤ 1024 → (k : ℕ) → judged_of s e ≡ nameless k → ⊥
unfolding judged_of
small-walked s e size few k h =
    let w = walks (body_of s e) e.cells (replicate (length (body_of s e)) 65535) size few (length-replicate {A = ℕ} (length (body_of s e)) 65535) in
    by (walk_of (body_of s e) e.cells) (ap (λ (x : Verified). x.0) w ∙ h)
  where
    by : (w : Walked) → (on_walk (length (body_of s e)) w).0 ≡ nameless k → ⊥
    by (accepted ms) q = let z : ◌≡◌ {A = ℕ} 0 1 = cc in omega arith
    by (refuses n a) q = let z : ◌≡◌ {A = ℕ} 0 1 = cc in omega arith

-- and so no entry of a good pack
pub entry-walked : (s : List ℕ) (es : List Entry) (i : ℕ) (e : Entry) → read_of s ≡ given es → get_elem? es i ≡ some e → (k : ℕ) → judged_of s e ≡ nameless k → ⊥
entry-walked s es i e r g k h = let p = good-there s es i e r g in small-walked s e p.body p.cells k h
