-- Of the memory lent only the contents, one body, its map and the verdicts are written over.
-- Assumes nothing.
use Prim.Native.Nat.{ℕ, zero, suc, ◌+◌, ◌-◌, ◌*◌, ◌≤◌, ◌<◌}
use native.Mathlib.Omega.{arith}
use mathlib.Core.Path.{◌≡◌, refl, sym, ap, ◌∙◌}
use mathlib.Core.Bool.{Bool, true, false}
use mathlib.Core.List.{List, [], ◌∷◌, ◌++◌}
use lib.Dec.{ltb, eqb}
use lib.ListN.{length, take, drop, set, length-set}
use lib.Seq.{sets, length_front, length-take-le, drop-append-add, drop-drop, drop-set-lt}
use borrow.Author.Tests.{ltb-true, ltb-false}
use Rattle.basis.specs.Pick.{pick}
use Rattle.basis.proofs.Tests.{pick-cases}
use Rattle.admission.specs.Verdicts.{number_of, place_of}
use Rattle.admission.specs.Numbers.{counts, judges}
use Rattle.admission.specs.Admission.{Mach, mach, counted_as, tag_at, cells_at, length_at, verified_of, judge_of, settle_of, settled, sized_of, opened_of, contents_byte, body_byte, byte_of, chunk_of}
use Rattle.admission.specs.Fit.{Fit}
use Rattle.admission.proofs.Fits.{verified-length, judge-fit, learnt-fit, grown-fit, byte-fit}
use Rattle.streams.specs.Told.{Same, Within}

same : (k : ℕ) (xs : List ℕ) → Same k xs xs
same k xs = (refl, refl)

same_after : (k : ℕ) (xs ys zs : List ℕ) → Same k xs ys → Same k ys zs → Same k xs zs
same_after k xs ys zs p q = (q.0 ∙ p.0, q.1 ∙ p.1)

same_set : (k : ℕ) (xs : List ℕ) (i x : ℕ) → i < k → Same k xs (set xs i x)
same_set k xs i x h = (length-set xs i x, drop-set-lt k xs i x h)

same-front : (k n : ℕ) (d e : List ℕ) → n ≤ k → n ≤ length d → length e ≡ length (take n d) → Same k d (e ++ drop n d)
same-front k n d e h l q =
    let z : length e ≡ n = q ∙ length-take-le n d l in
    let y : length e + (k - n) ≡ k = omega arith in
    let x : n + (k - n) ≡ k = omega arith in
    (length_front d e n q, ap (λ (i : ℕ). drop i (e ++ drop n d)) (sym y) ∙ drop-append-add e (drop n d) (k - n) ∙ drop-drop (k - n) n d ∙ ap (λ (i : ℕ). drop i d) x)

same-three : (k : ℕ) (v : List ℕ) (i a b c : ℕ) → i + 2 < k → Same k v (sets v i (a ∷ b ∷ c ∷ []))
same-three k v i a b c h =
    let x = set v i a in
    let y = set x (suc i) b in
    let z = set y (suc (suc i)) c in
    same_after k v x z (same_set k v i a (omega arith)) (same_after k x y z (same_set k x (suc i) b (omega arith)) (same_set k y (suc (suc i)) c (omega arith)))

pub within : (m : Mach) → Within m m
within m = record { contents = same 514 m.contents; body = same 16384 m.body; map = same 16384 m.map; verdicts = same 192 m.verdicts }

within-after : (l m n : Mach) → Within l m → Within m n → Within l n
within-after l m n p q = record {
  contents = same_after 514 l.contents m.contents n.contents p.contents q.contents;
  body = same_after 16384 l.body m.body n.body p.body q.body;
  map = same_after 16384 l.map m.map n.map p.map q.map;
  verdicts = same_after 192 l.verdicts m.verdicts n.verdicts p.verdicts q.verdicts;
}

judge-within : (m : Mach) → Fit m → m.st.judged < m.st.programs → Within m (judge_of m)
unfolding judge_of
judge-within m f h =
    let few = f.sound.programs in
    record {
      contents = same 514 m.contents;
      body = same 16384 m.body;
      map = same-front 16384 m.st.have m.map (verified_of m).1 f.sound.have (omega (arith, f.sound.have, f.map)) (verified-length (take m.st.have m.body) (cells_at m.contents m.st.judged) (take m.st.have m.map));
      verdicts = same-three 192 m.verdicts (3 * m.st.judged) (tag_at m.contents m.st.judged) (number_of (verified_of m).0) (place_of (verified_of m).0) (omega arith);
    }

settle-within : (k : ℕ) (m : Mach) → Fit m → k ≡ m.st.programs - m.st.judged → Within m (settle_of k m)
unfolding judge_of
settle-within zero m f h = within m
settle-within (suc k) m f h =
    pick-cases (Within m) (eqb m.st.have (length_at m.contents m.st.judged)) (settle_of k (judge_of m)) m
    (λ t. within-after m (judge_of m) (settle_of k (judge_of m)) (judge-within m f (omega arith)) (settle-within k (judge_of m) (judge-fit m f (omega arith)) (omega arith)))
    (λ t. within m)

settled-within : (m : Mach) → Fit m → Within m (settled m)
unfolding settled
settled-within m f = settle-within (m.st.programs - m.st.judged) m f refl

module _ (x : ℕ) (m : Mach) (f : Fit m) where
  contents-within : m.st.counted < m.st.want → m.st.counted < 24577 → Within m (contents_byte x m)
  unfolding contents_byte
  contents-within h l =
      let c = set m.contents m.st.counted x in
      let n = mach (opened_of (sized_of (counts (m.st.counted + 1) m.st) c) c) c m.body m.map m.verdicts in
      within-after m n (settled n)
      (record { contents = same_set 514 m.contents m.st.counted x (let w = f.sound.want in omega arith); body = same 16384 m.body; map = same 16384 m.map; verdicts = same 192 m.verdicts })
      (settled-within n (learnt-fit x m f _ _ h l refl refl))

  body-within : m.st.want ≤ m.st.counted → m.st.counted < 24577 → m.st.have < 16384 → Within m (body_byte x m)
  unfolding body_byte
  body-within t l h =
      let n = mach (judges m.st.judged (m.st.have + 1) (counts (m.st.counted + 1) m.st)) m.contents (set m.body m.st.have x) m.map m.verdicts in
      within-after m n (settled n)
      (record { contents = same 514 m.contents; body = same_set 16384 m.body m.st.have x h; map = same 16384 m.map; verdicts = same 192 m.verdicts })
      (settled-within n (grown-fit x m f t l h))

  only : (k : ℕ) → Within m (counted_as k m)
  only k = record { contents = same 514 m.contents; body = same 16384 m.body; map = same 16384 m.map; verdicts = same 192 m.verdicts }

byte-within : (x : ℕ) (m : Mach) → Fit m → Within m (byte_of x m)
unfolding byte_of
byte-within x m f = by (ltb m.st.counted 24576) (ltb m.st.counted m.st.want) (ltb m.st.judged m.st.programs) (ltb m.st.have 16384) refl refl refl
  where
    by : (t u v w : Bool) → ltb m.st.counted 24576 ≡ t → ltb m.st.counted m.st.want ≡ u → ltb m.st.have 16384 ≡ w
        → Within m (pick t (pick u (contents_byte x m) (pick v (pick w (body_byte x m) (counted_as (m.st.counted + 1) m)) (counted_as (m.st.counted + 1) m))) (counted_as 24577 m))
    by true true v w p q e = let z = ltb-true m.st.counted 24576 p in contents-within x m f (ltb-true _ _ q) (omega arith)
    by true false true true p q e = let z = ltb-true m.st.counted 24576 p in body-within x m f (ltb-false _ _ q) (omega arith) (ltb-true _ _ e)
    by true false true false p q e = only x m f (m.st.counted + 1)
    by true false false w p q e = only x m f (m.st.counted + 1)
    by false u v w p q e = only x m f 24577

pub chunk-within : (c : List ℕ) (m : Mach) → Fit m → Within m (chunk_of c m)
chunk-within [] m f = within m
chunk-within (x ∷ c) m f = within-after m (byte_of x m) (chunk_of c (byte_of x m)) (byte-within x m f) (chunk-within c (byte_of x m) (byte-fit x m f))
