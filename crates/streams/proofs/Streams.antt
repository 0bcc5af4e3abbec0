-- A pack that comes in chunks is judged as the whole pack is, wherever it was cut.
-- Assumes nothing.
use Prim.Native.Nat.{ℕ, zero, suc, ◌+◌, ◌-◌, ◌*◌, ◌≤◌, ◌<◌}
use native.Mathlib.Omega.{arith}
use mathlib.Core.Path.{◌≡◌, refl, sym, ap, ◌∙◌, subst}
use mathlib.Core.Logic.{◌⊎◌, inl, inr, ⊎_elim}
use mathlib.Core.List.{List, [], ◌∷◌, ◌++◌, map, append-nil, append_assoc}
use mathlib.Core.Option.{some as some?, none-ne-some, some-injective}
use lib.Dec.{ltb}
use lib.ListN.{length, take, drop, get_elem?, length-append, length-take, take-append-drop}
use lib.Seq.{take_all, length-take-le}
use borrow.Author.Tests.{lt-ltb, le-ltb, ltb-true, ltb-false}
use Rattle.basis.specs.Answer.{given, refused}
use Rattle.basis.proofs.Tests.{test, same?, given-one, refused-given, refused-one}
use Rattle.pack.specs.Contents.{first_of, entry_at, entries_from, end_of}
use Rattle.pack.specs.Read.{count_of, contents_of, entries_of, read_of}
use Rattle.pack.specs.declared.Entry.{Entry}
use Rattle.pack.proofs.Walks.{from-there, next, listed}
use Rattle.pack.proofs.Sounds.{Sound, read-sound, sound-read}
use Rattle.rulings.specs.Rulings.{ruling_of, rulings_of}
use Rattle.rulings.proofs.Prefix.{count-prefix}
use Rattle.admission.specs.Numbers.{lost_of}
use Rattle.admission.specs.Admission.{Mach, Outcome, chunk_of, admit_of, ended_of, close_of}
use Rattle.admission.specs.Fit.{Fit}
use Rattle.admission.specs.declared.Admission.{Admission}
use Rattle.admission.proofs.Tests.{start-sound, sound-whole, fit-roomy}
use Rattle.admission.proofs.Fits.{chunk-fit}
use Rattle.intake.proofs.Chunks.{chunk-append, chunk-taken}
use Rattle.streams.specs.Told.{entry_of, ruled_at, closed_of, Begun, Whole, Holds, admit_all, joined}
use Rattle.streams.specs.Stands.{Done, Ready, Short, Part, cut, bad, good, Stands, over, some}
use Rattle.streams.proofs.Kept.{chunk-live}
use Rattle.streams.proofs.Coming.{done-prefix, stands-chunk, stands-start}
use Rattle.streams.proofs.Judging.{next-is}
use Rattle.streams.proofs.Closing.{close-is, stands-close, read-long, read-refused, cut-refused}

-- an open admission, with its memory, that stands for the bytes that have come
pub record Open (s : List ℕ) (m : Mach) : Type 0 where
  pub live : m.st.closed ≡ 0
  pub fit : Fit m
  pub stands : Stands s m

-- as it begins
pub begun : (m : Mach) → Begun m → Open [] m
begun m b =
    let e = b.start in
    record {
      live = ap (λ (y : Admission). y.closed) e;
      fit = record { sound = rw e start-sound; contents = b.contents; body = b.body; map = b.map; verdicts = b.verdicts };
      stands = stands-start m e;
    }

-- a chunk, of any length, is taken: the admission then stands for what had come and the chunk
pub admitted : (s c : List ℕ) (m : Mach) → Open s m → (admit_of c m ≡ (0, chunk_of c m)) × Open (s ++ c) (admit_of c m).1
admitted s c m o =
    let e = chunk-taken c m (fit-roomy m o.fit) (sound-whole m.st o.fit.sound) o.live (chunk_of c m) refl in
    let n : Open (s ++ c) (chunk_of c m) = record { live = chunk-live c m ∙ o.live; fit = chunk-fit c m o.fit; stands = stands-chunk c s m o.fit o.stands } in
    (sym e, subst (λ (x : Outcome). Open (s ++ c) x.1) e n)

pub all-admitted : (cs : List (List ℕ)) (s : List ℕ) (m : Mach) → Open s m → Open (s ++ joined cs) (admit_all cs m)
all-admitted [] s m o = rw append-nil o
all-admitted (c ∷ cs) s m o =
    subst (λ (x : List ℕ). Open x (admit_all cs (admit_of c m).1)) (append_assoc s c (joined cs)) (all-admitted cs (s ++ c) (admit_of c m).1 (admitted s c m o).1)

-- chunks from the beginning
pub come : (cs : List (List ℕ)) (m : Mach) → Begun m → Open (joined cs) (admit_all cs m)
come cs m b = all-admitted cs [] m (begun m b)

-- and as one
one_chunk : (cs : List (List ℕ)) (s : List ℕ) (m : Mach) → Open s m → admit_all cs m ≡ chunk_of (joined cs) m
one_chunk [] s m o = refl
one_chunk (c ∷ cs) s m o =
    let a = admitted s c m o in
    one_chunk cs (s ++ c) (admit_of c m).1 a.1 ∙ ap (λ (x : Outcome). chunk_of (joined cs) x.1) a.0 ∙ sym (chunk-append c (joined cs) m)

pub come-as-one : (cs : List (List ℕ)) (m : Mach) → Begun m → admit_all cs m ≡ (admit_of (joined cs) m).1
come-as-one cs m b = let o = begun m b in one_chunk cs [] m o ∙ ap (λ (x : Outcome). x.1) (sym (admitted [] (joined cs) m o).0)

-- the close answers what the whole pack answers
pub closed : (s : List ℕ) (m : Mach) → Open s m → closed_of m ≡ rulings_of s
closed s m o = stands-close s m (sound-whole m.st o.fit.sound) o.live o.stands

pub close-ends : (s : List ℕ) (m : Mach) → Open s m → close_of m.st ≡ ended_of m.st
close-ends s m o = close-is m.st (sound-whole m.st o.fit.sound) o.live

mapped : {A B : Type 0} (f : A → B) (xs : List A) (j : ℕ) (x : A) → get_elem? xs j ≡ some? x → get_elem? (map f xs) j ≡ some? (f x)
mapped f [] j x h = absurd (none-ne-some x h)
mapped f (y ∷ xs) zero x h = ap (λ z. some? (f z)) (some-injective y x h)
mapped f (y ∷ xs) (suc j) x h = mapped f xs j x h

-- what an admission stands for tells how it was left: as the bytes that a pack can have left it
left_by : (s : List ℕ) (m : Mach) → Stands s m → Part (take 24576 s) m
left_by s m (over l c p) = p
left_by s m (some l c p) = rw (take_all 24576 s l) p

-- and what it holds of them: the contents, and the body under way
holds-part : (s : List ℕ) (m : Mach) → Part s m → Holds s m
holds-part s m (cut k) =
    let z = k.programs in
    record {
      contents = rw (take_all m.st.want s (let l = k.less in omega arith)) k.contents;
      body = λ h. absurd (omega arith);
      short = λ h. absurd (omega arith);
      none = λ h. k.have;
    }
holds-part s m (bad b) =
    let z = b.programs in
    record {
      contents = rw (length-take-le m.st.want s b.want) b.contents;
      body = λ h. absurd (omega arith);
      short = λ h. absurd (omega arith);
      none = λ h. b.have;
    }
holds-part s m (good n r q) =
    let p = r.programs in
    let w = r.want in
    record {
      contents = rw (length-take-le m.st.want s (let l = r.room in omega arith)) (rw w r.contents);
      body = λ h. let u : m.st.judged < n = omega arith in rw (next-is s n m r u).passed.offset (r.body u);
      short = λ h. q (omega arith);
      none = λ h. r.idle (omega arith);
    }

pub holds : (s : List ℕ) (m : Mach) → Open s m → Holds (take 24576 s) m
holds s m o = holds-part (take 24576 s) m (left_by s m o.stands)

-- A verdict that is told is the one that the bytes so far give its program, however many they are.
done-part : (s : List ℕ) (m : Mach) (j : ℕ) → j < m.st.judged → Part s m → Done s m.verdicts j × (10 + 8 * j ≤ length s)
done-part s m j h (cut k) = let z = k.judged in absurd (omega arith)
done-part s m j h (bad b) = let z = b.judged in absurd (omega arith)
done-part s m j h (good n r q) = (r.done j h, let a = r.room in let b = r.judged in omega arith)

pub told-right : (s : List ℕ) (m : Mach) → Open s m → (j : ℕ) → j < m.st.judged → Done s m.verdicts j × (10 + 8 * j ≤ length s)
told-right s m o j h =
    let d = done-part (take 24576 s) m j h (left_by s m o.stands) in
    let e = done-prefix (take 24576 s) (drop 24576 s) m.verdicts j d.1 d.0 in
    let l = length-take {A = ℕ} 24576 s in
    (rw (take-append-drop 24576 s) at e, omega (arith, d.1, l))

-- bodies stand where they are due, or later
from_at : (s : List ℕ) (least at end p k : ℕ) → end_of least at (entries_from s p k) ≡ given end → (i : ℕ) → i < k → at ≤ (entry_at s (p + 8 * i)).offset
from_at s least at end p zero h i l = absurd (omega arith)
from_at s least at end p (suc k) h zero l =
    let n = next least at (entry_at s p) (entries_from s (p + 8) k) end h in
    let z : p + 8 * 0 ≡ p = omega arith in
    rw z (omega (arith, n.passed.offset))
from_at s least at end p (suc k) h (suc i) l =
    let n = next least at (entry_at s p) (entries_from s (p + 8) k) end h in
    let r = from_at s ((entry_at s p).tag + 1) (at + (entry_at s p).length) end (p + 8) k n.rest i (omega arith) in
    let z : p + 8 + 8 * i ≡ p + 8 * suc i = omega arith in
    rw (← z) (omega (arith, r))

-- that of the next body is not in yet, nor of those behind it
waits : (s : List ℕ) (n : ℕ) (m : Mach) → Ready s n m → Short s n m → (j : ℕ) → m.st.judged ≤ j → j < n → length s < (entry_of s j).offset + (entry_of s j).length
waits s n m r q j l h = ⊎_elim here behind (same? j m.st.judged)
  where
    i : ℕ
    i = m.st.judged

    due : i < n → length s < r.at + (entry_of s i).length
    due u = let p = r.place u in let w = q u in omega arith

    after : i < n → end_of ((entry_of s i).tag + 1) (r.at + (entry_of s i).length) (entries_from s (2 + 8 * i + 8) (n - i - 1)) ≡ given m.st.end
    after u = (next-is s n m r u).rest

    here : j ≡ i → length s < (entry_of s j).offset + (entry_of s j).length
    here e =
        let u : i < n = omega arith in
        let o = (next-is s n m r u).passed.offset in
        let d = due u in
        rw e (omega (arith, o, d))

    behind : (j ≡ i → ⊥) → length s < (entry_of s j).offset + (entry_of s j).length
    behind e =
        let u : i < n = omega arith in
        let d = due u in
        let k = from_at s ((entry_of s i).tag + 1) (r.at + (entry_of s i).length) m.st.end (2 + 8 * i + 8) (n - i - 1) (after u) (j - i - 1) (omega (arith, e)) in
        let z : 2 + 8 * i + 8 + 8 * (j - i - 1) ≡ 2 + 8 * j = omega (arith, e) in
        let y : r.at + (entry_of s i).length ≤ (entry_of s j).offset = rw z at k in
        omega (arith, d, y)

-- A program has its verdict exactly when it is whole, in the bytes that a pack can have.
whole_part : (s : List ℕ) (m : Mach) (j : ℕ) → Part s m → (j < m.st.judged → Whole s j) × (Whole s j → j < m.st.judged)
whole_part s m j (cut k) = ((λ h. let z = k.judged in absurd (omega arith)), (λ w. absurd (refused-given _ _ (sym (cut-refused s m k) ∙ w.good))))
whole_part s m j (bad b) = ((λ h. let z = b.judged in absurd (omega arith)), (λ w. absurd (refused-given _ _ (sym (rw append-nil at (b.always [])) ∙ w.good))))
whole_part s m j (good n r q) = (
  (λ h. record { end = m.st.end; good = r.ends; few = let a = r.judged in let b = r.is in omega arith; fits = (r.done j h).fits }),
  (λ w. ⊎_elim
      (λ t. ltb-true _ _ t)
      (λ t. let l = waits s n m r q j (ltb-false j m.st.judged t) (let a = r.is in let f = w.few in omega arith) in let f = w.fits in absurd (omega arith))
      (test (ltb j m.st.judged))),
)

module _ (s : List ℕ) (m : Mach) (o : Open s m) (j : ℕ) where
  pub judged-whole : j < m.st.judged → Whole (take 24576 s) j
  judged-whole = (whole_part (take 24576 s) m j (left_by s m o.stands)).0

  pub whole-judged : Whole (take 24576 s) j → j < m.st.judged
  whole-judged = (whole_part (take 24576 s) m j (left_by s m o.stands)).1

-- Where the pack that these bytes begin is admitted, they are its verdicts, in their places.
pub final : (s t : List ℕ) (m : Mach) (es : List Entry) → Open s m → read_of (s ++ t) ≡ given es → (j : ℕ) → j < m.st.judged → get_elem? (map (ruling_of (s ++ t)) es) j ≡ some? (ruled_at m.verdicts j)
unfolding entries_of
final s t m es o e j h =
    let d = told-right s m o j h in
    let p = done-prefix s t m.verdicts j d.1 d.0 in
    let z = sound.small in
    let w = judged-whole s m o j h in
    let f : j < count_of (s ++ t) = rw (count-prefix s t (omega (arith, d.1))) (rw (take_all 24576 s (let l = length-append s t in omega arith)) at w.few) in
    let q : entries_from (s ++ t) 2 (count_of (s ++ t)) ≡ es = given-one _ _ (sym (sound-read (s ++ t) sound) ∙ e) in
    let u : get_elem? es j ≡ some? (entry_of (s ++ t) j) = listed es j (entry_of (s ++ t) j) (rw (← q) (from-there (s ++ t) 2 (count_of (s ++ t)) j f)) in
    mapped (ruling_of (s ++ t)) es j (entry_of (s ++ t) j) u ∙ ap some? (sym p.said)
  where
    sound : Sound (s ++ t)
    sound = read-sound (s ++ t) es e

-- What is lost stays lost: by this number, or by 31 if more comes than a pack has.
pub lost-refused : (s t : List ℕ) (m : Mach) (k : ℕ) → Open s m → lost_of m.st ≡ k → (k ≡ 0 → ⊥) → (read_of (s ++ t) ≡ refused k) ⊎ (read_of (s ++ t) ≡ refused 31)
unfolding lost_of
lost-refused s t m k o e n = by o.stands
  where
    long : 24576 < length (s ++ t) → (read_of (s ++ t) ≡ refused k) ⊎ (read_of (s ++ t) ≡ refused 31)
    long h = inr (read-long (s ++ t) h)

    part : m.st.refusal ≡ k → Part s m → (read_of (s ++ t) ≡ refused k) ⊎ (read_of (s ++ t) ≡ refused 31)
    part q (cut c) = absurd (n (sym q ∙ c.refusal))
    part q (good c r h) = absurd (n (sym q ∙ r.refusal))
    part q (bad b) =
        ⊎_elim
        (λ h. long (ltb-true _ _ h))
        (λ h. inl (read-refused (s ++ t) k (ltb-false _ _ h) (b.always t ∙ ap refused q)))
        (test (ltb 24576 (length (s ++ t))))

    by : Stands s m → (read_of (s ++ t) ≡ refused k) ⊎ (read_of (s ++ t) ≡ refused 31)
    by (over l c p) = long (let z = length-append s t in omega arith)
    by (some l c p) = part (rw (le-ltb 24576 m.st.counted (omega arith)) at e) p

-- and it is told as soon as it is known: that there are more bytes than a pack has, or that the contents, once they are whole, are refused
pub long-lost : (s : List ℕ) (m : Mach) → Open s m → 24576 < length s → lost_of m.st ≡ 31
unfolding lost_of
long-lost s m o h = by o.stands
  where
    by : Stands s m → lost_of m.st ≡ 31
    by (over l c p) = rw (lt-ltb 24576 m.st.counted (omega arith))
    by (some l c p) = absurd (omega arith)

pub refused-lost : (s : List ℕ) (m : Mach) (k : ℕ) → Open s m → length s ≤ 24576 → 2 ≤ length s → (count_of s ≤ 64 → first_of (count_of s) ≤ length s) → contents_of s ≡ refused k → lost_of m.st ≡ k
unfolding lost_of
refused-lost s m k o small two whole e = by o.stands
  where
    part : m.st.counted ≡ length s → Part s m → lost_of m.st ≡ k
    part c (cut x) =
        let w : m.st.want ≡ first_of (count_of s) = x.want ∙ rw (le-ltb (length s) 2 two) in
        let z = whole (x.few two) in
        let y = x.less in
        absurd (omega arith)
    part c (bad b) = rw (le-ltb 24576 m.st.counted (omega arith)) (refused-one _ _ (sym (rw append-nil at (b.always [])) ∙ e))
    part c (good n r q) = absurd (refused-given k m.st.end (sym e ∙ r.ends))

    by : Stands s m → lost_of m.st ≡ k
    by (over l c p) = absurd (omega arith)
    by (some l c p) = part c p
