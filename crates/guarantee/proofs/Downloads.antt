-- What is promised of packs that are checked while they download, proved.
-- Assumes nothing.
use Prim.Native.Nat.{ℕ, ◌≤◌}
use native.Mathlib.Omega.{arith}
use mathlib.Core.Path.{◌≡◌, refl, sym, ap, ◌∙◌, subst}
use mathlib.Core.Logic.{◌⊎◌, inl, inr, ⊎_elim}
use mathlib.Core.Bool.{false}
use mathlib.Core.List.{List}
use borrow.Author.Tests.{eq-eqb}
use Rattle.basis.specs.Answer.{refused}
use Rattle.basis.proofs.Tests.{test, same?}
use Rattle.pack.specs.Read.{read_of}
use Rattle.rulings.proofs.Answers.{rulings-refused}
use Rattle.admission.specs.Numbers.{damaged_of, lost_of}
use Rattle.admission.specs.Admission.{Mach, Outcome, short_of, chunk_of, admit_of, ended_of, close_of, ask_of}
use Rattle.admission.specs.Fit.{Sound, Fit}
use Rattle.admission.specs.declared.Admission.{Admission}
use Rattle.admission.specs.declared.Admitted.{Admitted}
use Rattle.admission.proofs.Tests.{whole-sound, sound-whole, tests-fit, fit-roomy}
use Rattle.admission.proofs.Fits.{chunk-fit}
use Rattle.intake.proofs.Chunks.{chunk-short, chunk-damaged, chunk-late, chunk-taken}
use Rattle.streams.specs.Told.{Begun, Within, Alike, SameVerdicts, admit_all, joined}
use Rattle.streams.proofs.Kept.{chunk-live}
use Rattle.streams.proofs.Closing.{read-long, told-number, told-nonzero}
use Rattle.streams.proofs.Ending.{Shut, ended-shut, ended-told, ended-packs, ended-lost, shut-close, shut-ask, shut-chunk}
use Rattle.streams.proofs.Within.{within, chunk-within}
use Rattle.streams.proofs.Alike.{chunk-alike, chunk-told}
use Rattle.streams.proofs.Streams.{Open, come, come-as-one, admitted, closed, holds, close-ends, final, told-right, judged-whole, whole-judged, lost-refused, long-lost, refused-lost}
use Rattle.guarantee.specs.Downloads.{TakesAnyChunk, KeepsOnlyThese, HoldsOneBody, KeepsNothingElse, ClosesAsWhole, CutAnywhere, JudgesAtLastByte, TellsRight, ProvisionalIsFinal, LongComesFirst, RefusedHasNone, shut, Late, LateIsRefused, AsksOpen, LostIsRefused, LostIsTold, Bounded, Chunk, short, damaged, late, taken, Close, broken, again, ended, Ask, torn, still, told, AnswersAny}

pub takes-any-chunk : TakesAnyChunk
unfolding TakesAnyChunk
takes-any-chunk cs c m b = ap (λ (o : Outcome). o.0) (admitted (joined cs) c (admit_all cs m) (come cs m b)).0

pub closes-as-whole : ClosesAsWhole
unfolding ClosesAsWhole
closes-as-whole cs m b = closed (joined cs) (admit_all cs m) (come cs m b)

pub cut-anywhere : CutAnywhere
unfolding CutAnywhere
cut-anywhere = come-as-one

pub holds-one-body : HoldsOneBody
unfolding HoldsOneBody
holds-one-body cs m b = holds (joined cs) (admit_all cs m) (come cs m b)

pub judges-at-last-byte : JudgesAtLastByte
unfolding JudgesAtLastByte
judges-at-last-byte cs m b j = let o = come cs m b in (judged-whole (joined cs) (admit_all cs m) o j, whole-judged (joined cs) (admit_all cs m) o j)

pub tells-right : TellsRight
unfolding TellsRight
tells-right cs m b j h = (told-right (joined cs) (admit_all cs m) (come cs m b) j h).0.coded

pub provisional-is-final : ProvisionalIsFinal
unfolding ProvisionalIsFinal
provisional-is-final cs rest es m b e j h = final (joined cs) rest (admit_all cs m) es (come cs m b) e j h

-- what refuses the bytes refuses the close
refuses-alike : (cs : List (List ℕ)) (m : Mach) (k : ℕ) → Begun m → read_of (joined cs) ≡ refused k → (close_of (admit_all cs m).st).refusal ≡ k
refuses-alike cs m k b e = told-number (close_of (admit_all cs m).st) (admit_all cs m).verdicts k (closed (joined cs) (admit_all cs m) (come cs m b) ∙ rulings-refused (joined cs) k e)

pub long-comes-first : LongComesFirst
unfolding LongComesFirst
long-comes-first cs m b l = refuses-alike cs m 31 b (read-long (joined cs) l)

pub lost-is-refused : LostIsRefused
unfolding LostIsRefused
lost-is-refused cs rest m k b e n = lost-refused (joined cs) rest (admit_all cs m) k (come cs m b) e n

pub lost-is-told : LostIsTold
unfolding LostIsTold
lost-is-told cs m b =
    let o = come cs m b in (
      long-lost (joined cs) (admit_all cs m) o,
      λ k small two whole e. refused-lost (joined cs) (admit_all cs m) k o small two whole e,
    )

pub asks-open : AsksOpen
unfolding AsksOpen ask_of
asks-open cs m b = let o = come cs m b in rw (sound-whole (admit_all cs m).st o.fit.sound, eq-eqb (admit_all cs m).st.closed 0 o.live)

-- after the close
module _ (s : List ℕ) (m : Mach) (o : Open s m) where
  left : (close_of m.st).admission ≡ (ended_of m.st).admission
  left = ap (λ (a : Admitted). a.admission) (close-ends s m o)

  is-shut : Shut (close_of m.st).admission
  is-shut = subst Shut (sym left) (ended-shut m.st o.fit.sound)

  fit-shut : Fit (shut m)
  fit-shut = record { sound = is-shut.sound; contents = o.fit.contents; body = o.fit.body; map = o.fit.map; verdicts = o.fit.verdicts }

  kept : (close_of m.st).admission.refusal ≡ (close_of m.st).refusal
  kept = ap (λ (a : Admission). a.refusal) left ∙ (ended-told m.st).0 ∙ ap (λ (a : Admitted). a.refusal) (sym (close-ends s m o))

  pub none_left : ((close_of m.st).refusal ≡ 0 → ⊥) → (close_of m.st).admission.judged ≡ 0
  none_left n = ap (λ (a : Admission). a.judged) left ∙ (ended-told m.st).1 (λ z. n (ap (λ (a : Admitted). a.refusal) (close-ends s m o) ∙ z))

  is-late : Late m
  is-late = record {
    closed = is-shut.closed;
    chunk = λ c. shut-chunk c (shut m) fit-shut is-shut.closed;
    close = shut-close (close_of m.st).admission is-shut;
    ask = shut-ask (close_of m.st).admission is-shut ∙ kept;
    lost = ap lost_of left ∙ ended-lost m.st ∙ ap (λ (a : Admitted). a.refusal) (sym (close-ends s m o));
  }

pub late-is-refused : LateIsRefused
unfolding LateIsRefused
late-is-refused cs m b = is-late (joined cs) (admit_all cs m) (come cs m b)

pub refused-has-none : RefusedHasNone
unfolding RefusedHasNone
refused-has-none cs m k b e =
    let r = refuses-alike cs m k b e in
    (r, none_left (joined cs) (admit_all cs m) (come cs m b) (told-nonzero (close_of (admit_all cs m).st) (admit_all cs m).verdicts k (closed (joined cs) (admit_all cs m) (come cs m b) ∙ rulings-refused (joined cs) k e)))

-- any numbers and any memory
bounded : (st : Admission) → Sound st → Bounded st
bounded st s = record { whole = sound-whole st s; few = let a = s.judged in let b = s.programs in omega arith }

open-or-shut : (st : Admission) → Sound st → (st.closed ≡ 0) ⊎ (st.closed ≡ 1)
open-or-shut st s = ⊎_elim (λ e. inl e) (λ e. inr (omega (arith, e, s.closed))) (same? st.closed 0)

any-chunk : (c : List ℕ) (m : Mach) → Chunk c m
any-chunk c m =
    ⊎_elim
    (λ h. short h (sym (chunk-short c m h)))
    (λ h. ⊎_elim
    (λ d. damaged h d (sym (chunk-damaged c m h d)))
    (λ d. let f = tests-fit m h d in
    ⊎_elim
    (λ e. taken h d e (sym (chunk-taken c m h d e (chunk_of c m) refl)) (chunk-live c m ∙ e) (bounded (chunk_of c m).st (chunk-fit c m f).sound))
    (λ e. late h d e (sym (chunk-late c m h d (λ z. omega (arith, z, e)))) (bounded m.st f.sound))
    (open-or-shut m.st f.sound))
    (test (damaged_of m.st)))
    (test (short_of m.contents m.body m.map m.verdicts))

any-close : (st : Admission) → Close st
unfolding close_of
any-close st =
    ⊎_elim
    (λ d. broken d (rw d))
    (λ d. let s = whole-sound st d in
    ⊎_elim
    (λ e. let x = ended-shut st s in
    let q : ended_of st ≡ close_of st = rw (d, eq-eqb st.closed 0 e) in
    ended d e
    (subst (λ (a : Admitted). (a.refusal ≡ 0) ⊎ ((30 ≤ a.refusal) × (a.refusal ≤ 35))) q (ended-packs st s))
    (subst (λ (a : Admitted). a.admission.closed ≡ 1) q x.closed)
    (subst (λ (a : Admitted). Bounded a.admission) q (bounded (ended_of st).admission x.sound)))
    (λ e. again d e (shut-close st (record { sound = s; closed = e })) (bounded st s))
    (open-or-shut st s))
    (test (damaged_of st))

any-ask : (st : Admission) → Ask st
unfolding ask_of
any-ask st =
    ⊎_elim
    (λ d. torn d (rw d))
    (λ d. let s = whole-sound st d in
    ⊎_elim
    (λ e. still d e (rw (d, eq-eqb st.closed 0 e)) (bounded st s))
    (λ e. told d e (shut-ask st (record { sound = s; closed = e })) (⊎_elim (λ z. inl z) (λ p. inr (p.1, p.2)) s.told) (bounded st s))
    (open-or-shut st s))
    (test (damaged_of st))

pub answers-any : AnswersAny
unfolding AnswersAny
answers-any = (any-chunk, any-close, any-ask)

pub keeps-only-these : KeepsOnlyThese
unfolding KeepsOnlyThese
keeps-only-these c m = by (any-chunk c m)
  where
    same : (n : ℕ) → admit_of c m ≡ (n, m) → Within m (admit_of c m).1
    same n e = subst (λ (o : Outcome). Within m o.1) (sym e) (within m)

    by : Chunk c m → Within m (admit_of c m).1
    by (short h e) = same 90 e
    by (damaged h d e) = same 91 e
    by (late h d z e b) = same 37 e
    by (taken h d z e l b) = subst (λ (o : Outcome). Within m o.1) (sym e) (chunk-within c m (tests-fit m h d))

-- two that hold the same
pub keeps-nothing-else : KeepsNothingElse
unfolding KeepsNothingElse
keeps-nothing-else cs c m n b g a =
    subst (λ (x : Outcome). Goes x (admit_of c n)) (chunk-taken c k (fit-roomy k o.fit) d o.live (chunk_of c k) refl)
    (subst (Goes (0, chunk_of c k)) (chunk-taken c n g e (subst (λ (st : Admission). st.closed ≡ 0) a.st o.live) (chunk_of c n) refl)
    (refl, chunk-alike c (joined cs) k n o.fit f o.stands a, chunk-told c (joined cs) k n o.fit f o.stands a))
  where
    k : Mach
    k = admit_all cs m

    o : Open (joined cs) k
    o = come cs m b

    d : damaged_of k.st ≡ false
    d = sound-whole k.st o.fit.sound

    e : damaged_of n.st ≡ false
    e = subst (λ (st : Admission). damaged_of st ≡ false) a.st d

    f : Fit n
    f = tests-fit n g e

    Goes : Outcome → Outcome → Type 0
    Goes x y = (x.0 ≡ y.0) × Alike x.1 y.1 × (SameVerdicts k.st.judged k.verdicts n.verdicts → SameVerdicts x.1.st.judged x.1.verdicts y.1.verdicts)
