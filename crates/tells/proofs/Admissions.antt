-- What the calls of the C face tell of a pack that comes in chunks.
-- Assumes nothing.
use Prim.Native.Nat.{ℕ, ◌≤◌, ◌<◌}
use native.Mathlib.Omega.{arith}
use mathlib.Core.Path.{◌≡◌, refl, sym, ap, ◌∙◌, subst}
use mathlib.Core.Logic.{⊎_elim}
use mathlib.Core.List.{List, [], ◌∷◌, ◌++◌}
use lib.Dec.{ltb}
use lib.ListN.{length, replicate}
use borrow.Author.Tests.{lt-ltb, le-ltb, ltb-true, ltb-false}
use Rattle.basis.proofs.Tests.{pick-cases, test}
use Rattle.rulings.specs.Rulings.{rulings_of}
use Rattle.report.specs.Report.{report_in, report_of}
use Rattle.admission.specs.Numbers.{start_of, wild_of, damaged_of, lost_of}
use Rattle.admission.specs.Admission.{Mach, mach, Outcome, admit_of, answered, ended_of, close_of, ask_of}
use Rattle.admission.specs.declared.Admission.{Admission}
use Rattle.admission.specs.declared.Admitted.{Admitted}
use Rattle.admission.proofs.Tests.{whole-sound, roomy-enough}
use Rattle.streams.specs.Told.{told_by, admit_all, joined, Begun}
use Rattle.streams.proofs.Ending.{ended-packs}
use Rattle.streams.proofs.Streams.{Open, come, closed, close-ends}
use Rattle.guarantee.specs.Downloads.{shut, Late, LateIsRefused, AsksOpen, AnswersAny, Chunk, short, damaged, late, taken, Close, broken, again, ended}
use Rattle.guarantee.proofs.Downloads.{asks-open, none_left, late-is-refused, answers-any}
use Rattle.answers.specs.Admissions.{admission_of, kept_in, untold, told_in, start_in, admitted_in, close_in, ask_in, Lent, lent, left_in, chunk_in}
use Rattle.answers.specs.declared.KhxAdmitted.{KhxAdmitted}
use Rattle.tells.specs.Admissions.{started, called, called_all, heard_of, CallsAsWhole, CallsAsReport, NumbersHold, mach_in, CallsAdmit, FewAreRefused, Tells, TellsItself, shut_in, Shuts, CloseShuts, ZerosAreRefused, VerdictsFit, RefusedChangesNothing}

long_kept : (st : Admission) (xs : List ℕ) → 8 ≤ length (kept_in st xs)
long_kept st xs = omega arith

-- an admission that is written as it was read changes nothing
kept_read : (xs : List ℕ) → 8 ≤ length xs → kept_in (admission_of xs) xs ≡ xs
kept_read [] h = absurd (omega arith)
kept_read (a ∷ []) h = absurd (omega arith)
kept_read (a ∷ b ∷ []) h = absurd (omega arith)
kept_read (a ∷ b ∷ c ∷ []) h = absurd (omega arith)
kept_read (a ∷ b ∷ c ∷ d ∷ []) h = absurd (omega arith)
kept_read (a ∷ b ∷ c ∷ d ∷ e ∷ []) h = absurd (omega arith)
kept_read (a ∷ b ∷ c ∷ d ∷ e ∷ f ∷ []) h = absurd (omega arith)
kept_read (a ∷ b ∷ c ∷ d ∷ e ∷ f ∷ g ∷ []) h = absurd (omega arith)
kept_read (a ∷ b ∷ c ∷ d ∷ e ∷ f ∷ g ∷ i ∷ xs) h = refl

-- an admission with its memory, in what a host lends
abbrev held : KhxAdmitted → List ℕ → Mach → Lent
held r xs m = lent r (kept_in m.st xs) m.contents m.body m.map m.verdicts

-- a chunk over it
call-held : (r : KhxAdmitted) (xs c : List ℕ) (m : Mach) → called c (held r xs m) ≡ held (told_in (admit_of c m).0 (admit_of c m).1.st) xs (admit_of c m).1
unfolding chunk_in
call-held r xs c m = rw (le-ltb (length (kept_in m.st xs)) 8 (long_kept m.st xs))

calls-held : (cs : List (List ℕ)) (r : KhxAdmitted) (xs : List ℕ) (m : Mach) → (q : KhxAdmitted) × (called_all cs (held r xs m) ≡ held q xs (admit_all cs m))
calls-held [] r xs m = (r, refl)
calls-held (c ∷ cs) r xs m =
    let q = told_in (admit_of c m).0 (admit_of c m).1.st in
    let p = calls-held cs q xs (admit_of c m).1 in
    (p.0, ap (called_all cs) (call-held r xs c m) ∙ p.1)

start-held : (xs c b m v : List ℕ) → 8 ≤ length xs → started xs c b m v ≡ held (told_in 0 start_of) xs (mach start_of c b m v)
unfolding start_in
start-held xs c b m v h = rw (le-ltb (length xs) 8 h)

-- the close over it tells what the close of the admission does
low-close : (s : List ℕ) (m : Mach) → Open s m → (close_of m.st).refusal < 90
low-close s m o =
    let z : (close_of m.st).refusal ≡ (ended_of m.st).refusal = ap (λ (a : Admitted). a.refusal) (close-ends s m o) in
    ⊎_elim (λ u. omega (arith, u, z)) (λ u. omega (arith, u.1, z)) (ended-packs m.st o.fit.sound)

close-held : (s : List ℕ) (r : KhxAdmitted) (xs : List ℕ) (m : Mach) → Open s m → heard_of (held r xs m) ≡ rulings_of s
unfolding heard_of close_in told_in told_by
close-held s r xs m o = rw (le-ltb (length (kept_in m.st xs)) 8 (long_kept m.st xs), lt-ltb (close_of m.st).refusal 90 (low-close s m o)) (closed s m o)

pub calls-as-whole : CallsAsWhole
unfolding CallsAsWhole
calls-as-whole cs xs c b m v e =
    let k = mach start_of c b m v in
    let p = calls-held cs (told_in 0 start_of) xs k in
    let g : Begun k = record { start = refl; contents = e.contents; body = e.body; map = e.map; verdicts = e.verdicts } in
    ap heard_of (ap (called_all cs) (start-held xs c b m v e.numbers) ∙ p.1) ∙ close-held (joined cs) p.0 xs (admit_all cs k) (come cs k g)

pub calls-as-report : CallsAsReport
unfolding CallsAsReport CallsAsWhole report_of
calls-as-report cs xs c b m v e = ap report_in (calls-as-whole cs xs c b m v e)

pub numbers-hold : NumbersHold
unfolding NumbersHold
numbers-hold st xs = (refl, refl)

-- what an answer tells
told-refusal : (n : ℕ) (st : Admission) → (told_in n st).refusal ≡ n
unfolding told_in
told-refusal n st =
    pick-cases (λ (r : KhxAdmitted). r.refusal ≡ n) (ltb n 90) (record { refusal = n; closed = st.closed; verdicts = st.judged; lost = lost_of st }) (untold n) (λ t. refl) (λ t. refl)

alone-tells : (n : ℕ) (st : Admission) → 90 ≤ n → Tells (untold n) st
alone-tells n st h = record { closed = λ l. absurd (omega arith); verdicts = λ l. absurd (omega arith); lost = λ l. absurd (omega arith); alone = λ l. refl }

told-tells : (n : ℕ) (st : Admission) → Tells (told_in n st) st
unfolding told_in
told-tells n st =
    pick-cases (λ (r : KhxAdmitted). Tells r st) (ltb n 90) (record { refusal = n; closed = st.closed; verdicts = st.judged; lost = lost_of st }) (untold n)
    (λ t. let l = ltb-true n 90 t in record { closed = λ h. refl; verdicts = λ h. refl; lost = λ h. refl; alone = λ h. absurd (omega arith) })
    (λ t. alone-tells n st (ltb-false n 90 t))

module _ (xs : List ℕ) where
  start-tells : Tells (start_in xs).0 (admission_of (start_in xs).1)
  unfolding start_in
  start-tells =
      pick-cases (λ (p : KhxAdmitted × List ℕ). Tells p.0 (admission_of p.1)) (ltb (length xs) 8) (untold 90, xs) (told_in 0 start_of, kept_in start_of xs)
      (λ t. alone-tells 90 (admission_of xs) (omega arith))
      (λ t. told-tells 0 start_of)

  close-tells : Tells (close_in xs).0 (admission_of (close_in xs).1)
  unfolding close_in
  close-tells =
      let r = close_of (admission_of xs) in
      pick-cases (λ (p : KhxAdmitted × List ℕ). Tells p.0 (admission_of p.1)) (ltb (length xs) 8) (untold 90, xs) (admitted_in r xs)
      (λ t. alone-tells 90 (admission_of xs) (omega arith))
      (λ t. told-tells r.refusal r.admission)

  ask-tells : Tells (ask_in xs) (admission_of xs)
  unfolding ask_in
  ask-tells =
      pick-cases (λ (r : KhxAdmitted). Tells r (admission_of xs)) (ltb (length xs) 8) (untold 90) (told_in (ask_of (admission_of xs)) (admission_of xs))
      (λ t. alone-tells 90 (admission_of xs) (omega arith))
      (λ t. told-tells (ask_of (admission_of xs)) (admission_of xs))

chunk-tells : (chunk xs c b m v : List ℕ) → Tells (chunk_in chunk xs c b m v).answer (admission_of (chunk_in chunk xs c b m v).numbers)
unfolding chunk_in
chunk-tells chunk xs c b m v =
    let o = admit_of chunk (mach (admission_of xs) c b m v) in
    pick-cases (λ (l : Lent). Tells l.answer (admission_of l.numbers)) (ltb (length xs) 8) (lent (untold 90) xs c b m v) (left_in o xs)
    (λ t. alone-tells 90 (admission_of xs) (omega arith))
    (λ t. told-tells o.0 o.1.st)

pub tells-itself : TellsItself
unfolding TellsItself
tells-itself = ((λ xs. (start-tells xs, close-tells xs, ask-tells xs)), chunk-tells)

-- each call is the admission's
pub calls-admit : CallsAdmit
unfolding CallsAdmit start_in chunk_in close_in ask_in
calls-admit l h =
    let t = le-ltb (length l.numbers) 8 h in
    let st = admission_of l.numbers in
    record {
      start = rw t (told-refusal 0 start_of, refl);
      chunk = λ c. rw t (told-refusal (admit_of c (mach_in l)).0 (admit_of c (mach_in l)).1.st, refl);
      close = rw t (told-refusal (close_of st).refusal (close_of st).admission, refl);
      ask = rw t (told-refusal (ask_of st) st);
    }

pub few-are-refused : FewAreRefused
unfolding FewAreRefused start_in chunk_in close_in ask_in
few-are-refused xs h =
    let t = lt-ltb (length xs) 8 h in
    record { start = rw t; chunk = λ chunk c b m v. rw t; close = rw t; ask = rw t }

-- the close, and what comes after it
shut-held : (r : KhxAdmitted) (xs : List ℕ) (m : Mach) → shut_in (held r xs m) ≡ held (told_in (close_of m.st).refusal (close_of m.st).admission) xs (shut m)
unfolding close_in
shut-held r xs m = rw (le-ltb (length (kept_in m.st xs)) 8 (long_kept m.st xs))

ask-held : (st : Admission) (xs : List ℕ) → ask_in (kept_in st xs) ≡ told_in (ask_of st) st
unfolding ask_in
ask-held st xs = rw (le-ltb (length (kept_in st xs)) 8 (long_kept st xs))

late-held : (s : List ℕ) (r : KhxAdmitted) (xs : List ℕ) (m : Mach) → Open s m → ask_of m.st ≡ 0 → Late m → Shuts (held r xs m)
late-held s r xs m o q l =
    record {
      before = (ap (λ (x : KhxAdmitted). x.refusal) asked ∙ told-refusal 0 m.st, ap (λ (x : KhxAdmitted). x.closed) asked ∙ (told-tells 0 m.st).closed (rw (told-refusal 0 m.st) (omega arith)) ∙ o.live);
      closed = ap (λ (x : Lent). x.answer.closed) e ∙ tells.closed below ∙ l.closed;
      none = λ n. ap (λ (x : Lent). x.answer.verdicts) e ∙ tells.verdicts below ∙ none_left s m o (λ z. n (ap (λ (x : Lent). x.answer.refusal) e ∙ told-refusal k a ∙ z));
      chunk = λ c. ap (λ (x : Lent). (called c x).answer.refusal) e ∙ ap (λ (x : Lent). x.answer.refusal) (call-held (told_in k a) xs c (shut m)) ∙ told-refusal (admit_of c (shut m)).0 (admit_of c (shut m)).1.st ∙ ap (λ (x : Outcome). x.0) (l.chunk c);
      close = ap (λ (x : Lent). (shut_in x).answer.refusal) e ∙ ap (λ (x : Lent). x.answer.refusal) (shut-held (told_in k a) xs (shut m)) ∙ told-refusal (close_of a).refusal (close_of a).admission ∙ ap (λ (x : Admitted). x.refusal) l.close;
      ask = ap (λ (x : Lent). ask_in x.numbers) e ∙ ask-held a xs ∙ ap (λ (n : ℕ). told_in n a) l.ask ∙ ap (λ (x : Lent). x.answer) (sym e);
    }
  where
    k : ℕ
    k = (close_of m.st).refusal

    a : Admission
    a = (close_of m.st).admission

    e : shut_in (held r xs m) ≡ held (told_in k a) xs (shut m)
    e = shut-held r xs m

    asked : ask_in (kept_in m.st xs) ≡ told_in 0 m.st
    asked = ask-held m.st xs ∙ ap (λ (n : ℕ). told_in n m.st) q

    tells : Tells (told_in k a) a
    tells = told-tells k a

    below : (told_in k a).refusal < 90
    below = rw (told-refusal k a) (low-close s m o)

pub close-shuts : CloseShuts
unfolding CloseShuts AsksOpen LateIsRefused
close-shuts cs xs c b m v e =
    let k = mach start_of c b m v in
    let p = calls-held cs (told_in 0 start_of) xs k in
    let g : Begun k = record { start = refl; contents = e.contents; body = e.body; map = e.map; verdicts = e.verdicts } in
    subst Shuts (sym (ap (called_all cs) (start-held xs c b m v e.numbers) ∙ p.1)) (late-held (joined cs) p.0 xs (admit_all cs k) (come cs k g) (asks-open cs k g) (late-is-refused cs k g))

-- memory of zeros
pub zeros-are-refused : ZerosAreRefused
unfolding ZerosAreRefused ask_in close_in chunk_in told_in ask_of close_of admit_of damaged_of wild_of
zeros-are-refused xs c b m v chunk e =
    let l = le-ltb (length (replicate 8 0 ++ xs)) 8 e.numbers in
    let r = roomy-enough c b m v (record { contents = e.contents; body = e.body; map = e.map; verdicts = e.verdicts }) in
    (rw l, rw l, rw (l, r))

-- how many verdicts an answer tells
told-few : (n : ℕ) (st : Admission) → (n < 90 → st.judged ≤ 64) → (told_in n st).verdicts ≤ 64
unfolding told_in
told-few n st h =
    pick-cases (λ (r : KhxAdmitted). r.verdicts ≤ 64) (ltb n 90) (record { refusal = n; closed = st.closed; verdicts = st.judged; lost = lost_of st }) (untold n)
    (λ t. h (ltb-true n 90 t))
    (λ t. omega arith)

start-few : (xs : List ℕ) → (start_in xs).0.verdicts ≤ 64
unfolding start_in
start-few xs =
    pick-cases (λ (p : KhxAdmitted × List ℕ). p.0.verdicts ≤ 64) (ltb (length xs) 8) (untold 90, xs) (told_in 0 start_of, kept_in start_of xs)
    (λ t. omega arith)
    (λ t. told-few 0 start_of (λ u. omega arith))

after-close : (st : Admission) → (close_of st).refusal < 90 → (close_of st).admission.judged ≤ 64
unfolding AnswersAny
after-close st = by (answers-any.1 st)
  where
    by : Close st → (close_of st).refusal < 90 → (close_of st).admission.judged ≤ 64
    by (broken d e) h = absurd (let z : 91 < 90 = subst (λ (a : Admitted). a.refusal < 90) e h in omega arith)
    by (again d c e b) h = subst (λ (a : Admitted). a.admission.judged ≤ 64) (sym e) (let s = whole-sound st d in let x = s.judged in let y = s.programs in omega arith)
    by (ended d c n x b) h = b.few

close-few : (xs : List ℕ) → (close_in xs).0.verdicts ≤ 64
unfolding close_in
close-few xs =
    pick-cases (λ (p : KhxAdmitted × List ℕ). p.0.verdicts ≤ 64) (ltb (length xs) 8) (untold 90, xs) (admitted_in (close_of (admission_of xs)) xs)
    (λ t. omega arith)
    (λ t. told-few (close_of (admission_of xs)).refusal (close_of (admission_of xs)).admission (after-close (admission_of xs)))

after-ask : (st : Admission) → ask_of st < 90 → st.judged ≤ 64
unfolding ask_of
after-ask st h =
    ⊎_elim
    (λ t. absurd (let z : 91 < 90 = rw t at h in omega arith))
    (λ t. let s = whole-sound st t in let x = s.judged in let y = s.programs in omega arith)
    (test (damaged_of st))

ask-few : (xs : List ℕ) → (ask_in xs).verdicts ≤ 64
unfolding ask_in
ask-few xs =
    pick-cases (λ (r : KhxAdmitted). r.verdicts ≤ 64) (ltb (length xs) 8) (untold 90) (told_in (ask_of (admission_of xs)) (admission_of xs))
    (λ t. omega arith)
    (λ t. told-few (ask_of (admission_of xs)) (admission_of xs) (after-ask (admission_of xs)))

after-chunk : (c : List ℕ) (m : Mach) → (admit_of c m).0 < 90 → (admit_of c m).1.st.judged ≤ 64
unfolding AnswersAny
after-chunk c m = by (answers-any.0 c m)
  where
    by : Chunk c m → (admit_of c m).0 < 90 → (admit_of c m).1.st.judged ≤ 64
    by (short x e) h = absurd (let z : 90 < 90 = subst (λ (o : Outcome). o.0 < 90) e h in omega arith)
    by (damaged x d e) h = absurd (let z : 91 < 90 = subst (λ (o : Outcome). o.0 < 90) e h in omega arith)
    by (late x d k e b) h = subst (λ (o : Outcome). o.1.st.judged ≤ 64) (sym e) b.few
    by (taken x d k e l b) h = subst (λ (o : Outcome). o.1.st.judged ≤ 64) (sym e) b.few

chunk-few : (chunk xs c b m v : List ℕ) → (chunk_in chunk xs c b m v).answer.verdicts ≤ 64
unfolding chunk_in
chunk-few chunk xs c b m v =
    let o = admit_of chunk (mach (admission_of xs) c b m v) in
    pick-cases (λ (l : Lent). l.answer.verdicts ≤ 64) (ltb (length xs) 8) (lent (untold 90) xs c b m v) (left_in o xs)
    (λ t. omega arith)
    (λ t. told-few o.0 o.1.st (after-chunk chunk (mach (admission_of xs) c b m v)))

pub verdicts-fit : VerdictsFit
unfolding VerdictsFit
verdicts-fit = ((λ xs. (start-few xs, close-few xs, ask-few xs)), chunk-few)

-- what a refusal leaves
outcome-kept : (xs : List ℕ) (o : Outcome) (n : ℕ) (c b m v : List ℕ) → 8 ≤ length xs → o ≡ (n, mach (admission_of xs) c b m v) → left_in o xs ≡ lent (left_in o xs).answer xs c b m v
outcome-kept xs o n c b m v h e = rw (e, kept_read xs h)

chunk_kept : (chunk xs c b m v : List ℕ) → ((chunk_in chunk xs c b m v).answer.refusal ≡ 0 → ⊥) → chunk_in chunk xs c b m v ≡ lent (chunk_in chunk xs c b m v).answer xs c b m v
unfolding chunk_in AnswersAny
chunk_kept chunk xs c b m v =
    pick-cases (λ (l : Lent). (l.answer.refusal ≡ 0 → ⊥) → l ≡ lent l.answer xs c b m v) (ltb (length xs) 8) (lent (untold 90) xs c b m v) (left_in (admit_of chunk k) xs)
    (λ t n. refl)
    (λ t. by (ltb-false _ _ t) (answers-any.0 chunk k))
  where
    k : Mach
    k = mach (admission_of xs) c b m v

    by : 8 ≤ length xs → Chunk chunk k → ((left_in (admit_of chunk k) xs).answer.refusal ≡ 0 → ⊥) → left_in (admit_of chunk k) xs ≡ lent (left_in (admit_of chunk k) xs).answer xs c b m v
    by h (short x e) n = outcome-kept xs (admit_of chunk k) 90 c b m v h e
    by h (damaged x d e) n = outcome-kept xs (admit_of chunk k) 91 c b m v h e
    by h (late x d z e p) n = outcome-kept xs (admit_of chunk k) 37 c b m v h e
    by h (taken x d z e l p) n = absurd (n (told-refusal (admit_of chunk k).0 (admit_of chunk k).1.st ∙ ap (λ (o : Outcome). o.0) e))

close-kept : (xs : List ℕ) → 37 ≤ (close_in xs).0.refusal → (close_in xs).1 ≡ xs
unfolding close_in AnswersAny
close-kept xs =
    pick-cases (λ (p : KhxAdmitted × List ℕ). 37 ≤ p.0.refusal → p.1 ≡ xs) (ltb (length xs) 8) (untold 90, xs) (admitted_in (close_of (admission_of xs)) xs)
    (λ t n. refl)
    (λ t. by (ltb-false _ _ t) (answers-any.1 (admission_of xs)))
  where
    st : Admission
    st = admission_of xs

    same : 8 ≤ length xs → (n : ℕ) → close_of st ≡ answered n st → kept_in (close_of st).admission xs ≡ xs
    same h n e = ap (λ (a : Admitted). kept_in a.admission xs) e ∙ kept_read xs h

    by : 8 ≤ length xs → Close st → 37 ≤ (told_in (close_of st).refusal (close_of st).admission).refusal → kept_in (close_of st).admission xs ≡ xs
    by h (broken d e) n = same h 91 e
    by h (again d c e b) n = same h 37 e
    by h (ended d c p x b) n =
        let q = told-refusal (close_of st).refusal (close_of st).admission in
        absurd (⊎_elim (λ u. omega (arith, q, u, n)) (λ u. omega (arith, q, u.1, n)) p)

pub refused-changes-nothing : RefusedChangesNothing
unfolding RefusedChangesNothing
refused-changes-nothing = (chunk_kept, close-kept)
