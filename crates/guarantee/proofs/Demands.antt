-- The demands hold.
-- Assumes nothing.
use Prim.Native.Nat.{ℕ, zero, suc, ◌+◌, ◌≤◌}
use native.Mathlib.Omega.{arith}
use native.Mathlib.Nat.{zero-add}
use mathlib.Core.Path.{◌≡◌, refl, sym, ap, ◌∙◌, subst}
use mathlib.Core.Logic.{inl, inr, ⊎_elim}
use mathlib.Core.Bool.{Bool, true, false}
use mathlib.Core.List.{List, map}
use lib.ListN.{length}
use Rattle.basis.specs.Pick.{pick}
use Rattle.machine.specs.Machine.{Machine, machine, fresh, step_of}
use Rattle.machine.specs.Run.{came, is_running, is_faulted, run_of, outcome_of}
use Rattle.machine.specs.Refusals.{Allowed}
use Rattle.machine.specs.Trace.{Told}
use Rattle.machine.proofs.Runs.{run-used, run-told, told-run}
use Rattle.machine.proofs.Answers.{over-refused, allowed-runs, over-or-allowed}
use Rattle.effects.proofs.Frame.{act-framed}
use Rattle.effects.proofs.Agrees.{act-alike}
use Rattle.encoder.proofs.Trips.{read-stands, stands_read, written_read, read-written, encoded-one}
use Rattle.decoder.proofs.Refuses.{refusal-why, why-refusal}
use Rattle.paths.specs.Paths.{Mapped}
use Rattle.paths.specs.Walk.{cell_of}
use Rattle.paths.proofs.Walks.{final, shows, accepted-fine, fine-accepted, accepted-mapped}
use Rattle.look.specs.Look.{look_of}
use Rattle.look.proofs.Wrongs.{clear-fine, fine-clear}
use Rattle.meeting.specs.Clash.{two_depths}
use Rattle.verifier.specs.Verify.{nameless, on_walk, verify_of}
use Rattle.verifier.proofs.Verdicts as verdicts
use Rattle.verifier.proofs.Numbers.{verify-number}
use Rattle.safety.specs.Sealed.{Sealed}
use Rattle.safety.proofs.Safety.{fresh-safe, resumed-safe}
use Rattle.guarantee.proofs.Verdicts.{accepted-marks, refused-walk, early-refused, final-sealed, answer}
use Rattle.guarantee.proofs.Faults.{run-faulted-by, fault-alters, unread-alters}
use Rattle.rules.proofs.Forth.{packed-read, packed-rules}
use Rattle.rules.proofs.Takes.{packable-written}
use Rattle.rules.proofs.Trips as packs
use Rattle.rules.proofs.Refuses as packs-refuse
use Rattle.rules.proofs.Finds as finds
use Rattle.guarantee.specs.Demands.{IsRefused, HasAnswer, IsStepByStep, NoneAtZero, NoSumWraps, IsRead, IsWrittenAgain, IsReadAgain, RefusesExactly, BytesTellApart, PackIsRead, PackIsWrittenAgain, PackIsReadAgain, PackRefusesExactly, FindsExactly, Early, long_program, many_cells, unlike_map, RefusesEarly, AcceptsExactly, WritesDepths, ShowsRefusals, RunsSafely, Answers}
use Rattle.guarantee.specs.Demands.{FaultsByNumber, FaultAltersStatus, ReadsOnlyItsRange, RefusesByNumber, Accepts, ResumesSafely}

pub is-refused : IsRefused
unfolding IsRefused
is-refused budget program m n o = over-refused budget program m n o

-- a run of the definition ends within its budget
ends : (n k : ℕ) (program : List ℕ) (m : Machine) → (m' : Machine) × (c : ℕ) × (run_of n program m k ≡ came m' c)
unfolding run_of
ends zero k program m = (m, k, refl)
ends (suc n) k program m = by (ends n (k + 1) program (step_of program m)) (is_running m.state.status) (is_faulted (step_of program m).state.status)
  where
    by : (m' : Machine) × (c : ℕ) × (run_of n program (step_of program m) (k + 1) ≡ came m' c) → (t u : Bool)
        → (m' : Machine) × (c : ℕ) × (pick t (pick u (came (step_of program m) k) (run_of n program (step_of program m) (k + 1))) (came m k) ≡ came m' c)
    by r true true = (step_of program m, k, refl)
    by r true false = r
    by r false u = (m, k, refl)

pub has-answer : HasAnswer
unfolding HasAnswer
has-answer budget program m = ⊎_elim (λ o. inl o) (λ a. inr (allowed a)) (over-or-allowed program m)
  where
    allowed : Allowed program m → (m' : Machine) × (k : ℕ) × (outcome_of budget program m ≡ came m' k) × (k ≤ budget) × Told program budget m m' k
    allowed a =
        let r = ends budget 0 program m in
        let t = run-told program budget m r.0 r.1 r.2 in
        (r.0, r.1, allowed-runs budget program m a ∙ r.2, omega (arith, t.within), t)

pub is-step-by-step : IsStepByStep
unfolding IsStepByStep
is-step-by-step = (
  (λ budget count program m m' a e. run-told program budget m m' count (sym (allowed-runs budget program m a) ∙ e)),
  (λ steps left program m last m' a t e. allowed-runs (steps + left) program m a ∙ told-run program 0 steps left m last m' t e ∙ ap (λ (k : ℕ). came m' k) (zero-add steps)),
)

pub none_at_zero : NoneAtZero
unfolding NoneAtZero
none_at_zero program m a = allowed-runs 0 program m a ∙ run-used program m 0 0 refl

pub faults-by-number : FaultsByNumber
unfolding FaultsByNumber
faults-by-number budget count program m m' a f e = run-faulted-by program budget count m m' a.program_size f (run-told program budget m m' count (sym (allowed-runs budget program m a) ∙ e))

pub fault-alters-status : FaultAltersStatus
unfolding FaultAltersStatus
fault-alters-status = ((λ program m h. fault-alters program m h), (λ program m n e. unread-alters program m n e))

pub no-sum-wraps : NoSumWraps
unfolding NoSumWraps
no-sum-wraps program m i n e = act-framed program m.state.address m.state.depth m.mem m.cells i n e

pub reads-only-its-range : ReadsOnlyItsRange
unfolding ReadsOnlyItsRange
reads-only-its-range program m other i n e g = act-alike program m.state.address m.state.depth m.mem other m.cells i n e g

pub is_read : IsRead
unfolding IsRead
is_read before after i w l = stands_read before after i w l

pub is-written-again : IsWrittenAgain
unfolding IsWrittenAgain
is-written-again p at n room i b e r = ((read-stands p at n i b e).well, read-written p at n room i b e r)

pub is-read-again : IsReadAgain
unfolding IsReadAgain
is-read-again before room bytes i e l = written_read before room bytes i e l

pub refuses-exactly : RefusesExactly
unfolding RefusesExactly
refuses-exactly = ((λ p at n b e. refusal-why p at n b e), (λ p at n w. why-refusal p at n w))

pub bytes-tell-apart : BytesTellApart
unfolding BytesTellApart
bytes-tell-apart i j h k e = encoded-one i j h k e

pub pack-is-read : PackIsRead
unfolding PackIsRead
pack-is-read rs g = (packed-read rs g, packed-rules rs g)

pub pack-is-written-again : PackIsWrittenAgain
unfolding PackIsWrittenAgain
pack-is-written-again s es room b h l = (packs.read-well-formed s es b h, packs.read-written s es room b h l)

pub pack-is-read-again : PackIsReadAgain
unfolding PackIsReadAgain
pack-is-read-again = (
  (λ tags cells lengths bodies room bytes w h. packs.written_read tags cells lengths bodies room bytes w h),
  (λ rs room g h. packable-written rs room g h),
)

pub pack-refuses-exactly : PackRefusesExactly
unfolding PackRefusesExactly
pack-refuses-exactly = ((λ s n h. packs-refuse.refusal-why s n h), (λ s n w. packs-refuse.why-refusal s n w))

pub finds-exactly : FindsExactly
unfolding FindsExactly
finds-exactly s w = ((λ r m. finds.rule_found s w r m), (λ tag e h. finds.found-rule s w tag e h), (λ tag n. finds.absent-refused s w tag n))

pub refuses-early : RefusesEarly
unfolding RefusesEarly
refuses-early = ((λ program cells depths n h. early program cells depths n h), (λ program cells depths after n e. back program cells depths after n e))
  where
    early : (program : List ℕ) (cells : ℕ) (depths : List ℕ) (n : ℕ) → Early program cells depths n → verify_of program cells depths ≡ (nameless n, depths)
    early program cells depths n (long_program h) = sym (verdicts.long_program program cells depths h)
    early program cells depths n (many_cells s h) = sym (verdicts.many_cells program cells depths s h)
    early program cells depths n (unlike_map s c h) = sym (verdicts.unlike_map program cells depths s c h)

    back : (program : List ℕ) (cells : ℕ) (depths after : List ℕ) (n : ℕ) → verify_of program cells depths ≡ (nameless n, after) → Early program cells depths n
    back program cells depths after n e = early-refused program cells depths after n e

pub accepts-exactly : AcceptsExactly
unfolding AcceptsExactly
accepts-exactly = (
  (λ program cells depths after e.
      let m = accepted-marks program cells depths after e in
      (m.admissible, fine-clear program cells (accepted-fine two_depths (look_of program cells) (length program) m.marks m.walked))),
  (λ program cells depths a c.
      let f = fine-accepted two_depths (look_of program cells) (length program) (clear-fine program cells c) in
      (map cell_of f.0, sym (verdicts.walks program cells depths a.size a.few a.alike) ∙ ap (on_walk (length program)) f.1)),
)

pub writes-depths : WritesDepths
unfolding WritesDepths
writes-depths program cells depths after e =
    let m = accepted-marks program cells depths after e in
    subst (Mapped (look_of program cells) (length program)) (sym m.filled) (accepted-mapped two_depths (look_of program cells) (length program) m.marks m.walked)

pub shows-refusals : ShowsRefusals
unfolding ShowsRefusals
shows-refusals program cells depths after n a e =
    let r = refused-walk program cells depths after n a e in
    (shows two_depths (look_of program cells) (length program) n a r.0, r.1)

pub refuses-by-number : RefusesByNumber
unfolding RefusesByNumber
refuses-by-number program cells depths = verify-number program cells depths

-- the map that an accepted program leaves is sealed
accepted-sealed : (program : List ℕ) (cells : ℕ) (depths after : List ℕ) → Accepts program cells depths after → Sealed program cells after
accepted-sealed program cells depths after e =
    let m = accepted-marks program cells depths after e in
    subst (Sealed program cells) (sym m.filled)
    (final-sealed program cells m.admissible.few m.marks (final two_depths (look_of program cells) (length program) m.marks m.walked).0)

pub resumes-safely : ResumesSafely
unfolding ResumesSafely
resumes-safely program cells depths after e =
    let s = accepted-sealed program cells depths after e in
    ((λ mem cs. fresh-safe program cells after s mem cs), (λ budget count m mem cs m' h a l o. resumed-safe program cells after s budget count m mem cs m' h a (omega arith) o))

pub runs-safely : RunsSafely
unfolding RunsSafely ResumesSafely
runs-safely program cells depths after e budget count mem cs m' a l o =
    let r = resumes-safely program cells depths after e in
    r.1 budget count (machine fresh mem cs) mem cs m' (r.0 mem cs) a (omega arith) o

pub answers : Answers
unfolding Answers
answers program cells depths = answer program cells depths
