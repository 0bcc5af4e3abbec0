-- What a host reads by lies inside what it lent: entries of a pack, lengths, depths and addresses.
-- Assumes nothing.
use Prim.Native.Nat.{ℕ, suc, ◌≤◌}
use native.Mathlib.Omega.{arith}
use mathlib.Core.Path.{◌≡◌, refl, sym, ap, ◌∙◌}
use mathlib.Core.Logic.{◌⊎◌, inl, inr}
use mathlib.Core.List.{List}
use lib.ListN.{length, get_or, get_or-map}
use Rattle.decoder.proofs.Lengths.{read_length}
use Rattle.machine.specs.Machine.{Machine, step_of}
use Rattle.machine.specs.Trace.{Took, none, more, Ends, paused, stopped, faults}
use Rattle.machine.proofs.Runs.{run-told}
use Rattle.machine.proofs.Loop.{Sound, step-sound}
use Rattle.machine.proofs.Answers.{allowed-runs}
use Rattle.paths.specs.Paths.{Met, start, onward}
use Rattle.paths.specs.Walk.{Mark, unmet, due, examined, cell_of}
use Rattle.paths.proofs.Marks.{Says, at-is}
use Rattle.paths.proofs.Walks.{final}
use Rattle.paths.proofs.Inside.{walk_inside}
use Rattle.look.specs.Look.{look_of}
use Rattle.look.proofs.Shallow.{shallow}
use Rattle.meeting.specs.Clash.{two_depths}
use Rattle.rules.proofs.Inside as packs
use Rattle.guarantee.proofs.Verdicts.{Marked, accepted-marks, refused-walk}
use Rattle.guarantee.specs.Demands.{KeepsSizes, ReadsInside, EntriesLieInside, DepthsFit, NamesInside}

pub reads-inside : ReadsInside
unfolding ReadsInside
reads-inside program at n i e = let r = read_length program at (i, n) e in (r.0, r.1)

pub entries-lie-inside : EntriesLieInside
unfolding EntriesLieInside
entries-lie-inside = ((λ s n h. packs.count_most s n h), (λ s index e h. packs.listed-inside s index e h), (λ s tag e h. packs.found_inside s tag e h))

-- one machine after another
sound-again : {m later last : Machine} → Sound m later → Sound later last → Sound m last
sound-again p q = record { same_mem = q.same_mem ∙ p.same_mem; same_cells = q.same_cells ∙ p.same_cells; deep = q.deep }

took-sound : (program : List ℕ) (m last : Machine) (k : ℕ) → m.state.depth ≤ length m.cells → Took program m k last → Sound m last
took-sound program m last k h none = record { same_mem = refl; same_cells = refl; deep = h }
took-sound program m last (suc k) h (more r f t) = let s = step-sound program m h in sound-again s (took-sound program (step_of program m) last k s.deep t)

ends-sound : (program : List ℕ) (m last m' : Machine) (left : ℕ) → Sound m last → Ends program last left m' → Sound m m'
ends-sound program m last m' left s (paused r) = s
ends-sound program m last m' left s (stopped r) = s
ends-sound program m last m' left s (faults r f) = sound-again s (step-sound program last s.deep)

pub keeps-sizes : KeepsSizes
unfolding KeepsSizes
keeps-sizes budget count program m m' a e =
    let t = run-told program budget m m' count (sym (allowed-runs budget program m a) ∙ e) in
    let s = ends-sound program m t.last m' t.left (took-sound program m t.last count a.deep t.took) t.ends in
    (s.same_mem, s.same_cells, s.deep)

pub names-inside : NamesInside
unfolding NamesInside
names-inside program cells depths after n a e = walk_inside two_depths (look_of program cells) (length program) n a (refused-walk program cells depths after n a e).0

-- a path meets no address at a depth over the cells
met-fits : (program : List ℕ) (cells a d : ℕ) → Met (look_of program cells) a d → d ≤ cells
met-fits program cells a d start = omega arith
met-fits program cells a d (onward {a = b} {d = e} {hs = hs} m l i) = shallow program cells b e a d hs l i

pub depths-fit : DepthsFit
unfolding DepthsFit
depths-fit program cells depths after e a = by (get_or ms a unmet) refl
  where
    m : Marked program cells depths after
    m = accepted-marks program cells depths after e

    ms : List Mark
    ms = m.marks

    cell : (k : Mark) → get_or ms a unmet ≡ k → get_or after a 65535 ≡ cell_of k
    cell k q = ap (λ (l : List ℕ). get_or l a 65535) m.filled ∙ get_or-map cell_of ms a unmet ∙ ap cell_of q

    met : (d : ℕ) (k : Mark) → get_or ms a unmet ≡ k → Says k d → d ≤ cells
    met d k q s = met-fits program cells a d ((final two_depths (look_of program cells) (length program) ms m.walked).0.sound.real a d (at-is ms a d k q s))

    by : (k : Mark) → get_or ms a unmet ≡ k → (get_or after a 65535 ≡ 65535) ⊎ (get_or after a 65535 ≤ cells)
    by unmet q = inl (cell unmet q)
    by (due d) q = inr (rw (cell (due d) q) (met d (due d) q refl))
    by (examined d) q = inr (rw (cell (examined d) q) (met d (examined d) q refl))
