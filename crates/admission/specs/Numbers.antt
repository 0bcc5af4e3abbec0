-- The numbers of an admission: as it begins, one of them changed, and those that no admission has.
use Rattle.std.specs.Prelude.{ℕ, Bool, true, false, not, ltb, eqb}
use Rattle.basis.specs.Pick.{pick}
use Rattle.admission.specs.declared.Admission.{Admission}

-- no byte has come; of the contents it is known that they have two bytes at least
abbrev pub start_of : Admission
start_of = record { counted = 0; want = 2; programs = 0; end = 0; judged = 0; have = 0; refusal = 0; closed = 0 }

-- so many bytes have come
abbrev pub counts : ℕ → Admission → Admission
counts k st = record { counted = k; want = st.want; programs = st.programs; end = st.end; judged = st.judged; have = st.have; refusal = st.refusal; closed = st.closed }

-- the contents have so many bytes
abbrev pub wants : ℕ → Admission → Admission
wants k st = record { counted = st.counted; want = k; programs = st.programs; end = st.end; judged = st.judged; have = st.have; refusal = st.refusal; closed = st.closed }

-- the contents are good: so many programs, whose bodies end there
abbrev pub opens : ℕ → ℕ → Admission → Admission
opens n e st = record { counted = st.counted; want = st.want; programs = n; end = e; judged = st.judged; have = st.have; refusal = st.refusal; closed = st.closed }

-- so many programs have their verdict, and so many bytes of the next body have come
abbrev pub judges : ℕ → ℕ → Admission → Admission
judges i h st = record { counted = st.counted; want = st.want; programs = st.programs; end = st.end; judged = i; have = h; refusal = st.refusal; closed = st.closed }

-- the contents are refused
abbrev pub refuses : ℕ → Admission → Admission
refuses n st = record { counted = st.counted; want = st.want; programs = st.programs; end = st.end; judged = st.judged; have = st.have; refusal = n; closed = st.closed }

-- closed: the pack is admitted, or it is refused, and then it has no programs and no verdicts
abbrev pub admits : Admission → Admission
admits st = record { counted = st.counted; want = st.want; programs = st.programs; end = st.end; judged = st.judged; have = st.have; refusal = 0; closed = 1 }

abbrev pub withdraws : ℕ → Admission → Admission
withdraws n st = record { counted = st.counted; want = st.want; programs = 0; end = st.end; judged = 0; have = st.have; refusal = n; closed = 1 }

-- Numbers that no admission has: it was not begun (a memory of zeros wants no contents), or something else was written there. A number is past its
-- bound ..
unfoldable pub wild_of : Admission → Bool
wild_of st =
    pick (ltb 24577 st.counted) true
    (pick (ltb st.want 2) true
    (pick (ltb 514 st.want) true
    (pick (ltb 64 st.programs) true
    (pick (ltb st.programs st.judged) true
    (pick (ltb 16384 st.have) true
    (ltb 1 st.closed))))))

-- .. or programs are told before the contents are whole, or of a refused pack, or the refusal is by no number of a pack's
unfoldable pub torn_of : Admission → Bool
torn_of st =
    pick (eqb st.programs 0)
    (pick (eqb st.refusal 0) false
    (pick (ltb st.refusal 30) true
    (ltb 35 st.refusal)))
    (pick (ltb st.counted st.want) true
    (not (eqb st.refusal 0)))

unfoldable pub damaged_of : Admission → Bool
damaged_of st = pick (wild_of st) true (torn_of st)

-- what refuses the pack whatever follows, 0 where nothing does yet: more bytes than a pack has, or its contents; after the close, what refused it
unfoldable pub lost_of : Admission → ℕ
lost_of st = pick (ltb 24576 st.counted) 31 st.refusal
