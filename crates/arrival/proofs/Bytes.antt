-- What a byte does, by the case that applies.
-- Assumes nothing.
use Prim.Native.Nat.{ℕ, ◌+◌, ◌≤◌, ◌<◌}
use mathlib.Core.Path.{◌≡◌, ◌∙◌}
use lib.ListN.{set}
use borrow.Author.Tests.{lt-ltb, le-ltb}
use Rattle.admission.specs.Numbers.{counts, judges}
use Rattle.admission.specs.Admission.{Mach, mach, counted_as, settled, sized_of, opened_of, contents_byte, body_byte, byte_of}
use Rattle.admission.specs.declared.Admission.{Admission}

module _ (x : ℕ) (m : Mach) where
  pub byte-over : 24576 ≤ m.st.counted → counted_as 24577 m ≡ byte_of x m
  unfolding byte_of
  byte-over h = rw (le-ltb _ _ h)

  module _ (small : m.st.counted < 24576) where
    pub byte-contents :
        (n : Mach) (s t : Admission) → m.st.counted < m.st.want
        → s ≡ sized_of (counts (m.st.counted + 1) m.st) (set m.contents m.st.counted x) → t ≡ opened_of s (set m.contents m.st.counted x)
        → n ≡ settled (mach t (set m.contents m.st.counted x) m.body m.map m.verdicts)
        → n ≡ byte_of x m
    unfolding byte_of contents_byte
    byte-contents n s t h p q e = e ∙ rw (lt-ltb _ _ small, lt-ltb _ _ h, q, p)

    module _ (told : m.st.want ≤ m.st.counted) where
      pub byte_past : m.st.programs ≤ m.st.judged → counted_as (m.st.counted + 1) m ≡ byte_of x m
      unfolding byte_of
      byte_past h = rw (lt-ltb _ _ small, le-ltb _ _ told, le-ltb _ _ h)

      module _ (some : m.st.judged < m.st.programs) where
        pub byte-body :
            (n : Mach) → m.st.have < 16384
            → n ≡ settled (mach (judges m.st.judged (m.st.have + 1) (counts (m.st.counted + 1) m.st)) m.contents (set m.body m.st.have x) m.map m.verdicts)
            → n ≡ byte_of x m
        unfolding byte_of body_byte
        byte-body n h e = e ∙ rw (lt-ltb _ _ small, le-ltb _ _ told, lt-ltb _ _ some, lt-ltb _ _ h)
