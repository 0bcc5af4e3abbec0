-- An admission stands for the bytes that have come: what its numbers and its memory then hold.
use Rattle.std.specs.Prelude.{ℕ, ◌+◌, ◌-◌, ◌*◌, ◌≤◌, ◌<◌, ◌≡◌, List, ◌++◌, length, take, drop, ltb}
use Rattle.basis.specs.Pick.{pick}
use Rattle.basis.specs.Answer.{given, refused}
use Rattle.pack.specs.Contents.{first_of, entries_from, end_of}
use Rattle.pack.specs.Read.{count_of, contents_of}
use Rattle.admission.specs.Admission.{Mach}
use Rattle.rulings.specs.Rulings.{judged_of, ruling_of}
use Rattle.admission.specs.Verdicts.{codes_of}
use Rattle.streams.specs.Told.{entry_of, ruled_at, cells_of}

-- the length of the contents, as far as the bytes tell it
abbrev pub want_of : List ℕ → ℕ
want_of s = pick (ltb (length s) 2) 2 (first_of (count_of s))

-- the contents are not whole yet
pub record Cut (s : List ℕ) (m : Mach) : Type 0 where
  pub want : m.st.want ≡ want_of s
  pub less : length s < m.st.want
  pub few : 2 ≤ length s → count_of s ≤ 64
  pub contents : take (length s) m.contents ≡ s
  pub programs : m.st.programs ≡ 0
  pub judged : m.st.judged ≡ 0
  pub have : m.st.have ≡ 0
  pub refusal : m.st.refusal ≡ 0

-- the contents are refused, whatever follows
pub record Bad (s : List ℕ) (m : Mach) : Type 0 where
  pub nonzero : m.st.refusal ≡ 0 → ⊥
  pub want : m.st.want ≤ length s
  pub contents : take m.st.want m.contents ≡ take m.st.want s
  pub programs : m.st.programs ≡ 0
  pub judged : m.st.judged ≡ 0
  pub have : m.st.have ≡ 0
  pub always : (t : List ℕ) → contents_of (s ++ t) ≡ refused m.st.refusal

-- the program at an index has its verdict
pub record Done (s cells : List ℕ) (j : ℕ) : Type 0 where
  pub fits : (entry_of s j).offset + (entry_of s j).length ≤ length s
  pub said : ruled_at cells j ≡ ruling_of s (entry_of s j)
  pub coded : cells_of cells j ≡ codes_of (entry_of s j).tag (judged_of s (entry_of s j))

-- the contents are good and name n programs; the body of the program at the index `judged` begins at the place `at`
pub record Ready (s : List ℕ) (n : ℕ) (m : Mach) : Type 0 where
  pub is : count_of s ≡ n
  pub few : n ≤ 64
  pub room : first_of n ≤ length s
  pub want : m.st.want ≡ first_of n
  pub contents : take (first_of n) m.contents ≡ take (first_of n) s
  pub ends : contents_of s ≡ given m.st.end
  pub programs : m.st.programs ≡ n
  pub judged : m.st.judged ≤ n
  pub refusal : m.st.refusal ≡ 0
  pub done : (j : ℕ) → j < m.st.judged → Done s m.verdicts j
  pub least : ℕ
  pub at : ℕ
  pub rest : end_of least at (entries_from s (2 + 8 * m.st.judged) (n - m.st.judged)) ≡ given m.st.end
  pub reached : at ≤ length s
  pub place : m.st.judged < n → at + m.st.have ≡ length s
  pub body : m.st.judged < n → take m.st.have m.body ≡ drop at s
  pub within : m.st.judged < n → m.st.have ≤ (entry_of s m.st.judged).length
  pub idle : n ≤ m.st.judged → m.st.have ≡ 0

-- and it has not come whole
abbrev pub Short : List ℕ → ℕ → Mach → Type 0
Short s n m = m.st.judged < n → m.st.have < (entry_of s m.st.judged).length

pub data Part (s : List ℕ) (m : Mach) : Type 0 where
  cut : Cut s m → Part s m
  bad : Bad s m → Part s m
  good : (n : ℕ) → Ready s n m → Short s n m → Part s m

-- more bytes than a pack has, and then it is left as those that a pack can have left it; or these
pub data Stands (s : List ℕ) (m : Mach) : Type 0 where
  over : 24576 < length s → m.st.counted ≡ 24577 → Part (take 24576 s) m → Stands s m
  some : length s ≤ 24576 → m.st.counted ≡ length s → Part s m → Stands s m
