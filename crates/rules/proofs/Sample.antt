-- 01's sample pack and the pack of no rules, computed: each is read as its own, so a reader that refuses all, or has one answer, is none.
-- Assumes nothing.
use mathlib.Core.Path.{◌≡◌, refl}
use mathlib.Core.List.{[], ◌∷◌}
use Rattle.basis.specs.Answer.{given, refused}
use Rattle.pack.specs.Contents.{entry_at, refusal_of}
use Rattle.pack.specs.Read.{entries_of, contents_of, read_of}
use Rattle.pack.specs.Find.{find_of}
use Rattle.pack.specs.Format.{entry_bytes, pack_of}
use Rattle.packer.specs.Write.{entry_of, write_of}
use Rattle.rules.specs.Rules.{packed, write_rules}
use Rattle.rules.specs.Sample.{sample, sample_rules}

pub sample-packed : packed sample_rules ≡ sample
unfolding packed pack_of entry_bytes
sample-packed = refl

pub sample-read : read_of sample ≡ given (entry_of 7 2 10 4 ∷ [])
unfolding read_of contents_of entries_of entry_at refusal_of
sample-read = refl

pub sample-found : find_of sample 7 ≡ given (entry_of 7 2 10 4)
unfolding find_of read_of contents_of entries_of entry_at refusal_of
sample-found = refl

pub sample-absent : find_of sample 8 ≡ refused 36
unfolding find_of read_of contents_of entries_of entry_at refusal_of
sample-absent = refl

pub sample-written : write_rules sample_rules 14 ≡ given sample
unfolding write_of pack_of entry_bytes refusal_of
sample-written = refl

pub sample-no-room : write_rules sample_rules 13 ≡ refused 25
unfolding write_of pack_of entry_bytes refusal_of
sample-no-room = refl

-- the pack of no rules is two bytes
pub empty-packed : packed [] ≡ 0 ∷ 0 ∷ []
unfolding packed pack_of
empty-packed = refl

pub empty-read : read_of (0 ∷ 0 ∷ []) ≡ given []
unfolding read_of contents_of entries_of
empty-read = refl
