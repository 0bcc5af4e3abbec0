-- What a whole pack is answered, by what its check answers.
-- Assumes nothing.
use Prim.Native.Nat.{ℕ}
use mathlib.Core.Path.{◌≡◌}
use mathlib.Core.List.{List, map}
use Rattle.basis.specs.Answer.{given, refused}
use Rattle.pack.specs.Read.{read_of}
use Rattle.pack.specs.declared.Entry.{Entry}
use Rattle.rulings.specs.Rulings.{ruling_of, rulings_of}

pub rulings-refused : (s : List ℕ) (k : ℕ) → read_of s ≡ refused k → rulings_of s ≡ refused k
unfolding rulings_of
rulings-refused s k e = rw e

pub rulings-given : (s : List ℕ) (es : List Entry) → read_of s ≡ given es → rulings_of s ≡ given (map (ruling_of s) es)
unfolding rulings_of
rulings-given s es e = rw e
