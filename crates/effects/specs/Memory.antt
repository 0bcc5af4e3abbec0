-- The memories: operands, pushes, ranges and copies.
use Rattle.std.specs.Prelude.{ℕ, ◌+◌, ◌-◌, Bool, List, [], ◌∷◌, length, get_or, set, take, drop, leb}
use Rattle.std.proofs.lemmas.List.Edits.{sets}

-- "with n cells and depth d the live values are cells n-d to n-1, and the top is cell n-d": operand 0 is a, the top; then b, then c
abbrev pub operand_of : List ℕ → ℕ → ℕ → ℕ
operand_of cells depth i = get_or cells (length cells - depth + i) 0

-- "a push writes one cell": these values, first to last, onto a stack of this depth
abbrev pub pushed : List ℕ → ℕ → List ℕ → List ℕ
pushed cells depth [] = cells
pushed cells depth (v ∷ vs) = pushed (set cells (length cells - (depth + 1)) v) (depth + 1) vs

-- "An access of w bytes at p is good exactly if p + w is at most the memory's length"
abbrev pub good : List ℕ → ℕ → ℕ → Bool
good memory p w = leb (p + w) (length memory)

-- "c bytes from data b to data a", "the same from program b": the data with the c bytes that stood from b of the source on now from a on;
-- "all source bytes are read before any is written" (02, No. 2), so that the source may be the data itself
abbrev pub copied : List ℕ → ℕ → ℕ → ℕ → List ℕ → List ℕ
copied source c a b mem = sets mem a (take c (drop b source))
