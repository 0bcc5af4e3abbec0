-- What an instruction leads to by its first byte, its shape at hand: for the contracts of inner functions.
use Rattle.std.specs.Prelude.{ℕ, Bool, true, false, List, [], ◌∷◌, ltb, eqb, drop}
use Rattle.basis.specs.Pick.{pick}
use Rattle.basis.specs.Answer.{Answer}
use Rattle.forms.specs.Form.{form_of, code_of, limit_in}
use Rattle.isa.specs.Shape.{way_in, depth_after}
use Rattle.decoder.specs.Decode.{number_in}
use Rattle.paths.specs.Paths.{Outcome, bad}
use Rattle.look.specs.Look.{on_way}
use Rattle.glance.specs.declared.Found.{Found}

-- the first bytes that lead elsewhere than to the next instruction, and the shifts
abbrev pub turning : ℕ → Bool
turning b = member b (0x00 ∷ 0x05 ∷ 0x06 ∷ 0x07 ∷ 0x08 ∷ 0x09 ∷ 0x0A ∷ 0x31 ∷ 0x32 ∷ 0x3B ∷ 0x3C ∷ 0x3D ∷ 0x3E ∷ 0x3F ∷ 0x40 ∷ 0x55 ∷ 0x56 ∷ 0x57 ∷ 0x58 ∷ 0x59 ∷ 0x5A ∷ [])
  where
    member : ℕ → List ℕ → Bool
    member b [] = false
    member b (k ∷ ks) = pick (eqb b k) true (member b ks)

-- the stack check of what was found
abbrev pub after_of : Found → Answer ℕ
after_of f = depth_after f.cells f.depth f.taken f.pushed

-- the instruction at an address of a program, which begins with b: 2 where its number is not below its limit, else where it leads
unfoldable pub first_on : List ℕ → ℕ → ℕ → Found → Outcome
first_on program at b found =
    let f = form_of (code_of b) in
    let x = number_in f (drop at program) in
    pick (ltb x (limit_in f)) (on_way found.next (way_in (code_of b) x) (after_of found)) (bad 2)
