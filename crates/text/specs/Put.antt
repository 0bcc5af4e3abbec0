-- What a function leaves that puts bytes into a room.
use Rattle.std.specs.Prelude.{ℕ, ◌+◌, ◌≡◌, List, length}
use Rattle.std.proofs.lemmas.List.Edits.{sets}

-- the room with xs from a place on, all else in it as before, and the place after them
pub record Put (xs before : List ℕ) (at : ℕ) (after : List ℕ) (end : ℕ) : Type 0 where
  pub room : after ≡ sets before at xs
  pub next : end ≡ at + length xs
