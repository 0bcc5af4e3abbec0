-- What a pen leaves that put bytes into its room.
use Rattle.std.specs.Prelude.{ℕ, ◌+◌, ◌≡◌, ◌≤◌, List, length}
use Rattle.text.specs.Put.{Put}
use Rattle.text.specs.declared.pen.Pen.{Pen}

-- n more bytes have a place in the room
abbrev pub HasPlace : Pen → ℕ → Type 0
HasPlace p n = p.at + n ≤ length p.room.now

-- xs stand in the pen's room where it was, and it stands after them; the room is the one that was lent
pub record Puts (xs : List ℕ) (before after : Pen) : Type 0 where
  pub puts : Put xs before.room.now before.at after.room.now after.at
  pub same : after.room.ghost_name ≡ before.room.ghost_name
