-- Laws of what is put into a room: one run of bytes after another, a byte, and none.
-- Assumes nothing.
use Prim.Native.Nat.{ℕ, zero, suc, ◌+◌, ◌*◌, ◌/◌}
use native.Mathlib.Omega.{arith}
use native.Mathlib.Nat.{add_assoc}
use mathlib.Core.Path.{◌≡◌, refl, sym, ap, ◌∙◌}
use mathlib.Core.List.{List, [], ◌++◌}
use lib.ListN.{length, length-append}
use lib.Seq.{length-sets}
use Rattle.basis.proofs.Stores.{sets-append}
use Rattle.text.specs.Text.{hex_of}
use Rattle.text.specs.Put.{Put}
use Rattle.text.specs.Pen.{Puts, HasPlace}
use Rattle.text.specs.declared.pen.Pen.{Pen}

pub length-hex : (w v : ℕ) → length (hex_of w v) ≡ 2 * w
length-hex zero v = refl
length-hex (suc w) v = rw (length-append, length-hex w (v / 256)) (omega arith)

-- nothing, and one byte
pub put-none : (room : List ℕ) (at : ℕ) → Put [] room at room at
put-none room at = record { room = refl; next = omega arith }

-- one run of bytes after another
pub put-append : {xs ys r₀ r₁ r₂ : List ℕ} {a₀ a₁ a₂ : ℕ} → Put xs r₀ a₀ r₁ a₁ → Put ys r₁ a₁ r₂ a₂ → Put (xs ++ ys) r₀ a₀ r₂ a₂
put-append {xs} {ys} {r₀} {a₀ = a₀} p q = record {
  room = rw (q.room, p.next, p.room) (sym (sets-append xs r₀ ys a₀));
  next = rw (q.next, p.next, length-append) (add_assoc a₀ (length xs) (length ys));
}

-- one run of bytes after another, by a pen
pub puts-append : {xs ys : List ℕ} {p q r : Pen} → Puts xs p q → Puts ys q r → Puts (xs ++ ys) p r
puts-append p q = record { puts = put-append p.puts q.puts; same = q.same ∙ p.same }

-- what has a place after what was put
pub puts-place : {xs : List ℕ} {p q : Pen} (n : ℕ) → Puts xs p q → HasPlace p (length xs + n) → HasPlace q n
puts-place {xs} {p} n h g = omega (arith, h.puts.next, ap length h.puts.room, length-sets p.room.now p.at xs)

-- a pen keeps its room's length
pub puts-room : {xs : List ℕ} {p q : Pen} → Puts xs p q → length q.room.now ≡ length p.room.now
puts-room {xs} {p} h = ap length h.puts.room ∙ length-sets p.room.now p.at xs
