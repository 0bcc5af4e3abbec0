-- What is claimed of listings: that they tell programs apart, and the example of a whole one.
use Rattle.std.specs.Prelude.{ℕ, ◌≡◌, List, [], ◌∷◌}
use Rattle.basis.specs.Answer.{given}
use Rattle.basis.specs.Number.{Bytes}
use Rattle.text.specs.Text.{bytes}
use Rattle.listing.specs.Listing.{listing_of, list_of}

-- two programs with one listing are one program
abbrev pub ListingTells : Type 0
ListingTells = (p q : List ℕ) → Bytes p → Bytes q → listing_of p ≡ listing_of q → p ≡ q

-- two programs for which the same is written, each into a room of its own, are one program
abbrev pub WrittenTells : Type 0
WrittenTells = (p q written : List ℕ) (m n : ℕ) → Bytes p → Bytes q → list_of p m ≡ given written → list_of q n ≡ given written → p ≡ q

-- "Whole listing of 85 83 15 00"
abbrev pub WholeListing : Type 0
WholeListing = listing_of (0x85 ∷ 0x83 ∷ 0x15 ∷ 0x00 ∷ []) ≡ bytes "0000 push-u8 $05\n0001 push-u8 $03\n0002 sub\n0003 halt\n"

-- values of both widths, a bad shift byte, and an operand cut by the end
abbrev pub BytesListed : Type 0
BytesListed =
    listing_of (0xC9 ∷ 0x01 ∷ 0xFF ∷ 0xFF ∷ 0x31 ∷ 0x10 ∷ 0x58 ∷ 0x34 ∷ 0x12 ∷ 0x58 ∷ 0x01 ∷ [])
    ≡ bytes "0000 push-values $01 $FFFF\n0004 byte $31\n0005 ge\n0006 jump-imm16-if-not $1234\n0009 byte $58\n000A discard\n"
