-- Instructions as values, read and written.
use Rattle.std.specs.Prelude.{ℕ, ◌≡◌, List, [], ◌∷◌}
use Rattle.basis.specs.Answer.{given, refused}
use Rattle.isa.specs.declared.Instruction.{Instruction}
use Rattle.encoder.specs.Encode.{encode_of}
use Rattle.guarantee.specs.Marked.{Example, decodes}

-- a code with its number, 0 where it has none
abbrev pub numbered : ℕ → ℕ → Instruction
numbered code number = record { code = code; number = number; count = 0; flags = 0; v0 = 0; v1 = 0; v2 = 0; v3 = 0 }

-- "C0 to FF are code C0 with count, flags and values"
abbrev pub valued : ℕ → ℕ → ℕ → ℕ → ℕ → ℕ → Instruction
valued count flags v₀ v₁ v₂ v₃ = record { code = 0xC0; number = 0; count = count; flags = flags; v0 = v₀; v1 = v₁; v2 = v₂; v3 = v₃ }

-- "Read or written as a value, 80 to BF are code 80 with the six bits as its number": the instruction and its length
abbrev pub read : List Example
read =
    decodes (0x15 ∷ 0x00 ∷ []) (given (numbered 0x15 0, 1))
    ∷ decodes (0xA5 ∷ []) (given (numbered 0x80 0x25, 1))
    ∷ decodes (0x25 ∷ 0xFF ∷ []) (given (numbered 0x25 255, 2))
    ∷ decodes (0x31 ∷ 15 ∷ []) (given (numbered 0x31 15, 2))
    ∷ decodes (0x41 ∷ 0x02 ∷ 0x01 ∷ []) (given (numbered 0x41 258, 3))
    ∷ decodes (0xC0 ∷ 5 ∷ 6 ∷ []) (given (valued 1 0 5 0 0 0, 2))
    -- flags of the first and the fourth value: 1 + 8
    ∷ decodes (0xE7 ∷ 0x11 ∷ 1 ∷ 2 ∷ 3 ∷ 0x14 ∷ 4 ∷ []) (given (valued 4 9 0x111 2 3 0x414, 7))
    ∷ decodes (0xCA ∷ 1 ∷ 0x12 ∷ 2 ∷ 3 ∷ []) (given (valued 3 2 1 0x212 3 0, 5))
    -- "Decoder: 20, 1, then 2 and 3 as above"
    ∷ decodes [] (refused 1)
    ∷ []

-- "Encoder: 26, 25"; "26 encoder: illegal code, number too large for its field, push count not 1 to 4, a number, count, value or flag that the form lacks not 0"
abbrev pub Written : Type 0
Written =
    (encode_of (numbered 0x15 0) 1 ≡ given (0x15 ∷ []))
    × (encode_of (numbered 0x80 0x25) 1 ≡ given (0xA5 ∷ []))
    × (encode_of (numbered 0x25 255) 2 ≡ given (0x25 ∷ 0xFF ∷ []))
    × (encode_of (numbered 0x31 15) 2 ≡ given (0x31 ∷ 15 ∷ []))
    × (encode_of (numbered 0x41 258) 3 ≡ given (0x41 ∷ 0x02 ∷ 0x01 ∷ []))
    × (encode_of (valued 1 1 300 0 0 0) 3 ≡ given (0xC4 ∷ 0x2C ∷ 0x01 ∷ []))
    × (encode_of (valued 4 9 0x111 2 3 0x414) 7 ≡ given (0xE7 ∷ 0x11 ∷ 1 ∷ 2 ∷ 3 ∷ 0x14 ∷ 4 ∷ []))
    -- "illegal code"; "other codes from 80 up are illegal to the encoder"
    × (encode_of (numbered 0x5B 0) 9 ≡ refused 26)
    × (encode_of (numbered 0x7F 0) 9 ≡ refused 26)
    × (encode_of (numbered 0x81 0) 9 ≡ refused 26)
    × (encode_of (numbered 0xC1 0) 9 ≡ refused 26)
    -- "number too large for its field"
    × (encode_of (numbered 0x80 64) 9 ≡ refused 26)
    × (encode_of (numbered 0x25 256) 9 ≡ refused 26)
    × (encode_of (numbered 0x32 16) 9 ≡ refused 26)
    × (encode_of (valued 1 0 256 0 0 0) 9 ≡ refused 26)
    -- "push count not 1 to 4"
    × (encode_of (valued 0 0 0 0 0 0) 9 ≡ refused 26)
    × (encode_of (valued 5 0 1 2 3 4) 9 ≡ refused 26)
    -- "a number, count, value or flag that the form lacks not 0"
    × (encode_of (numbered 0x15 1) 9 ≡ refused 26)
    × (encode_of (record { code = 0xC0; number = 1; count = 1; flags = 0; v0 = 5; v1 = 0; v2 = 0; v3 = 0 }) 9 ≡ refused 26)
    × (encode_of (record { code = 0x15; number = 0; count = 1; flags = 0; v0 = 0; v1 = 0; v2 = 0; v3 = 0 }) 9 ≡ refused 26)
    × (encode_of (record { code = 0x80; number = 5; count = 0; flags = 0; v0 = 1; v1 = 0; v2 = 0; v3 = 0 }) 9 ≡ refused 26)
    × (encode_of (valued 1 0 5 1 0 0) 9 ≡ refused 26)
    × (encode_of (valued 3 0 1 2 3 4) 9 ≡ refused 26)
    × (encode_of (valued 1 2 5 0 0 0) 9 ≡ refused 26)
    × (encode_of (valued 4 16 1 2 3 4) 9 ≡ refused 26)
    -- "25 output longer than the room lent", after 26
    × (encode_of (numbered 0x41 258) 2 ≡ refused 25)
    × (encode_of (numbered 0x00 0) 0 ≡ refused 25)
    × (encode_of (numbered 0x5B 0) 0 ≡ refused 26)
