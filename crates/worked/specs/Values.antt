-- The operations on values, 0B to 1C, 25 to 32 and 41 to 4C: each row the code, its operands and what is pushed.
use Rattle.std.specs.Prelude.{List, [], ◌∷◌}
use Rattle.guarantee.specs.Marked.{Example}
use Rattle.worked.specs.Row.{of_two, of_one, of_byte, of_word}

-- "0B to 10 eq ne le gt lt ge: 1 or 0, unsigned, a against b"; 261 and 5 have the same low byte
abbrev pub compared : List Example
compared =
    of_two 0x0B 5 5 1
    ∷ of_two 0x0B 261 5 0
    ∷ of_two 0x0C 5 5 0
    ∷ of_two 0x0C 261 5 1
    ∷ of_two 0x0D 1 65535 1
    ∷ of_two 0x0D 5 5 1
    ∷ of_two 0x0D 65535 1 0
    ∷ of_two 0x0E 65535 1 1
    ∷ of_two 0x0E 5 5 0
    ∷ of_two 0x0E 1 65535 0
    ∷ of_two 0x0F 1 65535 1
    ∷ of_two 0x0F 5 5 0
    ∷ of_two 0x0F 65535 1 0
    ∷ of_two 0x10 65535 1 1
    ∷ of_two 0x10 5 5 1
    ∷ of_two 0x10 1 65535 0
    ∷ []

-- "11 to 16 and or xor add sub mul", "arithmetic is modulo 65,536"
abbrev pub reckoned : List Example
reckoned =
    of_two 0x11 0xF0F3 0x3C55 0x3051
    ∷ of_two 0x12 0xF0F3 0x3C55 0xFCF7
    ∷ of_two 0x13 0xF0F3 0x3C55 0xCCA6
    ∷ of_two 0x14 255 1 256
    ∷ of_two 0x14 65535 2 1
    ∷ of_two 0x15 5 3 2
    ∷ of_two 0x15 3 5 65534
    ∷ of_two 0x16 300 300 24464
    ∷ of_two 0x16 65535 65535 1
    ∷ []

-- "17 shl, 18 shr of a by b: 0 where b is 16 or more"; 0x8001 is 32,769, and its highest bit is not a sign
abbrev pub shifted : List Example
shifted =
    of_two 0x17 5 1 10
    ∷ of_two 0x17 3 15 0x8000
    ∷ of_two 0x17 1 16 0
    ∷ of_two 0x17 1 17 0
    ∷ of_two 0x17 1 65535 0
    ∷ of_two 0x18 5 1 2
    ∷ of_two 0x18 0x8001 15 1
    ∷ of_two 0x18 65535 16 0
    ∷ of_two 0x18 65535 17 0
    ∷ of_two 0x18 65535 65535 0
    ∷ []

-- "19 to 1C inc dec not neg; not flips all sixteen bits"; 004: `++a`, `--a`, `!a`, `-a`
abbrev pub changed : List Example
changed =
    of_one 0x19 255 256
    ∷ of_one 0x19 65535 0
    ∷ of_one 0x1A 256 255
    ∷ of_one 0x1A 0 65535
    ∷ of_one 0x1B 0x00FF 0xFF00
    ∷ of_one 0x1B 0 65535
    ∷ of_one 0x1C 1 65535
    ∷ of_one 0x1C 0 0
    ∷ of_one 0x1C 0x8000 0x8000
    ∷ []

-- "25 to 30: the twelve of 0B to 16 with a one-byte x for b"; x is unsigned, 255 is not 65,535
abbrev pub with_byte : List Example
with_byte =
    of_byte 0x25 5 5 1
    ∷ of_byte 0x25 261 5 0
    ∷ of_byte 0x26 5 5 0
    ∷ of_byte 0x26 261 5 1
    ∷ of_byte 0x27 256 255 0
    ∷ of_byte 0x27 255 255 1
    ∷ of_byte 0x27 254 255 1
    ∷ of_byte 0x28 256 255 1
    ∷ of_byte 0x28 255 255 0
    ∷ of_byte 0x28 254 255 0
    ∷ of_byte 0x29 256 255 0
    ∷ of_byte 0x29 255 255 0
    ∷ of_byte 0x29 254 255 1
    ∷ of_byte 0x2A 256 255 1
    ∷ of_byte 0x2A 255 255 1
    ∷ of_byte 0x2A 254 255 0
    ∷ of_byte 0x2B 0xF0F3 0x55 0x0051
    ∷ of_byte 0x2C 0xF0F3 0x55 0xF0F7
    ∷ of_byte 0x2D 0xF0F3 0x55 0xF0A6
    ∷ of_byte 0x2E 1 255 256
    ∷ of_byte 0x2E 65535 2 1
    ∷ of_byte 0x2F 5 3 2
    ∷ of_byte 0x2F 3 5 65534
    ∷ of_byte 0x30 300 255 10964
    -- "31, 32 shl-imm4, shr-imm4: second byte 0 to 15"
    ∷ of_byte 0x31 3 0 3
    ∷ of_byte 0x31 3 15 0x8000
    ∷ of_byte 0x32 0x8001 0 0x8001
    ∷ of_byte 0x32 0x8001 15 1
    ∷ []

-- "41 to 4C [..]: the same families in the same order with a two-byte x (no shifts)"; 258 is 02 01 in the code, 513 would be 01 02
abbrev pub with_word : List Example
with_word =
    of_word 0x41 258 258 1
    ∷ of_word 0x41 2 258 0
    ∷ of_word 0x42 258 258 0
    ∷ of_word 0x42 2 258 1
    ∷ of_word 0x43 259 258 0
    ∷ of_word 0x43 258 258 1
    ∷ of_word 0x43 1 65535 1
    ∷ of_word 0x44 259 258 1
    ∷ of_word 0x44 258 258 0
    ∷ of_word 0x44 1 65535 0
    ∷ of_word 0x45 257 258 1
    ∷ of_word 0x45 258 258 0
    ∷ of_word 0x45 65535 258 0
    ∷ of_word 0x46 257 258 0
    ∷ of_word 0x46 258 258 1
    ∷ of_word 0x46 65535 258 1
    ∷ of_word 0x47 0xF0F3 0x3C55 0x3051
    ∷ of_word 0x48 0xF0F3 0x3C55 0xFCF7
    ∷ of_word 0x49 0xF0F3 0x3C55 0xCCA6
    ∷ of_word 0x4A 65535 258 257
    ∷ of_word 0x4B 2 258 65280
    ∷ of_word 0x4C 3 22222 1130
    ∷ []
