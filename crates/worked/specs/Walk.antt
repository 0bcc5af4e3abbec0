-- The verifier's rows: a map through every family, and each refusal of the walk, alone and first of two: "an instruction that passes 2 and 3 as in a step, then
-- 9, 4, 5, 8".
use Rattle.std.specs.Prelude.{List, [], ◌∷◌}
use Rattle.verifier.specs.Verify.{good, names, nameless}
use Rattle.guarantee.specs.Marked.{Example, verifies, none}

-- "at depth d leads, at depth d less taken plus pushed, to the next instruction, to its target, or to both; halt and function 0 lead nowhere"
abbrev pub mapped : List Example
mapped =
    -- four values pushed; discard; swap; dcopy; inc; ld-u8; ld-u8 at 0; st-u8; push; ld-u8--offs; eq with a byte and with a word; shl by 15; a branch to the next
    verifies
    (0xC3 ∷ 1 ∷ 2 ∷ 3 ∷ 4 ∷ 0x01 ∷ 0x04 ∷ 0x02 ∷ 0x19 ∷ 0x1D ∷ 0x33 ∷ 0 ∷ 0x21 ∷ 0x80 ∷ 0x1F ∷ 0x25 ∷ 7 ∷ 0x41 ∷ 7 ∷ 0 ∷ 0x31 ∷ 15 ∷ 0x3D ∷ 24 ∷ 0x00 ∷ []) 4
    (good, (0 ∷ 65535 ∷ 65535 ∷ 65535 ∷ 65535 ∷ 4 ∷ 3 ∷ 3 ∷ 1 ∷ 1 ∷ 1 ∷ 65535 ∷ 2 ∷ 1 ∷ 2 ∷ 1 ∷ 65535 ∷ 1 ∷ 65535 ∷ 65535 ∷ 1 ∷ 65535 ∷ 1 ∷ 65535 ∷ 0 ∷ []))
    -- three values; st-u8--offs; ld-u8 at a+0; st-u8 at 0; push; st-u8 at a+0; ld-u16 at 0; sub; a branch to 18; a jump to 22, over what no path meets; three
    -- values; pcopy; function 0
    ∷ verifies
    (0xC2 ∷ 1 ∷ 2 ∷ 3 ∷ 0x23 ∷ 0x35 ∷ 0 ∷ 0x37 ∷ 0 ∷ 0x80 ∷ 0x39 ∷ 0 ∷ 0x34 ∷ 0 ∷ 0x15 ∷ 0x58 ∷ 18 ∷ 0 ∷ 0x56 ∷ 22 ∷ 0 ∷ 0x5B ∷ 0xC2 ∷ 1 ∷ 2 ∷ 3 ∷ 0x03 ∷ 0x59 ∷ 0 ∷ 0 ∷ []) 3 (
      good,
      (0 ∷ 65535 ∷ 65535 ∷ 65535 ∷ 3 ∷ 1 ∷ 65535 ∷ 1 ∷ 65535 ∷ 1 ∷ 2 ∷ 65535 ∷ 1 ∷ 65535 ∷ 2 ∷ 1 ∷ 65535 ∷ 65535 ∷ 0 ∷ 65535 ∷ 65535 ∷ 65535 ∷ 0 ∷ 65535
          ∷ 65535 ∷ 65535 ∷ 3 ∷ 1 ∷ 65535 ∷ 65535 ∷ []),
    )
    -- both ends of a branch: the target, then what stands between; a loop at the same depth
    ∷ verifies (0x81 ∷ 0x3E ∷ 5 ∷ 0x3C ∷ 0 ∷ 0x00 ∷ []) 1 (good, (0 ∷ 1 ∷ 65535 ∷ 0 ∷ 65535 ∷ 0 ∷ []))
    ∷ verifies (0x81 ∷ 0x57 ∷ 5 ∷ 0 ∷ 0x00 ∷ 0x3F ∷ 0 ∷ []) 1 (good, (0 ∷ 1 ∷ 65535 ∷ 65535 ∷ 0 ∷ 0 ∷ 65535 ∷ []))
    -- "Paths may overlap inside one another's operands": 82 01 as the values of C1, and by a jump to 4 as a push and a discard
    ∷ verifies (0x80 ∷ 0x3D ∷ 4 ∷ 0xC1 ∷ 0x82 ∷ 0x01 ∷ 0x00 ∷ []) 2 (names 10 5, none 7)
    ∷ verifies (0x80 ∷ 0x3D ∷ 4 ∷ 0xC0 ∷ 0x82 ∷ 0x00 ∷ []) 1 (good, (0 ∷ 1 ∷ 65535 ∷ 0 ∷ 0 ∷ 1 ∷ []))
    ∷ []

abbrev pub walked : List Example
walked =
    -- "9 verifier: codes 05 to 0A, 3B, 55": with what they take at hand
    verifies (0x80 ∷ 0x05 ∷ []) 1 (names 9 1, none 2)
    ∷ verifies (0x80 ∷ 0x06 ∷ []) 1 (names 9 1, none 2)
    ∷ verifies (0xC1 ∷ 0 ∷ 0 ∷ 0x07 ∷ 0x00 ∷ []) 2 (names 9 3, none 5)
    ∷ verifies (0xC1 ∷ 0 ∷ 0 ∷ 0x08 ∷ 0x00 ∷ []) 2 (names 9 3, none 5)
    ∷ verifies (0x80 ∷ 0x09 ∷ []) 1 (names 9 1, none 2)
    ∷ verifies (0x80 ∷ 0x0A ∷ []) 1 (names 9 1, none 2)
    ∷ verifies (0x3B ∷ 2 ∷ 0x00 ∷ []) 1 (names 9 0, none 3)
    ∷ verifies (0x55 ∷ 3 ∷ 0 ∷ 0x00 ∷ []) 1 (names 9 0, none 4)
    -- 9 before 4, before 5 and before 8
    ∷ verifies (0x05 ∷ []) 0 (names 9 0, none 1)
    ∷ verifies (0x06 ∷ []) 0 (names 9 0, none 1)
    ∷ verifies (0x07 ∷ []) 0 (names 9 0, none 1)
    ∷ verifies (0x08 ∷ []) 0 (names 9 0, none 1)
    ∷ verifies (0x09 ∷ []) 0 (names 9 0, none 1)
    ∷ verifies (0x0A ∷ []) 0 (names 9 0, none 1)
    ∷ verifies (0x3B ∷ 2 ∷ 0x00 ∷ []) 0 (names 9 0, none 3)
    ∷ verifies (0x55 ∷ 3 ∷ 0 ∷ 0x00 ∷ []) 0 (names 9 0, none 4)
    ∷ verifies (0x81 ∷ 0x0A ∷ []) 1 (names 9 1, none 2)
    -- 2, 3 and 2 on the second byte; 3 before 9, 2 before 4
    ∷ verifies (0x5B ∷ []) 0 (names 2 0, none 1)
    ∷ verifies (0xC8 ∷ []) 0 (names 2 0, none 1)
    ∷ verifies (0x25 ∷ []) 0 (names 3 0, none 1)
    ∷ verifies (0x3B ∷ []) 0 (names 3 0, none 1)
    ∷ verifies (0x55 ∷ 0 ∷ []) 0 (names 3 0, none 2)
    ∷ verifies (0x31 ∷ 16 ∷ []) 0 (names 2 0, none 2)
    -- 4, and before 5; 5 to the cell
    ∷ verifies (0x01 ∷ 0x00 ∷ []) 1 (names 4 0, none 2)
    ∷ verifies (0x04 ∷ 0x00 ∷ []) 1 (names 4 0, none 2)
    ∷ verifies (0x81 ∷ 0x15 ∷ 0x00 ∷ []) 1 (names 4 1, none 3)
    ∷ verifies (0xC1 ∷ 0 ∷ 0 ∷ 0x02 ∷ 0x00 ∷ []) 2 (names 4 3, none 5)
    ∷ verifies (0x80 ∷ 0x00 ∷ []) 0 (names 5 0, none 2)
    ∷ verifies (0x80 ∷ 0x00 ∷ []) 1 (good, (0 ∷ 1 ∷ []))
    ∷ verifies (0xC3 ∷ 1 ∷ 2 ∷ 3 ∷ 4 ∷ 0x00 ∷ []) 3 (names 5 0, none 6)
    ∷ verifies (0xC3 ∷ 1 ∷ 2 ∷ 3 ∷ 4 ∷ 0x00 ∷ []) 4 (good, (0 ∷ 65535 ∷ 65535 ∷ 65535 ∷ 65535 ∷ 4 ∷ []))
    ∷ verifies (0x33 ∷ 0 ∷ 0x00 ∷ []) 0 (names 5 0, none 3)
    -- "8 no such function": 3F and 59 but 0, 40 and 5A all
    ∷ verifies (0x3F ∷ 0 ∷ []) 0 (good, (0 ∷ 65535 ∷ []))
    ∷ verifies (0x3F ∷ 1 ∷ []) 0 (names 8 0, none 2)
    ∷ verifies (0x40 ∷ 0 ∷ []) 0 (names 8 0, none 2)
    ∷ verifies (0x40 ∷ 1 ∷ []) 0 (names 8 0, none 2)
    ∷ verifies (0x59 ∷ 0 ∷ 0 ∷ []) 0 (good, (0 ∷ 65535 ∷ 65535 ∷ []))
    ∷ verifies (0x59 ∷ 1 ∷ 0 ∷ []) 0 (names 8 0, none 3)
    ∷ verifies (0x59 ∷ 0 ∷ 1 ∷ []) 0 (names 8 0, none 3)
    ∷ verifies (0x5A ∷ 0 ∷ 0 ∷ []) 0 (names 8 0, none 3)
    ∷ []

-- "take the lowest address met and not yet examined; examine it; then its successors, next instruction first: 1 if at or past the end, 10 if already met at
-- another depth. A refusal names the instruction examined"
abbrev pub followed : List Example
followed =
    verifies (0x80 ∷ []) 1 (names 1 0, none 1)
    ∷ verifies (0x3C ∷ 2 ∷ []) 0 (names 1 0, none 2)
    ∷ verifies (0x80 ∷ 0x58 ∷ 0 ∷ 1 ∷ 0x00 ∷ []) 1 (names 1 1, none 5)
    -- the branch's target 4 is met at depth 0, and from 3 at depth 1
    ∷ verifies (0x80 ∷ 0x3D ∷ 4 ∷ 0x80 ∷ 0x00 ∷ []) 1 (names 10 3, none 5)
    -- the next instruction is past the end, the target 0 met at another depth: the next is first
    ∷ verifies (0x80 ∷ 0x80 ∷ 0x3D ∷ 0 ∷ []) 2 (names 1 2, none 4)
    -- the next instruction 8 is met at another depth, the target is past the end: the next is first
    ∷ verifies (0x81 ∷ 0x3D ∷ 8 ∷ 0xC1 ∷ 1 ∷ 1 ∷ 0x3D ∷ 255 ∷ 0x00 ∷ []) 2 (names 10 6, none 9)
    -- a jump back: of 2 (a discard of nothing) and 7 (an illegal byte) the lower is examined first
    ∷ verifies (0x3C ∷ 4 ∷ 0x01 ∷ 0x00 ∷ 0x80 ∷ 0x3D ∷ 2 ∷ 0x5B ∷ []) 1 (names 4 2, none 8)
    -- what no path meets is not examined: the bytes behind a halt, and the operand of a jump
    ∷ verifies (0x00 ∷ 0x5B ∷ []) 0 (good, (0 ∷ 65535 ∷ []))
    ∷ verifies (0x3C ∷ 2 ∷ 0x00 ∷ []) 0 (good, (0 ∷ 65535 ∷ 0 ∷ []))
    -- "An empty program is 1 at 0"; "The checks are 20, 22, 23, then the walk", and by those the map is untouched
    ∷ verifies [] 0 (names 1 0, [])
    ∷ verifies (0x5B ∷ []) 1025 (nameless 22, (0 ∷ []))
    ∷ verifies (0x00 ∷ []) 1024 (good, (0 ∷ []))
    ∷ []
