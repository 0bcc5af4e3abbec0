-- Rule packs read, asked for a tag, looked up in and written: "All fields u16, low byte first. [..] count n (0 to 64), then n entries of tag, cells, offset, length. Bodies
-- follow in entry order, without gaps; the first offset is 2 + 8n".
use Rattle.std.specs.Prelude.{ℕ, zero, suc, ◌+◌, ◌/◌, ◌%◌, ◌≡◌, List, [], ◌∷◌, ◌++◌, replicate}
use Rattle.basis.specs.Answer.{given, refused}
use Rattle.pack.specs.Read.{read_of}
use Rattle.pack.specs.Find.{find_of}
use Rattle.pack.specs.Lookup.{lookup_of}
use Rattle.pack.specs.declared.Entry.{Entry}
use Rattle.packer.specs.Write.{write_of}

abbrev pub entry : ℕ → ℕ → ℕ → ℕ → Entry
entry tag cells offset length = record { tag = tag; cells = cells; offset = offset; length = length }

-- an entry's eight bytes
abbrev pub laid : ℕ → ℕ → ℕ → ℕ → List ℕ
laid tag cells offset length =
    (tag % 256) ∷ (tag / 256) ∷ (cells % 256) ∷ (cells / 256) ∷ (offset % 256) ∷ (offset / 256) ∷ (length % 256) ∷ (length / 256) ∷ []

-- a pack of one entry and of two, each with the bodies
abbrev pub one : List ℕ → List ℕ → List ℕ
one e bodies = 1 ∷ 0 ∷ (e ++ bodies)

abbrev pub two : List ℕ → List ℕ → List ℕ → List ℕ
two e f bodies = 2 ∷ 0 ∷ (e ++ (f ++ bodies))

-- "Checks: 31 too long; 30 contents cut, or n over 64; then for each entry 32 tag not above the one before, 35 cells over 1,024 or length over 16,384, 33 wrong
-- offset; last 34 bodies don't end at the pack's end"
abbrev pub ReadPacks : Type 0
ReadPacks =
    (read_of (0 ∷ 0 ∷ []) ≡ given [])
    × (read_of (one (laid 0x107 0x203 10 2) (8 ∷ 9 ∷ [])) ≡ given (entry 0x107 0x203 10 2 ∷ []))
    × (read_of (two (laid 0 1024 18 1) (laid 1 0 19 0) (9 ∷ [])) ≡ given (entry 0 1024 18 1 ∷ entry 1 0 19 0 ∷ []))
    × (read_of [] ≡ refused 30)
    × (read_of (0 ∷ []) ≡ refused 30)
    × (read_of (1 ∷ 0 ∷ 7 ∷ 0 ∷ 2 ∷ 0 ∷ 10 ∷ 0 ∷ 0 ∷ []) ≡ refused 30)
    × (read_of (65 ∷ 0 ∷ replicate 520 0) ≡ refused 30)
    × (read_of (65 ∷ 0 ∷ replicate 24575 0) ≡ refused 31)
    × (read_of (0 ∷ 0 ∷ replicate 24574 0) ≡ refused 34)
    × (read_of (two (laid 7 0 18 0) (laid 7 0 18 0) []) ≡ refused 32)
    × (read_of (two (laid 7 0 18 0) (laid 6 1025 18 0) []) ≡ refused 32)
    × (read_of (two (laid 7 0 17 0) (laid 7 0 18 0) []) ≡ refused 33)
    × (read_of (one (laid 7 1025 10 0) []) ≡ refused 35)
    × (read_of (one (laid 7 0 10 16385) []) ≡ refused 35)
    × (read_of (one (laid 7 1025 11 0) []) ≡ refused 35)
    × (read_of (one (laid 7 0 9 0) []) ≡ refused 33)
    × (read_of (one (laid 7 0 9 1) []) ≡ refused 33)
    × (read_of (one (laid 7 0 10 2) (9 ∷ [])) ≡ refused 34)
    × (read_of (one (laid 7 0 10 0) (9 ∷ [])) ≡ refused 34)
    -- "Asking for a tag gives the pack's own refusal first, then 36 if the tag is absent"
    × (find_of (two (laid 5 1 18 1) (laid 0x107 2 19 1) (8 ∷ 9 ∷ [])) 0x107 ≡ given (entry 0x107 2 19 1))
    × (find_of (two (laid 5 1 18 1) (laid 0x107 2 19 1) (8 ∷ 9 ∷ [])) 7 ≡ refused 36)
    × (find_of (one (laid 5 1 10 1) []) 7 ≡ refused 34)

-- n entries with the tags from one on, each 3 above the one before, and empty bodies
abbrev pub laid_from : ℕ → ℕ → List ℕ
laid_from tag zero = []
laid_from tag (suc n) = laid tag 7 514 0 ++ laid_from (tag + 3) n

abbrev pub three : List ℕ → List ℕ → List ℕ → List ℕ
three e f g = 3 ∷ 0 ∷ (e ++ (f ++ g))

-- Request No. 4: "Find the entry by halving. The same tag gives the same part of the pack, or 36"; of bytes that are no pack 31 and 30, then 36, and of the
-- entry that halving comes to 35 and 34
abbrev pub LookedUp : Type 0
LookedUp =
    (lookup_of (two (laid 5 1 18 1) (laid 0x107 2 19 1) (8 ∷ 9 ∷ [])) 5 ≡ given (entry 5 1 18 1))
    × (lookup_of (two (laid 5 1 18 1) (laid 0x107 2 19 1) (8 ∷ 9 ∷ [])) 0x107 ≡ given (entry 0x107 2 19 1))
    × (lookup_of (two (laid 5 1 18 1) (laid 0x107 2 19 1) (8 ∷ 9 ∷ [])) 7 ≡ refused 36)
    × (lookup_of (one (laid 5 1 10 1) (9 ∷ [])) 4 ≡ refused 36)
    × (lookup_of (0 ∷ 0 ∷ []) 0 ≡ refused 36)
    -- the first, the last and one between of 64, and tags before, between and behind them
    × (lookup_of (64 ∷ 0 ∷ laid_from 3 64) 3 ≡ given (entry 3 7 514 0))
    × (lookup_of (64 ∷ 0 ∷ laid_from 3 64) 192 ≡ given (entry 192 7 514 0))
    × (lookup_of (64 ∷ 0 ∷ laid_from 3 64) 96 ≡ given (entry 96 7 514 0))
    × (lookup_of (64 ∷ 0 ∷ laid_from 3 64) 2 ≡ refused 36)
    × (lookup_of (64 ∷ 0 ∷ laid_from 3 64) 97 ≡ refused 36)
    × (lookup_of (64 ∷ 0 ∷ laid_from 3 64) 193 ≡ refused 36)
    -- the refusals, at and past their limits
    × (lookup_of [] 7 ≡ refused 30)
    × (lookup_of (0 ∷ []) 7 ≡ refused 30)
    × (lookup_of (1 ∷ 0 ∷ 7 ∷ 0 ∷ 2 ∷ 0 ∷ 10 ∷ 0 ∷ 0 ∷ []) 7 ≡ refused 30)
    × (lookup_of (65 ∷ 0 ∷ replicate 520 0) 0 ≡ refused 30)
    × (lookup_of (65 ∷ 0 ∷ replicate 24575 0) 0 ≡ refused 31)
    × (lookup_of (1 ∷ 0 ∷ replicate 24574 0) 0 ≡ given (entry 0 0 0 0))
    × (lookup_of (one (laid 7 1025 10 0) []) 7 ≡ refused 35)
    × (lookup_of (one (laid 7 1024 0 10) []) 7 ≡ given (entry 7 1024 0 10))
    × (lookup_of (one (laid 7 0 10 16385) []) 7 ≡ refused 35)
    × (lookup_of (one (laid 7 0 0 11) []) 7 ≡ refused 34)
    × (lookup_of (one (laid 7 0 65535 1) []) 7 ≡ refused 34)
    × (lookup_of (one (laid 7 1025 65535 1) []) 8 ≡ refused 36)
    -- tags that do not rise: where halving comes to is what it gives
    × (lookup_of (three (laid 9 0 0 0) (laid 7 0 0 0) (laid 8 0 0 0)) 9 ≡ refused 36)
    × (lookup_of (three (laid 9 0 0 0) (laid 7 0 0 0) (laid 8 0 0 0)) 7 ≡ given (entry 7 0 0 0))
    × (lookup_of (three (laid 1 0 0 0) (laid 9 0 0 0) (laid 2 3 4 5)) 2 ≡ given (entry 2 3 4 5))

-- "The writer takes tags, cells and lengths, with the bodies end to end; it gives 30 (n over 64, or lists of unlike length), 32, 35, 34, 31, 25, the entries in
-- order as above"
abbrev pub WrittenPacks : Type 0
WrittenPacks =
    (write_of [] [] [] [] 2 ≡ given (0 ∷ 0 ∷ []))
    × (write_of (5 ∷ 0x107 ∷ []) (1 ∷ 0x203 ∷ []) (1 ∷ 2 ∷ []) (7 ∷ 8 ∷ 9 ∷ []) 21 ≡ given (two (laid 5 1 18 1) (laid 0x107 0x203 19 2) (7 ∷ 8 ∷ 9 ∷ [])))
    × (write_of (5 ∷ []) [] (1 ∷ []) (7 ∷ []) 99 ≡ refused 30)
    × (write_of (5 ∷ []) (1 ∷ []) (1 ∷ 1 ∷ []) (7 ∷ 7 ∷ []) 99 ≡ refused 30)
    × (write_of (replicate 65 5) (replicate 65 1) (replicate 65 0) [] 999 ≡ refused 30)
    × (write_of (5 ∷ 5 ∷ []) (1 ∷ 1025 ∷ []) (0 ∷ 0 ∷ []) [] 99 ≡ refused 32)
    × (write_of (5 ∷ 5 ∷ []) (1025 ∷ 1 ∷ []) (0 ∷ 0 ∷ []) [] 99 ≡ refused 35)
    × (write_of (5 ∷ []) (1025 ∷ []) (1 ∷ []) [] 99 ≡ refused 35)
    × (write_of (5 ∷ []) (1 ∷ []) (2 ∷ []) (7 ∷ []) 0 ≡ refused 34)
    × (write_of (5 ∷ 6 ∷ []) (1 ∷ 1 ∷ []) (16384 ∷ 8192 ∷ []) (replicate 24576 7) 0 ≡ refused 31)
    × (write_of (5 ∷ []) (1 ∷ []) (1 ∷ []) (7 ∷ []) 10 ≡ refused 25)
