-- The words of an answer.
use Rattle.std.specs.Prelude.{ℕ, ◌+◌, ◌-◌, ◌*◌, ◌%◌, ◌^◌, ◌==◌, nat_lt, if◌then◌else◌, false, List, [], ◌∷◌, ◌++◌, length, Result, Ok, Err, codes}
use Rattle.std.specs.List.{flat_map}
use Rattle.std.specs.Fmt.{decimal, digits, format_spec, padded_integral}
use Rattle.basis.specs.declared.refusal.Refusal.{Refusal}
use Rattle.basis.specs.Refusal.{number_of}

abbrev pub refused_text : ℕ → List ℕ
refused_text n = codes "refused " ++ decimal n

abbrev pub written_text : Result ℕ Refusal → List ℕ
written_text (Ok n) = codes "ok " ++ decimal n
written_text (Err why) = refused_text (number_of why)

-- a number with so many hexadecimal digits
abbrev pub hex_text : ℕ → ℕ → List ℕ
hex_text width n = padded_integral (format_spec 32 0 4 width (2 ^ 64 - 1)) false [] (digits 16 false n)

-- a number to the base 65599, modulo a prime, whose digits are the elements, each and one more
abbrev pub summed_from : ℕ → List ℕ → ℕ
summed_from sum [] = sum
summed_from sum (x ∷ xs) = summed_from ((sum % 4294967291 * 65599 + x + 1) % 4294967291) xs

abbrev pub checksum_of : List ℕ → ℕ
checksum_of xs = summed_from 0 xs

-- at most so many elements, each with so many digits; of more the checksum
abbrev pub memory_text : ℕ → ℕ → List ℕ → List ℕ
memory_text most width xs = if nat_lt most (length xs)
    then codes "#" ++ decimal (checksum_of xs)
    else if length xs == 0 then codes "-" else flat_map (hex_text width) xs
