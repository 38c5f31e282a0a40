-- Numbers in a row of bytes, the highest byte first.
use Rattle.std.specs.Prelude.{ℕ, ◌+◌, ◌*◌, List, slice_index}

-- the byte at a place
abbrev pub byte_at : List ℕ → ℕ → ℕ
byte_at bs at = slice_index bs at

-- the number that two bytes write, from a place on
abbrev pub two_at : List ℕ → ℕ → ℕ
two_at bs at = byte_at bs at * 256 + byte_at bs (at + 1)

-- the number that four bytes write
abbrev pub four_at : List ℕ → ℕ → ℕ
four_at bs at = two_at bs at * 65536 + two_at bs (at + 2)

-- the number that eight bytes write
abbrev pub eight_at : List ℕ → ℕ → ℕ
eight_at bs at = four_at bs at * 4294967296 + four_at bs (at + 4)
