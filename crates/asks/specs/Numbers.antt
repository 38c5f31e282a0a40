-- What a decimal number is, and which texts write one.
use Rattle.std.specs.Prelude.{◌≡◌, ℕ, ◌+◌, ◌-◌, ◌*◌, ◌^◌, ◌<◌, ◌≤◌, Bool, ◌&&◌, List, [], ◌∷◌, ◌++◌, reverse, length, Some, decimal, Option, nat_le}
use Rattle.std.specs.Bool.{then_some}
use Rattle.std.specs.Str.{all_ascii_digits}

-- digits that are read from the last to the first: the front times ten plus the last
abbrev pub from_last : List ℕ → ℕ
from_last [] = 0
from_last (last ∷ front) = from_last front * 10 + (last - 48)

-- a number is its front digits times ten plus its last
abbrev pub number : List ℕ → ℕ
number ds = from_last (reverse ds)

-- a text is 1 to 9 decimal digits
abbrev pub few_digits : List ℕ → Bool
few_digits ds = nat_le 1 (length ds) && nat_le (length ds) 9 && all_ascii_digits ds

-- the number of a text that is 1 to 9 digits, where it is at most `most`
abbrev pub numeral : ℕ → List ℕ → Option ℕ
numeral most ds = then_some (few_digits ds && nat_le (number ds) most) (number ds)

-- the digits of every number below a thousand million, without leading zeros, are read back as that number
abbrev pub ReadsBack : Type 0
ReadsBack = (n most : ℕ) → n < 10 ^ 9 → n ≤ most → numeral most (decimal n) ≡ Some n

-- a digit at the end makes a number ten times as large, and is added
abbrev pub ByLast : Type 0
ByLast = (front : List ℕ) (last : ℕ) → number (front ++ last ∷ []) ≡ number front * 10 + (last - 48)
