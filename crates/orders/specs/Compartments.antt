-- Compartments. A class has a level in bits 60 to 62 and a category in each of the bits 0 to 59; its bit 63 is 0.
use Rattle.std.specs.Prelude.{ℕ, zero, suc, ◌/◌, ◌%◌, ◌^◌, Bool, true, not, ◌&&◌, ◌||◌, ◌==◌, nat_le, nat_lt}

-- bit 63 and what lies above it are 0
abbrev pub is_class : ℕ → Bool
is_class code = nat_lt code (2 ^ 63)

-- bits 60 and up: in a class a number from 0 to 7
abbrev pub level : ℕ → ℕ
level code = code / 2 ^ 60

-- category k is in the code: bit k is 1
abbrev pub has : ℕ → ℕ → Bool
has code k = code / 2 ^ k % 2 == 1

-- the test passes at each number below n
abbrev pub each_below : ℕ → (ℕ → Bool) → Bool
each_below zero test = true
each_below (suc n) test = test n && each_below n test

-- if category k is in a, it is in b
abbrev pub kept : ℕ → ℕ → ℕ → Bool
kept a b k = not (has a k) || has b k

-- each of the sixty categories that is in a is in b
unfoldable pub included : ℕ → ℕ → Bool
included a b = each_below 60 (kept a b)

-- both codes are classes, the first one's level is no higher, and each of its categories is in the second
abbrev pub at_or_below : ℕ → ℕ → Bool
at_or_below a b = is_class a && is_class b && nat_le (level a) (level b) && included a b
