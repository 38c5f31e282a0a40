-- The lines of a text.
use Rattle.std.specs.Prelude.{ℕ, cond, List, [], ◌∷◌, Some, None, Option, ◌==◌}
use Rattle.std.specs.List.{position_or_len, before_first, after_first, onto_first}

-- how many bytes stand before the first byte `end`
abbrev pub before : ℕ → List ℕ → ℕ
before end text = position_or_len (λ b. b == end) text

-- the first line of a text: the bytes before its first byte 10; and what follows that byte. A text of no bytes has no line
abbrev pub split_line : List ℕ → Option (List ℕ × List ℕ)
split_line [] = None
split_line (b ∷ text) = Some (before_first (λ b. b == 10) (b ∷ text), after_first (λ b. b == 10) (b ∷ text))

-- all lines: byte 10 ends a line and is no part of it; a last line may lack it
abbrev pub rows : List ℕ → List (List ℕ)
rows [] = []
rows (b ∷ text) = cond (b == 10) ([] ∷ rows text) (onto_first b (rows text))
