-- Sheets that stand one after the other in one memory.
use Rattle.std.specs.Prelude.{ℕ, List, [], ◌∷◌, take, drop}

-- sheets of these sizes, cut from a memory one after the other, where a sheet of size z takes the next `room z` bytes
abbrev pub cut : (ℕ → ℕ) → List ℕ → List ℕ → List (List ℕ)
cut room [] memory = []
cut room (z ∷ zs) memory = take z memory ∷ cut room zs (drop (room z) memory)
