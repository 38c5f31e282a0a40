-- Where in a memory the bytes of a sheet stand, of sheets that are cut from it one after the other.
use Rattle.std.specs.Prelude.{◌≡◌, ℕ, ◌+◌, ◌≤◌, List, length, take, drop, Ok, sum_by, slice_set}
use Rattle.stores.specs.Cuts.{cut}
use Rattle.stores.specs.Sheets.{sheet_of, write_answer}
use Rattle.stores.specs.Splices.{spliced}

-- b bytes from place p of sheet k, of sheets of the sizes zs in the memory m, start at this place of m
pub record Reached (room : ℕ → ℕ) (zs m : List ℕ) (k p b at : ℕ) : Type 0 where
  pub granted : write_answer (cut room zs m) k p b ≡ Ok tt
  pub here : at ≡ sum_by room (take k zs) + p
  pub within : at + b ≤ length m
  pub bytes : take b (drop at m) ≡ take b (drop p (sheet_of (cut room zs m) k))
  pub stores : (bs : List ℕ) → length bs ≡ b → cut room zs (spliced m at bs) ≡ slice_set (cut room zs m) k (spliced (sheet_of (cut room zs m) k) p bs)
