-- Known answers of the page store's check, as one table; and the sheets of a page store, drawn.
use Rattle.std.specs.Prelude.{◌≡◌, ℕ, Bool, true, List, [], ◌∷◌, ◌++◌, Ok, Err, Result, ◌==◌}
use Rattle.std.specs.List.{range_with_len, list_all}
use Rattle.refusals.specs.Refusals.{number_of}
use Rattle.refusals.specs.declared.refusal.Refusal.{Refusal}
use Rattle.pages.specs.PageStores.{made_sheets, page_check}

-- a refusal's number, 0 where there is none
abbrev pub number : Result (Unit {0}) Refusal → ℕ
number (Ok value) = 0
number (Err refusal) = number_of refusal

-- how the check of a page store answers sheets of these sizes on these pages of a memory of so many bytes, and what is known
pub record Row : Type 0 where
  pub sizes : List ℕ
  pub list : List ℕ
  pub len : ℕ
  pub known : ℕ

abbrev row : List ℕ → List ℕ → ℕ → ℕ → Row
row zs ns n answer = record { sizes = zs; list = ns; len = n; known = answer }

-- sheets of 20, 0 and 33 bytes on pages 3, 1, 6, 0 and 2
abbrev pub drawn_sizes : List ℕ
drawn_sizes = 20 ∷ 0 ∷ 33 ∷ []

abbrev pub drawn_list : List ℕ
drawn_list = 3 ∷ 1 ∷ 6 ∷ 0 ∷ 2 ∷ []

abbrev pub table : List Row
table =
    row drawn_sizes drawn_list 112 0
    ∷ row drawn_sizes drawn_list 111 18
    ∷ row drawn_sizes (3 ∷ 1 ∷ 6 ∷ 0 ∷ []) 112 17
    ∷ row drawn_sizes (3 ∷ 1 ∷ 6 ∷ 0 ∷ 2 ∷ 4 ∷ []) 112 17
    ∷ row drawn_sizes (3 ∷ 1 ∷ 6 ∷ 0 ∷ 3 ∷ []) 112 17
    ∷ row drawn_sizes (3 ∷ 1 ∷ 7 ∷ 0 ∷ 3 ∷ []) 112 17
    ∷ row (4097 ∷ []) [] 0 17
    ∷ row (0 ∷ []) [] 0 0
    ∷ []

-- the test of a row
abbrev pub agrees : Row → Bool
agrees r = number (page_check r.sizes r.list r.len) == r.known

abbrev pub KnownAnswers : Type 0
KnownAnswers = list_all agrees table ≡ true

-- which places of a memory of seven pages those sheets have: in a memory where each byte is the number of its place, the
-- first has page 3 and four bytes of page 1, the second none, the third pages 6 and 0 and one byte of page 2
abbrev pub DrawnSheets : Type 0
DrawnSheets =
    made_sheets drawn_sizes drawn_list (range_with_len 0 112)
    ≡ (range_with_len 48 16 ++ range_with_len 16 4) ∷ [] ∷ (range_with_len 96 16 ++ (range_with_len 0 16 ++ range_with_len 32 1)) ∷ []
