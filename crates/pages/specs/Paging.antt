-- Pages of 16 bytes, numbered from 0, and lists of page numbers.
use Rattle.std.specs.Prelude.{◌≡◌, ℕ, ◌+◌, ◌*◌, Bool, true, not, ◌&&◌, List, [], ◌∷◌, take, drop, sum_by, ◌==◌, nat_le}
use Rattle.std.specs.List.{list_all, flat_map}
use Rattle.spans.specs.Rooms.{units_of}

-- the bytes of page n of a memory
abbrev pub page : List ℕ → ℕ → List ℕ
page memory n = take 16 (drop (16 * n) memory)

-- the bytes of the listed pages, in the order of the list
abbrev pub gathered : List ℕ → List ℕ → List ℕ
gathered memory ns = flat_map (page memory) ns

-- how many pages sheets of these sizes take: each its size ÷ 16, rounded up
abbrev pub needed : List ℕ → ℕ
needed zs = sum_by (units_of 16) zs

-- every listed page lies whole inside a memory of `len` bytes
abbrev pub all_inside : List ℕ → ℕ → Bool
all_inside ns len = list_all (λ n. nat_le (16 * n + 16) len) ns

-- page n is not listed
abbrev pub unlisted : List ℕ → ℕ → Bool
unlisted ns n = list_all (λ x. not (n == x)) ns

-- no page number stands twice
abbrev pub none_twice : List ℕ → Bool
none_twice [] = true
none_twice (n ∷ ns) = unlisted ns n && none_twice ns

-- each page that is not listed has the same bytes in both memories
abbrev pub OthersSame : List ℕ → List ℕ → List ℕ → Type 0
OthersSame ns before after = (n : ℕ) → unlisted ns n ≡ true → page after n ≡ page before n
