-- The limits of a store.
use Rattle.std.specs.Prelude.{ℕ, Bool, ◌&&◌, List, length, nat_le}
use Rattle.std.specs.List.{list_all}

-- no sheet is over 4,096 bytes
abbrev pub small : List ℕ → Bool
small zs = list_all (λ z. nat_le z 4096) zs

-- at most 64 sheets, none over 4,096 bytes
abbrev pub within_limits : List ℕ → Bool
within_limits zs = nat_le (length zs) 64 && small zs
