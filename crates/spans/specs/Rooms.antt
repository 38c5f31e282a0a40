-- What a sheet takes of a memory that is cut into units, where it starts at a new one.
use Rattle.std.specs.Prelude.{ℕ, ◌+◌, ◌-◌, ◌*◌, ◌/◌}

-- how many units of u bytes a sheet of size z takes: z ÷ u, rounded up
abbrev pub units_of : ℕ → ℕ → ℕ
units_of u z = (z + (u - 1)) / u

-- how many bytes these have
abbrev pub room : ℕ → ℕ → ℕ
room u z = u * units_of u z

-- where the units are single bytes: a sheet takes its size
abbrev pub exact : ℕ → ℕ
exact z = z
