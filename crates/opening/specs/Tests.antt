-- The tests of an opening, part by part.
use Rattle.std.specs.Prelude.{ℕ, not, List, [], ◌∷◌}
use Rattle.std.specs.List.{list_all}
use Rattle.refusals.specs.Refusals.{Test, on}
use Rattle.refusals.specs.declared.refusal.Refusal.TheVariants.{Numbers, NoClass, Range, UnderFloor, OtherStore}
use Rattle.register.specs.Numbers.{numbers_sound}
use Rattle.register.specs.Tables.{Book}
use Rattle.model.specs.Orders.{Order}
use Rattle.model.specs.Opening.{all_classed, in_range, floored, same_sizes}

-- the tests of an opening that follow those of the register's form
abbrev pub later_tests : Order → Order → List (List ℕ) → Book → ℕ → List Test
later_tests marks grades contents b floor =
    on (not (numbers_sound b)) Numbers
    ∷ on (not (all_classed marks grades b floor)) NoClass
    ∷ on (not (list_all (in_range marks grades) b.certificates)) Range
    ∷ on (not (list_all (floored marks grades floor) b.certificates)) UnderFloor
    ∷ on (not (same_sizes contents b.entries)) OtherStore ∷ []
