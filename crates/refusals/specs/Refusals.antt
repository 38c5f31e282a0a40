-- The number of each refusal; and tests in a row, of which the first that fits refuses.
use Rattle.std.specs.Prelude.{ℕ, Bool, cond, List, [], ◌∷◌, Ok, Err, Result}
use Rattle.refusals.specs.declared.refusal.Refusal.{Refusal}
use Rattle.refusals.specs.declared.refusal.Refusal.TheVariants.{Closed, RegisterLength, Counts, Numbers, NoClass, Range, UnderFloor, OtherStore, AlreadyOpen, NoSeat, NoSheet, MarkRule, GradeRule, Certified, PastEnd, NotCertified, StoreLimit, PastMemory}

abbrev pub number_of : Refusal → ℕ
number_of Closed = 1
number_of RegisterLength = 2
number_of Counts = 3
number_of Numbers = 4
number_of NoClass = 5
number_of Range = 6
number_of UnderFloor = 7
number_of OtherStore = 8
number_of AlreadyOpen = 9
number_of NoSeat = 10
number_of NoSheet = 11
number_of MarkRule = 12
number_of GradeRule = 13
number_of Certified = 14
number_of PastEnd = 15
number_of NotCertified = 16
number_of StoreLimit = 17
number_of PastMemory = 18

-- a refusal, and whether it fits
pub record Test : Type 0 where
  pub fits : Bool
  pub refusal : Refusal

abbrev pub on : Bool → Refusal → Test
on b r = record { fits = b; refusal = r }

-- the first refusal that fits, or else the value
abbrev pub checked : {A : Type 0} → List Test → A → Result A Refusal
checked [] a = Ok a
checked (t ∷ ts) a = cond t.fits (Err t.refusal) (checked ts a)
