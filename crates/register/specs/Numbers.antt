-- Registers whose numbers are sound.
use Rattle.std.specs.Prelude.{ℕ, Bool, ◌&&◌, List, length, drop, is_some, nat_le, nat_lt}
use Rattle.std.specs.List.{list_all, zip}
use Rattle.register.specs.Certificates.{certificate_in}
use Rattle.register.specs.Tables.{Book}
use Rattle.register.specs.declared.entry.Entry.{Entry}
use Rattle.register.specs.declared.certificate.Certificate.{Certificate}

-- a sheet has at most 4,096 bytes
abbrev pub size_fits : Entry → Bool
size_fits e = nat_le e.size 4096

-- each program number is below n
abbrev pub programs_are_sheets : ℕ → List Certificate → Bool
programs_are_sheets n cs = list_all (λ c. nat_lt c.program n) cs

-- each program number is below the next
abbrev pub programs_ascend : List Certificate → Bool
programs_ascend cs = list_all (λ pair. nat_lt pair.0.program pair.1.program) (zip cs (drop 1 cs))

-- each program number is below n, and above the one before
abbrev pub programs_climb : ℕ → List Certificate → Bool
programs_climb n cs = programs_are_sheets n cs && programs_ascend cs

-- p is a program: one of the certificates is its
abbrev pub is_program : List Certificate → ℕ → Bool
is_program cs p = is_some (certificate_in cs p)

-- each size is within its limit, each program number is a sheet's and above the one before, and each seat starts with a program
abbrev pub numbers_sound : Book → Bool
numbers_sound b =
    list_all size_fits b.entries && programs_climb (length b.entries) b.certificates && list_all (is_program b.certificates) b.starts
