-- What a register says.
use Rattle.std.specs.Prelude.{ℕ, List, take}
use Rattle.register.specs.declared.entry.Entry.{Entry}
use Rattle.register.specs.declared.certificate.Certificate.{Certificate}
use Rattle.register.specs.declared.tables.Register.{Register}

-- an entry for each sheet, the certificates, and the program that each seat starts with
pub record Book : Type 0 where
  pub entries : List Entry
  pub certificates : List Certificate
  pub starts : List ℕ

-- the rows of a register's tables that are in use
abbrev pub book_of : Register → Book
book_of r = record {
  entries = take r.entry_count r.entries;
  certificates = take r.certificate_count r.certificates;
  starts = take r.start_count r.starts;
}
