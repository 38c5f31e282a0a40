-- Labels, entries and certificates where there is none, and certificates by their programs.
use Rattle.std.specs.Prelude.{ℕ, List, Option, ◌==◌, find}
use Rattle.register.specs.declared.label.Label.{Label}
use Rattle.register.specs.declared.entry.Entry.{Entry}
use Rattle.register.specs.declared.certificate.Certificate.{Certificate}

-- the label where there is none
abbrev pub blank_label : Label
blank_label = record { mark = 0; grade = 0 }

-- the entry there
abbrev pub blank_entry : Entry
blank_entry = record { size = 0; label = blank_label }

-- the certificate there
abbrev pub blank_certificate : Certificate
blank_certificate = record { program = 0; reading = blank_label; writing = blank_label }

-- the first certificate of program p, where it has one
abbrev pub certificate_in : List Certificate → ℕ → Option Certificate
certificate_in cs p = find (λ c. c.program == p) cs
