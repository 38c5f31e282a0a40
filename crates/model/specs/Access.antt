-- The rules of access: which marks and grades allow a program, under the certificate c, to read, write, run and hand over.
-- Marks keep secrets from flowing down, grades keep unchecked figures from flowing up; a certificate has a label for
-- reading and one for writing (Karger, Austel and Toll 2000).
use Rattle.std.specs.Prelude.{Bool, not, ◌&&◌, List, [], ◌∷◌}
use Rattle.refusals.specs.Refusals.{Test, on}
use Rattle.refusals.specs.declared.refusal.Refusal.TheVariants.{MarkRule, GradeRule}
use Rattle.register.specs.declared.label.Label.{Label}
use Rattle.register.specs.declared.certificate.Certificate.{Certificate}
use Rattle.model.specs.Orders.{Order}

-- refused where the rule does not hold
abbrev pub mark_rule : Bool → Test
mark_rule holds = on (not holds) MarkRule

abbrev pub grade_rule : Bool → Test
grade_rule holds = on (not holds) GradeRule

module _ (marks grades : Order) (c : Certificate) where
  -- the reading mark is at or above the sheet's mark, the reading grade at or below the sheet's grade
  abbrev pub read_access : (sheet : Label) → List Test
  read_access sheet =
      mark_rule (marks.below sheet.mark c.reading.mark)
      ∷ grade_rule (grades.below c.reading.grade sheet.grade) ∷ []

  -- the writing mark is at or below the sheet's mark, the writing grade at or above the sheet's grade
  abbrev pub write_access : (sheet : Label) → List Test
  write_access sheet =
      mark_rule (marks.below c.writing.mark sheet.mark)
      ∷ grade_rule (grades.below sheet.grade c.writing.grade) ∷ []

  -- the reading mark is at or above the sheet's mark, the writing grade at or below the sheet's grade
  abbrev pub run_access : (sheet : Label) → List Test
  run_access sheet =
      mark_rule (marks.below sheet.mark c.reading.mark)
      ∷ grade_rule (grades.below c.writing.grade sheet.grade) ∷ []

  -- the reading mark is at or above the sheet's mark, the writing mark at or below the new reading mark, the writing grade at
  -- or above the new reading grade
  abbrev pub hand_access : (sheet : Label) (next : Certificate) → List Test
  hand_access sheet next =
      mark_rule (marks.below sheet.mark c.reading.mark && marks.below c.writing.mark next.reading.mark)
      ∷ grade_rule (grades.below next.reading.grade c.writing.grade) ∷ []
