-- The table of sheets that an opening makes, filled row by row.
use Rattle.std.proofs.Common.{◌≡◌, ℕ, ◌+◌, List, [], ◌∷◌, ◌++◌, map, get_or, Option, sym, ap, ◌∙◌, arith}
use Rattle.std.specs.List.{range_with_len}
use Rattle.std.proofs.lemmas.List.FromFn.{map-range_with_len_more}
use Rattle.register.specs.Certificates.{certificate_in, blank_entry}
use Rattle.register.specs.Tables.{Book}
use Rattle.register.specs.declared.certificate.Certificate.{Certificate}
use Rattle.register.specs.declared.entry.Entry.{Entry}
use Rattle.model.specs.Opening.{sheet_for}
use Rattle.model.specs.declared.sheet.Sheet.{Sheet}

-- one sheet more
pub sheet_pushed : (b : Book) (k : ℕ) (rows after : List Sheet) (es : List Entry) (cs : List Certificate) (o : Option Certificate) →
    rows ≡ map (sheet_for b) (range_with_len 0 k) → es ≡ b.entries → cs ≡ b.certificates → o ≡ certificate_in cs k →
    after ≡ rows ++ record { label = (get_or es k blank_entry).label; certificate = o } ∷ [] → after ≡ map (sheet_for b) (range_with_len 0 (k + 1))
sheet_pushed b k rows after es cs o so e f found put =
    put ∙ ap (λ r. r ++ record { label = (get_or es k blank_entry).label; certificate = o } ∷ []) so
    ∙ ap (λ x. map (sheet_for b) (range_with_len 0 k) ++ x ∷ []) is ∙ sym (map-range_with_len_more (sheet_for b) 0 k k (omega arith))
  where
    is : ◌≡◌ {A = Sheet} (record { label = (get_or es k blank_entry).label; certificate = o }) (sheet_for b k)
    is = ap (λ l. record { label = (get_or l k blank_entry).label; certificate = o }) e
        ∙ ap (λ c. record { label = (get_or b.entries k blank_entry).label; certificate = c }) (found ∙ ap (λ c. certificate_in c k) f)
