-- What an accepted opening tells of the vault that it leaves, and so the law of two runs for that vault.
use Rattle.std.proofs.Common.{◌≡◌, ℕ, ◌<◌, true, false, ◌&&◌, eqb, List, [], ◌∷◌, map, length, get_or, is_some, is_ok, Some, None, Option, sym, refl, ap, ◌∙◌, subst, ⊎_elim, arith}
use lib.ListN.{length-map}
use Rattle.std.specs.List.{AllByRecursion, list_all}
use Rattle.std.proofs.lemmas.List.FromFn.{length-map-range_with_len, get_or-map-range_with_len}
use Rattle.std.proofs.lemmas.List.{get_or-map, get_or_past}
use Rattle.std.proofs.lemmas.List.Sums.{AllPass-from_list_all}
use Rattle.std.proofs.lemmas.Bool.{cases_Bool, cases_lt, false≢true, both_ways, and_parts, or_cases, not-true, not-false, eqb-true, cond-true, cond-false}
use Rattle.register.specs.Certificates.{certificate_in}
use Rattle.register.specs.Layout.{decoded}
use Rattle.register.specs.Numbers.{size_fits, programs_climb, is_program}
use Rattle.register.specs.Tables.{Book}
use Rattle.register.specs.declared.entry.Entry.{Entry}
use Rattle.register.specs.declared.certificate.Certificate.{Certificate}
use Rattle.model.specs.Orders.{Order, Lawful}
use Rattle.model.specs.Calls.{Call}
use Rattle.model.specs.States.{Policy, held, blank_seat, blank_sheet, sizes_of}
use Rattle.model.specs.Runs.{final}
use Rattle.model.specs.Opening.{opening, opening_tests, in_range, floored, same_sizes, sheet_for, seat_for, first_sheets, fixed, started}
use Rattle.model.specs.TwoRuns.{Law}
use Rattle.refusals.proofs.Testing.{none_fits}
use Rattle.model.proofs.Unwinding.{Tested, Sound, AllTested, sound_final, two_runs, all_floored}

some_is : {A : Type 0} {a b : A} → ◌≡◌ {A = Option A} (Some a) (Some b) → a ≡ b
some_is h = cc

none_some : {A : Type 0} (a : A) → ◌≡◌ {A = Option A} None (Some a) → ⊥
none_some a e = let z : ◌≡◌ {A = ℕ} 0 1 = cc in omega arith

-- the tests of ranges and of the floor, at each certificate
all_tested : (p : Policy) (cs : List Certificate) → list_all (in_range p.marks p.grades) cs ≡ true → list_all (floored p.marks p.grades p.floor) cs ≡ true → AllByRecursion (Tested p) cs
all_tested p [] r w = tt
all_tested p (c ∷ cs) r w =
    let rs = and_parts _ _ r in
    let ws = and_parts _ _ w in
    let range = and_parts _ _ rs.0 in (
      record {
        mark_range = range.0;
        grade_range = range.1;
        floored = λ out. ⊎_elim (λ level. absurd (both_ways _ out (not-false _ (not-true _ level)))) (λ high. high) (or_cases _ _ ws.0);
      },
      all_tested p cs rs.1 ws.1,
    )

-- a certificate that is found is one of them
found_tested : (p : Policy) (cs : List Certificate) (k : ℕ) (d : Certificate) → AllByRecursion (Tested p) cs → certificate_in cs k ≡ Some d → Tested p d
found_tested p [] k d all e = absurd (none_some d e)
found_tested p (c ∷ cs) k d all e =
    ⊎_elim
    (λ t. subst (Tested p) (some_is (sym (cond-true _ _ _ t) ∙ e)) all.0)
    (λ f. found_tested p cs k d all.1 (sym (cond-false _ _ _ f) ∙ e))
    (cases_Bool (eqb c.program k))

held_tested : (p : Policy) (cs : List Certificate) (k : ℕ) (o : Option Certificate) → AllByRecursion (Tested p) cs → certificate_in cs k ≡ o → is_some o ≡ true → Tested p (held o)
held_tested p cs k None all e h = absurd (false≢true h)
held_tested p cs k (Some d) all e h = found_tested p cs k d all e

-- a store with the register's sizes
sizes_same : (cs : List (List ℕ)) (es : List Entry) → same_sizes cs es ≡ true → map length cs ≡ map (λ e. e.size) es
sizes_same [] [] h = refl
sizes_same [] (e ∷ es) h = absurd (false≢true h)
sizes_same (c ∷ cs) [] h = absurd (false≢true h)
sizes_same (c ∷ cs) (e ∷ es) h =
    let p = and_parts (eqb (length c) e.size) (same_sizes cs es) h in
    ap (λ n. n ∷ map length cs) (eqb-true _ _ p.0) ∙ ap (λ r. e.size ∷ r) (sizes_same cs es p.1)

-- the sheets' certificates are those of the table
sheet_tested : (p : Policy) (b : Book) → p.sheets ≡ first_sheets b → AllByRecursion (Tested p) b.certificates → AllTested p
sheet_tested p b e all k d h =
    let n = length b.entries in
    let there : (get_or (first_sheets b) k blank_sheet).certificate ≡ Some d = ap (λ l. (get_or l k blank_sheet).certificate) (sym e) ∙ h in
    ⊎_elim
    (λ inside. found_tested p b.certificates k d all
    (sym (ap (λ x. x.certificate) (get_or-map-range_with_len (sheet_for b) 0 n k k blank_sheet inside (omega arith))) ∙ there))
    (λ past. absurd (none_some d
    (sym (ap (λ x. x.certificate) (get_or_past (first_sheets b) k blank_sheet (rw (length-map-range_with_len (sheet_for b) 0 n) past))) ∙ there)))
    (cases_lt k n)

module _ (marks grades : Order) (bs : List ℕ) (floor : ℕ) where
  -- the sizes that the register says
  abbrev register_sizes : List ℕ
  register_sizes = map (λ e. e.size) (decoded bs).entries

  module _ (contents : List (List ℕ)) (ok : is_ok (opening marks grades bs floor contents false) ≡ true) where
    passed : AllByRecursion (λ t. t.fits ≡ false) (opening_tests marks grades bs floor contents false)
    passed = none_fits (opening_tests marks grades bs floor contents false) (decoded bs) ok

    table_tested : AllByRecursion (Tested (fixed marks grades (decoded bs) floor)) (decoded bs).certificates
    table_tested = all_tested (fixed marks grades (decoded bs) floor) (decoded bs).certificates (not-false _ passed.1.1.1.1.1.1.0) (not-false _ passed.1.1.1.1.1.1.1.0)

    certificates_tested : AllTested (fixed marks grades (decoded bs) floor)
    certificates_tested = sheet_tested (fixed marks grades (decoded bs) floor) (decoded bs) refl table_tested

    sound : Sound (fixed marks grades (decoded bs) floor) register_sizes (started (decoded bs) contents)
    sound = record {
      sizes = sizes_same contents (decoded bs).entries (not-false _ passed.1.1.1.1.1.1.1.1.0);
      tested = λ i h.
          let b = decoded bs in
          let inside : i < length b.starts = rw (length-map b.starts (seat_for b.certificates)) at h in
          let starts = (and_parts (list_all size_fits b.entries && programs_climb (length b.entries) b.certificates) _ (not-false _ passed.1.1.1.1.0)).1 in
          subst (λ x. Tested (fixed marks grades b floor) x.certificate) (sym (get_or-map (seat_for b.certificates) b.starts i 0 blank_seat inside))
          (held_tested (fixed marks grades b floor) b.certificates (get_or b.starts i 0) _ table_tested refl
          (AllPass-from_list_all (is_program b.certificates) b.starts starts i 0 inside));
    }

    -- the sheets keep the register's sizes, whatever calls follow
    pub sizes_kept : (cs : List Call) → sizes_of (final (fixed marks grades (decoded bs) floor) (started (decoded bs) contents) cs) ≡ register_sizes
    sizes_kept cs = (sound_final (fixed marks grades (decoded bs) floor) certificates_tested register_sizes (started (decoded bs) contents) cs sound).sizes

  -- the law for a vault that the register opens
  pub law : Lawful marks → Lawful grades → (contents : List (List ℕ)) → is_ok (opening marks grades bs floor contents false) ≡ true →
      Law (fixed marks grades (decoded bs) floor) (started (decoded bs) contents) bs
  law lm lg contents ok = λ others there.
      let p = fixed marks grades (decoded bs) floor in
      let all = certificates_tested contents ok in
      record {
        alike = λ v same cs ds e. two_runs p all register_sizes v lm lg cs ds (started (decoded bs) contents) (started (decoded bs) others) (sound contents ok) (sound others there)
            (record { sheets = same; both = λ i. refl; seats = λ i h. refl }) e;
        floored = λ v cs ds. (
          all_floored p all register_sizes v lm lg cs (started (decoded bs) contents) (sound contents ok),
          all_floored p all register_sizes v lm lg ds (started (decoded bs) others) (sound others there),
        );
      }
