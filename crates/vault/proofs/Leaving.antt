-- What an opening tells of the vault that it leaves.
use Rattle.std.proofs.Common.{◌≡◌, ℕ, Bool, true, false, List, is_ok, Ok, Err, Result, sym, refl, ap, ◌∙◌, subst, arith}
use Rattle.refusals.specs.declared.refusal.Refusal.{Refusal}
use Rattle.refusals.proofs.Testing.{checked_is}
use Rattle.register.specs.Layout.{decoded}
use Rattle.register.specs.Tables.{Book}
use Rattle.model.specs.Orders.{Order, Lawful}
use Rattle.model.specs.States.{Policy, State}
use Rattle.model.specs.Opening.{opening, opening_tests, first_sheets, first_seats, fixed, started}
use Rattle.model.specs.TwoRuns.{Law}
use Rattle.model.proofs.Opened.{law, sizes_kept}
use Rattle.opening.specs.Admission.{Made, made}
use Rattle.vault.specs.Meaning.{Left, SizesStay}
use Rattle.vault.specs.declared.vault.Vault.{Vault}

-- the book of an accepted opening, and what is kept of it
pub record Accepted (o : Result Book Refusal) (floor : ℕ) (m : Made) : Type 0 where
  pub book : Book
  pub is : o ≡ Ok book
  pub kept_is : m ≡ record { floor = floor; sheets = first_sheets book; seats = first_seats book }

pub accepted : (o : Result Book Refusal) (floor : ℕ) (m : Made) → Ok m ≡ made floor o → Accepted o floor m
accepted (Ok b) floor m h = record { book = b; is = refl; kept_is = cc }
accepted (Err e) floor m h = absurd (let z : ◌≡◌ {A = ℕ} 0 1 = cc in omega arith)

-- an opening of a vault that is not open, where nothing was made
pub refused_as : (o : Bool → Result Book Refusal) (already : Bool) (floor : ℕ) (e : Refusal) → already ≡ false → Err e ≡ made floor (o false) → o already ≡ Err e
refused_as o already floor e closed h = ap o closed ∙ refused (o false) h
  where
    refused : (r : Result Book Refusal) → Err e ≡ made floor r → r ≡ Err e
    refused (Ok b) h = absurd (let z : ◌≡◌ {A = ℕ} 0 1 = cc in omega arith)
    refused (Err f) h = cc

-- an opening of a vault that is not open, where something was made
pub accepted_as : (o : Bool → Result Book Refusal) (already : Bool) (floor : ℕ) (m : Made) → already ≡ false → (a : Accepted (o false) floor m) → o already ≡ Ok a.book
accepted_as o already floor m closed a = ap o closed ∙ a.is

module _ (marks grades : Order) (bs : List ℕ) (floor : ℕ) (contents : List (List ℕ)) (m : Made) (a : Accepted (opening marks grades bs floor contents false) floor m) where
  -- the book is what the register says
  book_is : (is_ok (opening marks grades bs floor contents false) ≡ true) × (a.book ≡ decoded bs)
  book_is = checked_is (opening_tests marks grades bs floor contents false) (decoded bs) a.book (sym a.is)

  policy_is : ◌≡◌ {A = Policy} (record { marks = marks; grades = grades; is_open = true; floor = m.floor; sheets = m.sheets }) (fixed marks grades (decoded bs) floor)
  policy_is = ap (λ x. record { marks = marks; grades = grades; is_open = true; floor = x.floor; sheets = x.sheets }) a.kept_is ∙ ap (λ b. fixed marks grades b floor) book_is.1

  state_is : ◌≡◌ {A = State} (record { seats = m.seats; contents = contents }) (started (decoded bs) contents)
  state_is = ap (λ x. record { seats = x.seats; contents = contents }) a.kept_is ∙ ap (λ b. started b contents) book_is.1

  pub law_holds : Lawful marks → Lawful grades → Law (record { marks = marks; grades = grades; is_open = true; floor = m.floor; sheets = m.sheets }) (record { seats = m.seats; contents = contents }) bs
  law_holds lm lg =
      subst (λ p. Law p (record { seats = m.seats; contents = contents }) bs) (sym policy_is)
      (subst (λ s. Law (fixed marks grades (decoded bs) floor) s bs) (sym state_is) (law marks grades bs floor lm lg contents book_is.0))

  pub sizes_hold : SizesStay (record { marks = marks; grades = grades; is_open = true; floor = m.floor; sheets = m.sheets }) (record { seats = m.seats; contents = contents }) bs
  sizes_hold =
      subst (λ p. SizesStay p (record { seats = m.seats; contents = contents }) bs) (sym policy_is)
      (subst (λ s. SizesStay (fixed marks grades (decoded bs) floor) s bs) (sym state_is) (sizes_kept marks grades bs floor contents book_is.0))

-- what the opening of v leaves, once its answer is known
pub left_as : {M G S : Type 0} (v w : Vault M G S) (floor : ℕ) (o r : Result Book Refusal) → o ≡ r → Left v floor r w → Left v floor o w
left_as v w floor o r e h = subst (λ z. Left v floor z w) (sym e) h
