-- How the tests of the register's form and those of what it says come to an opening's answer.
use Rattle.std.proofs.Common.{◌≡◌, ℕ, false, List, [], Ok, Err, Result, sym, ap, ◌∙◌, append-nil}
use Rattle.refusals.specs.Refusals.{Test, checked}
use Rattle.refusals.specs.declared.refusal.Refusal.{Refusal}
use Rattle.refusals.proofs.Testing.{checked_is, checked_past, checked_stop}
use Rattle.register.specs.Layout.{form_tests, reading, decoded}
use Rattle.register.specs.Tables.{Book}
use Rattle.model.specs.Orders.{Order}
use Rattle.model.specs.Opening.{opening}
use Rattle.opening.specs.Tests.{later_tests}

-- the same tests, with another value
other_stop : {A B : Type 0} (ts : List Test) (a : A) (b : B) (e : Refusal) → Err e ≡ checked ts b → Err e ≡ checked ts a
other_stop ts a b e h = checked_stop ts [] a b e h ∙ ap (λ l. checked l a) (append-nil ts)

other_pass : {A B : Type 0} (ts : List Test) (a : A) (b x : B) → Ok x ≡ checked ts b → checked ts a ≡ Ok a
other_pass ts a b x h = ap (λ l. checked l a) (sym (append-nil ts)) ∙ checked_past ts [] a b x h

module _ (marks grades : Order) (bs : List ℕ) (floor : ℕ) (contents : List (List ℕ)) where
  module _ (b : Book) (h : Ok b ≡ reading bs) where
    well_formed : opening marks grades bs floor contents false ≡ checked (later_tests marks grades contents b floor) b
    well_formed =
        checked_past (form_tests bs) (later_tests marks grades contents (decoded bs) floor) (decoded bs) (decoded bs) b h
        ∙ ap (λ d. checked (later_tests marks grades contents d floor) d) (sym (checked_is (form_tests bs) (decoded bs) b h).1)

    pub refused : (e : Refusal) → ◌≡◌ {A = Result (Unit {0}) Refusal} (Err e) (checked (later_tests marks grades contents b floor) tt) → Err e ≡ opening marks grades bs floor contents false
    refused e r = other_stop (later_tests marks grades contents b floor) b tt e r ∙ sym well_formed

    pub accepted : (u : Unit {0}) → Ok u ≡ checked (later_tests marks grades contents b floor) tt → Ok b ≡ opening marks grades bs floor contents false
    accepted u r = sym (well_formed ∙ other_pass (later_tests marks grades contents b floor) b tt u r)
