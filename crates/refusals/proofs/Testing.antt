-- What tests in a row come to: one after the other, and all of them.
use Rattle.std.proofs.Common.{◌≡◌, true, false, List, [], ◌∷◌, ◌++◌, is_ok, Ok, Err, refl, sym, arith, ap, ⊎_elim}
use Rattle.std.specs.List.{AllByRecursion}
use Rattle.std.proofs.lemmas.Bool.{cases_Bool}
use Rattle.refusals.specs.Refusals.{Test, checked}
use Rattle.refusals.specs.declared.refusal.Refusal.{Refusal}

-- no test of what is accepted fits, and the answer is the value
pub none_fits : {A : Type 0} (ts : List Test) (a : A) → is_ok (checked ts a) ≡ true → AllByRecursion (λ t. t.fits ≡ false) ts
none_fits [] a h = tt
none_fits (t ∷ ts) a h = ⊎_elim (λ e. let k = rw e at h in cc) (λ e. (e, none_fits ts a (rw e at h))) (cases_Bool t.fits)

pub checked_value : {A : Type 0} (ts : List Test) (a : A) → is_ok (checked ts a) ≡ true → checked ts a ≡ Ok a
checked_value [] a h = refl
checked_value (t ∷ ts) a h = grind (arith, checked_value ts a)

pub checked_is : {A : Type 0} (ts : List Test) (a b : A) → Ok b ≡ checked ts a → (is_ok (checked ts a) ≡ true) × (b ≡ a)
checked_is ts a b h =
    let ok : is_ok (checked ts a) ≡ true = ap is_ok (sym h) in
    let value = checked_value ts a ok in
    (ok, cc)

module _ {A B : Type 0} where
  -- tests that pass leave those after them, whatever the value
  pub checked_past : (ts us : List Test) (a : A) (b x : B) → Ok x ≡ checked ts b → checked (ts ++ us) a ≡ checked us a
  checked_past [] us a b x h = refl
  checked_past (t ∷ ts) us a b x h = grind (arith, checked_past ts us a b x)

  -- a test that fits ends it, whatever follows
  pub checked_stop : (ts us : List Test) (a : A) (b : B) (r : Refusal) → Err r ≡ checked ts b → Err r ≡ checked (ts ++ us) a
  checked_stop [] us a b r h = absurd cc
  checked_stop (t ∷ ts) us a b r h = grind (arith, checked_stop ts us a b r)
