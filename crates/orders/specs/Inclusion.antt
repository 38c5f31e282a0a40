-- Inclusion of categories is reflexive and transitive: the lemmas that the laws of compartments rest on.
use Rattle.std.specs.Prelude.{◌≡◌, ℕ, ◌<◌, Bool, true, false, not, ◌||◌, refl}
use Rattle.std.proofs.lemmas.Bool.Decides.{Decides-below_and}
use Rattle.orders.specs.Compartments.{has, each_below, kept, included}

-- what passes at each number below n passes at one of them, and the other way round
pub each_at : (n : ℕ) (p : ℕ → Bool) → each_below n p ≡ true → (k : ℕ) → k < n → p k ≡ true
each_at n p = (Decides-below_and p (λ k. p k ≡ true) (λ m. each_below m p) (λ k. ((λ h. h), (λ h. h))) refl (λ _. refl) n).0

pub each_all : (n : ℕ) (p : ℕ → Bool) → ((k : ℕ) → k < n → p k ≡ true) → each_below n p ≡ true
each_all n p = (Decides-below_and p (λ k. p k ≡ true) (λ m. each_below m p) (λ k. ((λ h. h), (λ h. h))) refl (λ _. refl) n).1

-- if the first, then the second
abbrev implies : Bool → Bool → Bool
implies x y = not x || y

implies_self : (x : Bool) → implies x x ≡ true
implies_self true = refl
implies_self false = refl

implies_trans : (x y z : Bool) → implies x y ≡ true → implies y z ≡ true → implies x z ≡ true
implies_trans true true z p q = q
implies_trans true false true p q = refl
implies_trans true false false p q = p
implies_trans false y z p q = refl

pub included_self : (a : ℕ) → included a a ≡ true
unfolding included
included_self a = each_all 60 (kept a a) (λ k _. implies_self (has a k))

pub included_trans : (a b c : ℕ) → included a b ≡ true → included b c ≡ true → included a c ≡ true
unfolding included
included_trans a b c p q =
    each_all 60 (kept a c) (λ k h. implies_trans (has a k) (has b k) (has c k) (each_at 60 (kept a b) p k h) (each_at 60 (kept b c) q k h))
