-- Inclusion of categories, bit by bit, is a mask's equation.
use Rattle.std.specs.Prelude.{◌≡◌, ℕ, zero, suc, ◌+◌, ◌*◌, ◌/◌, ◌%◌, ◌^◌, ◌<◌, not, ◌&&◌, ◌||◌, ◌==◌, bit_and, nat_lt, refl}
use Rattle.std.proofs.Common.{ap, one-add, arith}
use Rattle.std.proofs.Math.Nat.{mod-one}
use Rattle.std.proofs.lemmas.Nat.Bits.{and_high}
use Rattle.std.proofs.lemmas.Nat.{pow_pos, mod-pow-add, mod_below, and_mod, and_block, and_le_l}
use Rattle.std.proofs.lemmas.Bool.Decides.{nat_tests}
use Rattle.orders.specs.Compartments.{each_below, kept, included}

-- bit 63 alone
pub top_bit : (n : ℕ) → n < 2 ^ 64 → (bit_and n (2 ^ 63) == 0) ≡ nat_lt n (2 ^ 63)
top_bit n fits = let m = and_high n 1 63 in rw m (grind (arith, nat_tests))

-- one bit more, above the n low ones
one_more : (n x y r s : ℕ) → x < 2 → y < 2 → r < 2 ^ n → s < 2 ^ n →
    (bit_and (x * 2 ^ n + r) (y * 2 ^ n + s) == x * 2 ^ n + r) ≡ ((not (x == 1) || y == 1) && bit_and r s == r)
one_more n zero y r s hx hy hr hs =
    let le = and_le_l r s in
    rw (and_block n 0 y r s hr hs) (grind (arith, nat_tests))
one_more n (suc zero) zero r s hx hy hr hs =
    let le = and_le_l r s in
    rw (and_block n 1 0 r s hr hs) (grind (arith, nat_tests))
one_more n (suc zero) (suc zero) r s hx hy hr hs =
    let le = and_le_l r s in
    rw (and_block n 1 1 r s hr hs) (grind (arith, nat_tests))
one_more n (suc zero) (suc (suc y)) r s hx hy hr hs = absurd (omega arith)
one_more n (suc (suc x)) y r s hx hy hr hs = absurd (omega arith)

bit_above : (n a : ℕ) → a % 2 ^ suc n ≡ (a / 2 ^ n % 2) * 2 ^ n + a % 2 ^ n
bit_above n a = rw (← one-add n) (mod-pow-add a 1 n)

-- the n low bits of a are among those of b
low_bits : (n a b : ℕ) → (bit_and (a % 2 ^ n) (b % 2 ^ n) == a % 2 ^ n) ≡ each_below n (kept a b)
low_bits zero a b = rw (mod-one a) refl
low_bits (suc n) a b =
    let below : (m : ℕ) → m % 2 ^ n < 2 ^ n = λ m. mod_below m (2 ^ n) (pow_pos n) in
    let bit : (m : ℕ) → m / 2 ^ n % 2 < 2 = λ m. omega arith in
    rw (bit_above n a, bit_above n b, one_more n _ _ _ _ (bit a) (bit b) (below a) (below b)) (ap (λ t. kept a b n && t) (low_bits n a b))

-- what `within` compares
pub included_mask : (a b : ℕ) → (bit_and a b % 2 ^ 60 == a % 2 ^ 60) ≡ included a b
unfolding included
included_mask a b = rw (and_mod a b 60) (low_bits 60 a b)
