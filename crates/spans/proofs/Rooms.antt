-- What a sheet takes of a memory: no less than its size, and less than a unit more.
use Rattle.std.proofs.Common.{◌≡◌, ℕ, ◌*◌, ◌/◌, ◌%◌, sym, ap, ◌∙◌, ◌+◌, ◌-◌, ◌<◌, ◌≤◌, add-zero, mod-lt, arith}
use Rattle.std.proofs.Math.Nat.{div-add-mod, div-eq_of_lt, mul-add-div, mul-div-le}
use Rattle.spans.specs.Rooms.{exact, room}

pub room_wide : (u z : ℕ) → 0 < u → z ≤ room u z
room_wide u z some = omega (arith, div-add-mod (z + (u - 1)) u, mod-lt (z + (u - 1)) some)

pub room_short : (u z : ℕ) → room u z ≤ z + (u - 1)
room_short u z = mul-div-le (z + (u - 1)) u

-- in units of one byte it is the size
room_one : (z : ℕ) → room 1 z ≡ exact z
room_one z = omega arith

pub room_exact : room 1 ≡ exact
room_exact = λ j z. room_one z j

-- the only number of whole units that is no less, and less than a unit more
pub room_next : (u z n : ℕ) → z ≤ n → n < z + u → n % u ≡ 0 → n ≡ room u z
room_next u z n no_less short whole =
    let q = n / u in
    let rest = z + (u - 1) - u * q in
    let is : u * q ≡ n = omega (arith, div-add-mod n u) in
    let some : 0 < u = omega arith in
    let split : z + (u - 1) ≡ u * q + rest = omega arith in
    let same : (z + (u - 1)) / u ≡ q + rest / u = ap (λ k. k / u) split ∙ mul-add-div some q rest in
    let none : rest / u ≡ 0 = div-eq_of_lt (omega arith) in
    sym (ap (λ k. u * k) (same ∙ ap (λ k. q + k) none ∙ add-zero q) ∙ is)
