-- Digits at the front and at the end of a text, and the number that they write.
use Rattle.std.proofs.Common.{◌≡◌, ℕ, ◌+◌, ◌-◌, ◌*◌, ◌^◌, ◌<◌, ◌≤◌, true, ◌&&◌, leb, List, [], ◌∷◌, ◌++◌, length, get_or, take, Some, decimal, sym, refl, ap, ◌∙◌, subst, append_assoc, append-nil, pow-suc, add-one, arith, rules}
use mathlib.Core.List.{reverse-append}
use Rattle.std.specs.Char.{is_ascii_digit}
use Rattle.std.specs.Str.{all_ascii_digits}
use Rattle.std.proofs.lemmas.List.{take_more, take_all, length-take-le}
use Rattle.std.proofs.lemmas.Bool.{and_parts, and_from, leb-true, le-leb}
use Rattle.std.proofs.lemmas.Str.Parse.{IsNumeralModel, numerals_by_fold, tells_all_ascii_digits}
use Rattle.std.proofs.lemmas.Fmt.{digits_decimal, digits_value-decimal, decimal_nonempty, length-decimal-le}
use Rattle.std.specs.Bool.{then_some}
use Rattle.std.specs.List.{list_all}
use Rattle.asks.specs.Numbers.{number, from_last, few_digits, ReadsBack, ByLast}

-- each byte of a text of digits is one
pub each_digit : (ds : List ℕ) → list_all is_ascii_digit ds ≡ all_ascii_digits ds
each_digit [] = refl
each_digit (d ∷ ds) = ap (λ b. is_ascii_digit d && b) (each_digit ds)

-- one more digit at the end
digits_push : (ds : List ℕ) (d : ℕ) → all_ascii_digits (ds ++ d ∷ []) ≡ true → (all_ascii_digits ds ≡ true) × (is_ascii_digit d ≡ true)
digits_push [] d h = (refl, (and_parts (is_ascii_digit d) true h).0)
digits_push (x ∷ ds) d h =
    let p = and_parts (is_ascii_digit x) (all_ascii_digits (ds ++ d ∷ [])) h in
    let q = digits_push ds d p.1 in
    (and_from _ _ p.0 q.0, q.1)

pub by_last : ByLast
by_last ds d = ap from_last (reverse-append ds (d ∷ []))

-- what the front and the last digit of a text of digits are
pub record Parted (ds front : List ℕ) (last : ℕ) : Type 0 where
  pub digits : all_ascii_digits front ≡ true
  pub low : 48 ≤ last
  pub high : last ≤ 57
  pub is : number ds ≡ number front * 10 + (last - 48)
  pub power : 10 ^ length ds ≡ 10 ^ length front * 10

pub parted : (ds : List ℕ) → 0 < length ds → all_ascii_digits ds ≡ true → Parted ds (take (length ds - 1) ds) (get_or ds (length ds - 1) 0)
parted ds some h =
    let n : ℕ = length ds - 1 in
    let back : n + 1 ≡ length ds = omega arith in
    let whole : ds ≡ take n ds ++ get_or ds n 0 ∷ [] = sym (take_all (n + 1) ds (omega arith)) ∙ take_more ds n 0 (omega arith) in
    let p = digits_push (take n ds) (get_or ds n 0) (subst (λ l. all_ascii_digits l ≡ true) whole h) in
    let r = and_parts _ _ p.1 in
    record {
      digits = p.0;
      low = leb-true _ _ r.0;
      high = leb-true _ _ r.1;
      is = ap number whole ∙ by_last (take n ds) (get_or ds n 0);
      power = ap (λ k. 10 ^ k) (sym back ∙ add-one n) ∙ pow-suc 10 n ∙ ap (λ k. 10 ^ k * 10) (sym (length-take-le n ds (omega arith)));
    }

-- the number of the digits after those that wrote n
abbrev read_on : ℕ → List ℕ → ℕ
read_on n [] = n
read_on n (d ∷ ds) = read_on (n * 10 + (d - 48)) ds

reads_on : (front ds : List ℕ) → number (front ++ ds) ≡ read_on (number front) ds
reads_on front [] = ap number (append-nil front)
reads_on front (d ∷ ds) =
    ap number (sym (append_assoc front (d ∷ []) ds)) ∙ reads_on (front ++ d ∷ []) ds ∙ ap (λ n. read_on n ds) (by_last front d)

own : IsNumeralModel (λ ds. all_ascii_digits ds ≡ true) (read_on 0)
own = numerals_by_fold _ tells_all_ascii_digits read_on (search rules)

pub reads_back : ReadsBack
reads_back n most small within =
    let ds : List ℕ = decimal n in
    let wide : n < 2 ^ 64 = omega arith in
    let is : number ds ≡ n = reads_on [] ds ∙ digits_value-decimal own n wide in
    let some : 0 < length ds = decimal_nonempty n wide in
    let few : length ds ≤ 9 = length-decimal-le 9 n (omega arith) small wide in
    let test : (few_digits ds && leb (number ds) most) ≡ true = and_from _ _ (and_from _ _ (and_from _ _ (le-leb 1 (length ds) some) (le-leb (length ds) 9 few)) (digits_decimal own n wide)) (le-leb (number ds) most (omega (arith, is))) in
    ap (λ b. then_some b (number ds)) test ∙ ap (λ k. Some k) is
