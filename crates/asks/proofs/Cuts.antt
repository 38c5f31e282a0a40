-- A text that is cut before the first byte of a kind.
use Rattle.std.proofs.Common.{◌≡◌, ℕ, not, eqb, List, ◌∷◌, length, take, drop, None, Option, sym, refl, ap, [], true, false, arith, rules}
use lib.Pointwise.{pointwise}
use Rattle.std.proofs.lemmas.List.Sums.{prefix_len-le-length}
use Rattle.std.proofs.lemmas.Bool.{cond-true, cond-false}
use Rattle.std.specs.Option.{option_map, unwrap_or}
use Rattle.std.specs.List.{position}
use Rattle.std.proofs.lemmas.Bool.Decides.{nat_tests}
use Rattle.asks.specs.Lines.{field}
use Rattle.asks.specs.Numbers.{numeral}
use Rattle.asks.specs.Rows.{before}

-- the first place of such a byte, or the length where there is none
pub before_or_all : (end : ℕ) (text : List ℕ) → unwrap_or (position (λ b. eqb b end) text) (length text) ≡ before end text
before_or_all end text = grind (arith, nat_tests, prefix_len-le-length (λ b. not (eqb b end)) text)

-- a text that does not begin with a space has no field
pub no_space : (most : ℕ) (text : List ℕ) → pointwise eqb (take 1 text) (32 ∷ []) ≡ false → field most text ≡ None
unfolding field
no_space most [] h = refl
no_space most (b ∷ text) h = cond-false (eqb b 32) _ None (search (rules, h))

-- a field of a text that begins with a space, whose word has `end` bytes
pub field_space : (most : ℕ) (text after word more : List ℕ) (end : ℕ) (o : Option ℕ) → pointwise eqb (take 1 text) (32 ∷ []) ≡ true → after ≡ drop 1 text → end ≡ before 32 after → word ≡ take end after → more ≡ drop end after → o ≡ numeral most word → option_map (λ n. (n, more)) o ≡ field most text
unfolding field
field_space most [] after word more end o h e at w m is = absurd (search (rules, h))
field_space most (b ∷ text) after word more end o h e at w m is =
    let space : eqb b 32 ≡ true = search (rules, h) in
    rw (is, w, m, at, e) (sym (cond-true (eqb b 32) _ None space))

-- what is not there has no parts
pub no_value : {A B : Type 0} (f : A → B) (o : Option A) → o ≡ None → option_map f o ≡ None
no_value f o h = ap (option_map f) h
