-- The vault's own tests, part by part: an open vault, a seat, a sheet, and the rules.
use Rattle.std.specs.Prelude.{ℕ, List, ◌++◌, Result}
use Rattle.refusals.specs.Refusals.{Test}
use Rattle.refusals.specs.declared.refusal.Refusal.{Refusal}
use Rattle.refusals.specs.declared.refusal.Refusal.TheVariants.{Closed}
use Rattle.model.specs.States.{Policy, State, seat_at}
use Rattle.model.specs.Rules.{seat_tests, read_rules, write_rules, run_rules, hand_rules}
use Rattle.std.specs.Option.{ok_or}
use Rattle.opening.specs.declared.opening.Opening.{Opening}
use Rattle.vault.specs.declared.vault.Vault.{Vault}

-- what the opening kept; refused where the vault is not open
abbrev pub opening_kept : {M G S : Type 0} → Vault M G S → Result Opening Refusal
opening_kept v = ok_or v.opening Closed

-- the vault's own tests of a call; where bytes are moved, the store's follow
module _ (p : Policy) (s : State) (i k : ℕ) where
  abbrev pub read_front : List Test
  read_front = seat_tests p s i ++ read_rules p (seat_at s i).certificate k

  abbrev pub write_front : List Test
  write_front = seat_tests p s i ++ write_rules p (seat_at s i).certificate k

  abbrev pub run_front : List Test
  run_front = seat_tests p s i ++ run_rules p (seat_at s i).certificate k

  abbrev pub hand_front : List Test
  hand_front = seat_tests p s i ++ hand_rules p (seat_at s i).certificate k
