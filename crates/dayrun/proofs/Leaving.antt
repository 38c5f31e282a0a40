-- What an opening leaves is what the day goes on with.
use Rattle.std.proofs.Common.{◌≡◌, ℕ, List, Ok, Err, Result, ap, ◌∙◌}
use Rattle.orders.specs.declared.order.Order.{Ghosts as Ordering}
use Rattle.stores.specs.declared.store.Store.{Ghosts as Storage}
use Rattle.refusals.specs.declared.refusal.Refusal.{Refusal}
use Rattle.register.specs.Tables.{Book}
use Rattle.model.specs.Orders.{order}
use Rattle.vault.specs.Meaning.{policy, state, Left}
use Rattle.vault.specs.declared.vault.Vault.{Vault}
use Rattle.dayrun.specs.Days.{printed, opened_policy, opened_state}

module _ {M G S : Type 0} (m : Ordering M) (g : Ordering G) (s : Storage S) (v w : Vault M G S) (floor : ℕ) where
  left_policy : (o : Result Book Refusal) → Left v floor o w → policy m g w ≡ opened_policy m g s v floor o
  left_policy (Ok b) h = λ j. record {
    marks = order m (h.marks j);
    grades = order g (h.grades j);
    is_open = h.is_open j;
    floor = h.floor j;
    sheets = h.sheets j;
  }
  left_policy (Err e) h = ap (policy m g) h

  left_state : (o : Result Book Refusal) → Left v floor o w → state s w ≡ opened_state m g s v o
  left_state (Ok b) h = λ j. record { seats = h.seats j; contents = s.sheets (h.store j) }
  left_state (Err e) h = ap (state s) h

  -- the lines are answered as after the opening
  pub left_printed : (o : Result Book Refusal) (input : List ℕ) → Left v floor o w → printed (policy m g w) (state s w) input ≡ printed (opened_policy m g s v floor o) (opened_state m g s v o) input
  left_printed o input h = ap (λ p. printed p (state s w) input) (left_policy o h) ∙ ap (λ t. printed (opened_policy m g s v floor o) t input) (left_state o h)
