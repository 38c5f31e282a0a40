-- The day at the example vault: its register opens a closed vault over any store of the register's sheets.
use Rattle.std.proofs.Common.{◌≡◌, ℕ, true, List, refl}
use Rattle.orders.specs.Compartments as compartments
use Rattle.orders.specs.Compartments.{included}
use Rattle.orders.specs.Ladder as ladder
use Rattle.orders.specs.declared.compartments.Compartments.{Compartments}
use Rattle.orders.specs.declared.order.Order.{Ghosts as Ordering}
use Rattle.stores.specs.declared.store.Store.{Ghosts as Storage}
use Rattle.model.specs.Opening.{same_sizes}
use Rattle.vault.specs.Meaning.{Closed}
use Rattle.vault.specs.declared.vault.Vault.{Vault}
use Rattle.dayrun.specs.Days.{day_text}
use Rattle.dayrun.specs.Example.{book, floor, register, text_from}

-- the meaning of the two orders
abbrev pub marking : Ordering Compartments
marking = record { class = λ _ code. compartments.is_class code; below = λ _ a b. compartments.at_or_below a b }

-- a ladder is seen as the number of its rungs
abbrev pub grading : Ordering ℕ
grading = record { class = ladder.is_rung; below = ladder.at_or_below }

pub example_day : {S : Type 0} (s : Storage S) (v : Vault Compartments ℕ S) (m : Compartments) (l : ℕ) (store : S) (input : List ℕ) →
    Closed m l store v → l ≡ 6 → same_sizes (s.sheets store) book.entries ≡ true → day_text marking grading s v register floor input ≡ text_from (s.sheets store) input
unfolding included
example_day s v m l store input closed six same = rw (closed.grades, six, closed.store, closed.opening, same) refl
