-- What a vault means: the policy and the state of the model, an opening of it, and what its calls return.
use Rattle.std.specs.Prelude.{◌≡◌, ℕ, true, List, [], ◌∷◌, map, Some, None, Option, Ok, Err, Result, is_some}
use Rattle.std.specs.Result.{result_map_both}
use Rattle.orders.specs.declared.order.Order.{Ghosts as Ordering}
use Rattle.stores.specs.declared.store.Store.{Ghosts as Storage}
use Rattle.refusals.specs.declared.refusal.Refusal.{Refusal}
use Rattle.register.specs.Layout.{decoded}
use Rattle.register.specs.Tables.{Book}
use Rattle.model.specs.Calls.{Call, Answer}
use Rattle.model.specs.States.{Policy, State, sizes_of}
use Rattle.model.specs.Runs.{final}
use Rattle.model.specs.Opening.{opening, first_sheets, first_seats}
use Rattle.opening.specs.Admission.{Made, kept}
use Rattle.opening.specs.declared.opening.Opening.{Opening}
use Rattle.model.specs.Orders.{order}
use Rattle.vault.specs.declared.vault.Vault.{Vault}

-- the floor, the sheets and the seats that the opening kept: 0 and none in a vault that is not open
abbrev pub kept_by : Option Opening → Made
kept_by None = record { floor = 0; sheets = []; seats = [] }
kept_by (Some o) = kept o

-- what the opening fixed, with the meaning of the two orders
abbrev pub policy : {M G S : Type 0} → Ordering M → Ordering G → Vault M G S → Policy
policy m g v = record {
  marks = order m v.orders.marks;
  grades = order g v.orders.grades;
  is_open = is_some v.opening;
  floor = (kept_by v.opening).floor;
  sheets = (kept_by v.opening).sheets;
}

-- the seats' records, and the sheets' bytes as the store means them
abbrev pub state : {M G S : Type 0} → Storage S → Vault M G S → State
state s v = record { seats = (kept_by v.opening).seats; contents = s.sheets v.store }

-- the store itself, whatever its bytes beside the sheets
abbrev pub store_of : {M G S : Type 0} → Vault M G S → S
store_of v = v.store

-- the answer that a call returns: no numbers, or the two that tell answers
abbrev pub done : Result (Unit {0}) Refusal → Answer
done = result_map_both (λ u. []) (λ e. e)

abbrev pub told : Result (ℕ × ℕ) Refusal → Answer
told = result_map_both (λ x. x.0 ∷ x.1 ∷ []) (λ e. e)

-- the opening of this vault by a register and a floor, over the store that it has
abbrev pub opening_of : {M G S : Type 0} → Ordering M → Ordering G → Storage S → Vault M G S → List ℕ → ℕ → Result Book Refusal
opening_of m g s v bs floor = opening (order m v.orders.marks) (order g v.orders.grades) bs floor (s.sheets v.store) (is_some v.opening)

-- what an opening returns
abbrev pub answer_of : Result Book Refusal → Result (Unit {0}) Refusal
answer_of = result_map_both (λ b. tt) (λ e. e)

-- a vault just made: it is not open
pub record Closed {M G S : Type 0} (its_marks : M) (its_grades : G) (its_store : S) (v : Vault M G S) : Type 0 where
  pub marks : v.orders.marks ≡ its_marks
  pub grades : v.orders.grades ≡ its_grades
  pub store : v.store ≡ its_store
  pub opening : v.opening ≡ None

-- the vault w that an accepted opening of v leaves
pub record Opened {M G S : Type 0} (v : Vault M G S) (its_floor : ℕ) (b : Book) (w : Vault M G S) : Type 0 where
  pub marks : w.orders.marks ≡ v.orders.marks
  pub grades : w.orders.grades ≡ v.orders.grades
  pub store : w.store ≡ v.store
  pub is_open : is_some w.opening ≡ true
  pub floor : (kept_by w.opening).floor ≡ its_floor
  pub sheets : (kept_by w.opening).sheets ≡ first_sheets b
  pub seats : (kept_by w.opening).seats ≡ first_seats b

-- what an opening of v leaves; a refusal changes nothing
abbrev pub Left : {M G S : Type 0} → Vault M G S → ℕ → Result Book Refusal → Vault M G S → Type 0
Left v floor (Ok b) w = Opened v floor b w
Left v floor (Err e) w = w ≡ v

-- what no call changes
pub record Kept {M G S : Type 0} (v w : Vault M G S) : Type 0 where
  pub marks : w.orders.marks ≡ v.orders.marks
  pub grades : w.orders.grades ≡ v.orders.grades
  pub is_open : is_some w.opening ≡ is_some v.opening
  pub floor : (kept_by w.opening).floor ≡ (kept_by v.opening).floor
  pub sheets : (kept_by w.opening).sheets ≡ (kept_by v.opening).sheets

-- the sheets keep the sizes that the register says, whatever calls follow
abbrev pub SizesStay : Policy → State → List ℕ → Type 0
SizesStay p s bs = (cs : List Call) → sizes_of (final p s cs) ≡ map (λ e. e.size) (decoded bs).entries
