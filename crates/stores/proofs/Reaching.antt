-- What a store's calls come to where its sheets stand one after the other in one memory.
use Rattle.std.proofs.Common.{◌≡◌, ℕ, ◌+◌, ◌<◌, ◌≤◌, List, length, get_or, take, Err, sum_by, Result, refl, ⊎_elim, arith, rules, MatchResult}
use Rattle.std.proofs.lemmas.List.{places, same_lists}
use Rattle.std.proofs.lemmas.Bool.{cases_lt, le-leb, le-ltb, lt-leb, lt-ltb}
use Rattle.refusals.specs.Refusals.{checked}
use Rattle.refusals.specs.declared.refusal.Refusal.{Refusal}
use Rattle.refusals.specs.declared.refusal.Refusal.TheVariants.{NoSheet, PastEnd}
use Rattle.stores.specs.Cuts.{cut}
use Rattle.stores.specs.Reaches.{Reached}
use Rattle.stores.specs.Sheets.{write_answer}
use Rattle.spans.specs.Bounds.{bound_tests}
use Rattle.stores.proofs.Cutting.{cut_at, cut_splice, end_within, length_cut, size_cut}

module _ (room : ℕ → ℕ) (wide : (z : ℕ) → z ≤ room z) (zs m : List ℕ) (inside : sum_by room zs ≤ length m) (k p b : ℕ) where
  no_sheet : length zs ≤ k → write_answer (cut room zs m) k p b ≡ Err NoSheet
  no_sheet past = rw (length_cut room zs m, le-leb (length zs) k past)

  module _ (below : k < length zs) where
    past_end : get_or zs k 0 < p + b → write_answer (cut room zs m) k p b ≡ Err PastEnd
    past_end over = rw (length_cut room zs m, lt-leb (length zs) k below, size_cut room wide zs m k inside, lt-ltb (get_or zs k 0) (p + b) over)

    reached : p + b ≤ get_or zs k 0 → Reached room zs m k p b (sum_by room (take k zs) + p)
    reached fits =
        let u = end_within room zs k below in
        let v = wide (get_or zs k 0) in
        record {
          granted = rw (length_cut room zs m, lt-leb (length zs) k below, size_cut room wide zs m k inside, le-ltb (get_or zs k 0) (p + b) fits);
          here = refl;
          within = omega arith;
          bytes = rw (cut_at room zs m k) (same_lists _ _ (search (rules, places)) (λ j d h. grind (arith, places)));
          stores = λ bs n. cut_splice room wide zs m k p bs inside below (omega arith);
        }

  -- what the tests by count and size come to
  pub answered : (r : Result ℕ Refusal) → r ≡ checked (bound_tests (length zs) (get_or zs k 0) k p b) (sum_by room (take k zs) + p) → MatchResult r (Reached room zs m k p b) (λ e. write_answer (cut room zs m) k p b ≡ Err e)
  answered r is =
      ⊎_elim
      (λ below.
      ⊎_elim
      (λ over. rw (is, lt-leb (length zs) k below, lt-ltb (get_or zs k 0) (p + b) over) (past_end below over))
      (λ fits. rw (is, lt-leb (length zs) k below, le-ltb (get_or zs k 0) (p + b) fits) (reached below fits))
      (cases_lt (get_or zs k 0) (p + b)))
      (λ past. rw (is, le-leb (length zs) k past) (no_sheet past))
      (cases_lt k (length zs))
