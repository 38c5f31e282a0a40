-- One call leaves what is seen alike, and so do whole lists of calls: the law, by one induction over the lists.
use Rattle.std.proofs.Common.{◌≡◌, ℕ, ◌+◌, ◌<◌, ◌≤◌, true, false, cond, not, ltb, leb, List, [], ◌∷◌, ◌++◌, map, length, get_or, take, drop, is_some, is_ok, Some, None, Ok, Err, Option, sym, refl, ap, ◌∙◌, subst, ⊎_elim, arith, length-append, length-drop, length-set, length-take, get_or-set_other, get_or-set_same}
use lib.ListN.{length-map, get_or-map}
use lib.Seq.{map-set_same}
use Rattle.std.specs.List.{AllByRecursion}
use Rattle.std.proofs.lemmas.Bool.{cases_Bool, cases_eq, false≢true, both_ways, ltb-true, lt-ltb, lt-leb, and_parts, and_from, and_cases, or_parts, or_cases, not-false, cond-true, cond-false}
use Rattle.refusals.specs.Refusals.{on, checked}
use Rattle.refusals.specs.declared.refusal.Refusal.TheVariants.{Closed, NoSeat, NoSheet, PastEnd}
use Rattle.stores.specs.Sheets.{reach_tests}
use Rattle.stores.specs.Splices.{spliced}
use Rattle.register.specs.declared.label.Label.{Label}
use Rattle.register.specs.declared.certificate.Certificate.{Certificate}
use Rattle.model.specs.Orders.{Lawful}
use Rattle.model.specs.Calls.{Call, read, write, run, hand, tell, seat_of, brought}
use Rattle.model.specs.States.{Policy, State, held, label_of, certificate_of, blank_seat, seat_at, bytes_of, sizes_of, with_seat}
use Rattle.model.specs.Rules.{read_rules, write_rules, run_rules, kind_tests, tests, numbers, answer, accepted, effect, filled, after, reply}
use Rattle.model.specs.Runs.{Turn, reply_at, final}
use Rattle.model.specs.TwoRuns.{in_view, sheet_in_view, seat_in_view, reaches, release, counts, counted, kept, replies, releases, Alike, Floored}
use Rattle.model.specs.declared.seat.Seat.{Seat}
use Rattle.refusals.proofs.Testing.{checked_value}
use Rattle.model.proofs.Grants.{mark_below, grade_below, Seen, seated, read_grants, run_grants, write_grants, hand_grants}
use Rattle.model.proofs.Steps.{alike_refl, alike_sym, alike_trans, hidden_seat, same_seat, hidden_bytes, same_bytes}

-- what the opening tested of a certificate
pub record Tested (p : Policy) (c : Certificate) : Type 0 where
  pub mark_range : mark_below p c.writing.mark c.reading.mark ≡ true
  pub grade_range : grade_below p c.reading.grade c.writing.grade ≡ true
  pub floored : mark_below p c.reading.mark c.writing.mark ≡ false → grade_below p p.floor c.writing.grade ≡ true

-- every seat is under a tested certificate, and the sheets have these sizes
pub record Sound (p : Policy) (zs : List ℕ) (s : State) : Type 0 where
  pub sizes : sizes_of s ≡ zs
  pub tested : (i : ℕ) → i < length s.seats → Tested p (seat_at s i).certificate

-- every certified program has a tested certificate
abbrev pub AllTested : Policy → Type 0
AllTested p = (k : ℕ) (d : Certificate) → certificate_of p k ≡ Some d → Tested p d

abbrev IsCons : {A : Type 0} → List A → Type 0
IsCons [] = ⊥
IsCons (x ∷ xs) = Unit {0}

cons_nil : {A : Type 0} {a : A} {xs : List A} → ◌≡◌ {A = List A} (a ∷ xs) [] → ⊥
cons_nil e = subst IsCons e tt

cons_head : {A : Type 0} {a b : A} {xs ys : List A} → ◌≡◌ {A = List A} (a ∷ xs) (b ∷ ys) → a ≡ b
cons_head e = cc

cons_tail : {A : Type 0} {a b : A} {xs ys : List A} → ◌≡◌ {A = List A} (a ∷ xs) (b ∷ ys) → xs ≡ ys
cons_tail e = cc

spliced_length : (old : List ℕ) (place : ℕ) (bytes : List ℕ) → place + length bytes ≤ length old → length (spliced old place bytes) ≡ length old
spliced_length old place bytes h = simp (length-append, length-take, length-drop) (omega arith)

held_tested : (p : Policy) (o : Option Certificate) → is_some o ≡ true → ((d : Certificate) → o ≡ Some d → Tested p d) → Tested p (held o)
held_tested p None h all = absurd (false≢true h)
held_tested p (Some d) h all = all d refl

-- a call made in the state s
abbrev turn : State → Call → Turn
turn s c = record { before = s; call = c }

-- the store's tests look at the sizes alone
same_reach : (ss rs : List (List ℕ)) (k place n : ℕ) → map length ss ≡ map length rs → reach_tests ss k place n ≡ reach_tests rs k place n
same_reach ss rs k place n e =
    ap (λ m. on (leb m k) NoSheet ∷ on (ltb (length (get_or ss k [])) (place + n)) PastEnd ∷ [])
    (sym (length-map ss length) ∙ ap length e ∙ length-map rs length)
    ∙ ap (λ m. on (leb (length rs) k) NoSheet ∷ on (ltb m (place + n)) PastEnd ∷ [])
    (sym (get_or-map length ss k []) ∙ ap (λ l. get_or l k 0) e ∙ get_or-map length rs k [])

module _ (p : Policy) (v : Label) where
  counted_yes : (s : State) (c : Call) (cs : List Call) → counts p v (turn s c) ≡ true → counted p v s (c ∷ cs) ≡ turn s c ∷ counted p v (after p s c) cs
  counted_yes s c cs h = cond-true _ _ _ h

  counted_no : (s : State) (c : Call) (cs : List Call) → counts p v (turn s c) ≡ false → counted p v s (c ∷ cs) ≡ counted p v (after p s c) cs
  counted_no s c cs h = cond-false _ _ _ h

  -- where the first call that counts is made, and what follows it
  record Next (zs : List ℕ) (t : State) (ds : List Call) (c : Call) (rest : List Call) : Type 0 where
    at : State
    left : List Call
    alike : Alike p v t at
    sound : Sound p zs at
    counted_here : counts p v (turn at c) ≡ true
    others : kept p v (after p at c) left ≡ rest
    said : replies p v t ds ≡ reply p at c ∷ replies p v (after p at c) left
    ends : final p t ds ≡ final p (after p at c) left

module _ (p : Policy) (v : Label) (marks : Lawful p.marks) (grades : Lawful p.grades) where
  -- what is read or run by a seat in view is in view
  seen_in_view : (c : Certificate) (grade k : ℕ) → grade_below p c.reading.grade (label_of p k).grade ≡ true → in_view p v c.reading ≡ true → Seen p c grade k → sheet_in_view p v k ≡ true
  seen_in_view c grade k low seen r =
      let both = and_parts _ _ seen in
      and_from _ _ (lt-ltb _ _ r.sheet) (and_from _ _ (marks.transitive _ _ _ r.mark both.0) (grades.transitive _ _ _ both.1 low))

  -- an accepted call that does not count reaches nothing in view
  reaches_nothing : (s : State) (c : Call) → counts p v (turn s c) ≡ false → accepted p s c ≡ true → reaches p v c ≡ false
  reaches_nothing s c out g =
      let parts = or_parts _ _ out in
      ⊎_elim (λ e. absurd (both_ways _ parts.0 (not-false _ e)))
      (λ e. ⊎_elim (λ f. absurd (both_ways _ f g)) (λ r. r) (and_cases _ _ e))
      (and_cases _ _ parts.1)

  out_of_view : (s : State) (i : ℕ) → i < length s.seats → seat_in_view p v s i ≡ false → in_view p v (seat_at s i).certificate.reading ≡ false
  out_of_view s i h out = ⊎_elim (λ e. absurd (both_ways _ e (lt-ltb _ _ h))) (λ e. e) (and_cases _ _ out)

  hidden_effect : (s : State) (c : Call) → accepted p s c ≡ true → seat_in_view p v s (seat_of c) ≡ false → reaches p v c ≡ false → Alike p v s (effect p s c)
  hidden_effect s (read i k place buffer) g h r = alike_refl p v s
  hidden_effect s (write i k place bytes) g h r = hidden_bytes p v s k _ r
  hidden_effect s (run i k place buffer) g h r =
      let here = seated p s (run i k place buffer) g in hidden_seat p v s i _ here h (out_of_view s i here h)
  hidden_effect s (hand i k slip) g h r =
      hidden_seat p v s i _ (seated p s (hand i k slip) g) h
      (⊎_elim (λ e. absurd (both_ways _ e (hand_grants p s i k slip g).certified)) (λ e. e) (and_cases _ _ r))
  hidden_effect s (tell i) g h r = alike_refl p v s

  -- a call that does not count leaves all in view as it was
  unseen : (s : State) (c : Call) → counts p v (turn s c) ≡ false → Alike p v s (after p s c)
  unseen s c out = ⊎_elim
      (λ g. subst (Alike p v s) (sym (cond-true _ _ _ g)) (hidden_effect s c g (or_parts _ _ out).0 (reaches_nothing s c out g)))
      (λ g. subst (Alike p v s) (sym (cond-false _ _ _ g)) (alike_refl p v s))
      (cases_Bool (accepted p s c))

  -- a call made in two states that are alike
  module _ (zs : List ℕ) (s t : State) (so : Sound p zs s) (to : Sound p zs t) (a : Alike p v s t) where
    same_kind : (x : Certificate) (c : Call) → kind_tests p s.contents x c ≡ kind_tests p t.contents x c
    same_kind x (read i k place buffer) = ap (λ ts. read_rules p x k ++ ts) (same_reach s.contents t.contents k place (length buffer) (so.sizes ∙ sym to.sizes))
    same_kind x (write i k place bytes) = ap (λ ts. write_rules p x k ++ ts) (same_reach s.contents t.contents k place (length bytes) (so.sizes ∙ sym to.sizes))
    same_kind x (run i k place buffer) = ap (λ ts. run_rules p x k ++ ts) (same_reach s.contents t.contents k place (length buffer) (so.sizes ∙ sym to.sizes))
    same_kind x (hand i k slip) = refl
    same_kind x (tell i) = refl

    -- the answer to a call of a seat that is there
    answer_at : (u : State) (c : Call) → seat_of c < length u.seats →
        answer p u c ≡ checked (on (not p.is_open) Closed ∷ kind_tests p u.contents (seat_at u (seat_of c)).certificate c) (numbers (seat_at u (seat_of c)) c)
    answer_at u c h =
        ap (λ b. cond (not p.is_open) (Err Closed) (cond b (Err NoSeat) (checked (kind_tests p u.contents (seat_at u (seat_of c)).certificate c) (numbers (seat_at u (seat_of c)) c)))) (lt-leb _ _ h)

    same_answer : (c : Call) → seat_in_view p v s (seat_of c) ≡ true → answer p s c ≡ answer p t c
    same_answer c seen =
        answer_at s c (ltb-true _ _ (and_parts _ _ seen).0)
        ∙ ap (λ x. checked (on (not p.is_open) Closed ∷ kind_tests p s.contents x.certificate c) (numbers x c)) (a.seats (seat_of c) seen)
        ∙ ap (λ ts. checked (on (not p.is_open) Closed ∷ ts) (numbers (seat_at t (seat_of c)) c)) (same_kind (seat_at t (seat_of c)).certificate c)
        ∙ sym (answer_at t c (ltb-true _ _ (and_parts _ _ (sym (a.both (seat_of c)) ∙ seen)).0))

    same_filled : (c : Call) → seat_in_view p v s (seat_of c) ≡ true → accepted p s c ≡ true → filled p s c ≡ filled p t c
    same_filled (read i k place buffer) seen g =
        let r = read_grants p s i k place buffer g in
        ap (λ bytes. take (length buffer) (drop place bytes)) (a.sheets k (seen_in_view (seat_at s i).certificate _ k r.grade_holds (and_parts _ _ seen).1 r))
    same_filled (write i k place bytes) seen g = refl
    same_filled (run i k place buffer) seen g =
        let r = run_grants p s i k place buffer g in
        let ok = so.tested i (seated p s (run i k place buffer) g) in
        ap (λ bytes. take (length buffer) (drop place bytes))
        (a.sheets k (seen_in_view (seat_at s i).certificate _ k (grades.transitive _ _ _ ok.grade_range r.grade_holds) (and_parts _ _ seen).1 r))
    same_filled (hand i k slip) seen g = refl
    same_filled (tell i) seen g = refl

    -- a write or a hand over that both accept
    same_write : (i k place : ℕ) (bytes : List ℕ) → accepted p s (write i k place bytes) ≡ true → accepted p t (write i k place bytes) ≡ true → Alike p v (effect p s (write i k place bytes)) (effect p t (write i k place bytes))
    same_write i k place bytes g m = same_bytes p v s t k place bytes a (write_grants p s i k place bytes g).there (write_grants p t i k place bytes m).there

    same_hand : (i k slip : ℕ) → accepted p s (hand i k slip) ≡ true → accepted p t (hand i k slip) ≡ true → Alike p v (effect p s (hand i k slip)) (effect p t (hand i k slip))
    same_hand i k slip g m = same_seat p v s t i _ _ a (seated p s (hand i k slip) g) (seated p t (hand i k slip) m) refl

    same_effect : (c : Call) → seat_in_view p v s (seat_of c) ≡ true → accepted p s c ≡ true → accepted p t c ≡ true → Alike p v (effect p s c) (effect p t c)
    same_effect (read i k place buffer) seen g m = a
    same_effect (write i k place bytes) seen g m = same_write i k place bytes g m
    same_effect (run i k place buffer) seen g m =
        same_seat p v s t i _ _ a (seated p s (run i k place buffer) g) (seated p t (run i k place buffer) m)
        (ap (λ x. rerun x k) (a.seats i seen))
      where
        rerun : Seat → ℕ → Seat
        rerun x n = record { certificate = x.certificate; program = n; slip = x.slip }
    same_effect (hand i k slip) seen g m = same_hand i k slip g m
    same_effect (tell i) seen g m = a

    same_reply : (c : Call) → answer p s c ≡ answer p t c → (accepted p s c ≡ true → filled p s c ≡ filled p t c) → reply p s c ≡ reply p t c
    same_reply c e f = λ j. record { answer = e j; buffer = buffers j }
      where
        buffers : cond (accepted p s c) (filled p s c) (brought c) ≡ cond (accepted p t c) (filled p t c) (brought c)
        buffers = ⊎_elim
            (λ g. cond-true _ _ _ g ∙ f g ∙ sym (cond-true _ _ _ (ap is_ok (sym e) ∙ g)))
            (λ g. cond-false _ _ _ g ∙ sym (cond-false _ _ _ (ap is_ok (sym e) ∙ g)))
            (cases_Bool (accepted p s c))

    same_after : (c : Call) → accepted p s c ≡ accepted p t c → (accepted p s c ≡ true → accepted p t c ≡ true → Alike p v (effect p s c) (effect p t c)) → Alike p v (after p s c) (after p t c)
    same_after c e f = ⊎_elim
        (λ g. let m = sym e ∙ g in rw (cond-true _ (effect p s c) s g, cond-true _ (effect p t c) t m) (f g m))
        (λ g. let m = sym e ∙ g in rw (cond-false _ (effect p s c) s g, cond-false _ (effect p t c) t m) a)
        (cases_Bool (accepted p s c))

    seen_step : (c : Call) → seat_in_view p v s (seat_of c) ≡ true → (reply p s c ≡ reply p t c) × Alike p v (after p s c) (after p t c)
    seen_step c seen =
        let e = same_answer c seen in
        (same_reply c e (same_filled c seen), same_after c (ap is_ok e) (same_effect c seen))

    -- a release answers no numbers, fills no buffer, and changes the same in both
    done_at : (u : State) (c : Call) → reaches p v c ≡ true → accepted p u c ≡ true → answer p u c ≡ Ok []
    done_at u (read i k place buffer) r g = absurd (false≢true r)
    done_at u (write i k place bytes) r g = checked_value (tests p u (write i k place bytes)) [] g
    done_at u (run i k place buffer) r g = absurd (false≢true r)
    done_at u (hand i k slip) r g = checked_value (tests p u (hand i k slip)) [] g
    done_at u (tell i) r g = absurd (false≢true r)

    released_filled : (c : Call) → reaches p v c ≡ true → filled p s c ≡ filled p t c
    released_filled (read i k place buffer) r = absurd (false≢true r)
    released_filled (write i k place bytes) r = refl
    released_filled (run i k place buffer) r = absurd (false≢true r)
    released_filled (hand i k slip) r = refl
    released_filled (tell i) r = absurd (false≢true r)

    released_effect : (c : Call) → reaches p v c ≡ true → accepted p s c ≡ true → accepted p t c ≡ true → Alike p v (effect p s c) (effect p t c)
    released_effect (read i k place buffer) r g m = absurd (false≢true r)
    released_effect (write i k place bytes) r g m = same_write i k place bytes g m
    released_effect (run i k place buffer) r g m = absurd (false≢true r)
    released_effect (hand i k slip) r g m = same_hand i k slip g m
    released_effect (tell i) r g m = absurd (false≢true r)

    release_step : (c : Call) → release p v (turn s c) ≡ true → release p v (turn t c) ≡ true → (reply p s c ≡ reply p t c) × Alike p v (after p s c) (after p t c)
    release_step c r q =
        let gs = and_parts _ _ (and_parts _ _ r).1 in
        let gt = and_parts _ _ (and_parts _ _ q).1 in
        let e = done_at s c gs.1 gs.0 ∙ sym (done_at t c gt.1 gt.0) in
        (same_reply c e (λ g. released_filled c gs.1), same_after c (ap is_ok e) (released_effect c gs.1))

    -- a call that counts in both
    step : (c : Call) → counts p v (turn s c) ≡ true → counts p v (turn t c) ≡ true → (reply p s c ≡ reply p t c) × Alike p v (after p s c) (after p t c)
    step c hs ht = ⊎_elim
        (seen_step c)
        (λ out. release_step c (released s hs out) (released t ht (sym (a.both (seat_of c)) ∙ out)))
        (cases_Bool (seat_in_view p v s (seat_of c)))
      where
        released : (u : State) → counts p v (turn u c) ≡ true → seat_in_view p v u (seat_of c) ≡ false → release p v (turn u c) ≡ true
        released u h out = ⊎_elim (λ e. absurd (both_ways _ out e)) (λ e. e) (or_cases _ _ h)

module _ (p : Policy) (all : AllTested p) (zs : List ℕ) where
  -- every seat keeps a tested certificate, and every sheet its size
  sound_seat : (s : State) (i : ℕ) (x : Seat) → Sound p zs s → Tested p x.certificate → Sound p zs (with_seat s i x)
  sound_seat s i x so ok = record {
    sizes = so.sizes;
    tested = λ j h. let here = rw (length-set s.seats i x) at h in ⊎_elim
        (λ e. let same : seat_at (with_seat s i x) j ≡ x = ap (λ n. seat_at (with_seat s i x) n) e ∙ get_or-set_same s.seats i x blank_seat (rw e at here) in subst (λ y. Tested p y.certificate) (sym same) ok)
        (λ ne. subst (λ y. Tested p y.certificate) (sym (get_or-set_other s.seats i j x blank_seat ne)) (so.tested j here))
        (cases_eq j i);
  }

  sound_effect : (s : State) (c : Call) → Sound p zs s → accepted p s c ≡ true → Sound p zs (effect p s c)
  sound_effect s (read i k place buffer) so g = so
  sound_effect s (write i k place bytes) so g = record {
    sizes = map-set_same length s.contents k _ [] (spliced_length (bytes_of s k) place bytes (write_grants p s i k place bytes g).room) ∙ so.sizes;
    tested = so.tested;
  }
  sound_effect s (run i k place buffer) so g = sound_seat s i _ so (so.tested i (seated p s (run i k place buffer) g))
  sound_effect s (hand i k slip) so g = sound_seat s i _ so (held_tested p (certificate_of p k) (hand_grants p s i k slip g).certified (all k))
  sound_effect s (tell i) so g = so

  sound_after : (s : State) (c : Call) → Sound p zs s → Sound p zs (after p s c)
  sound_after s c so = ⊎_elim
      (λ g. subst (Sound p zs) (sym (cond-true _ _ _ g)) (sound_effect s c so g))
      (λ g. subst (Sound p zs) (sym (cond-false _ _ _ g)) so)
      (cases_Bool (accepted p s c))

  pub sound_final : (s : State) (cs : List Call) → Sound p zs s → Sound p zs (final p s cs)
  sound_final s [] so = so
  sound_final s (c ∷ cs) so = sound_final (after p s c) cs (sound_after s c so)

  module _ (v : Label) (marks : Lawful p.marks) (grades : Lawful p.grades) where
    quiet : (t : State) (ds : List Call) → kept p v t ds ≡ [] → (replies p v t ds ≡ []) × Alike p v t (final p t ds)
    quiet t [] e = (refl, alike_refl p v t)
    quiet t (d ∷ ds) e = ⊎_elim
        (λ h. absurd (cons_nil (sym (ap (map (λ u. u.call)) (counted_yes p v t d ds h)) ∙ e)))
        (λ h. let n = counted_no p v t d ds h in
        let ih = quiet (after p t d) ds (sym (ap (map (λ u. u.call)) n) ∙ e) in
        (ap (map (reply_at p)) n ∙ ih.0, alike_trans (unseen p v marks grades t d h) ih.1))
        (cases_Bool (counts p v (turn t d)))

    -- the first call that counts
    first : (t : State) (ds : List Call) (c : Call) (rest : List Call) → Sound p zs t → kept p v t ds ≡ c ∷ rest → Next p v zs t ds c rest
    first t [] c rest to e = absurd (cons_nil (sym e))
    first t (d ∷ ds) c rest to e = ⊎_elim
        (λ h. let n = counted_yes p v t d ds h in
        let k = sym (ap (map (λ u. u.call)) n) ∙ e in
        let same = cons_head k in
        record {
          at = t;
          left = ds;
          alike = alike_refl p v t;
          sound = to;
          counted_here = ap (λ x. counts p v (turn t x)) (sym same) ∙ h;
          others = ap (λ x. kept p v (after p t x) ds) (sym same) ∙ cons_tail k;
          said = ap (map (reply_at p)) n ∙ ap (λ x. reply p t x ∷ replies p v (after p t x) ds) same;
          ends = ap (λ x. final p (after p t x) ds) same;
        })
        (λ h. let m = counted_no p v t d ds h in
        let n = first (after p t d) ds c rest (sound_after t d to) (sym (ap (map (λ u. u.call)) m) ∙ e) in
        record {
          at = n.at;
          left = n.left;
          alike = alike_trans (unseen p v marks grades t d h) n.alike;
          sound = n.sound;
          counted_here = n.counted_here;
          others = n.others;
          said = ap (map (reply_at p)) m ∙ n.said;
          ends = n.ends;
        })
        (cases_Bool (counts p v (turn t d)))

    pub two_runs : (cs ds : List Call) (s t : State) → Sound p zs s → Sound p zs t → Alike p v s t → kept p v s cs ≡ kept p v t ds →
        (replies p v s cs ≡ replies p v t ds) × Alike p v (final p s cs) (final p t ds)
    two_runs [] ds s t so to a e = let q = quiet t ds (sym e) in (sym q.0, alike_trans a q.1)
    two_runs (c ∷ cs) ds s t so to a e = ⊎_elim
        (λ h. let y = counted_yes p v s c cs h in
        let n = first t ds c (kept p v (after p s c) cs) to (sym e ∙ ap (map (λ u. u.call)) y) in
        let st = step p v marks grades zs s n.at so n.sound (alike_trans a n.alike) c h n.counted_here in
        let ih = two_runs cs n.left (after p s c) (after p n.at c) (sound_after s c so) (sound_after n.at c n.sound) st.1 (sym n.others) in (
          ap (map (reply_at p)) y ∙ ap (λ r. r ∷ replies p v (after p s c) cs) st.0 ∙ ap (λ rs. reply p n.at c ∷ rs) ih.0 ∙ sym n.said,
          subst (λ u. Alike p v (final p (after p s c) cs) u) (sym n.ends) ih.1,
        ))
        (λ h. let y = counted_no p v s c cs h in
        let ih = two_runs cs ds (after p s c) t (sound_after s c so) to (alike_trans (alike_sym (unseen p v marks grades s c h)) a) (sym (ap (map (λ u. u.call)) y) ∙ e) in
        (ap (map (reply_at p)) y ∙ ih.0, ih.1))
        (cases_Bool (counts p v (turn s c)))

    -- a release from above the view's mark is made under a certificate ranged in marks, and so at or above the floor
    stepped_down : (d : Certificate) (m : ℕ) → Tested p d → mark_below p d.writing.mark m ≡ true → mark_below p m v.mark ≡ true →
        mark_below p d.reading.mark v.mark ≡ false → grade_below p p.floor d.writing.grade ≡ true
    stepped_down d m ok low high above = ok.floored (⊎_elim
        (λ e. absurd (both_ways _ above (marks.transitive _ _ _ e (marks.transitive _ _ _ low high)))) (λ e. e)
        (cases_Bool (mark_below p d.reading.mark d.writing.mark)))

    floored_call : (s : State) (c : Call) → Sound p zs s → accepted p s c ≡ true → reaches p v c ≡ true → Floored p v (turn s c)
    floored_call s (read i k place buffer) so g q = absurd (false≢true q)
    floored_call s (write i k place bytes) so g q =
        stepped_down (seat_at s i).certificate (label_of p k).mark (so.tested i (seated p s (write i k place bytes) g))
        (write_grants p s i k place bytes g).mark (and_parts _ _ (and_parts _ _ q).1).0
    floored_call s (run i k place buffer) so g q = absurd (false≢true q)
    floored_call s (hand i k slip) so g q =
        stepped_down (seat_at s i).certificate (held (certificate_of p k)).reading.mark (so.tested i (seated p s (hand i k slip) g))
        (hand_grants p s i k slip g).mark (and_parts _ _ (and_parts _ _ q).1).0
    floored_call s (tell i) so g q = absurd (false≢true q)

    pub all_floored : (cs : List Call) (s : State) → Sound p zs s → AllByRecursion (Floored p v) (releases p v s cs)
    all_floored [] s so = tt
    all_floored (c ∷ cs) s so = let ih = all_floored cs (after p s c) (sound_after s c so) in ⊎_elim
        (λ h. let r = and_parts _ _ (and_parts _ _ h).1 in
        subst (AllByRecursion (Floored p v)) (sym (cond-true _ _ _ h)) (floored_call s c so r.0 r.1, ih))
        (λ h. subst (AllByRecursion (Floored p v)) (sym (cond-false _ _ _ h)) ih)
        (cases_Bool (release p v (turn s c)))
