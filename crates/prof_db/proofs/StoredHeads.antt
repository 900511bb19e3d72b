-- The head of a stored content keeps the third rule.
use Rattle.std.proofs.Common.{◌≡◌, ℕ, zero, suc, ◌+◌, ◌-◌, ◌*◌, ◌<◌, ◌≤◌, ◌==◌, ◌&&◌, ◌||◌, nat_le, nat_lt, Bool, true, false, not, cond, List, [], ◌∷◌, length, get_or, map, All, Ok, refl, ap, ◌∙◌, arith}
use Rattle.std.proofs.lemmas.Bool.{le-ltb, leb-false, leb-true, lt-leb, ne_eqb, or_from}
use Rattle.std.proofs.lemmas.List.{get_or-map, length-map}
use Rattle.prof_bytes.proofs.Tests.{and_false}
use Rattle.scope_types.specs.Events.{AreAscending, AreEvents, event_number, is_retired_alone}
use Rattle.scope_types.specs.Limits.{most_events, most_harts, most_runs}
use Rattle.scope_types.specs.declared.event.Event.TheVariants.{Retired}
use Rattle.scope_types.specs.declared.event.EventPeriod.{EventPeriod}
use Rattle.tree_types.specs.Nodes.{no_parent}
use Rattle.tree_types.specs.declared.content.EventContent.{EventContent}
use Rattle.prof_db.specs.declared.raw.RawEvent.{RawEvent}
use Rattle.prof_db.specs.declared.raw.Version.{Version}
use Rattle.prof_db.specs.declared.raw.Version.TheVariants.{One, Two, Three}
use Rattle.prof_db.specs.Broken.{first_broken}
use Rattle.prof_db.specs.HeadRules.{are_elsewhere, broken_offset, event_at, event_breaks, event_count_is_wrong, event_is_wrong, event_of, events_kept, harts_at, harts_offset, head_kept, run_breaks, run_count_is_wrong, runs_kept}
use Rattle.prof_db.specs.Spelling.{version_of}
use Rattle.prof_db.proofs.ForthHead.{raw_event}
use Rattle.prof_db.proofs.Heads.{few_events, number_few, number_named}

-- where no place is broken, the rule is kept
pub none_fails : (rule : ℕ) (is_broken : ℕ → Bool) (offset : ℕ → ℕ) (i n : ℕ) → ((k : ℕ) → k < i + n → is_broken k ≡ false) → first_broken rule is_broken offset i n ≡ Ok tt
unfolding first_broken
none_fails rule is_broken offset i zero whole = refl
none_fails rule is_broken offset i (suc n) whole = rw (whole i (omega arith)) (none_fails rule is_broken offset (i + 1) n (λ k lt. whole k (omega (arith, lt))))

pub event_again : (e : EventPeriod) → event_of (raw_event e) ≡ e
event_again e = (let is = number_named e.event in λ i. record { event = is i; period = e.period })

-- ---- events

abbrev none : EventPeriod
none = record { event = Retired; period = 0 }

-- the number of the event with an index
abbrev number_at : List EventPeriod → ℕ → ℕ
number_at es i = event_number (get_or es i none).event

number_up : (es : List EventPeriod) → AreAscending es → (i : ℕ) → suc i < length es → number_at es i < number_at es (suc i)
number_up [] up i lt = absurd (omega arith)
number_up (e ∷ []) up i lt = absurd (omega arith)
number_up (e ∷ f ∷ es) up zero lt = up.0
number_up (e ∷ f ∷ es) up (suc i) lt = number_up (f ∷ es) up.1 i (omega arith)

module _ (es : List EventPeriod) (are : AreEvents es) where
  abbrev raws : List RawEvent
  raws = map raw_event es

  raw_is : (i : ℕ) → i < length es → event_at raws i ≡ raw_event (get_or es i none)
  raw_is i lt = get_or-map raw_event es i none (record { event = 0; period = 0 }) lt

  known : (i : ℕ) → i < length es → nat_le most_events (event_at raws i).event ≡ false
  known i lt =
      ap (λ (e : RawEvent). nat_le most_events e.event) (raw_is i lt) ∙ lt-leb most_events (number_at es i) (number_few (get_or es i none).event)

  in_order : (i : ℕ) → i < length es → (nat_lt 0 i && nat_le (event_at raws i).event (event_at raws (i - 1)).event) ≡ false
  in_order zero lt = refl
  in_order (suc i) lt =
      let k : suc i - 1 ≡ i = omega arith in
      let less : nat_le (event_at raws (suc i)).event (event_at raws i).event ≡ false =
      (λ t. nat_le (raw_is (suc i) lt t).event (raw_is i (omega arith) t).event) ∙ lt-leb (number_at es (suc i)) (number_at es i) (number_up es are.ascending i lt) in
      ap (λ b. nat_lt 0 (suc i) && b) (ap (λ (j : ℕ). nat_le (event_at raws (suc i)).event (event_at raws j).event) k ∙ less) ∙ and_false (nat_lt 0 (suc i))

  event_whole : (i : ℕ) → i < length es → event_breaks raws i ≡ false
  event_whole i lt =
      let some : 1 ≤ (get_or es i none).period = are.periods i none lt in
      or_from (event_is_wrong raws i) ((event_at raws i).period == 0)
      (or_from (nat_le most_events (event_at raws i).event) (nat_lt 0 i && nat_le (event_at raws i).event (event_at raws (i - 1)).event) (known i lt) (in_order i lt))
      (ap (λ (e : RawEvent). e.period == 0) (raw_is i lt) ∙ ne_eqb (get_or es i none).period 0 (λ z. absurd (omega (arith, z, some))))

  events_ok : (version : Version) → events_kept version raws ≡ Ok tt
  events_ok version =
      let long = length-map es raw_event in
      none_fails 3 (event_breaks raws) (broken_offset version raws) 0 (length raws) (λ k lt. event_whole k (omega (arith, long, lt)))

  count_ok : (version : Version) → are_elsewhere version raws ≡ false → event_count_is_wrong version raws ≡ false
  count_ok version here =
      let long = length-map es raw_event in
      let some = are.some in
      let few = few_events es are in
      or_from (length raws == 0) (nat_lt most_events (length raws) || are_elsewhere version raws) (ne_eqb (length raws) 0 (λ z. absurd (omega (arith, z, long, some))))
      (or_from (nat_lt most_events (length raws)) (are_elsewhere version raws) (le-ltb most_events (length raws) (omega (arith, long, few))) here)

-- ---- the version

more_than_one : (n : ℕ) → (suc (suc n) == 1) ≡ false
more_than_one n = ne_eqb (suc (suc n)) 1 (λ e. absurd (omega (arith, e)))

elsewhere_not : (es : List EventPeriod) → is_retired_alone es ≡ false → are_elsewhere Two (map raw_event es) ≡ false
elsewhere_not [] alone = refl
elsewhere_not (e ∷ []) alone = alone
elsewhere_not (e ∷ f ∷ es) alone = ap (λ b. b && (event_number e.event == 0)) (more_than_one (length (map raw_event es)))

chosen : (b : Bool) → cond b One Two ≡ Two → b ≡ false
chosen true is = absurd cc
chosen false is = refl

module _ (c : EventContent) (some_runs : 1 ≤ length c.runs) (few_runs : length c.runs ≤ most_runs) where
  abbrev several : Bool
  several = nat_le 2 (length c.runs)

  one_run : several ≡ false → length c.runs ≡ 1
  one_run few = (let less = leb-false 2 (length c.runs) few in omega (arith, less, some_runs))

  by_version : (many alone : Bool) → several ≡ many → is_retired_alone c.events ≡ alone → are_elsewhere (cond many Three (cond alone One Two)) (map raw_event c.events) ≡ false
  by_version true alone is_many is = refl
  by_version false true is_many is = refl
  by_version false false is_many is = elsewhere_not c.events is

  runs_right : (many alone : Bool) → several ≡ many → run_count_is_wrong (cond many Three (cond alone One Two)) c.runs ≡ false
  runs_right true alone is =
      let least : 2 ≤ length c.runs = leb-true 2 (length c.runs) is in
      or_from (nat_lt (length c.runs) 2) (nat_lt most_runs (length c.runs)) (le-ltb (length c.runs) 2 least) (le-ltb most_runs (length c.runs) few_runs)
  runs_right false true is = ap (λ (n : ℕ). not (n == 1)) (one_run is)
  runs_right false false is = ap (λ (n : ℕ). not (n == 1)) (one_run is)

  -- ---- the whole head

  pub head_keeps : AreEvents c.events → All (λ h. (0 < h) × (h ≤ most_harts)) c.runs → (nodes : ℕ) → nodes < no_parent → head_kept (version_of c) (map raw_event c.events) c.runs nodes ≡ Ok tt
  unfolding head_kept
  head_keeps are harts nodes few =
      let version : Version = version_of c in
      let count = count_ok c.events are version (by_version several (is_retired_alone c.events) refl refl) in
      let run_count = runs_right several (is_retired_alone c.events) refl in
      let runs : runs_kept version (length (map raw_event c.events)) c.runs ≡ Ok tt =
      none_fails 3 (run_breaks c.runs) (λ i. harts_offset version (length (map raw_event c.events)) + 4 * i) 0 (length c.runs) (λ k lt. run_whole k (omega (arith, lt))) in
      rw (count, events_ok c.events are version, run_count, runs, lt-leb no_parent nodes few) refl
    where
      run_whole : (i : ℕ) → i < length c.runs → run_breaks c.runs i ≡ false
      run_whole i lt =
          let n : ℕ = harts_at c.runs i in
          let is = harts i 0 lt in
          let some : 0 < n = is.0 in
          or_from (n == 0) (nat_lt most_harts n) (ne_eqb n 0 (λ z. absurd (omega (arith, z, some)))) (le-ltb most_harts n is.1)
