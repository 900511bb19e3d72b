-- What the third rule says of a head, and the heads that keep it.
use Rattle.std.proofs.Common.{◌≡◌, ℕ, zero, suc, ◌+◌, ◌-◌, ◌*◌, ◌%◌, ◌<◌, ◌≤◌, ◌==◌, ◌&&◌, ◌||◌, nat_le, nat_lt, not, Bool, true, false, cond, List, [], ◌∷◌, length, map, sum, All, Result, Ok, Err, OnOk, refl, sym, ap, subst, ◌∙◌, arith}
use Rattle.std.proofs.Math.Nat.{mod-lt}
use Rattle.std.proofs.lemmas.Nat.{mul-le}
use Rattle.std.proofs.lemmas.Bool.{eqb-false, eqb-true, leb-false, lt-ltb, ltb-false, or_parts}
use Rattle.std.proofs.lemmas.List.{length-map}
use Rattle.std.proofs.lemmas.List.Elements.{All-from_get_or, All-head, All-map, All-tail}
use Rattle.std.proofs.lemmas.List.Sums.{sum_by-cons}
use Rattle.scope_types.specs.Columns.{columns_of, period_of_column}
use Rattle.scope_types.specs.Events.{AreAscending, AreEvents, event_number, event_of_number, periods_of}
use Rattle.scope_types.specs.Limits.{most_events, most_harts, most_runs}
use Rattle.scope_types.specs.declared.event.Event.{Event}
use Rattle.scope_types.specs.declared.event.Event.TheVariants.{Retired, Loads, Stores, Taken}
use Rattle.scope_types.specs.declared.event.EventPeriod.{EventPeriod}
use Rattle.tree_types.specs.Nodes.{no_parent}
use Rattle.prof_db.specs.declared.fault.DbFault.{DbFault}
use Rattle.prof_db.specs.declared.raw.Layout.{Layout}
use Rattle.prof_db.specs.declared.raw.RawEvent.{RawEvent}
use Rattle.prof_db.specs.declared.raw.Version.{Version}
use Rattle.prof_db.specs.declared.raw.Version.TheVariants.{One, Two, Three}
use Rattle.prof_db.specs.Fields.{fault}
use Rattle.prof_db.specs.HeadRules.{are_elsewhere, broken_offset, event_at, event_breaks, event_count_is_wrong, event_count_offset, event_is_wrong, event_of, events_kept, events_of, harts_at, harts_offset, head_kept, nodes_offset, run_breaks, run_count_is_wrong, run_count_offset, runs_kept}
use Rattle.prof_db.specs.Stored.{IsWord}
use Rattle.prof_db.specs.private.Heads.{ArePeriods, IsHead}
use Rattle.prof_bytes.proofs.Outcomes.{bind_ok, guard_ok}
use Rattle.prof_db.proofs.FirstBroken.{none_broken}

-- ---- events by their numbers

pub named_number : (n : ℕ) → n < 4 → event_number (event_of_number n) ≡ n
named_number zero lt = refl
named_number (suc zero) lt = refl
named_number (suc (suc zero)) lt = refl
named_number (suc (suc (suc zero))) lt = refl
named_number (suc (suc (suc (suc n)))) lt = absurd (omega arith)

pub number_few : (e : Event) → event_number e < 4
number_few Retired = omega arith
number_few Loads = omega arith
number_few Stores = omega arith
number_few Taken = omega arith

pub number_named : (e : Event) → event_of_number (event_number e) ≡ e
number_named Retired = refl
number_named Loads = refl
number_named Stores = refl
number_named Taken = refl

-- ---- a head that keeps the rule

-- the second of two tests after one that is met
second_false : (i : ℕ) (b : Bool) → 0 < i → (nat_lt 0 i && b) ≡ false → b ≡ false
second_false i b some e = sym (ap (λ t. t && b) (lt-ltb 0 i some)) ∙ e

abbrev no_event : RawEvent
no_event = record { event = 0; period = 0 }

module _ (version : Version) (events : List RawEvent) (kept : events_kept version events ≡ Ok tt) where
  whole : (i : ℕ) → i < length events → (event_is_wrong events i ≡ false) × (((event_at events i).period == 0) ≡ false)
  whole i lt =
      or_parts (event_is_wrong events i) ((event_at events i).period == 0)
      (none_broken 3 (event_breaks events) (broken_offset version events) 0 (length events) i kept (omega arith) (omega arith))

  right : (i : ℕ) → i < length events → (nat_le most_events (event_at events i).event ≡ false) × ((nat_lt 0 i && nat_le (event_at events i).event (event_at events (i - 1)).event) ≡ false)
  right i lt = or_parts (nat_le most_events (event_at events i).event) (nat_lt 0 i && nat_le (event_at events i).event (event_at events (i - 1)).event) (whole i lt).0

  few : (i : ℕ) → i < length events → (event_at events i).event < 4
  few i lt = leb-false most_events (event_at events i).event (right i lt).0

  pub all_few : All (λ e. e.event < 4) events
  all_few = All-from_get_or (λ (e : RawEvent). e.event < 4) events no_event few

  up : (i : ℕ) → suc i < length events → (event_at events i).event < (event_at events (suc i)).event
  up i lt =
      let k : suc i - 1 ≡ i = omega arith in
      let test : Bool = nat_le (event_at events (suc i)).event (event_at events (suc i - 1)).event in
      subst (λ (j : ℕ). (event_at events j).event < (event_at events (suc i)).event) k
      (leb-false (event_at events (suc i)).event (event_at events (suc i - 1)).event (second_false (suc i) test (omega arith) (right (suc i) lt).1))

  some_period : (i : ℕ) → i < length events → 1 ≤ (event_at events i).period
  some_period i lt = positive (event_at events i).period (eqb-false (event_at events i).period 0 (whole i lt).1)
    where
      positive : (n : ℕ) → (n ≡ 0 → ⊥) → 1 ≤ n
      positive n other = omega (arith, other)

  all_periods : All (λ e. 1 ≤ e.period) events
  all_periods = All-from_get_or (λ (e : RawEvent). 1 ≤ e.period) events no_event some_period

ascend : (es : List RawEvent) → All (λ e. e.event < 4) es → ((i : ℕ) → suc i < length es → (event_at es i).event < (event_at es (suc i)).event) → AreAscending (map event_of es)
ascend [] few up = tt
ascend (e ∷ []) few up = tt
ascend (e ∷ f ∷ es) few up =
    let first : event_number (event_of_number e.event) ≡ e.event = named_number e.event (All-head (λ (e : RawEvent). e.event < 4) e (f ∷ es) few) in
    let rest : All (λ e. e.event < 4) (f ∷ es) = All-tail (λ (e : RawEvent). e.event < 4) e (f ∷ es) few in
    let second : event_number (event_of_number f.event) ≡ f.event = named_number f.event (All-head (λ (e : RawEvent). e.event < 4) f es rest) in
    let less : e.event < f.event = up 0 (omega arith) in
    (omega (arith, first, second, less), ascend (f ∷ es) rest (λ i lt. up (suc i) (omega arith)))

-- versions 1 and 2 have one run, version 3 has 2 to 16
one_of_runs : (b : Bool) → not b ≡ false → b ≡ true
one_of_runs true is = refl
one_of_runs false is = absurd cc

run_bounds : (version : Version) (runs : List ℕ) → run_count_is_wrong version runs ≡ false → (1 ≤ length runs) × (length runs ≤ most_runs)
run_bounds One runs is = (let one = eqb-true (length runs) 1 (one_of_runs (length runs == 1) is) in (omega (arith, one), omega (arith, one)))
run_bounds Two runs is = (let one = eqb-true (length runs) 1 (one_of_runs (length runs == 1) is) in (omega (arith, one), omega (arith, one)))
run_bounds Three runs is =
    let parts = or_parts (nat_lt (length runs) 2) (nat_lt most_runs (length runs)) is in
    let least = ltb-false (length runs) 2 parts.0 in
    (omega (arith, least), ltb-false most_runs (length runs) parts.1)

module _ (layout : Layout) (kept : head_kept layout.version layout.events layout.runs (length layout.nodes) ≡ Ok tt) where
  record Parts : Type 0 where
    count : event_count_is_wrong layout.version layout.events ≡ false
    events : events_kept layout.version layout.events ≡ Ok tt
    run_count : run_count_is_wrong layout.version layout.runs ≡ false
    runs : runs_kept layout.version (length layout.events) layout.runs ≡ Ok tt
    nodes : length layout.nodes < no_parent

  parts : Parts
  unfolding head_kept
  parts =
      let a = bind_ok (cond (event_count_is_wrong layout.version layout.events) (Err (fault 3 event_count_offset)) (events_kept layout.version layout.events)) _ _ kept in
      let b = guard_ok (event_count_is_wrong layout.version layout.events) (fault 3 event_count_offset) (events_kept layout.version layout.events) a.0 a.1 in
      let c = bind_ok (cond (run_count_is_wrong layout.version layout.runs) (Err (fault 3 (run_count_offset (length layout.events)))) (runs_kept layout.version (length layout.events) layout.runs)) _ _ a.2 in
      let r = guard_ok (run_count_is_wrong layout.version layout.runs) (fault 3 (run_count_offset (length layout.events))) (runs_kept layout.version (length layout.events) layout.runs) c.0 c.1 in
      let d = guard_ok (nat_le no_parent (length layout.nodes)) (fault 3 (nodes_offset layout.version (length layout.events) (length layout.runs))) (Ok tt) tt c.2 in
      record { count = b.0; events = b.1; run_count = r.0; runs = r.1; nodes = leb-false no_parent (length layout.nodes) d.0 }

  record Counted : Type 0 where
    some : 1 ≤ length layout.events
    few : length layout.events ≤ 4
    here : are_elsewhere layout.version layout.events ≡ false

  counted : Counted
  counted =
      let a = or_parts (length layout.events == 0) (nat_lt most_events (length layout.events) || are_elsewhere layout.version layout.events) parts.count in
      let b = or_parts (nat_lt most_events (length layout.events)) (are_elsewhere layout.version layout.events) a.1 in
      record {
        some = positive (length layout.events) (eqb-false (length layout.events) 0 a.0);
        few = ltb-false most_events (length layout.events) b.0;
        here = b.1;
      }
    where
      positive : (n : ℕ) → (n ≡ 0 → ⊥) → 1 ≤ n
      positive n other = omega (arith, other)

  pub not_elsewhere : are_elsewhere layout.version layout.events ≡ false
  not_elsewhere = counted.here

  pub runs_right : run_count_is_wrong layout.version layout.runs ≡ false
  runs_right = parts.run_count

  pub numbers_few : All (λ e. e.event < 4) layout.events
  numbers_few = all_few layout.version layout.events parts.events

  run_is : (i : ℕ) → i < length layout.runs → (0 < harts_at layout.runs i) × (harts_at layout.runs i ≤ most_harts)
  run_is i lt =
      let n : ℕ = harts_at layout.runs i in
      let a = or_parts (n == 0) (nat_lt most_harts n)
      (none_broken 3 (run_breaks layout.runs) (λ i. harts_offset layout.version (length layout.events) + 4 * i) 0 (length layout.runs) i parts.runs (omega arith) (omega arith)) in
      (positive n (eqb-false n 0 a.0), ltb-false most_harts n a.1)
    where
      positive : (n : ℕ) → (n ≡ 0 → ⊥) → 0 < n
      positive n other = omega (arith, other)

  are_events : AreEvents (events_of layout)
  are_events =
      let many = length-map layout.events event_of in
      let some = counted.some in
      record {
        some = omega (arith, many, some);
        ascending = ascend layout.events numbers_few (up layout.version layout.events parts.events);
        periods = All-map (λ (e : EventPeriod). 1 ≤ e.period) event_of layout.events (all_periods layout.version layout.events parts.events);
      }

  pub head_is : IsHead layout
  head_is = record {
    events = are_events;
    few_events = counted.few;
    some_runs = (run_bounds layout.version layout.runs parts.run_count).0;
    few_runs = (run_bounds layout.version layout.runs parts.run_count).1;
    harts = All-from_get_or (λ (h : ℕ). (0 < h) × (h ≤ most_harts)) layout.runs 0 run_is;
    nodes = parts.nodes;
  }

pub given_head : (layout : Layout) (r : Result (Unit {0}) DbFault) → head_kept layout.version layout.events layout.runs (length layout.nodes) ≡ r → OnOk r (IsHead layout)
given_head layout (Ok done) kept = head_is layout kept
given_head layout (Err fault) kept = tt

-- ---- what comes of it

-- the periods of events that a run may have are some, each at least 1
pub are_periods : (events : List EventPeriod) → AreEvents events → ArePeriods (periods_of events)
are_periods events are =
    let many = length-map events (λ (e : EventPeriod). e.period) in
    let some = are.some in
    record { some = omega (arith, many, some); positive = All-map (λ (p : ℕ). 0 < p) (λ (e : EventPeriod). e.period) events are.periods }

-- and each column has one
pub some_of_column : (periods : List ℕ) → ArePeriods periods → (column : ℕ) → 0 < period_of_column periods column
some_of_column periods are column = are.positive (column % length periods) 0 (mod-lt column are.some)

-- which has four bytes where those of the events have
pub small_of_column : (events : List EventPeriod) → AreEvents events → All (λ e. IsWord e.period) events → (column : ℕ) → IsWord (period_of_column (periods_of events) column)
small_of_column events are small column =
    All-map IsWord (λ (e : EventPeriod). e.period) events small (column % length (periods_of events)) 0 (mod-lt column (are_periods events are).some)

-- 16 runs of at most 64 harts have few columns
few_harts : (runs : List ℕ) → All (λ h. h ≤ most_harts) runs → sum runs ≤ 64 * length runs
few_harts [] harts = omega arith
few_harts (h ∷ runs) harts =
    let own : h ≤ most_harts = All-head (λ (h : ℕ). h ≤ most_harts) h runs harts in
    let rest = few_harts runs (All-tail (λ (h : ℕ). h ≤ most_harts) h runs harts) in
    let parts = sum_by-cons (λ (k : ℕ). k) h runs in
    omega (arith, own, rest, parts)

pub few_columns : (events : ℕ) (runs : List ℕ) → events ≤ 4 → length runs ≤ most_runs → All (λ h. h ≤ most_harts) runs → columns_of events runs ≤ 4096
few_columns events runs few few_runs harts =
    let all = few_harts runs harts in
    let some : sum runs ≤ 1024 = omega (arith, all, few_runs) in
    mul-le (sum runs) events 1024 4 some few

-- events that ascend are at most four
few_after : (e : EventPeriod) (es : List EventPeriod) → AreAscending (e ∷ es) → event_number e.event + length es < 4
few_after e [] up = (let few = number_few e.event in omega (arith, few))
few_after e (f ∷ es) up =
    let less = up.0 in
    let rest = few_after f es up.1 in
    omega (arith, less, rest)

pub few_events : (events : List EventPeriod) → AreEvents events → length events ≤ 4
few_events events are = few events are.ascending
  where
    few : (es : List EventPeriod) → AreAscending es → length es ≤ 4
    few [] up = omega arith
    few (e ∷ es) up = (let rest = few_after e es up in omega (arith, rest))
