-- What was written is read as the same: the head, in the version of its events.
use Rattle.std.proofs.Common.{◌≡◌, ℕ, suc, ◌+◌, ◌^◌, ◌<◌, ◌≤◌, ◌==◌, ◌&&◌, nat_eq, nat_le, nat_lt, Bool, true, false, cond, List, [], ◌∷◌, ◌++◌, length, take, All, Result, Ok, Err, refl, sym, ap, ◌∙◌, append_assoc, append-nil, arith, true≢false}
use Rattle.std.specs.Cmp.Lexicographic.{pointwise}
use Rattle.std.specs.List.{flat_map, list_all}
use Rattle.std.proofs.lemmas.Bool.{and_from, eqb-true, le-leb, lt-ltb, ne_eqb}
use Rattle.std.proofs.lemmas.List.{length-append}
use Rattle.std.proofs.lemmas.List.Concat.{flat_map-append}
use Rattle.std.proofs.lemmas.List.Elements.{All-append, All-cons, All-head, All-nil, All-tail, All-weaker}
use Rattle.prof_bytes.specs.Number.{word, words}
use Rattle.prof_bytes.specs.Reading.{At, left_of}
use Rattle.prof_bytes.specs.Repeated.{adding, times}
use Rattle.prof_bytes.proofs.Tests.{and_false}
use Rattle.prof_bytes.proofs.Written.{Comes}
use Rattle.scope_types.specs.Events.{AreAscending, AreEvents, event_number, event_of_number, event_words, is_retired_alone}
use Rattle.scope_types.specs.declared.event.Event.{Event}
use Rattle.scope_types.specs.declared.event.Event.TheVariants.{Retired, Loads, Stores, Taken}
use Rattle.scope_types.specs.declared.event.EventPeriod.{EventPeriod}
use Rattle.measure_file.specs.declared.fault.MeasureFault.{MeasureFault}
use Rattle.measure_file.specs.declared.head.EventHead.{EventHead}
use Rattle.measure_file.specs.declared.head.MeasureVersion.{MeasureVersion}
use Rattle.measure_file.specs.declared.head.MeasureVersion.TheVariants.{One, Two}
use Rattle.measure_file.specs.Fields.{MeasureRead, fault_at}
use Rattle.scope_types.specs.Limits.{most_events}
use Rattle.measure_file.specs.Reading.{begins_with, events_from, is_event_count, is_harts, is_next_event, is_period, measure_head_from, measured_event_from, measured_events_from, retired_from, version_told}
use Rattle.measure_file.specs.Spelling.{events_words, measure_magic, measure_version}
use Rattle.measure_file.proofs.Forth.{ruled_forth, word_forth}
use Rattle.measure_file.proofs.Writing.{flat_again}

-- ---- the first eight bytes

pub own_begins : (version : MeasureVersion) (rest : List ℕ) → begins_with (measure_magic version) (measure_magic version ++ rest) ≡ true
own_begins One rest =
    let long = length-append (measure_magic One) rest in
    and_from (nat_le 8 (length (measure_magic One ++ rest))) (pointwise nat_eq (take 8 (measure_magic One ++ rest)) (measure_magic One)) (le-leb 8 (length (measure_magic One ++ rest)) (omega (arith, long))) refl
own_begins Two rest =
    let long = length-append (measure_magic Two) rest in
    and_from (nat_le 8 (length (measure_magic Two ++ rest))) (pointwise nat_eq (take 8 (measure_magic Two ++ rest)) (measure_magic Two)) (le-leb 8 (length (measure_magic Two ++ rest)) (omega (arith, long))) refl

abbrev choice : Bool → Bool → Result MeasureVersion MeasureFault
choice one two = cond one (Ok One) (cond two (Ok Two) (Err (fault_at 0)))

pub version_comes : (version : MeasureVersion) (rest : List ℕ) → version_told (measure_magic version ++ rest) ≡ Ok version
version_comes One rest = ap (λ b. choice b (begins_with (measure_magic Two) (measure_magic One ++ rest))) (own_begins One rest)
version_comes Two rest =
    ap (λ b. choice b (begins_with (measure_magic Two) (measure_magic Two ++ rest))) (and_false (nat_le 8 (length (measure_magic Two ++ rest))))
    ∙ ap (λ b. choice false b) (own_begins Two rest)

pub left_behind : (version : MeasureVersion) (rest : List ℕ) → left_of (record { whole = measure_magic version ++ rest; offset = 8 }) ≡ rest
left_behind One rest = refl
left_behind Two rest = refl

-- ---- the events

number_few : (e : Event) → event_number e < 4
number_few Retired = omega arith
number_few Loads = omega arith
number_few Stores = omega arith
number_few Taken = omega arith

number_named : (e : Event) → event_of_number (event_number e) ≡ e
number_named Retired = refl
number_named Loads = refl
number_named Stores = refl
number_named Taken = refl

few_after : (e : EventPeriod) (es : List EventPeriod) → AreAscending (e ∷ es) → event_number e.event + length es < 4
few_after e [] up = (let few = number_few e.event in omega (arith, few))
few_after e (f ∷ es) up = (let less = up.0 in let rest = few_after f es up.1 in omega (arith, less, rest))

pub few_events : (events : List EventPeriod) → AreEvents events → length events ≤ 4
few_events [] are = omega arith
few_events (e ∷ es) are = (let rest = few_after e es are.ascending in omega (arith, rest))

abbrev pub IsBelow : EventPeriod → EventPeriod → Type 0
IsBelow e d = event_number d.event < event_number e.event

abbrev pub PeriodFits : EventPeriod → Type 0
PeriodFits e = (1 ≤ e.period) × (e.period < 2 ^ 32)

-- events that may be read after others: each is above all before it
abbrev pub MayFollow : List EventPeriod → List EventPeriod → Type 0
MayFollow done [] = Unit {0}
MayFollow done (e ∷ es) = All (IsBelow e) done × MayFollow (done ++ e ∷ []) es

ascending_follow : (done es : List EventPeriod) (e : EventPeriod) → All (IsBelow e) done → AreAscending (e ∷ es) → MayFollow done (e ∷ es)
ascending_follow done [] e below up = (below, tt)
ascending_follow done (f ∷ es) e below up =
    let less = up.0 in
    let before : All (IsBelow f) done = All-weaker (IsBelow e) (IsBelow f) (λ d lt. omega (arith, lt, less)) done below in
    (below, ascending_follow (done ++ e ∷ []) es f (All-append (IsBelow f) done (e ∷ []) before (All-cons (IsBelow f) e [] less (All-nil (IsBelow f)))) up.1)

all_below : (n : ℕ) (done : List EventPeriod) → All (λ d. event_number d.event < n) done → list_all (λ e. nat_lt (event_number e.event) n) done ≡ true
all_below n [] below = refl
all_below n (d ∷ done) below =
    and_from (nat_lt (event_number d.event) n) (list_all (λ e. nat_lt (event_number e.event) n) done)
    (lt-ltb (event_number d.event) n (All-head (λ (d : EventPeriod). event_number d.event < n) d done below))
    (all_below n done (All-tail (λ (d : EventPeriod). event_number d.event < n) d done below))

next_event : (done : List EventPeriod) (e : EventPeriod) → All (IsBelow e) done → is_next_event done (event_number e.event) ≡ true
next_event done e below =
    and_from (nat_lt (event_number e.event) most_events) (list_all (λ d. nat_lt (event_number d.event) (event_number e.event)) done)
    (lt-ltb (event_number e.event) most_events (number_few e.event)) (all_below (event_number e.event) done below)

-- an event that is not refused as retired alone, one of so many
abbrev pub IsNotRefused : ℕ → EventPeriod → Type 0
IsNotRefused count e = (count == 1 && event_number e.event == 0) ≡ false

event_forth : (first count : ℕ) (done : List EventPeriod) (e : EventPeriod) (at : At) (rest : List ℕ) → IsNotRefused count e → All (IsBelow e) done → PeriodFits e
    → left_of at ≡ words (event_words e) ++ rest → Comes (measured_event_from first count done at) e rest
unfolding measured_event_from
event_forth first count done e at rest several below fits left =
    let few = number_few e.event in
    let a = word_forth at (event_number e.event) _ (omega (arith, few)) left in
    let b = ruled_forth is_period a.0 e.period rest (le-leb 1 e.period fits.0) fits.1 a.2 in
    let same : ◌≡◌ {A = EventPeriod} (record { event = event_of_number (event_number e.event); period = e.period }) e = ap (λ (k : Event). with_period k) (number_named e.event) in
    (b.0, rw (a.1, several, next_event done e below, b.1) (ap (λ (x : EventPeriod). Ok (x, b.0)) same), b.2)
  where
    with_period : Event → EventPeriod
    with_period k = record { event = k; period = e.period }

-- events after those that were read
abbrev pub step : ℕ → ℕ → ℕ → List EventPeriod → At → MeasureRead (List EventPeriod)
step first count i before at = adding (measured_event_from first count before) i before at

events_forth : (first count i : ℕ) (done es : List EventPeriod) (at : At) (rest : List ℕ) → All (IsNotRefused count) es → MayFollow done es → All PeriodFits es
    → left_of at ≡ flat_map (λ e. words (event_words e)) es ++ rest → Comes (times (step first count) (length es) i done at) (done ++ es) rest
unfolding times
events_forth first count i done [] at rest several follow fits left = (at, ap (λ (l : List EventPeriod). Ok (l, at)) (sym (append-nil done)), left)
events_forth first count i done (e ∷ es) at rest several follow fits left =
    let tail : List ℕ = flat_map (λ e. words (event_words e)) es ++ rest in
    let a = event_forth first count done e at tail (All-head (IsNotRefused count) e es several) follow.0 (All-head PeriodFits e es fits) left in
    let b = events_forth first count (i + 1) (done ++ e ∷ []) es a.0 rest (All-tail (IsNotRefused count) e es several) follow.1 (All-tail PeriodFits e es fits) a.2 in
    (b.0, rw (a.1) (b.1 ∙ ap (λ (l : List EventPeriod). Ok (l, b.0)) (append_assoc done (e ∷ []) es)), b.2)

-- ---- the events of either version

pub alone_is : (e : EventPeriod) → (event_number e.event == 0) ≡ true → record { event = Retired; period = e.period } ≡ e
alone_is e is = ap with_number (sym (eqb-true (event_number e.event) 0 is)) ∙ ap with_event (number_named e.event)
  where
    with_event : Event → EventPeriod
    with_event k = record { event = k; period = e.period }

    with_number : ℕ → EventPeriod
    with_number n = record { event = event_of_number n; period = e.period }

retired_forth : (events : List EventPeriod) (at : At) (rest : List ℕ) → is_retired_alone events ≡ true → All PeriodFits events → left_of at ≡ words (events_words One events) ++ rest → Comes (retired_from at) events rest
unfolding retired_from
retired_forth [] at rest alone fits left = absurd (true≢false (sym alone))
retired_forth (e ∷ []) at rest alone fits left =
    let own = All-head PeriodFits e [] fits in
    let a = ruled_forth is_period at e.period rest (le-leb 1 e.period own.0) own.1 left in
    (a.0, rw (a.1) (ap (λ (x : EventPeriod). Ok (x ∷ [], a.0)) (alone_is e alone)), a.2)
retired_forth (e ∷ f ∷ events) at rest alone fits left = absurd (true≢false (sym alone))

-- where retired is not the only event, none of the events is refused as that
none_refused : (count : ℕ) (es : List EventPeriod) → (count == 1) ≡ false → All (IsNotRefused count) es
none_refused count [] many = All-nil (IsNotRefused count)
none_refused count (e ∷ es) many = All-cons (IsNotRefused count) e es (ap (λ (b : Bool). b && event_number e.event == 0) many) (none_refused count es many)

not_alone : (events : List EventPeriod) → is_retired_alone events ≡ false → All (IsNotRefused (length events)) events
not_alone [] other = All-nil (IsNotRefused 0)
not_alone (e ∷ []) other = All-cons (IsNotRefused 1) e [] other (All-nil (IsNotRefused 1))
not_alone (e ∷ f ∷ es) other = none_refused (suc (suc (length es))) (e ∷ f ∷ es) (ne_eqb (suc (suc (length es))) 1 (λ same. omega (arith, same)))

several_forth : (events : List EventPeriod) (at : At) (rest : List ℕ) → is_retired_alone events ≡ false → AreEvents events → All PeriodFits events → left_of at ≡ words (events_words Two events) ++ rest → Comes (measured_events_from at) events rest
unfolding measured_events_from
several_forth [] at rest other are fits left = absurd (let some = are.some in omega (arith, some))
several_forth (e ∷ es) at rest other are fits left =
    let events : List EventPeriod = e ∷ es in
    let few = few_events events are in
    let some = are.some in
    let text : List ℕ = words (flat_map event_words events) ++ rest in
    let a = ruled_forth is_event_count at (length events) text (and_from (nat_le 1 (length events)) (nat_le (length events) most_events) (le-leb 1 (length events) some) (le-leb (length events) 4 few)) (omega (arith, few)) left in
    let b = events_forth at.offset (length events) 0 [] events a.0 rest (not_alone events other) (ascending_follow [] es e (All-nil (IsBelow e)) are.ascending) fits
    (a.2 ∙ ap (λ (l : List ℕ). l ++ rest) (flat_again word event_words events)) in
    (b.0, rw (a.1) b.1, b.2)

-- ---- the head

module _ (head : EventHead) (few_length : head.length < 2 ^ 32) (few_entry : head.entry < 2 ^ 32) (harts : is_harts head.harts ≡ true) (few_harts : head.harts < 2 ^ 32) (are : AreEvents head.events) (fits : All PeriodFits head.events) where
  by_version : (alone : Bool) → is_retired_alone head.events ≡ alone → (at : At) (rest : List ℕ) → left_of at ≡ words (events_words (cond alone One Two) head.events) ++ rest → Comes (events_from (cond alone One Two) at) head.events rest
  by_version true is at rest left = retired_forth head.events at rest is fits left
  by_version false is at rest left = several_forth head.events at rest is are fits left

  pub head_forth : (at : At) (rest : List ℕ) → left_of at ≡ words (head.length ∷ head.entry ∷ events_words (measure_version head.events) head.events ++ head.harts ∷ []) ++ rest
      → Comes (measure_head_from (measure_version head.events) at) head rest
  unfolding measure_head_from
  head_forth at rest left =
      let own : List ℕ = events_words (measure_version head.events) head.events in
      let a = word_forth at head.length (words (head.entry ∷ own ++ head.harts ∷ []) ++ rest) few_length left in
      let b = word_forth a.0 head.entry (words (own ++ head.harts ∷ []) ++ rest) few_entry a.2 in
      let seam : words (own ++ head.harts ∷ []) ++ rest ≡ words own ++ (word head.harts ++ rest) =
      ap (λ (l : List ℕ). l ++ rest) (flat_map-append word own (head.harts ∷ [])) ∙ append_assoc (words own) (word head.harts) rest in
      let c = by_version (is_retired_alone head.events) refl b.0 (word head.harts ++ rest) (b.2 ∙ seam) in
      let d = ruled_forth is_harts c.0 head.harts rest harts few_harts c.2 in
      (d.0, rw (a.1, b.1, c.1, d.1) refl, d.2)
