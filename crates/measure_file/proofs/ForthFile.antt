-- What was written is read as the same: the whole file.
use Rattle.std.proofs.Common.{◌≡◌, ℕ, ◌*◌, ◌^◌, ◌<◌, ◌≤◌, nat_le, true, List, [], ◌∷◌, ◌++◌, length, All, Ok, refl, sym, ap, ◌∙◌, append_assoc, append-nil, arith}
use Rattle.std.specs.List.{flat_map}
use Rattle.std.proofs.lemmas.Bool.{and_from, le-leb}
use Rattle.std.proofs.lemmas.List.Elements.{All-cons, All-nil}
use Rattle.prof_bytes.specs.Number.{words}
use Rattle.prof_bytes.specs.Reading.{At, left_of}
use Rattle.scope_types.specs.Events.{AreEvents, retired_every}
use Rattle.scope_types.specs.Limits.{most_harts}
use Rattle.scope_types.specs.declared.event.EventPeriod.{EventPeriod}
use Rattle.measure_file.specs.declared.head.EventHead.{EventHead}
use Rattle.measure_file.specs.declared.head.MeasureHead.{MeasureHead}
use Rattle.measure_file.specs.declared.head.MeasureVersion.{MeasureVersion}
use Rattle.measure_file.specs.declared.head.MeasureVersion.TheVariants.{One}
use Rattle.measure_file.specs.Measurable.{AreMeasured, IsEventMeasurable, IsMeasurable}
use Rattle.measure_file.specs.Reading.{event_measurement_in, is_harts, measurement_in, tables_from}
use Rattle.measure_file.specs.Spelling.{column_bytes, event_measurement_spelling, events_words, measure_magic, measure_version, measurement_spelling, retired_head}
use Rattle.measure_file.proofs.Forth.{columns_forth}
use Rattle.measure_file.proofs.ForthHead.{PeriodFits, head_forth, left_behind, own_begins, version_comes}
use Rattle.measure_file.proofs.Seams.{Tables}

rest_forth : (tables : Tables) (at : At) → AreMeasured tables → left_of at ≡ flat_map column_bytes tables → tables_from (length tables) at ≡ Ok tables
unfolding tables_from
rest_forth tables at are left =
    let few = are.samples in
    let short = are.frames in
    let read = columns_forth tables [] at [] are.paths are.distinct (omega (arith, few)) (omega (arith, short)) (left ∙ sym (append-nil (flat_map column_bytes tables))) in
    rw (read.1, read.2) refl

abbrev numbers_of : EventHead → List ℕ
numbers_of head = head.length ∷ head.entry ∷ events_words (measure_version head.events) head.events ++ head.harts ∷ []

pub event_written_read : (head : EventHead) (tables : Tables) → IsEventMeasurable head tables → event_measurement_in (event_measurement_spelling head tables) ≡ Ok (head, tables)
unfolding event_measurement_in event_measurement_spelling
event_written_read head tables is = ap event_measurement_in seam ∙ read
  where
    version : MeasureVersion
    version = measure_version head.events

    text : List ℕ
    text = flat_map column_bytes tables

    rest : List ℕ
    rest = words (numbers_of head) ++ text

    seam : (measure_magic version ++ words (numbers_of head)) ++ text ≡ measure_magic version ++ rest
    seam = append_assoc (measure_magic version) (words (numbers_of head)) text

    start : At
    start = record { whole = measure_magic version ++ rest; offset = 8 }

    fits : All PeriodFits head.events
    fits = λ i d lt. (is.events.periods i d lt, is.periods i d lt)

    harts : is_harts head.harts ≡ true
    harts = and_from (nat_le 1 head.harts) (nat_le head.harts most_harts) (le-leb 1 head.harts is.some) (le-leb head.harts most_harts is.few)

    few_harts : head.harts < 2 ^ 32
    few_harts = (let few = is.few in omega (arith, few))

    read : event_measurement_in (measure_magic version ++ rest) ≡ Ok (head, tables)
    read =
        let h = head_forth head is.length is.entry harts few_harts is.events fits start text (left_behind version rest) in
        let t : tables_from (head.harts * length head.events) h.0 ≡ Ok tables = ap (λ (n : ℕ). tables_from n h.0) (sym is.columns) ∙ rest_forth tables h.0 is.counts h.2 in
        rw (version_comes version rest, h.1, t) refl

-- ---- version 1 alone

retired_events : (period : ℕ) → 1 ≤ period → AreEvents (retired_every period)
retired_events period some = record { some = omega arith; ascending = tt; periods = All-cons (λ (e : EventPeriod). 1 ≤ e.period) _ [] some (All-nil (λ (e : EventPeriod). 1 ≤ e.period)) }

pub retired_measurable : (head : MeasureHead) (tables : Tables) → IsMeasurable head tables → IsEventMeasurable (retired_head head (length tables)) tables
retired_measurable head tables is = record {
  length = is.words.length;
  entry = is.words.entry;
  some = is.some;
  few = is.few;
  events = retired_events head.period is.words.some;
  periods = All-cons (λ (e : EventPeriod). e.period < 2 ^ 32) _ [] is.words.period (All-nil (λ (e : EventPeriod). e.period < 2 ^ 32));
  columns = omega arith;
  counts = is.counts;
}

pub written_read : (head : MeasureHead) (tables : Tables) → IsMeasurable head tables → measurement_in (measurement_spelling head tables) ≡ Ok (head, tables)
unfolding measurement_in measurement_spelling event_measurement_spelling
written_read head tables is =
    let all : EventHead = retired_head head (length tables) in
    let told = own_begins One (words (numbers_of all) ++ flat_map column_bytes tables) in
    let read = event_written_read all tables (retired_measurable head tables is) in
    rw (told, read) refl
