-- What was read has just these bytes: the whole file.
use Rattle.std.proofs.Common.{◌≡◌, ℕ, ◌*◌, ◌^◌, ◌<◌, ◌≤◌, Bool, true, false, cond, nat_lt, List, [], ◌∷◌, ◌++◌, length, drop, replicate, All, Result, Ok, Err, refl, sym, ap, ap₂, subst, ◌∙◌, append_assoc, append-nil, arith, true≢false}
use Rattle.std.specs.Prelude.{slice_index_or}
use Rattle.std.specs.List.{flat_map}
use Rattle.std.proofs.lemmas.Bool.{ltb-false}
use Rattle.std.proofs.lemmas.List.{nil_from_length}
use Rattle.std.proofs.lemmas.List.Elements.{All-head, All-replicate, All-nil}
use Rattle.prof_bytes.specs.Number.{IsBytes, words}
use Rattle.prof_bytes.specs.Reading.{At, left_of}
use Rattle.prof_bytes.specs.Repeated.{times}
use Rattle.scope_types.specs.Events.{is_retired_alone, periods_of, retired_every}
use Rattle.scope_types.specs.Limits.{most_harts}
use Rattle.scope_types.specs.declared.event.EventPeriod.{EventPeriod}
use Rattle.measure_file.specs.declared.fault.MeasureFault.{MeasureFault}
use Rattle.measure_file.specs.declared.head.EventHead.{EventHead}
use Rattle.measure_file.specs.declared.head.MeasureHead.{MeasureHead}
use Rattle.measure_file.specs.declared.head.MeasureVersion.{MeasureVersion}
use Rattle.measure_file.specs.declared.head.MeasureVersion.TheVariants.{One, Two}
use Rattle.measure_file.specs.Fields.{fault_at, starting_at}
use Rattle.measure_file.specs.Measurable.{AreDistinct, AreMeasured, IsCounted, IsEventMeasurable, IsMeasurable}
use Rattle.measure_file.specs.Reading.{begins_with, column_from, event_measurement_in, measure_head_from, measurement_in, single_head, tables_from, version_1_told, version_told}
use Rattle.measure_file.specs.Spelling.{column_bytes, event_measurement_spelling, measure_magic, measure_version, measurement_spelling, retired_head}
use Rattle.prof_bytes.proofs.Outcomes.{bind_ok, guard_ok, ok_same, pass_ok}
use Rattle.measure_file.proofs.BackHead.{head_back, head_numbers, version_took}
use Rattle.measure_file.proofs.BackPaths.{columns_back}
use Rattle.measure_file.proofs.ForthHead.{alone_is}
use Rattle.measure_file.proofs.Seams.{Tables}
use Rattle.measure_file.proofs.Sums.{no_sums}

-- no paths
measured_none : (columns : ℕ) → AreMeasured (replicate columns [])
measured_none columns =
    let sums = no_sums (replicate columns []) columns refl in
    let samples = sums.samples in
    let frames = sums.frames in
    record {
      paths = All-replicate (All IsCounted) columns [] (All-nil IsCounted);
      distinct = All-replicate AreDistinct columns [] tt;
      samples = omega (arith, samples);
      frames = omega (arith, frames);
    }

-- the paths of all columns up to the end of the file
record RestBack (columns : ℕ) (at : At) (tables : Tables) : Type 0 where
  pub measured : AreMeasured tables
  pub many : length tables ≡ columns
  pub left : left_of at ≡ flat_map column_bytes tables

rest_back : (columns : ℕ) (at : At) (tables : Tables) → IsBytes at.whole → tables_from columns at ≡ Ok tables → RestBack columns at tables
unfolding tables_from
rest_back columns at tables bytes is =
    let read = bind_ok (times column_from columns 0 (replicate columns []) at) _ _ is in
    let found : Tables = read.0.0 in
    let end : At = read.0.1 in
    let whole = guard_ok (nat_lt 0 (length (left_of end))) (starting_at end) (Ok found) tables read.2 in
    let found_is : found ≡ tables = ok_same found tables whole.1 in
    let short : length (left_of end) ≤ 0 = ltb-false 0 (length (left_of end)) whole.0 in
    let none : left_of end ≡ [] = nil_from_length (left_of end) (omega (arith, short)) in
    let columns_is = columns_back columns [] at end found bytes (measured_none columns) read.1 in
    let more : Tables = columns_is.0 in
    let more_is : more ≡ tables = sym columns_is.1.is ∙ found_is in
    record {
      measured = subst AreMeasured more_is columns_is.1.measured;
      many = subst (λ (t : Tables). length t ≡ columns) more_is columns_is.1.many;
      left = columns_is.1.took.left ∙ ap (λ (l : List ℕ). flat_map column_bytes more ++ l) none ∙ append-nil (flat_map column_bytes more) ∙ ap (λ (t : Tables). flat_map column_bytes t) more_is;
    }

-- ---- the file

record FileBack (bytes : List ℕ) (m : EventHead × Tables) : Type 0 where
  pub told : version_told bytes ≡ Ok (measure_version m.0.events)
  pub measurable : IsEventMeasurable m.0 m.1
  pub spelled : bytes ≡ event_measurement_spelling m.0 m.1

-- the magic, the head, and what follows
joined : (bytes front numbers text behind : List ℕ) → bytes ≡ front ++ behind → behind ≡ numbers ++ text → bytes ≡ (front ++ numbers) ++ text
joined bytes front numbers text behind begun left = begun ∙ ap (λ (l : List ℕ). front ++ l) left ∙ sym (append_assoc front numbers text)

event_file_back : (bytes : List ℕ) (m : EventHead × Tables) → IsBytes bytes → event_measurement_in bytes ≡ Ok m → FileBack bytes m
unfolding event_measurement_in event_measurement_spelling
event_file_back bytes m are is =
    let v = bind_ok (version_told bytes) _ _ is in
    let version : MeasureVersion = v.0 in
    let start : At = record { whole = bytes; offset = 8 } in
    let h = bind_ok (measure_head_from version start) _ _ v.2 in
    let head : EventHead = h.0.0 in
    let next : At = h.0.1 in
    let back = head_back version start next head are h.1 in
    let t = bind_ok (tables_from (head.harts * length head.events) next) _ _ h.2 in
    let tables : Tables = t.0 in
    let rest = rest_back (head.harts * length head.events) next tables (subst IsBytes (sym back.took.whole) are) t.1 in
    let text : List ℕ = flat_map column_bytes tables in
    let spelled : bytes ≡ (measure_magic version ++ words (head_numbers version head)) ++ text =
    joined bytes (measure_magic version) (words (head_numbers version head)) text (drop 8 bytes) (version_took bytes version v.1) (back.took.left ∙ ap (λ (l : List ℕ). words (head_numbers version head) ++ l) rest.left) in
    subst (FileBack bytes) (ok_same (head, tables) m t.2) (record {
      told = v.1 ∙ ap (λ (k : MeasureVersion). Ok k) (sym back.own);
      measurable = record {
        length = back.few_length;
        entry = back.few_entry;
        some = back.some;
        few = back.few;
        events = back.are;
        periods = back.periods;
        columns = rest.many;
        counts = rest.measured;
      };
      spelled = subst (λ (k : MeasureVersion). bytes ≡ (measure_magic k ++ words (head_numbers k head)) ++ text) (sym back.own) spelled;
    })

pub event_read_measurable : (bytes : List ℕ) (m : EventHead × Tables) → IsBytes bytes → event_measurement_in bytes ≡ Ok m → IsEventMeasurable m.0 m.1
event_read_measurable bytes m are is = (event_file_back bytes m are is).measurable

pub event_read_bytes : (bytes : List ℕ) (m : EventHead × Tables) → IsBytes bytes → event_measurement_in bytes ≡ Ok m → bytes ≡ event_measurement_spelling m.0 m.1
event_read_bytes bytes m are is = (event_file_back bytes m are is).spelled

-- ---- version 1 alone

only_retired : (events : List EventPeriod) → is_retired_alone events ≡ true → events ≡ retired_every (slice_index_or (periods_of events) 0 0)
only_retired [] alone = absurd (true≢false (sym alone))
only_retired (e ∷ []) alone = ap (λ (x : EventPeriod). x ∷ []) (sym (alone_is e alone))
only_retired (e ∷ f ∷ events) alone = absurd (true≢false (sym alone))

first_version : (b : Bool) → cond b One Two ≡ One → b ≡ true
first_version true is = refl
first_version false is = absurd cc

-- where the first eight bytes are those of version 1, it is the version
told_first : (bytes : List ℕ) (version : MeasureVersion) → begins_with (measure_magic One) bytes ≡ true → version_told bytes ≡ Ok version → version ≡ One
told_first bytes version begun told =
    let first : Ok One ≡ version_told bytes =
    sym (ap (λ (b : Bool). choice b bytes) begun) in
    sym (ok_same One version (first ∙ told))
  where
    choice : Bool → List ℕ → Result MeasureVersion MeasureFault
    choice b bytes = cond b (Ok One) (cond (begins_with (measure_magic Two) bytes) (Ok Two) (Err (fault_at 0)))

record SingleBack (bytes : List ℕ) (m : MeasureHead × Tables) : Type 0 where
  pub measurable : IsMeasurable m.0 m.1
  pub spelled : bytes ≡ measurement_spelling m.0 m.1

single_back : (bytes : List ℕ) (head : EventHead) (tables : Tables) → FileBack bytes (head, tables) → begins_with (measure_magic One) bytes ≡ true → SingleBack bytes (single_head head, tables)
unfolding measurement_spelling
single_back bytes head tables back begun =
    let measurable : IsEventMeasurable head tables = back.measurable in
    let alone : is_retired_alone head.events ≡ true = first_version (is_retired_alone head.events) (told_first bytes (measure_version head.events) begun back.told) in
    let period : ℕ = slice_index_or (periods_of head.events) 0 0 in
    let only : head.events ≡ retired_every period = only_retired head.events alone in
    let one : length head.events ≡ 1 = ap (λ (l : List EventPeriod). length l) only in
    let columns : length tables ≡ head.harts * 1 = measurable.columns ∙ ap (λ (n : ℕ). head.harts * n) one in
    let harts : head.harts ≡ length tables = omega (arith, columns) in
    let same : head ≡ retired_head (single_head head) (length tables) =
    ap₂ (λ (n : ℕ) (es : List EventPeriod). with_parts head n es) harts only in
    let some = measurable.some in
    let few = measurable.few in
    let some_period : All (λ (e : EventPeriod). 1 ≤ e.period) (retired_every period) = subst (All (λ (e : EventPeriod). 1 ≤ e.period)) only measurable.events.periods in
    let few_period : All (λ (e : EventPeriod). e.period < 2 ^ 32) (retired_every period) = subst (All (λ (e : EventPeriod). e.period < 2 ^ 32)) only measurable.periods in
    record {
      measurable = record {
        words = record {
          length = measurable.length;
          entry = measurable.entry;
          period = All-head (λ (e : EventPeriod). e.period < 2 ^ 32) _ [] few_period;
          some = All-head (λ (e : EventPeriod). 1 ≤ e.period) _ [] some_period;
        };
        some = omega (arith, some, harts);
        few = subst (λ (n : ℕ). n ≤ most_harts) harts few;
        counts = measurable.counts;
      };
      spelled = back.spelled ∙ ap (λ (h : EventHead). event_measurement_spelling h tables) same;
    }
  where
    with_parts : EventHead → ℕ → List EventPeriod → EventHead
    with_parts head n es = record { length = head.length; entry = head.entry; harts = n; events = es }

file_back : (bytes : List ℕ) (m : MeasureHead × Tables) → IsBytes bytes → measurement_in bytes ≡ Ok m → SingleBack bytes m
unfolding measurement_in
file_back bytes m are is =
    let a = bind_ok (version_1_told bytes) _ _ is in
    let begun = pass_ok (begins_with (measure_magic One) bytes) (fault_at 0) (Ok tt) a.0 a.1 in
    let b = bind_ok (event_measurement_in bytes) _ _ a.2 in
    let head : EventHead = b.0.0 in
    let tables : Tables = b.0.1 in
    subst (SingleBack bytes) (ok_same (single_head head, tables) m b.2) (single_back bytes head tables (event_file_back bytes (head, tables) are b.1) begun.0)

pub read_measurable : (bytes : List ℕ) (m : MeasureHead × Tables) → IsBytes bytes → measurement_in bytes ≡ Ok m → IsMeasurable m.0 m.1
read_measurable bytes m are is = (file_back bytes m are is).measurable

pub read_bytes : (bytes : List ℕ) (m : MeasureHead × Tables) → IsBytes bytes → measurement_in bytes ≡ Ok m → bytes ≡ measurement_spelling m.0 m.1
read_bytes bytes m are is = (file_back bytes m are is).spelled
