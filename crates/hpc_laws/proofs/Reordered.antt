-- The measurements of a merge in another order: the same text.
use Rattle.std.proofs.Common.{◌≡◌, ℕ, zero, suc, ◌+◌, ◌*◌, ◌%◌, ◌<◌, ◌≤◌, ◌==◌, ◌&&◌, Bool, true, false, cond, if◌then◌else◌, List, [], ◌∷◌, ◌++◌, length, map, filter, count_by, sum, sum_by, All, Result, Ok, Err, refl, sym, ap, ap₂, subst, ◌∙◌, le-ltb, arith}
use Rattle.std.specs.List.{enumerate_from, flat_map}
use Rattle.std.proofs.Math.Nat.{mul-add-mod_self_right}
use Rattle.std.proofs.lemmas.Bool.Decides.{nat_tests}
use Rattle.std.proofs.lemmas.List.{map-append}
use Rattle.std.proofs.lemmas.List.Elements.{All-cons, All-head, All-map, All-tail, All-weaker}
use Rattle.std.proofs.lemmas.List.Sums.{sum_by-append}
use Rattle.prof_bytes.specs.Number.{IsBytes}
use Rattle.prof_bytes.specs.Outcome.{◌>>=◌}
use Rattle.prof_bytes.proofs.Outcomes.{bind_ok, ok_same}
use Rattle.elf_image.specs.Image.{ProgramImage}
use Rattle.measure_file.specs.declared.fault.MeasureFault.{MeasureFault}
use Rattle.measure_file.specs.Measurable.{AreMeasured}
use Rattle.measure_file.specs.Reading.{event_measurement_in}
use Rattle.run_report.specs.Report.{event_line, line_of_event, samples_by_event}
use Rattle.scope_find.specs.Found.{ProgramScopes, found_at, naming_of}
use Rattle.scope_types.specs.Alike.{Alike}
use Rattle.scope_types.specs.CallPaths.{ColumnPath}
use Rattle.scope_types.specs.Columns.{columns_of, hart_of_column, paths_of_event, place_of_column}
use Rattle.scope_types.specs.declared.event.Event.{Event}
use Rattle.scope_types.specs.declared.event.Event.TheVariants.{Retired, Loads, Stores, Taken}
use Rattle.scope_types.specs.declared.event.EventPeriod.{EventPeriod}
use Rattle.scope_types.specs.declared.frame.Counted.{Counted}
use Rattle.scope_types.specs.declared.scope.Scope.{Scope}
use Rattle.scope_types.specs.Distinct.{ColumnRaw, distinct, each_sample, frames_in, path_scopes, samples_in, scopes_in}
use Rattle.scope_types.specs.Events.{event_number, is_retired_alone}
use Rattle.scope_types.specs.Expansion.{call_path}
use Rattle.scope_types.specs.Limits.{most_frames_in_all, most_samples, most_scopes_in_all}
use Rattle.scope_types.specs.Raw.{Raw}
use Rattle.thread_cct.specs.Adding.{behind_columns}
use Rattle.command_line.specs.declared.status.InputFault.{InputFault}
use Rattle.command_line.specs.declared.status.InputFault.TheVariants.{Merging, TooManyFrames}
use Rattle.command_line.specs.declared.status.MergeFault.TheVariants as merge_faults
use Rattle.run_profile.specs.Attribution.{Attributed, attributed, attribution_of, event_tables, table_of_event}
use Rattle.command_line.specs.Faulted.{faulted}
use Rattle.hpc_laws.specs.Order.{OrderRenumbers, PutsSame, exchanged}
use Rattle.command_line.specs.declared.product.Product.{Product}
use Rattle.program_run.specs.Program.{program}
use Rattle.run_profile.specs.Attribution.{sample_path}
use Rattle.program_run.specs.Samples.{within_frames}
use Rattle.program_run.specs.Scopes.{program_scopes}
use Rattle.hpc_top.specs.commands.Merge.{KeptRun, all_tables, another_program, first_events, harts_of_runs, measurement_at, measurements_from, merge_product, merged_runs, mixed_periods, of_one_program, of_same_events, runs_pass, same_event, same_events, within_limits}
use Rattle.hpc_top.specs.commands.Prof.{attributed_code, is_of_program}
use Rattle.command_line.proofs.Faults.{from_faulted}
use Rattle.hpc_laws.proofs.FlatTables.{DealtLaw, count_both, count_filtered, count_mapped, flat, table_flat}
use Rattle.hpc_top.proofs.KeptRuns.{HasEvents, IsKept, all_measured, all_pass, counts_within, frames_both, runs_columns_are, same_many, samples_both}
use Rattle.run_profile.proofs.Products.{TablesAlike, attributed_as, by_scopes}
use Rattle.hpc_laws.proofs.StoredRuns.{kept_all, limits_are, same_events_self}
use Rattle.hpc_laws.proofs.StoredSamples.{MeasuredLaws, few_scopes}
use Rattle.run_profile.proofs.Tables.{BelowLaw}

-- ---- exchanges of neighbours

all_exchanged : {X : Type 0} (P : X → Type 0) (place : ℕ) (xs : List X) → All P xs → All P (exchanged place xs)
all_exchanged P place [] all = all
all_exchanged P place (x ∷ []) all = all
all_exchanged P zero (x ∷ y ∷ xs) all =
    let rest = All-tail P x (y ∷ xs) all in
    All-cons P y (x ∷ xs) (All-head P y xs rest) (All-cons P x xs (All-head P x (y ∷ xs) all) (All-tail P y xs rest))
all_exchanged P (suc place) (x ∷ y ∷ xs) all = All-cons P x (exchanged place (y ∷ xs)) (All-head P x (y ∷ xs) all) (all_exchanged P place (y ∷ xs) (All-tail P x (y ∷ xs) all))

-- what adds up over the parts doesn't change
module _ {X Y : Type 0} (g : X → List Y) (f : List Y → ℕ) (both : (xs ys : List Y) → f (xs ++ ys) ≡ f xs + f ys) where
  exchanged_same : (place : ℕ) (xs : List X) → f (flat_map g (exchanged place xs)) ≡ f (flat_map g xs)
  exchanged_same place [] = refl
  exchanged_same place (x ∷ []) = refl
  exchanged_same zero (x ∷ y ∷ xs) =
      let a = both (g y) (g x ++ flat_map g xs) in
      let b = both (g x) (flat_map g xs) in
      let c = both (g x) (g y ++ flat_map g xs) in
      let d = both (g y) (flat_map g xs) in
      omega (arith, a, b, c, d)
  exchanged_same (suc place) (x ∷ y ∷ xs) =
      both (g x) (flat_map g (exchanged place (y ∷ xs))) ∙ ap (λ (n : ℕ). f (g x) + n) (exchanged_same place (y ∷ xs)) ∙ sym (both (g x) (flat_map g (y ∷ xs)))

-- ---- the measurements

-- a file that is read is read at every place
elsewhere : (p q : ℕ) (t : List ℕ) (run : KeptRun) → measurement_at p t ≡ Ok run → measurement_at q t ≡ Ok run
elsewhere p q t run is =
    ap (λ (r : Result KeptRun MeasureFault). faulted (λ fault. Merging q (merge_faults.Measurement fault.offset)) r) (from_faulted (λ (fault : MeasureFault). Merging p (merge_faults.Measurement fault.offset)) (event_measurement_in t) run is)

pub record FirstRead (place : ℕ) (t : List ℕ) (ts : List (List ℕ)) (runs : List KeptRun) : Type 0 where
  pub run : KeptRun
  pub rest : List KeptRun
  pub whole : run ∷ rest ≡ runs
  pub own : measurement_at place t ≡ Ok run
  pub others : measurements_from (place + 1) ts ≡ Ok rest

first_read : (place : ℕ) (t : List ℕ) (ts : List (List ℕ)) (runs : List KeptRun) → measurements_from place (t ∷ ts) ≡ Ok runs → FirstRead place t ts runs
first_read place t ts runs is =
    let first = bind_ok (measurement_at place t) (λ run. measurements_from (place + 1) ts >>= λ runs. Ok (run ∷ runs)) runs is in
    let later = bind_ok (measurements_from (place + 1) ts) (λ runs. Ok (first.0 ∷ runs)) runs first.2 in
    record { run = first.0; rest = later.0; whole = ok_same (first.0 ∷ later.0) runs later.2; own = first.1; others = later.1 }

read_with : (place : ℕ) (t : List ℕ) (ts : List (List ℕ)) (run : KeptRun) (rest : List KeptRun) → measurement_at place t ≡ Ok run → measurements_from (place + 1) ts ≡ Ok rest → measurements_from place (t ∷ ts) ≡ Ok (run ∷ rest)
read_with place t ts run rest own others =
    ap (λ (r : Result KeptRun InputFault). r >>= λ run. measurements_from (place + 1) ts >>= λ runs. Ok (run ∷ runs)) own
    ∙ ap (λ (r : Result (List KeptRun) InputFault). r >>= λ runs. Ok (run ∷ runs)) others

read_exchanged : (place first : ℕ) (ts : List (List ℕ)) (runs : List KeptRun) → measurements_from first ts ≡ Ok runs → measurements_from first (exchanged place ts) ≡ Ok (exchanged place runs)
read_exchanged place first [] runs is = subst (λ (rs : List KeptRun). measurements_from first [] ≡ Ok (exchanged place rs)) (ok_same [] runs is) refl
read_exchanged place first (t ∷ []) runs is =
    let f = first_read first t [] runs is in
    let none : [] ≡ f.rest = ok_same [] f.rest f.others in
    subst (λ (rs : List KeptRun). measurements_from first (t ∷ []) ≡ Ok (exchanged place rs)) (ap (λ (rs : List KeptRun). f.run ∷ rs) none ∙ f.whole) (read_with first t [] f.run [] f.own refl)
read_exchanged zero first (t ∷ u ∷ ts) runs is =
    let f = first_read first t (u ∷ ts) runs is in
    let g = first_read (first + 1) u ts f.rest f.others in
    subst (λ (rs : List KeptRun). measurements_from first (u ∷ t ∷ ts) ≡ Ok (exchanged 0 rs)) (ap (λ (rs : List KeptRun). f.run ∷ rs) g.whole ∙ f.whole)
    (read_with first u (t ∷ ts) g.run (f.run ∷ g.rest) (elsewhere (first + 1) first u g.run g.own) (read_with (first + 1) t ts f.run g.rest (elsewhere first (first + 1) t f.run f.own) g.others))
read_exchanged (suc place) first (t ∷ u ∷ ts) runs is =
    let f = first_read first t (u ∷ ts) runs is in
    let g = first_read (first + 1) u ts f.rest f.others in
    subst (λ (rs : List KeptRun). measurements_from first (t ∷ exchanged place (u ∷ ts)) ≡ Ok (exchanged (suc place) rs)) (ap (λ (rs : List KeptRun). f.run ∷ rs) g.whole ∙ f.whole)
    (read_with first t (exchanged place (u ∷ ts)) f.run (exchanged place (g.run ∷ g.rest)) f.own
    (subst (λ (rs : List KeptRun). measurements_from (first + 1) (exchanged place (u ∷ ts)) ≡ Ok (exchanged place rs)) (sym g.whole) (read_exchanged place (first + 1) (u ∷ ts) f.rest f.others)))

-- ---- the tests

passes_all : (test : KeptRun → Bool) (fault : ℕ → KeptRun → InputFault) (place : ℕ) (runs : List KeptRun) → All (λ run. test run ≡ true) runs → runs_pass test fault place runs ≡ Ok tt
passes_all test fault place [] all = refl
passes_all test fault place (run ∷ runs) all =
    ap (λ (b : Bool). if b then runs_pass test fault (place + 1) runs else Err (fault place run)) (All-head (λ (run : KeptRun). test run ≡ true) run runs all)
    ∙ passes_all test fault (place + 1) runs (All-tail (λ (run : KeptRun). test run ≡ true) run runs all)

same_number_event : (a b : Event) → (event_number a == event_number b) ≡ true → a ≡ b
same_number_event Retired Retired is = refl
same_number_event Loads Loads is = refl
same_number_event Stores Stores is = refl
same_number_event Taken Taken is = refl
same_number_event Retired Loads is = absurd cc
same_number_event Retired Stores is = absurd cc
same_number_event Retired Taken is = absurd cc
same_number_event Loads Retired is = absurd cc
same_number_event Loads Stores is = absurd cc
same_number_event Loads Taken is = absurd cc
same_number_event Stores Retired is = absurd cc
same_number_event Stores Loads is = absurd cc
same_number_event Stores Taken is = absurd cc
same_number_event Taken Retired is = absurd cc
same_number_event Taken Loads is = absurd cc
same_number_event Taken Stores is = absurd cc

both_true : (a b : Bool) → (a && b) ≡ true → (a ≡ true) × (b ≡ true)
both_true true b is = (refl, is)
both_true false b is = absurd cc

equal_numbers : (a b : ℕ) → (a == b) ≡ true → a ≡ b
equal_numbers a b is = grind (arith, nat_tests)

equal_event : (a b : EventPeriod) → same_event a b ≡ true → a ≡ b
equal_event a b is =
    let t = both_true (event_number a.event == event_number b.event) (a.period == b.period) is in
    let event : a.event ≡ b.event = same_number_event a.event b.event t.0 in
    let period : a.period ≡ b.period = equal_numbers a.period b.period t.1 in
    λ i. record { event = event i; period = period i }

equal_events : (es fs : List EventPeriod) → same_events es fs ≡ true → es ≡ fs
equal_events [] [] is = refl
equal_events [] (f ∷ fs) is = absurd cc
equal_events (e ∷ es) [] is = absurd cc
equal_events (e ∷ es) (f ∷ fs) is =
    let t = both_true (same_event e f) (same_events es fs) is in
    let first : e ≡ f = equal_event e f t.0 in
    let rest : es ≡ fs = equal_events es fs t.1 in
    λ i. first i ∷ rest i

-- the runs have these events
abbrev Has : List EventPeriod → KeptRun → Type 0
Has events run = run.0.events ≡ events

have_first : (runs : List KeptRun) → of_same_events runs ≡ Ok tt → All (Has (first_events runs)) runs
have_first runs is =
    All-weaker (λ (run : KeptRun). same_events (first_events runs) run.0.events ≡ true) (Has (first_events runs)) (λ run e. sym (equal_events (first_events runs) run.0.events e)) runs
    (all_pass (λ run. same_events (first_events runs) run.0.events) mixed_periods 0 runs is)

first_exchanged : (events : List EventPeriod) (place : ℕ) (runs : List KeptRun) → All (Has events) runs → first_events (exchanged place runs) ≡ first_events runs
first_exchanged events place [] has = refl
first_exchanged events place (x ∷ []) has = refl
first_exchanged events zero (x ∷ y ∷ runs) has = All-head (Has events) y runs (All-tail (Has events) x (y ∷ runs) has) ∙ sym (All-head (Has events) x (y ∷ runs) has)
first_exchanged events (suc place) (x ∷ y ∷ runs) has = refl

same_have : (events : List EventPeriod) (runs : List KeptRun) → first_events runs ≡ events → All (Has events) runs → of_same_events runs ≡ Ok tt
same_have events runs first has =
    passes_all (λ run. same_events (first_events runs) run.0.events) mixed_periods 0 runs
    (All-weaker (Has events) (λ (run : KeptRun). same_events (first_events runs) run.0.events ≡ true)
    (λ run e. ap₂ (λ (es fs : List EventPeriod). same_events es fs) first e ∙ same_events_self events) runs has)

limits_back : (runs : List KeptRun) → samples_in (all_tables runs) ≤ most_samples → frames_in (all_tables runs) ≤ most_frames_in_all → within_limits runs ≡ Ok (all_tables runs)
limits_back runs samples frames =
    ap (λ (r : Result (List (List Counted)) InputFault). r >>= λ tables. within_frames tables) (counts_within (all_tables runs) samples)
    ∙ ap (λ (b : Bool). cond b (Err TooManyFrames) (Ok (all_tables runs))) (le-ltb most_frames_in_all (frames_in (all_tables runs)) frames)

-- ---- the samples, by the places of their events and by their call paths

abbrev kinds : ℕ → (Raw → List Scope) → List ColumnRaw → List (ℕ × List Scope)
kinds events expand samples = map (λ s. (place_of_column events s.column, expand s.raw)) samples

-- what the law of columns that follow others says
abbrev pub FollowingLaw : Type 0
FollowingLaw = (own other : List (List Counted)) → each_sample (own ++ other) ≡ each_sample own ++ map (behind_columns (length own)) (each_sample other)

same_place : (before harts events column : ℕ) → before ≡ harts * events → place_of_column events (before + column) ≡ place_of_column events column
same_place before harts events column is = ap (λ (n : ℕ). (n + column) % events) is ∙ mul-add-mod_self_right harts events column

behind_same : (before harts events : ℕ) (expand : Raw → List Scope) (samples : List ColumnRaw) → before ≡ harts * events → kinds events expand (map (behind_columns before) samples) ≡ kinds events expand samples
behind_same before harts events expand [] is = refl
behind_same before harts events expand (s ∷ samples) is =
    ap₂ (λ (n : ℕ) (rest : List (ℕ × List Scope)). (n, expand s.raw) ∷ rest) (same_place before harts events s.column is) (behind_same before harts events expand samples is)

kinds_of_runs : FollowingLaw → (events : ℕ) (expand : Raw → List Scope) (runs : List KeptRun) → All IsKept runs → All (HasEvents events) runs
    → kinds events expand (each_sample (all_tables runs)) ≡ flat_map (λ run. kinds events expand (each_sample run.1)) runs
kinds_of_runs following events expand [] kept has = refl
kinds_of_runs following events expand (run ∷ runs) kept has =
    let same : length run.0.events ≡ events = All-head (HasEvents events) run runs has in
    let long : length run.1 ≡ run.0.harts * events = (All-head IsKept run runs kept).columns ∙ ap (λ (n : ℕ). run.0.harts * n) same in
    let kind : ColumnRaw → ℕ × List Scope = λ s. (place_of_column events s.column, expand s.raw) in
    ap (map kind) (following run.1 (all_tables runs))
    ∙ map-append kind (each_sample run.1) (map (behind_columns (length run.1)) (each_sample (all_tables runs)))
    ∙ ap (λ (l : List (ℕ × List Scope)). kinds events expand (each_sample run.1) ++ l)
    (behind_same (length run.1) run.0.harts events expand (each_sample (all_tables runs)) long ∙ kinds_of_runs following events expand runs (All-tail IsKept run runs kept) (All-tail (HasEvents events) run runs has))

-- ---- lines and tables of samples with the same kinds

module _ (dealt : DealtLaw) (tables : TablesAlike) (below_law : BelowLaw) (scopes : ProgramScopes) (events : List EventPeriod) (runs others : List ℕ) (xs ys : List ColumnRaw) (same : Alike (kinds (length events) (call_path (found_at scopes)) xs) (kinds (length events) (call_path (found_at scopes)) ys))
    (own : All (λ s. s.column < columns_of (length events) runs) xs) (own_others : All (λ s. s.column < columns_of (length events) others) ys) where
  abbrev expand : Raw → List Scope
  expand = call_path (found_at scopes)

  abbrev kind : ColumnRaw → ℕ × List Scope
  kind s = (place_of_column (length events) s.column, expand s.raw)

  abbrev event_paths : ℕ → List ColumnRaw → List ColumnPath
  event_paths place samples = paths_of_event (length events) place (map (sample_path expand) samples)

  lines_same : (place : ℕ) → samples_by_event (length events) xs place ≡ samples_by_event (length events) ys place
  lines_same place =
      let test : ℕ × List Scope → Bool = λ k. k.0 == place in
      sym (count_mapped test kind xs) ∙ same.same test ∙ count_mapped test kind ys

  -- how many of an event's paths pass a test
  count_kinds : (t : ColumnPath → Bool) (place : ℕ) (samples : List ColumnRaw) → count_by t (flat (event_paths place samples)) ≡ count_by (λ k. (k.0 == place) && t (record { column = 0; path = k.1 })) (kinds (length events) expand samples)
  count_kinds t place samples =
      let flattened : ColumnPath → ColumnPath = λ p. record { column = 0; path = p.path } in
      let of_hart : ColumnPath → ColumnPath = λ p. record { column = hart_of_column (length events) p.column; path = p.path } in
      let of_event : ColumnPath → Bool = λ p. place_of_column (length events) p.column == place in
      let all : List ColumnPath = map (sample_path expand) samples in
      count_mapped t flattened (event_paths place samples)
      ∙ count_mapped (λ p. t (flattened p)) of_hart (filter of_event all)
      ∙ count_filtered of_event (λ p. t (flattened p)) all
      ∙ count_mapped (λ p. of_event p && t (flattened p)) (sample_path expand) samples
      ∙ sym (count_mapped (λ k. (k.0 == place) && t (record { column = 0; path = k.1 })) kind samples)

  paths_same : (place : ℕ) → Alike (flat (event_paths place xs)) (flat (event_paths place ys))
  paths_same place = record { same = λ t. count_kinds t place xs ∙ same.same (λ k. (k.0 == place) && t (record { column = 0; path = k.1 })) ∙ sym (count_kinds t place ys) }

  within : (runs : List ℕ) (samples : List ColumnRaw) → All (λ s. s.column < columns_of (length events) runs) samples → (place : ℕ) → All (λ p. p.column < sum runs) (event_paths place samples)
  within runs samples own place = below_law (length events) place runs (map (sample_path expand) samples) (All-map (λ (p : ColumnPath). p.column < columns_of (length events) runs) (sample_path expand) samples own)

  abbrev of_xs : Attributed
  of_xs = record { scopes = scopes; events = events; runs = runs; samples = xs }

  abbrev of_ys : Attributed
  of_ys = record { scopes = scopes; events = events; runs = others; samples = ys }

  pub tables_renumbered : event_tables of_xs (map (sample_path expand) xs) ≡ event_tables of_ys (map (sample_path expand) ys)
  tables_renumbered =
      let line : (numbered : ℕ × EventPeriod) → line_of_event events xs numbered ≡ line_of_event events ys numbered =
      λ numbered. ap (λ (n : ℕ). if is_retired_alone events then [] else event_line numbered.1 n) (lines_same numbered.0) in
      let table : (numbered : ℕ × EventPeriod) → table_of_event of_xs (map (sample_path expand) xs) numbered ≡ table_of_event of_ys (map (sample_path expand) ys) numbered =
      λ numbered.
      table_flat dealt numbered.1.period (sum runs) (naming_of scopes) (event_paths numbered.0 xs) (within runs xs own numbered.0)
      ∙ tables numbered.1.period 1 (naming_of scopes) (flat (event_paths numbered.0 xs)) (flat (event_paths numbered.0 ys)) (paths_same numbered.0)
      ∙ sym (table_flat dealt numbered.1.period (sum others) (naming_of scopes) (event_paths numbered.0 ys) (within others ys own_others numbered.0)) in
      λ i. flat_map (λ numbered. line numbered i ++ table numbered i) (enumerate_from 0 events)

-- ---- one exchange

-- what the laws of paths and samples say
pub record OrderLaws : Type 0 where
  pub measured : MeasuredLaws
  pub following : FollowingLaw
  pub dealt : DealtLaw
  pub tables : TablesAlike
  pub below : BelowLaw

scopes_both : (expand : Raw → List Scope) (xs ys : List (List Counted)) → scopes_in expand (xs ++ ys) ≡ scopes_in expand xs + scopes_in expand ys
scopes_both expand xs ys = sum_by-append (sum_by (path_scopes expand)) xs ys

one_exchange : OrderLaws → (elf : List ℕ) (texts : List (List ℕ)) (place : ℕ) (whole : Product) → All IsBytes texts → merge_product elf texts ≡ Ok whole → PutsSame elf (exchanged place texts) whole
unfolding merge_product
one_exchange laws elf texts place whole bytes is =
    let runs = bind_ok (measurements_from 0 texts) (λ runs. program elf >>= λ image. merged_runs image runs) whole is in
    let rs : List KeptRun = runs.0 in
    let image = bind_ok (program elf) (λ image. merged_runs image runs.0) whole runs.2 in
    let own = bind_ok (of_one_program image.0 runs.0) (λ done. of_same_events runs.0 >>= λ done. within_limits runs.0 >>= λ tables. attributed_code image.0 (first_events runs.0) (harts_of_runs runs.0) tables) whole image.2 in
    let alike = bind_ok (of_same_events runs.0) (λ done. within_limits runs.0 >>= λ tables. attributed_code image.0 (first_events runs.0) (harts_of_runs runs.0) tables) whole own.2 in
    let tables = bind_ok (within_limits runs.0) (λ tables. attributed_code image.0 (first_events runs.0) (harts_of_runs runs.0) tables) whole alike.2 in
    let scopes = bind_ok (program_scopes image.0) (λ scopes. attributed scopes (first_events runs.0) (harts_of_runs runs.0) (each_sample tables.0) >>= λ a. Ok (attribution_of a)) whole tables.2 in
    let a = bind_ok (attributed scopes.0 (first_events runs.0) (harts_of_runs runs.0) (each_sample tables.0)) (λ a. Ok (attribution_of a)) whole scopes.2 in
    let limits = limits_are runs.0 tables.0 tables.1 in
    let kept : All IsKept rs = (kept_all laws.measured 0 texts runs.0 bytes runs.1).0 in
    let es : List EventPeriod = first_events rs in
    let expand : Raw → List Scope = call_path (found_at scopes.0) in
    let own_is : of_one_program image.0 rs ≡ Ok tt = own.1 in
    let same_is : of_same_events rs ≡ Ok tt = alike.1 in
    let taken : attributed scopes.0 es (harts_of_runs rs) (each_sample (all_tables rs)) ≡ Ok a.0 =
    subst (λ (ts : List (List Counted)). attributed scopes.0 (first_events runs.0) (harts_of_runs runs.0) (each_sample ts) ≡ Ok a.0) (sym limits.0) a.1 in
    let sound : AreMeasured (all_tables rs) = all_measured rs kept limits.1 limits.2 in
    let columns : length (all_tables rs) ≡ columns_of (length es) (harts_of_runs rs) = runs_columns_are rs kept same_is in
    let counts : all_tables rs ≡ distinct (columns_of (length es) (harts_of_runs rs)) (each_sample (all_tables rs)) =
    sym (laws.measured.again (all_tables rs) sound) ∙ ap (λ (n : ℕ). distinct n (each_sample (all_tables rs))) columns in
    let few : scopes_in expand (all_tables rs) ≤ most_scopes_in_all = subst (λ (ts : List (List Counted)). scopes_in expand ts ≤ most_scopes_in_all) (sym counts) (few_scopes scopes.0 es (harts_of_runs rs) (each_sample (all_tables rs)) a.0 taken) in
    -- the exchanged runs
    let qs : List KeptRun = exchanged place rs in
    let has : All (Has es) rs = have_first rs same_is in
    let first : first_events qs ≡ es = first_exchanged es place rs has in
    let qs_kept : All IsKept qs = all_exchanged IsKept place rs kept in
    let qs_has : All (Has es) qs = all_exchanged (Has es) place rs has in
    let qs_read : measurements_from 0 (exchanged place texts) ≡ Ok qs = read_exchanged place 0 texts rs runs.1 in
    let qs_own : of_one_program image.0 qs ≡ Ok tt =
    passes_all (λ run. is_of_program image.0 run.0) (another_program image.0) 0 qs
    (all_exchanged (λ (run : KeptRun). is_of_program image.0 run.0 ≡ true) place rs (all_pass (λ run. is_of_program image.0 run.0) (another_program image.0) 0 rs own_is)) in
    let qs_same : of_same_events qs ≡ Ok tt = same_have es qs first qs_has in
    let samples : samples_in (all_tables qs) ≤ most_samples = (let e = exchanged_same (λ (run : KeptRun). run.1) samples_in samples_both place rs in let l = limits.1 in omega (arith, e, l)) in
    let frames : frames_in (all_tables qs) ≤ most_frames_in_all = (let e = exchanged_same (λ (run : KeptRun). run.1) frames_in frames_both place rs in let l = limits.2 in omega (arith, e, l)) in
    let scopes_few : scopes_in expand (all_tables qs) ≤ most_scopes_in_all = (let e = exchanged_same (λ (run : KeptRun). run.1) (scopes_in expand) (scopes_both expand) place rs in omega (arith, e, few)) in
    let qs_sound : AreMeasured (all_tables qs) = all_measured qs qs_kept samples frames in
    let qs_columns : length (all_tables qs) ≡ columns_of (length es) (harts_of_runs qs) = runs_columns_are qs qs_kept qs_same ∙ ap (λ (l : List EventPeriod). columns_of (length l) (harts_of_runs qs)) first in
    let qs_counts : all_tables qs ≡ distinct (columns_of (length es) (harts_of_runs qs)) (each_sample (all_tables qs)) =
    sym (laws.measured.again (all_tables qs) qs_sound) ∙ ap (λ (n : ℕ). distinct n (each_sample (all_tables qs))) qs_columns in
    let b : Attributed = record { scopes = scopes.0; events = es; runs = harts_of_runs qs; samples = each_sample (all_tables qs) } in
    let qs_taken : attributed scopes.0 es (harts_of_runs qs) (each_sample (all_tables qs)) ≡ Ok b =
    by_scopes scopes.0 es (harts_of_runs qs) (all_tables qs) (each_sample (all_tables qs)) qs_counts false (le-ltb most_scopes_in_all (scopes_in expand (all_tables qs)) scopes_few) in
    let many : All (HasEvents (length es)) rs = same_many rs same_is in
    let qs_many : All (HasEvents (length es)) qs = all_exchanged (HasEvents (length es)) place rs many in
    let kinds_same : Alike (kinds (length es) expand (each_sample (all_tables qs))) (kinds (length es) expand (each_sample (all_tables rs))) = record {
      same = λ t.
          ap (λ (ks : List (ℕ × List Scope)). count_by t ks) (kinds_of_runs laws.following (length es) expand qs qs_kept qs_many)
          ∙ exchanged_same (λ (run : KeptRun). kinds (length es) expand (each_sample run.1)) (λ ks. count_by t ks) (λ us vs. count_both t us vs) place rs
          ∙ ap (λ (ks : List (ℕ × List Scope)). count_by t ks) (sym (kinds_of_runs laws.following (length es) expand rs kept many));
    } in
    let below : All (λ s. s.column < columns_of (length es) (harts_of_runs rs)) (each_sample (all_tables rs)) = subst (λ (n : ℕ). All (λ (s : ColumnRaw). s.column < n) (each_sample (all_tables rs))) columns (laws.measured.columns (all_tables rs)) in
    let qs_below : All (λ s. s.column < columns_of (length es) (harts_of_runs qs)) (each_sample (all_tables qs)) = subst (λ (n : ℕ). All (λ (s : ColumnRaw). s.column < n) (each_sample (all_tables qs))) qs_columns (laws.measured.columns (all_tables qs)) in
    let text : (attribution_of b).text ≡ (attribution_of a.0).text =
    tables_renumbered laws.dealt laws.tables laws.below scopes.0 es (harts_of_runs qs) (harts_of_runs rs) (each_sample (all_tables qs)) (each_sample (all_tables rs)) kinds_same qs_below below
    ∙ ap (λ (q : Attributed). (attribution_of q).text) (sym (attributed_as scopes.0 es (harts_of_runs rs) (each_sample (all_tables rs)) a.0 taken)) in
    record {
      other = attribution_of b;
      merged =
          ap (λ (r : Result (List KeptRun) InputFault). r >>= λ runs. program elf >>= λ image. merged_runs image runs) qs_read
          ∙ ap (λ (r : Result ProgramImage InputFault). r >>= λ image. merged_runs image qs) image.1
          ∙ ap (λ (r : Result (Unit {0}) InputFault). r >>= λ done. of_same_events qs >>= λ done. within_limits qs >>= λ tables. attributed_code image.0 (first_events qs) (harts_of_runs qs) tables) qs_own
          ∙ ap (λ (r : Result (Unit {0}) InputFault). r >>= λ done. within_limits qs >>= λ tables. attributed_code image.0 (first_events qs) (harts_of_runs qs) tables) qs_same
          ∙ ap (λ (r : Result (List (List Counted)) InputFault). r >>= λ tables. attributed_code image.0 (first_events qs) (harts_of_runs qs) tables) (limits_back qs samples frames)
          ∙ ap (λ (l : List EventPeriod). attributed_code image.0 l (harts_of_runs qs) (all_tables qs)) first
          ∙ ap (λ (r : Result ProgramScopes InputFault). r >>= λ scopes. attributed scopes es (harts_of_runs qs) (each_sample (all_tables qs)) >>= λ a. Ok (attribution_of a)) scopes.1
          ∙ ap (λ (r : Result Attributed InputFault). r >>= λ a. Ok (attribution_of a)) qs_taken;
      text = text ∙ ap (λ (p : Product). p.text) (ok_same (attribution_of a.0) whole a.2);
    }

-- ---- and every order

pub order_renumbers : OrderLaws → OrderRenumbers
order_renumbers laws elf texts [] whole bytes is = record { other = whole; merged = is; text = refl }
order_renumbers laws elf texts (place ∷ places) whole bytes is =
    let once = one_exchange laws elf texts place whole bytes is in
    let rest = order_renumbers laws elf (exchanged place texts) places once.other (all_exchanged IsBytes place texts bytes) once.merged in
    record { other = rest.other; merged = rest.merged; text = rest.text ∙ once.text }
