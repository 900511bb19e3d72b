-- What `trace` stores is read as the trace of the run, and it puts or refuses what `run` puts or refuses.
use Rattle.std.proofs.Common.{◌≡◌, ℕ, zero, suc, ◌+◌, ◌*◌, ◌/◌, ◌^◌, ◌<◌, ◌≤◌, ◌==◌, true, false, cond, List, [], ◌∷◌, ◌++◌, length, map, filter, All, Result, Ok, Err, IfErr, refl, sym, ap, subst, ◌∙◌, append-nil, arith}
use Rattle.std.specs.List.{range_with_len}
use Rattle.std.proofs.Math.Nat.{lt-div-mul-add}
use Rattle.std.proofs.lemmas.List.Elements.{All-filter, All-from_get_or, All-map, All-weaker}
use Rattle.std.proofs.lemmas.List.FromFn.{get_or-map-range_with_len, length-map-range_with_len}
use Rattle.std.proofs.lemmas.List.Sums.{count_by-le-length}
use Rattle.std.proofs.lemmas.Nat.{mul-le}
use Rattle.std.proofs.lemmas.Simd.{map-map}
use Rattle.prof_bytes.specs.Number.{IsBytes}
use Rattle.prof_bytes.specs.Outcome.{◌>>=◌}
use Rattle.prof_bytes.proofs.Outcomes.{bind_ok, ok_same}
use Rattle.elf_image.specs.Image.{ProgramImage}
use Rattle.elf_image.specs.Reading.{image_of}
use Rattle.cfi_unwind.specs.Path.{unwinding_of, path_of as unwound_by}
use Rattle.rv_run.specs.Progress.{IsFresh}
use Rattle.rv_run.specs.Run.{Instant, Run, run_of}
use Rattle.rv_run.specs.State.{MachineState, first_hart, first_state, hart_in as machine_hart, hart_of}
use Rattle.sample_clock.specs.Samples.{Paths}
use Rattle.scope_types.specs.declared.event.EventPeriod.{EventPeriod}
use Rattle.scope_types.specs.Distinct.{ColumnRaw, counted_paths, distinct, frames_in, raws_of}
use Rattle.scope_types.specs.Events.{retired_every}
use Rattle.scope_types.specs.Limits.{most_harts, most_samples}
use Rattle.scope_types.specs.Raw.{HasFrames, Raw}
use Rattle.run_report.specs.Report.{event_lines}
use Rattle.trace_lines.specs.Reading.{trace_in}
use Rattle.trace_lines.specs.Spelling.{trace_spelling}
use Rattle.trace_lines.specs.Traces.{HasAddress, HartTrace, IsStorable, IsStorableHart, Traced, idle_hart, traced_tables}
use Rattle.command_line.specs.Words.{most_period}
use Rattle.command_line.specs.declared.status.InputFault.{InputFault}
use Rattle.command_line.specs.declared.status.InputFault.TheVariants.{Program, Trace}
use Rattle.command_line.specs.Faulted.{faulted}
use Rattle.program_run.specs.Measured.{Measured, lines_of, measured}
use Rattle.command_line.specs.declared.product.Product.{Product}
use Rattle.program_run.specs.Program.{frame_information, is_same_program, program, scheduled, wrong_program}
use Rattle.program_run.specs.Samples.{run_columns, sampled}
use Rattle.program_run.specs.Scopes.{program_scopes}
use Rattle.hpc_laws.specs.TracesOfRuns.{TraceRuns, TracesStoreRuns, text_or}
use Rattle.command_line.specs.Kind.{program_limit}
use Rattle.program_run.specs.commands.Run.{measurement_of, run_product}
use Rattle.program_run.specs.commands.Timeline.{timed_code, timeline_product, trace_of_program, trace_read}
use Rattle.program_run.specs.commands.Trace.{hart_traced, trace_of, trace_product, traced_of}
use Rattle.program_run.proofs.Addresses.{IsOf, OfInstructions, PathsHaveFrames, PathsHaveWords, low_first, slices_of}
use Rattle.program_run.proofs.HartSamples.{harts_counted, raws_counted}
use Rattle.hpc_laws.proofs.Ran.{AreTaken, IsOther, RunParts, few_are, measured_few, measured_final, other_faulted, other_scopes, other_then, samples_taken}
use Rattle.hpc_laws.proofs.Scheduled.{entry_low, program_loaded, scheduled_own}
use Rattle.program_run.proofs.TracedRuns.{RetiredCounted, first_long, hart_counted, own_columns}

-- ---- what is put

-- the same texts or refusals of one step more
same_then : {X : Type 0} (r : Result X InputFault) (f g : X → Result Product InputFault) → ((x : X) → r ≡ Ok x → text_or (f x) ≡ text_or (g x)) → text_or (r >>= f) ≡ text_or (r >>= g)
same_then (Ok x) f g same = same x refl
same_then (Err fault) f g same = refl

-- retired alone has no line of its own
no_event_lines : (period : ℕ) (samples : List ColumnRaw) → event_lines (retired_every period) samples ≡ []
no_event_lines period samples = refl

same_text : (image : ProgramImage) (period : ℕ) (m : Measured) → m.events ≡ retired_every period → text_or (Ok (traced_of image period m)) ≡ text_or (Ok (measurement_of image m))
same_text image period m is =
    ap Ok (sym (ap (λ (es : List EventPeriod). lines_of m ++ event_lines es m.samples) is ∙ ap (λ (l : List ℕ). lines_of m ++ l) (no_event_lines period m.samples) ∙ append-nil (lines_of m)))

pub traces_run : TraceRuns
unfolding trace_product run_product
traces_run elf input schedule period =
    same_then (scheduled schedule) _ _ (λ slices slices_is.
    same_then (program elf) _ _ (λ image image_is.
    same_then (frame_information image) _ _ (λ described described_is.
    same_then (measured image described slices input (retired_every period)) _ _ (λ m m_is.
    same_text image period m (measured_few (unwound_by (unwinding_of described image)) (retired_every period) slices.harts (run_of image slices input) m m_is).2))))

-- ---- what is stored

trace_made : (elf input schedule : List ℕ) (period : ℕ) (kept : Product) → trace_product elf input schedule period ≡ Ok kept
    → (m : Measured) × (r : RunParts elf input schedule (retired_every period) m) × (traced_of r.image period m ≡ kept)
unfolding trace_product
trace_made elf input schedule period kept is =
    let slices = bind_ok (scheduled schedule) (λ slices. program elf >>= λ image. frame_information image >>= λ described. measured image described slices input (retired_every period) >>= λ m. Ok (traced_of image period m)) kept is in
    let image = bind_ok (program elf) (λ image. frame_information image >>= λ described. measured image described slices.0 input (retired_every period) >>= λ m. Ok (traced_of image period m)) kept slices.2 in
    let described = bind_ok (frame_information image.0) (λ described. measured image.0 described slices.0 input (retired_every period) >>= λ m. Ok (traced_of image.0 period m)) kept image.2 in
    let m = bind_ok (measured image.0 described.0 slices.0 input (retired_every period)) (λ m. Ok (traced_of image.0 period m)) kept described.2 in (
      m.0,
      record {
        slices = slices.0;
        image = image.0;
        described = described.0;
        slices_is = slices.1;
        program_is = image.1;
        frames_is = described.1;
        measured_is = m.1;
      },
      ok_same (traced_of image.0 period m.0) kept m.2,
    )

-- no hart of the machine that a run begins with has retired an instruction
none_retired : (entry harts : ℕ) (numbers : List ℕ) (hart : ℕ) → (machine_hart (map (first_hart entry harts) numbers) hart).retired ≡ 0
none_retired entry harts [] hart = refl
none_retired entry harts (n ∷ numbers) zero = refl
none_retired entry harts (n ∷ numbers) (suc hart) = none_retired entry harts numbers hart

first_fresh : (image : ProgramImage) (harts : ℕ) (input : List ℕ) → harts ≤ most_harts → IsFresh (first_state image harts input)
first_fresh image harts input few =
    record {
      few = (let long = first_long image harts input in omega (arith, long, few));
      none = λ hart. none_retired image.entry harts (range_with_len 0 harts) hart;
    }

-- the instructions of which a hart has few samples are few
few_retired : (period retired samples : ℕ) → 1 ≤ period → period < 2 ^ 32 → samples ≤ most_samples → samples ≡ retired / period → retired < 2 ^ 64
few_retired period retired samples some small few is =
    let below : retired < retired / period * period + period = lt-div-mul-add some in
    let most : retired / period * period ≤ 1048576 * 4294967296 = mul-le (retired / period) period 1048576 4294967296 (omega (arith, few, is)) (omega (arith, small)) in
    omega (arith, below, most, small)

hart_few : (m : Measured) (hart : ℕ) → length m.samples ≤ most_samples → length (hart_traced m hart).samples ≤ most_samples
hart_few m hart few =
    let own = raws_counted m.samples hart in
    let some = count_by-le-length (λ (s : ColumnRaw). s.column == hart) m.samples in
    omega (arith, few, own, some)

-- what is so of each sample, is so of each hart's
each_hart : (m : Measured) (P : Raw → Type 0) → All (λ s. P s.raw) m.samples → (hart : ℕ) → All P (hart_traced m hart).samples
each_hart m P all hart =
    All-map P (λ (s : ColumnRaw). s.raw) (filter (λ (s : ColumnRaw). s.column == hart) m.samples)
    (All-filter (λ (s : ColumnRaw). s.column == hart) (λ (s : ColumnRaw). P s.raw) m.samples all)

-- and what is so of each hart by its number
all_harts : (m : Measured) (P : HartTrace → Type 0) → ((hart : ℕ) → hart < m.harts → P (hart_traced m hart)) → All P (map (hart_traced m) (range_with_len 0 m.harts))
all_harts m P each =
    All-from_get_or P (map (hart_traced m) (range_with_len 0 m.harts)) idle_hart
    (λ hart less.
    let own : hart < m.harts = (let l = less in let long = length-map-range_with_len (hart_traced m) 0 m.harts in omega (arith, l, long)) in
    subst P (sym (get_or-map-range_with_len (hart_traced m) 0 m.harts hart hart idle_hart own (omega arith))) (each hart own))

-- the distinct raw paths of the harts are those of the columns
tables_are : (m : Measured) → traced_tables (map (hart_traced m) (range_with_len 0 m.harts)) ≡ distinct m.harts m.samples
unfolding distinct
tables_are m = map-map (λ (h : HartTrace). counted_paths h.samples) (hart_traced m) (range_with_len 0 m.harts)

module _ (elf input schedule : List ℕ) (period : ℕ) (m : Measured) (parts_of : RunParts elf input schedule (retired_every period) m) (bytes : IsBytes elf) (some : 1 ≤ period) (most : period ≤ most_period) where
  -- each hart has the samples that its instructions give
  hart_finished : OfInstructions → RetiredCounted → (hart : ℕ) → hart < m.harts → length (hart_traced m hart).samples ≡ (hart_of m.final hart).retired / period
  hart_finished each counted hart below =
      let harts : ℕ = parts_of.slices.harts in
      let s : MachineState = first_state parts_of.image harts input in
      let run : Run = run_of parts_of.image parts_of.slices input in
      let path_of : Paths = unwound_by (unwinding_of parts_of.described parts_of.image) in
      let own = scheduled_own schedule parts_of.slices parts_of.slices_is in
      let few_of = measured_few path_of (retired_every period) harts run m parts_of.measured_is in
      let all : m.samples ≡ sampled path_of (retired_every period) run = sym (few_are (run_columns (retired_every period) harts) (sampled path_of (retired_every period) run) m.samples few_of.0).0 in
      let size = few_of.1 in
      let long = first_long parts_of.image harts input in
      let within : All (λ i. i.moment.hart < length s.harts) run.instants =
      All-weaker (IsOf harts) (λ (i : Instant). i.moment.hart < length s.harts) (λ i of. (let o = of.0 in omega (arith, o, long))) run.instants
      (slices_of harts parts_of.slices.slices s own.slices (low_first parts_of.image.entry harts (range_with_len 0 harts) (entry_low elf parts_of.image parts_of.program_is bytes))) in
      ap (λ (l : List ColumnRaw). length (raws_of l hart)) all
      ∙ hart_counted each counted path_of period parts_of.slices.slices s hart some (first_fresh parts_of.image harts input own.few) (omega (arith, below, size, long)) within
      ∙ ap (λ (f : MachineState). (hart_of f hart).retired / period) (sym (measured_final path_of (retired_every period) harts run m parts_of.measured_is))

  -- the trace of the run can be written
  trace_storable : OfInstructions → PathsHaveFrames → PathsHaveWords → RetiredCounted → length elf ≤ program_limit → IsStorable (trace_of parts_of.image period m)
  trace_storable each frames words counted short =
      let taken : AreTaken m.events m.harts m.samples = samples_taken elf input schedule (retired_every period) m parts_of bytes each frames words in
      let events : m.events ≡ retired_every period =
      (measured_few (unwound_by (unwinding_of parts_of.described parts_of.image)) (retired_every period) parts_of.slices.harts (run_of parts_of.image parts_of.slices input) m parts_of.measured_is).2 in
      let columns : run_columns m.events m.harts ≡ m.harts = ap (λ (es : List EventPeriod). run_columns es m.harts) events ∙ own_columns period m.harts in
      let own : All (λ s. s.column < m.harts) m.samples = subst (λ (n : ℕ). All (λ (s : ColumnRaw). s.column < n) m.samples) columns taken.sampled.own in
      let small : period < 2 ^ 32 = omega (arith, most) in
      let long = length-map-range_with_len (hart_traced m) 0 m.harts in
      let some_harts = taken.some in
      let few_harts = taken.few in
      let all = harts_counted m own in
      let few = taken.sampled.sampled in
      record {
        trace = record {
          period = some;
          some = omega (arith, long, some_harts);
          few = omega (arith, long, few_harts);
          paths = all_harts m (λ (h : HartTrace). All (λ raw. HasFrames raw.frames) h.samples) (λ hart below. each_hart m (λ (raw : Raw). HasFrames raw.frames) taken.sampled.paths hart);
          samples = omega (arith, all, few);
          frames = (let same = ap frames_in (tables_are m ∙ ap (λ (n : ℕ). distinct n m.samples) (sym columns)) in let fits = taken.sampled.frames in omega (arith, same, fits));
        };
        length = subst (λ (q : ProgramImage). length q.file < 2 ^ 32) (program_loaded elf parts_of.image parts_of.program_is) (let l : length elf < 2 ^ 32 = omega (arith, short) in l);
        entry = entry_low elf parts_of.image parts_of.program_is bytes;
        period = small;
        harts = all_harts m (IsStorableHart period) (λ hart below.
            let finished = hart_finished each counted hart below in
            record {
              finished = finished;
              retired = few_retired period (hart_of m.final hart).retired (length (hart_traced m hart).samples) some small (hart_few m hart few) finished;
              addresses = each_hart m (λ (raw : Raw). All HasAddress raw.frames) taken.sampled.addresses hart;
            });
      }

-- ---- what `timeline` refuses in place of a trace

other_program : (image : ProgramImage) (t : Traced) → IfErr (trace_of_program image t) IsOther
other_program image t =
    elim (is_same_program image t.length t.entry) as (λ b. IfErr (let r : Result Traced InputFault = cond b (Ok t) (Err (wrong_program image t.length t.entry)) in r) IsOther) [
      | true ↦ tt
      | false ↦ tt
    ]

other_timeline : (elf bytes : List ℕ) (depth cells : ℕ) (t : Traced) → trace_read bytes ≡ Ok t → IfErr (timeline_product elf bytes depth cells) IsOther
unfolding timeline_product
other_timeline elf bytes depth cells t is =
    subst (λ (r : Result Traced InputFault). IfErr (r >>= λ t. program elf >>= λ image. trace_of_program image t >>= λ t. timed_code image t depth cells) IsOther) (sym is)
    (other_then (program elf) _ (other_faulted Program (λ f. tt) (image_of elf)) (λ image.
    other_then (trace_of_program image t) _ (other_program image t) (λ own.
    other_then (program_scopes image) _ (other_scopes image) (λ scopes. tt))))

-- what trace_lines' law says
abbrev pub TraceWritten : Type 0
TraceWritten = (t : Traced) → IsStorable t → trace_in (trace_spelling t) ≡ Ok t

pub stores_trace : OfInstructions → PathsHaveFrames → PathsHaveWords → RetiredCounted → TraceWritten → TracesStoreRuns
stores_trace each frames words counted written elf input schedule period kept bytes short some most is =
    let made = trace_made elf input schedule period kept is in
    let m : Measured = made.0 in
    let r : RunParts elf input schedule (retired_every period) m = made.1 in
    let t : Traced = trace_of r.image period m in
    let read : trace_in (trace_spelling t) ≡ Ok t = written t (trace_storable elf input schedule period m r bytes some most each frames words counted short) in
    let stored : trace_in kept.stored ≡ Ok t = subst (λ (k : Product). trace_in k.stored ≡ Ok t) made.2 read in
    record {
      slices = r.slices;
      scheduled_so = r.slices_is;
      image = r.image;
      read = r.program_is;
      described = r.described;
      frames = r.frames_is;
      run = m;
      ran = r.measured_is;
      traced = stored;
      accepted = λ other depth cells offset e. subst (λ (q : Result Product InputFault). IfErr q IsOther) e (other_timeline other kept.stored depth cells t (ap (faulted (λ fault. Trace fault.offset)) stored));
    }
