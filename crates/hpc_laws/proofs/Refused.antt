-- What the drill of a number may be refused for.
use Rattle.std.proofs.Common.{◌≡◌, ◌⊎◌, inl, inr, ℕ, ◌≤◌, nat_lt, Bool, true, false, cond, List, [], ◌∷◌, length, map, take, All, codes, Result, Ok, Err, IsOk, refl, sym, ap, subst, ◌∙◌, arith, le-ltb, lit<}
use Rattle.std.proofs.lemmas.List.{length-map}
use Rattle.prof_bytes.specs.Outcome.{◌>>=◌}
use Rattle.elf_image.specs.declared.part.Segment.{Segment}
use Rattle.elf_image.specs.Image.{ProgramImage, address_of_name, bytes_of_name}
use Rattle.elf_image.specs.Reading.{image_of}
use Rattle.cfi_table.specs.Frames.{FrameDescription}
use Rattle.cfi_unwind.specs.Path.{unwinding_of, path_of as unwound_by}
use Rattle.eh_frame.specs.Descriptions.{descriptions_of_both}
use Rattle.dwarf_info.specs.Sections.{Sections}
use Rattle.dwarf_info.specs.Units.{DebugInfo, debug_info_of, unit_of}
use Rattle.dwarf_inline.specs.declared.fault.StructureFault.{StructureFault}
use Rattle.dwarf_inline.specs.Structure.{ProgramStructure, structure_of}
use Rattle.dwarf_line.specs.declared.fault.LineFault.{LineFault}
use Rattle.dwarf_line.specs.Names.{Texts}
use Rattle.dwarf_line.specs.Lines.{Lines as LineTables, lines_at}
use Rattle.guest_gen.specs.Guest.{guest_of}
use Rattle.guest_laws.specs.Known.{debug_information_names, no_lines, no_structure, without_units}
use Rattle.guest_laws.specs.Read.{guest_image, guest_scheduled, most_guest_samples}
use Rattle.rv_run.specs.declared.schedule.ScheduleFault.{ScheduleFault}
use Rattle.rv_run.specs.Run.{Run, run_of}
use Rattle.rv_run.specs.Schedule.{Scheduled, schedule_of}
use Rattle.sample_clock.specs.Samples.{Paths, samples}
use Rattle.scope_find.specs.Found.{ProgramScopes, found_at}
use Rattle.scope_types.specs.declared.scope.Scope.{Scope}
use Rattle.scope_types.specs.declared.event.EventPeriod.{EventPeriod}
use Rattle.scope_types.specs.Distinct.{ColumnRaw, distinct, frames_in, scopes_in}
use Rattle.scope_types.specs.Columns.{columns_of}
use Rattle.scope_types.specs.Events.{retired_every}
use Rattle.scope_types.specs.Expansion.{call_path}
use Rattle.scope_types.specs.Limits.{most_frames_in_all, most_samples, most_scopes_in_all}
use Rattle.scope_types.specs.Raw.{Raw}
use Rattle.tree_types.specs.Ascending.{ascending}
use Rattle.command_line.specs.declared.status.InputFault.{InputFault}
use Rattle.command_line.specs.declared.status.InputFault.TheVariants.{Entries, Lines, Program, Schedule, Structure, TooManyFrames, TooManySamples, TooManyScopes}
use Rattle.run_profile.specs.Attribution.{Attributed, attributed}
use Rattle.command_line.specs.Faulted.{faulted}
use Rattle.program_run.specs.Measured.{Measured, measured, measured_run}
use Rattle.command_line.specs.Product.{only_text}
use Rattle.command_line.specs.declared.product.Product.{Product}
use Rattle.program_run.specs.Program.{frame_fault, frame_information, program, scheduled}
use Rattle.program_run.specs.Samples.{column_raw, few_samples, run_columns, sampled, within_frames, within_samples}
use Rattle.run_profile.specs.Attribution.{within_scopes}
use Rattle.program_run.specs.Scopes.{debug_entries, debug_sections, debug_texts, line_tables, program_scopes, table_offsets}
use Rattle.hpc_top.specs.commands.Drill.{drill_product, drill_text}
use Rattle.hpc_top.specs.commands.Profile.{Profiled, profiled, profiled_of, profiled_program}

-- ---- results that are refused for nothing else

abbrev AreLimits : InputFault → Type 0
AreLimits fault = (fault ≡ TooManyFrames) ⊎ (fault ≡ TooManyScopes)

abbrev Limited : {X : Type 0} → Result X InputFault → Type 0
Limited r = (fault : InputFault) → r ≡ Err fault → AreLimits fault

limited_ok : {X : Type 0} (x : X) → Limited (let r : Result X InputFault = Ok x in r)
limited_ok x fault is = absurd cc

limited_then : {X Y : Type 0} (r : Result X InputFault) (f : X → Result Y InputFault) → Limited r → ((x : X) → Limited (f x)) → Limited (r >>= f)
limited_then (Ok x) f first each fault is = each x fault is
limited_then (Err e) f first each fault is = first fault (let same : e ≡ fault = cc in ap (λ (g : InputFault). Err g) same)

limited_by : {X : Type 0} (r s : Result X InputFault) → r ≡ s → Limited s → Limited r
limited_by r s same limited fault is = limited fault (sym same ∙ is)

limited_test : {X : Type 0} (b : Bool) (e : InputFault) (x : X) → AreLimits e → Limited (let r : Result X InputFault = cond b (Err e) (Ok x) in r)
limited_test true e x is fault same = (let g : e ≡ fault = cc in subst AreLimits g is)
limited_test false e x is fault same = absurd cc

-- ---- the run

few_limited : (columns : ℕ) (all : List ColumnRaw) → length all ≤ most_samples → Limited (few_samples columns all)
few_limited columns all few =
    let many : nat_lt most_samples (length all) ≡ false = le-ltb most_samples (length all) few in
    let within : within_samples all ≡ Ok all = ap (λ (b : Bool). (let r : Result (List ColumnRaw) InputFault = cond b (Err TooManySamples) (Ok all) in r)) many in
    limited_then (within_frames (distinct columns (take most_samples all))) (λ tables. within_samples all)
    (limited_test (nat_lt most_frames_in_all (frames_in (distinct columns (take most_samples all)))) TooManyFrames (distinct columns (take most_samples all)) (inl refl))
    (λ tables. limited_by (within_samples all) (Ok all) within (limited_ok all))

run_limited : (path_of : Paths) (events : List EventPeriod) (harts : ℕ) (run : Run) → length (samples path_of events run.instants) ≤ most_samples → Limited (measured_run path_of events harts run)
unfolding measured_run
run_limited path_of events harts run few =
    let made : List ColumnRaw → Result Measured InputFault = λ all. Ok (record { events = events; harts = harts; samples = all; final = run.final }) in
    let long : length (sampled path_of events run) ≡ length (samples path_of events run.instants) = length-map (samples path_of events run.instants) (column_raw (length events)) in
    limited_then (few_samples (run_columns events harts) (sampled path_of events run)) made (few_limited (run_columns events harts) (sampled path_of events run) (omega (arith, long, few))) (λ all. limited_ok (let m : Measured = record { events = events; harts = harts; samples = all; final = run.final } in m))

profiled_limited : (scopes : ProgramScopes) (m : Measured) → Limited (profiled scopes m)
profiled_limited scopes m =
    let expand : Raw → List Scope = call_path (found_at scopes) in
    let made : List ColumnRaw → Result Attributed InputFault = λ all. Ok (record { scopes = scopes; events = m.events; runs = m.harts ∷ []; samples = all }) in
    let whole : Attributed → Result Profiled InputFault = λ a. Ok (record { measured = m; attributed = a }) in
    limited_then (attributed scopes m.events (m.harts ∷ []) m.samples) whole
    (limited_then (within_scopes expand (columns_of (length m.events) (m.harts ∷ [])) m.samples) made (limited_test (nat_lt most_scopes_in_all (scopes_in expand (distinct (columns_of (length m.events) (m.harts ∷ [])) m.samples))) TooManyScopes m.samples (inr refl))
    (λ all. limited_ok (let a : Attributed = record { scopes = scopes; events = m.events; runs = m.harts ∷ []; samples = all } in a)))
    (λ a. limited_ok (let p : Profiled = record { measured = m; attributed = a } in p))

-- ---- what is read

the_value : {X F : Type 0} (r : Result X F) → IsOk r → (x : X) × (r ≡ Ok x)
the_value (Ok x) is = (x, refl)
the_value (Err fault) is = absurd cc

abbrev NoEntries : Type 0
NoEntries = (sections : Sections) → sections.info ≡ [] → debug_info_of sections ≡ Ok (without_units sections)

abbrev NoLines : Type 0
NoLines = (line : List ℕ) (texts : Texts) (segments : List Segment) → lines_at line texts segments [] ≡ Ok no_lines

abbrev NoStructure : Type 0
NoStructure = (info : DebugInfo) (lines : LineTables) (image : ProgramImage) → info.entries ≡ [] → structure_of info lines image ≡ Ok no_structure

scopes_read : (image : ProgramImage) → bytes_of_name image.sections (codes ".debug_info") ≡ [] → NoEntries → NoLines → NoStructure
    → program_scopes image ≡ Ok (record { structure = no_structure; lines = no_lines; image = image })
unfolding program_scopes ascending
scopes_read image none entries lines structure =
    let info : DebugInfo = without_units (debug_sections image) in
    let a : debug_entries image ≡ Ok info = ap (faulted Entries) (entries (debug_sections image) none) in
    let b : line_tables image [] ≡ Ok no_lines = ap (faulted (λ (fault : LineFault). Lines fault.offset)) (lines (bytes_of_name image.sections (codes ".debug_line")) (debug_texts image) image.segments) in
    let c : structure_of info no_lines image ≡ Ok no_structure = structure info no_lines image refl in
    let last : LineTables → ProgramStructure → Result ProgramScopes InputFault = λ l s. Ok (record { structure = s; lines = l; image = image }) in
    let third : DebugInfo → LineTables → Result ProgramScopes InputFault = λ i l. faulted Structure (structure_of i l image) >>= last l in
    let second : DebugInfo → Result ProgramScopes InputFault = λ i. line_tables image (table_offsets (map unit_of i.units)) >>= third i in
    let first : Result DebugInfo InputFault → Result ProgramScopes InputFault = λ r. r >>= second in
    let on_lines : Result LineTables InputFault → Result ProgramScopes InputFault = λ r. r >>= third info in
    let on_structure : Result ProgramStructure StructureFault → Result ProgramScopes InputFault = λ r. faulted Structure r >>= last no_lines in
    ap first a ∙ ap on_lines b ∙ ap on_structure c

all_read : (elf input text : List ℕ) (events : List EventPeriod) (schedule : Scheduled) (image : ProgramImage) (described : List FrameDescription) (scopes : ProgramScopes) → scheduled text ≡ Ok schedule → program elf ≡ Ok image
    → frame_information image ≡ Ok described → program_scopes image ≡ Ok scopes → profiled_of elf input text events ≡ profiled_program image described scopes schedule input events
unfolding profiled_of
all_read elf input text events schedule image described scopes a b c d = rw (a, b, c, d) refl

pub refused_for_paths : ((number : ℕ) → schedule_of (guest_of number).schedule ≡ Ok (guest_scheduled number)) → ((number : ℕ) → image_of (guest_of number).elf ≡ Ok (guest_image number))
    → ((number : ℕ) → IsOk (descriptions_of_both (bytes_of_name (guest_image number).sections (codes ".debug_frame")) (bytes_of_name (guest_image number).sections (codes ".eh_frame"))
    (address_of_name (guest_image number).sections (codes ".eh_frame")) (guest_image number).segments))
    → ((number : ℕ) → All (λ name. bytes_of_name (guest_image number).sections name ≡ []) debug_information_names) → NoEntries → NoLines → NoStructure
    → ((number : ℕ) (path_of : Paths) → length (samples path_of (retired_every (guest_of number).period) (run_of (guest_image number) (guest_scheduled number) (guest_of number).input).instants) ≤ most_guest_samples)
    → (number : ℕ) (fault : InputFault) → drill_product number ≡ Err fault → AreLimits fault
unfolding drill_product
refused_for_paths schedules programs frames empty entries lines structure few number =
    let image : ProgramImage = guest_image number in
    let schedule : Scheduled = guest_scheduled number in
    let none : bytes_of_name (guest_image number).sections (codes ".debug_info") ≡ [] = empty number 0 [] (lit< tt) in
    let found = the_value (descriptions_of_both (bytes_of_name (guest_image number).sections (codes ".debug_frame")) (bytes_of_name (guest_image number).sections (codes ".eh_frame"))
    (address_of_name (guest_image number).sections (codes ".eh_frame")) (guest_image number).segments) (frames number) in
    let described : List FrameDescription = found.0 in
    let scopes : ProgramScopes = record { structure = no_structure; lines = no_lines; image = guest_image number } in
    let a : scheduled (guest_of number).schedule ≡ Ok (guest_scheduled number) = ap (faulted (λ (fault : ScheduleFault). Schedule fault.line)) (schedules number) in
    let b : program (guest_of number).elf ≡ Ok (guest_image number) = ap (faulted Program) (programs number) in
    let c : frame_information (guest_image number) ≡ Ok found.0 = ap (faulted frame_fault) found.1 in
    let d : program_scopes (guest_image number) ≡ Ok scopes = scopes_read (guest_image number) none entries lines structure in
    let path_of : Paths = unwound_by (unwinding_of found.0 (guest_image number)) in
    let run : Run = run_of (guest_image number) (guest_scheduled number) [] in
    let short = few number path_of in
    let made : Profiled → Result Product InputFault = λ p. Ok (only_text (drill_text number p)) in
    limited_then (profiled_of (guest_of number).elf [] (guest_of number).schedule (retired_every 97)) made
    (limited_by (profiled_of (guest_of number).elf [] (guest_of number).schedule (retired_every 97)) (profiled_program (guest_image number) found.0 scopes (guest_scheduled number) [] (retired_every 97))
    (all_read (guest_of number).elf [] (guest_of number).schedule (retired_every 97) (guest_scheduled number) (guest_image number) found.0 scopes a b c d)
    (limited_then (measured (guest_image number) found.0 (guest_scheduled number) [] (retired_every 97)) (profiled scopes) (run_limited path_of (retired_every 97) 4 run (omega (arith, short))) (profiled_limited scopes)))
    (λ p. limited_ok (only_text (drill_text number p)))
