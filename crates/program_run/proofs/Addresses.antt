-- The addresses of a run's instructions have 32 bits.
use Rattle.std.proofs.Common.{◌≡◌, ℕ, zero, suc, ◌+◌, ◌*◌, ◌/◌, ◌%◌, ◌^◌, ◌<◌, ◌≤◌, ◌==◌, ◌||◌, Bool, true, false, not, cond, nat_lt, int_lt, List, [], ◌∷◌, length, map, take, min, slice_set, All, Option, Some, None, option_map, sym, subst, arith}
use Rattle.std.specs.List.{AllByRecursion}
use Rattle.std.proofs.lemmas.List.Elements.{All-append, All-cons, All-contains, All-map, All-weaker}
use Rattle.std.proofs.Math.Nat.{mul-le-mul_right}
use Rattle.prof_bytes.specs.Number.{number_bytes}
use Rattle.rv_table.specs.declared.inst.Op.{Op}
use Rattle.rv_table.specs.declared.inst.Op.TheVariants as ops
use Rattle.rv_table.specs.declared.inst.Inst.{Inst}
use Rattle.rv_table.specs.Fields.{sign_extended}
use Rattle.rv_table.specs.Table.{decoded}
use Rattle.rv_hart.specs.declared.outcome.Stepped.{Stepped}
use Rattle.rv_hart.specs.declared.outcome.Stepped.TheVariants as stepped
use Rattle.rv_hart.specs.declared.outcome.Cause.TheVariants as cause
use Rattle.prof_bytes.specs.Number.{word_sum}
use Rattle.rv_hart.specs.Arithmetic.{signed}
use Rattle.rv_memory.specs.AddressSpace.{AddressSpace, stored}
use Rattle.rv_hart.specs.Step.{State, rs1_value, rs2_value, address, operand, trapped, retired, jumps, continues_at, branches, loads, finishes_store, executed, fetched, after_fetch, step_of}
use Rattle.rv_run.specs.declared.schedule.Slice.{Slice}
use Rattle.rv_run.specs.declared.hart.HartEnd.{HartEnd}
use Rattle.rv_run.specs.declared.hart.HartEnd.TheVariants as ends
use Rattle.rv_run.specs.State.{HartState, MachineState, first_hart, hart_in, hart_of, is_running, step_state, stepped_hart}
use Rattle.rv_run.specs.Calls.{Acted, Answered, holds_in, negative, reads, writes, call_numbered, completes, ends_by, ends_all, grouped, with_answer, with_end, only_answers, all_readable, writes_out, room_for, read_into}
use Rattle.rv_run.specs.Run.{Instant, Run, acts, acts_by, finished, preceded, next_instant, state_after, stepped_machine, run_slice, run_slices}
use Rattle.scope_types.specs.declared.event.EventPeriod.{EventPeriod}
use Rattle.scope_types.specs.Columns.{column_of}
use Rattle.scope_types.specs.Distinct.{ColumnRaw}
use Rattle.scope_types.specs.Raw.{HasFrames}
use Rattle.cfi_unwind.specs.Caller.{Words, Unwinding}
use Rattle.cfi_unwind.specs.Path.{path_of as unwound_by}
use Rattle.sample_clock.specs.declared.clock.Sample.{Sample}
use Rattle.sample_clock.specs.Samples.{IsSampleOf, Paths, sample_of, samples, words_of}
use Rattle.measure_file.specs.Measurable.{HasWord}
use Rattle.program_run.specs.Samples.{column_raw, run_columns, sampled}

abbrev pub IsWord : ℕ → Type 0
IsWord n = n < 2 ^ 32

mod_word : (n : ℕ) → IsWord (n % 2 ^ 32)
mod_word n = omega arith

no_word : IsWord 0
no_word = omega arith

half_word : (n : ℕ) → IsWord n → IsWord (n / 2 * 2)
half_word n low = omega (arith, low)

-- ---- one instruction

abbrev StaysLow : State → State × Stepped → Type 0
StaysLow s r = IsWord s.pc → IsWord r.0.pc

jump : (inst : Inst) (target : ℕ) (s : State) → IsWord target → StaysLow s (jumps inst target s)
jump inst target s low =
    elim (target % 4 == 0) as (λ b. StaysLow s (cond b (retired inst (word_sum s.pc 4) target s) (trapped cause.Target s))) [ true ↦ (λ here. low) | false ↦ (λ here. here) ]

branch : (inst : Inst) (test : Bool) (s : State) → StaysLow s (branches inst test s)
branch inst true s =
    elim (word_sum s.pc inst.imm % 4 == 0) as (λ b. StaysLow s (cond b (continues_at (word_sum s.pc inst.imm) s) (trapped cause.Target s))) [ true ↦ (λ here. mod_word (s.pc + inst.imm)) | false ↦ (λ here. here) ]
branch inst false s = λ here. mod_word (s.pc + 4)

take_up : (inst : Inst) (number : Option ℕ) (s : State) → StaysLow s (loads inst number s)
take_up inst None s = λ here. here
take_up inst (Some n) s = λ here. mod_word (s.pc + 4)

put_down : (answer : Bool × AddressSpace) (s : State) → StaysLow s (finishes_store answer s)
put_down (true, m) s = λ here. mod_word (s.pc + 4)
put_down (false, m) s = λ here. here

by_operation : (op : Op) (inst : Inst) (s : State) → StaysLow s (executed op inst s)
by_operation ops.Illegal inst s = λ here. here
by_operation ops.Lui inst s = λ here. mod_word (s.pc + 4)
by_operation ops.Auipc inst s = λ here. mod_word (s.pc + 4)
by_operation ops.Jal inst s = jump inst (word_sum s.pc inst.imm) s (mod_word (s.pc + inst.imm))
by_operation ops.Jalr inst s = jump inst (word_sum (rs1_value inst s) inst.imm / 2 * 2) s (half_word (word_sum (rs1_value inst s) inst.imm) (mod_word (rs1_value inst s + inst.imm)))
by_operation ops.Beq inst s = branch inst (rs1_value inst s == rs2_value inst s) s
by_operation ops.Bne inst s = branch inst (not (rs1_value inst s == rs2_value inst s)) s
by_operation ops.Blt inst s = branch inst (int_lt (signed (rs1_value inst s)) (signed (rs2_value inst s))) s
by_operation ops.Bge inst s = branch inst (not (int_lt (signed (rs1_value inst s)) (signed (rs2_value inst s)))) s
by_operation ops.Bltu inst s = branch inst (nat_lt (rs1_value inst s) (rs2_value inst s)) s
by_operation ops.Bgeu inst s = branch inst (not (nat_lt (rs1_value inst s) (rs2_value inst s))) s
by_operation ops.Lb inst s = take_up inst (option_map (sign_extended 8) (operand inst 1 s)) s
by_operation ops.Lh inst s = take_up inst (option_map (sign_extended 16) (operand inst 2 s)) s
by_operation ops.Lw inst s = take_up inst (operand inst 4 s) s
by_operation ops.Lbu inst s = take_up inst (operand inst 1 s) s
by_operation ops.Lhu inst s = take_up inst (operand inst 2 s) s
by_operation ops.Sb inst s = put_down (stored s.memory (address inst s) (number_bytes 1 (rs2_value inst s))) s
by_operation ops.Sh inst s = put_down (stored s.memory (address inst s) (number_bytes 2 (rs2_value inst s))) s
by_operation ops.Sw inst s = put_down (stored s.memory (address inst s) (number_bytes 4 (rs2_value inst s))) s
by_operation ops.Fence inst s = λ here. mod_word (s.pc + 4)
by_operation ops.Ecall inst s = λ here. here
by_operation ops.Ebreak inst s = λ here. here
by_operation _ inst s = λ here. mod_word (s.pc + 4)

by_word : (word : Option ℕ) (s : State) → StaysLow s (after_fetch word s)
by_word None s = λ here. here
by_word (Some word) s = by_operation (decoded word).op (decoded word) s

step_low : (s : State) → StaysLow s (step_of s)
step_low s = by_word (fetched s) s

-- ---- all harts

abbrev pub AllLow : List HartState → Type 0
AllLow [] = Unit {0}
AllLow (h ∷ hs) = IsWord h.pc × AllLow hs

low_at : (hs : List HartState) (hart : ℕ) → AllLow hs → IsWord (hart_in hs hart).pc
low_at [] hart all = no_word
low_at (h ∷ hs) zero all = all.0
low_at (h ∷ hs) (suc hart) all = low_at hs hart all.1

low_set : (hs : List HartState) (hart : ℕ) (new : HartState) → AllLow hs → IsWord new.pc → AllLow (slice_set hs hart new)
low_set [] hart new all low = tt
low_set (h ∷ hs) zero new all low = (low, all.1)
low_set (h ∷ hs) (suc hart) new all low = (all.0, low_set hs hart new all.1 low)

group_low : (status : ℕ) (h : HartState) → IsWord h.pc → IsWord (grouped status h).pc
group_low status h low = elim (is_running h) as (λ b. IsWord (cond b (with_end (ends.Group status) h) h).pc) [ true ↦ low | false ↦ low ]

low_group : (status : ℕ) (hs : List HartState) → AllLow hs → AllLow (map (grouped status) hs)
low_group status [] all = tt
low_group status (h ∷ hs) all = (group_low status h all.0, low_group status hs all.1)

pub low_first : (entry harts : ℕ) (numbers : List ℕ) → IsWord entry → AllLow (map (first_hart entry harts) numbers)
low_first entry harts [] low = tt
low_first entry harts (n ∷ numbers) low = (low, low_first entry harts numbers low)

-- ---- environment calls

read_low : (count : ℕ) (answer : Bool × AddressSpace) (s : MachineState) → AllLow s.harts → AllLow (read_into count answer s).state.harts
read_low count (true, m) s all = all
read_low count (false, m) s all = all

either_answered : (t : Bool) (x y : Answered) → AllLow x.state.harts → AllLow y.state.harts → AllLow (cond t x y).state.harts
either_answered true x y first second = first
either_answered false x y first second = second

either_acted : (t : Bool) (x y : Acted) → AllLow x.state.harts → AllLow y.state.harts → AllLow (cond t x y).state.harts
either_acted true x y first second = first
either_acted false x y first second = second

reads_low : (a b c : ℕ) (s : MachineState) → AllLow s.harts → AllLow (reads a b c s).state.harts
reads_low a b c s all =
    either_answered (a == 0) (read_into (min c (length s.input)) (stored s.memory b (take c s.input)) s) _ (read_low (min c (length s.input)) (stored s.memory b (take c s.input)) s all) all

writes_low : (a b c : ℕ) (s : MachineState) → AllLow s.harts → AllLow (writes a b c s).state.harts
writes_low a b c s all =
    either_answered ((a == 1) || (a == 2)) _ _ (either_answered (all_readable s.memory b c) (writes_out b (room_for c s.output) s) _ all all) all

completes_low : (hart : ℕ) (answered : Answered) → AllLow answered.state.harts → AllLow (completes hart answered).state.harts
completes_low hart answered all =
    low_set answered.state.harts hart (with_answer answered.answer (hart_of answered.state hart)) all (mod_word ((hart_of answered.state hart).pc + 4))

ends_low : (hart : ℕ) (end : HartEnd) (s : MachineState) → AllLow s.harts → AllLow (ends_by hart end s).state.harts
ends_low hart end s all = low_set s.harts hart (with_end end (hart_of s hart)) all (low_at s.harts hart all)

answer_low : (hart n : ℕ) (s : MachineState) → AllLow s.harts → AllLow (completes hart (only_answers n s)).state.harts
answer_low hart n s all = completes_low hart (only_answers n s) all

call_low : (hart number a b c : ℕ) (s : MachineState) → AllLow s.harts → AllLow (call_numbered hart number a b c s).state.harts
call_low hart number a b c s all =
    let unknown : Acted = completes hart (only_answers (negative 38) s) in
    let from_94 : Acted = cond (number == 94) (ends_all a s) unknown in
    let from_93 : Acted = cond (number == 93) (ends_by hart (ends.Exit a) s) from_94 in
    let from_64 : Acted = cond (number == 64) (completes hart (writes a b c s)) from_93 in
    either_acted (number == 63) (completes hart (reads a b c s)) from_64 (completes_low hart (reads a b c s) (reads_low a b c s all))
    (either_acted (number == 64) (completes hart (writes a b c s)) from_93 (completes_low hart (writes a b c s) (writes_low a b c s all))
    (either_acted (number == 93) (ends_by hart (ends.Exit a) s) from_94 (ends_low hart (ends.Exit a) s all)
    (either_acted (number == 94) (ends_all a s) unknown (low_group a s.harts all) (answer_low hart (negative 38) s all))))

acted_low : (how : Stepped) (hart : ℕ) (s : MachineState) → AllLow s.harts → AllLow (acts_by how hart s).state.harts
acted_low stepped.Retired hart s all = all
acted_low stepped.Ecall hart s all = call_low hart (holds_in hart s 17) (holds_in hart s 10) (holds_in hart s 11) (holds_in hart s 12) s all
acted_low stepped.Break hart s all = ends_low hart (ends.Break (hart_of s hart).pc) s all
acted_low (stepped.Trap why) hart s all = ends_low hart (ends.Trap why (hart_of s hart).pc) s all

-- ---- the run

after_low : (hart : ℕ) (s : MachineState) → AllLow s.harts → AllLow (state_after hart s).harts
unfolding acts
after_low hart s all =
    let before : State = step_state (hart_of s hart) s.memory in
    let r : State × Stepped = step_of before in
    acted_low r.1 hart (stepped_machine hart r s) (low_set s.harts hart (stepped_hart (hart_of s hart) r) all (step_low before (low_at s.harts hart all)))

final_low : (count hart : ℕ) (s : MachineState) → AllLow s.harts → AllLow (run_slice count hart s).final.harts
unfolding run_slice
final_low zero hart s all = all
final_low (suc count) hart s all =
    elim (is_running (hart_of s hart)) as (λ b. AllLow (cond b (preceded (next_instant hart s ∷ []) (run_slice count hart (state_after hart s))) (finished s)).final.harts) [
      | true ↦ final_low count hart (state_after hart s) (after_low hart s all)
      | false ↦ all
    ]

-- an instruction of one of so many harts, at such an address
abbrev pub IsOf : ℕ → Instant → Type 0
IsOf n i = (i.moment.hart < n) × IsWord i.moment.pc

none_of : (n : ℕ) → All (IsOf n) []
none_of n = λ k d lt. absurd (omega arith)

slice_of : (n count hart : ℕ) (s : MachineState) → hart < n → AllLow s.harts → All (IsOf n) (run_slice count hart s).instants
unfolding run_slice
slice_of n zero hart s lt all = none_of n
slice_of n (suc count) hart s lt all =
    elim (is_running (hart_of s hart)) as (λ b. All (IsOf n) (cond b (preceded (next_instant hart s ∷ []) (run_slice count hart (state_after hart s))) (finished s)).instants) [
      | true ↦ All-cons (IsOf n) (next_instant hart s) (run_slice count hart (state_after hart s)).instants (lt, low_at s.harts hart all) (slice_of n count hart (state_after hart s) lt (after_low hart s all))
      | false ↦ none_of n
    ]

pub slices_of : (n : ℕ) (slices : List Slice) (s : MachineState) → AllByRecursion (λ slice. slice.hart < n) slices → AllLow s.harts → All (IsOf n) (run_slices slices s).instants
unfolding run_slices
slices_of n [] s own all = none_of n
slices_of n (slice ∷ rest) s own all =
    let first : Run = run_slice slice.count slice.hart s in
    All-append (IsOf n) first.instants (run_slices rest first.final).instants (slice_of n slice.count slice.hart s own.0 all) (slices_of n rest first.final own.1 (final_low slice.count slice.hart s all))

-- ---- the samples

-- what cfi_unwind's law says of call paths
abbrev pub PathsHaveFrames : Type 0
PathsHaveFrames = (u : Unwinding) (pc : ℕ) (registers : List ℕ) (words : Words) → HasFrames (unwound_by u pc registers words).frames

abbrev pub PathsHaveWords : Type 0
PathsHaveWords = (u : Unwinding) (pc : ℕ) (registers : List ℕ) (words : Words) → pc < 2 ^ 32 → All HasWord (unwound_by u pc registers words).frames

-- what sample_clock's law says
abbrev pub OfInstructions : Type 0
OfInstructions = (path_of : Paths) (events : List EventPeriod) (instants : List Instant) → All (IsSampleOf path_of events instants) (samples path_of events instants)

-- the column of a hart and of a place is one of the run's
pub column_own : (events harts hart place : ℕ) → hart < harts → place < events → column_of events hart place < harts * events
column_own events harts hart place own below = (let rows : (hart + 1) * events ≤ harts * events = mul-le-mul_right events (let le : hart + 1 ≤ harts = omega (arith, own) in le) in let one : (hart + 1) * events ≡ hart * events + events = grind arith in omega (arith, rows, one, below))

-- what is so of the samples of each instruction, is so of all samples
each_sample_of : OfInstructions → (path_of : Paths) (events : List EventPeriod) (run : Run) (Q : Instant → Type 0) → All Q run.instants → (P : ColumnRaw → Type 0) → ((i : Instant) (place : ℕ) → Q i → place < length events → P (column_raw (length events) (sample_of path_of i place))) → All P (sampled path_of events run)
each_sample_of each path_of events run Q all P holds =
    All-map P (column_raw (length events)) (samples path_of events run.instants)
    (All-weaker (IsSampleOf path_of events run.instants) (λ (s : Sample). P (column_raw (length events) s))
    (λ s is. subst (λ (q : Sample). P (column_raw (length events) q)) (sym is.is) (holds is.instant s.event (All-contains Q run.instants is.instant all is.own) is.event)) (samples path_of events run.instants)
    (each path_of events run.instants))

pub samples_below : OfInstructions → (path_of : Paths) (events : List EventPeriod) (harts : ℕ) (run : Run) → All (λ i. i.moment.hart < harts) run.instants → All (λ s. s.column < run_columns events harts) (sampled path_of events run)
samples_below each path_of events harts run own =
    each_sample_of each path_of events run (λ i. i.moment.hart < harts) own (λ s. s.column < run_columns events harts) (λ i place lt below. column_own (length events) harts i.moment.hart place lt below)

module _ (each : OfInstructions) (u : Unwinding) (events : List EventPeriod) (n : ℕ) (run : Run) (all : All (IsOf n) run.instants) where
  pub samples_own : All (λ s. s.column < run_columns events n) (sampled (unwound_by u) events run)
  samples_own = each_sample_of each (unwound_by u) events run (IsOf n) all (λ s. s.column < run_columns events n) (λ i place is below. column_own (length events) n i.moment.hart place is.0 below)

  pub samples_frames : PathsHaveFrames → All (λ s. HasFrames s.raw.frames) (sampled (unwound_by u) events run)
  samples_frames frames = each_sample_of each (unwound_by u) events run (IsOf n) all (λ s. HasFrames s.raw.frames) (λ i place is below. frames u i.moment.pc i.registers (words_of i.memory))

  pub samples_words : PathsHaveWords → All (λ s. All HasWord s.raw.frames) (sampled (unwound_by u) events run)
  samples_words words = each_sample_of each (unwound_by u) events run (IsOf n) all (λ s. All HasWord s.raw.frames) (λ i place is below. words u i.moment.pc i.registers (words_of i.memory) is.1)
