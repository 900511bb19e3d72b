-- The harts at the end of a run are those at its start.
use Rattle.std.proofs.Common.{◌≡◌, ℕ, zero, suc, ◌<◌, true, false, cond, List, [], ◌∷◌, length, refl, sym, ap, subst, ◌∙◌, arith}
use Rattle.std.specs.List.{All, AllByRecursion}
use Rattle.std.proofs.lemmas.List.Elements.{All-append, All-cons, recursion_from_All}
use Rattle.std.proofs.lemmas.List.FromFn.{length-map-range_with_len}
use Rattle.elf_image.specs.Image.{ProgramImage}
use Rattle.rv_run.specs.declared.schedule.Slice.{Slice}
use Rattle.rv_run.specs.Schedule.{Scheduled, IsSchedule}
use Rattle.rv_run.specs.State.{MachineState, first_hart, first_state, hart_of, is_running}
use Rattle.rv_run.specs.Run.{Instant, Run, finished, preceded, next_instant, state_after, run_slice, run_slices}
use Rattle.rv_run.specs.private.Queue.{AreOfHarts}
use Rattle.rv_run.proofs.Counting.{acts-count}
use Rattle.rv_run.proofs.Ranges.{ready-is}

after_slice : (count hart : ℕ) (s : MachineState) → hart < length s.harts → length (run_slice count hart s).final.harts ≡ length s.harts
unfolding run_slice
after_slice zero hart s within = refl
after_slice (suc count) hart s within =
    let same : length (state_after hart s).harts ≡ length s.harts = (acts-count hart s within).harts in
    elim (is_running (hart_of s hart)) as (λ b. length (cond b (preceded (next_instant hart s ∷ []) (run_slice count hart (state_after hart s))) (finished s)).final.harts ≡ length s.harts) [
      | true ↦ after_slice count hart (state_after hart s) (omega (arith, within, same)) ∙ same
      | false ↦ refl
    ]

after_slices : (slices : List Slice) (s : MachineState) → AllByRecursion (λ slice. slice.hart < length s.harts) slices → length (run_slices slices s).final.harts ≡ length s.harts
unfolding run_slices
after_slices [] s all = refl
after_slices (slice ∷ rest) s all =
    let same : length (run_slice slice.count slice.hart s).final.harts ≡ length s.harts = after_slice slice.count slice.hart s all.0 in
    after_slices rest (run_slice slice.count slice.hart s).final (subst (λ (n : ℕ). AllByRecursion (λ slice. slice.hart < n) rest) (sym same) all.1) ∙ same

pub harts_stay : (slices : List Slice) (s : MachineState) → AreOfHarts (length s.harts) slices → length (run_slices slices s).final.harts ≡ length s.harts
harts_stay slices s all = after_slices slices s (recursion_from_All (λ (slice : Slice). slice.hart < length s.harts) slices all)

-- a machine at its start: as many stand at the end of its run as its schedule tells
pub harts_told : (program : ProgramImage) (schedule : Scheduled) (input : List ℕ) (harts : ℕ) (environment : MachineState) (left : List Slice) → IsSchedule schedule → harts ≡ schedule.harts → environment ≡ first_state program harts input → left ≡ schedule.slices
    → length (run_slices left environment).final.harts ≡ schedule.harts
harts_told program schedule input harts environment left is few state slices =
    harts_stay left environment (ready-is program schedule input harts environment left is few state slices).harts
    ∙ ap (λ (s : MachineState). length s.harts) state ∙ length-map-range_with_len (first_hart program.entry harts) 0 harts ∙ few

-- ---- each instruction of a run is one of its harts'

none_of : (n : ℕ) → All (λ (i : Instant). i.moment.hart < n) []
none_of n = λ k d lt. absurd (omega arith)

of_slice : (n count hart : ℕ) (s : MachineState) → hart < n → All (λ (i : Instant). i.moment.hart < n) (run_slice count hart s).instants
unfolding run_slice
of_slice n zero hart s lt = none_of n
of_slice n (suc count) hart s lt =
    elim (is_running (hart_of s hart)) as (λ b. All (λ (i : Instant). i.moment.hart < n) (cond b (preceded (next_instant hart s ∷ []) (run_slice count hart (state_after hart s))) (finished s)).instants) [
      | true ↦ All-cons (λ (i : Instant). i.moment.hart < n) (next_instant hart s) (run_slice count hart (state_after hart s)).instants lt (of_slice n count hart (state_after hart s) lt)
      | false ↦ none_of n
    ]

of_slices : (n : ℕ) (slices : List Slice) (s : MachineState) → AllByRecursion (λ slice. slice.hart < n) slices → All (λ (i : Instant). i.moment.hart < n) (run_slices slices s).instants
unfolding run_slices
of_slices n [] s all = none_of n
of_slices n (slice ∷ rest) s all =
    let first : Run = run_slice slice.count slice.hart s in
    All-append (λ (i : Instant). i.moment.hart < n) first.instants (run_slices rest first.final).instants (of_slice n slice.count slice.hart s all.0) (of_slices n rest first.final all.1)

pub instants_told : (program : ProgramImage) (schedule : Scheduled) (input : List ℕ) (harts : ℕ) (environment : MachineState) (left : List Slice) → IsSchedule schedule → harts ≡ schedule.harts → environment ≡ first_state program harts input → left ≡ schedule.slices
    → All (λ (i : Instant). i.moment.hart < schedule.harts) (run_slices left environment).instants
instants_told program schedule input harts environment left is few state slices =
    let many : length environment.harts ≡ schedule.harts = ap (λ (s : MachineState). length s.harts) state ∙ length-map-range_with_len (first_hart program.entry harts) 0 harts ∙ few in
    of_slices schedule.harts left environment
    (recursion_from_All (λ (slice : Slice). slice.hart < schedule.harts) left (subst (λ (n : ℕ). AreOfHarts n left) many (ready-is program schedule input harts environment left is few state slices).harts))
