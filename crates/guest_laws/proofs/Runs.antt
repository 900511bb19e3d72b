-- How many samples a run has.
use Rattle.std.proofs.Common.{◌≡◌, ℕ, zero, suc, ◌+◌, ◌*◌, ◌%◌, ◌<◌, ◌≤◌, ◌==◌, ◌&&◌, inl, inr, Bool, true, false, cond, List, [], ◌∷◌, ◌++◌, length, map, All, refl, ap, ◌∙◌, arith, append_assoc, mul-suc, mul-zero, mod-eq_of_lt, eqb-true}
use Rattle.std.specs.Prelude.{flat_map}
use Rattle.std.proofs.Math.Nat.{mul-add}
use Rattle.std.proofs.lemmas.Bool.{cases_lt}
use Rattle.std.proofs.lemmas.Bool.Decides.{eqb_tells}
use Rattle.std.proofs.lemmas.List.{append-nil, length-append}
use Rattle.std.proofs.lemmas.List.Elements.{All-head, All-tail}
use Rattle.std.proofs.lemmas.List.Sums.{sum_by-cons}
use Rattle.elf_image.specs.Image.{ProgramImage}
use Rattle.scope_types.specs.declared.event.Event.TheVariants.{Retired}
use Rattle.scope_types.specs.declared.event.EventPeriod.{EventPeriod}
use Rattle.scope_types.specs.Events.{retired_every}
use Rattle.rv_run.specs.declared.schedule.Slice.{Slice}
use Rattle.rv_run.specs.Schedule.{IsSchedule, Scheduled, instructions, slice_count}
use Rattle.rv_run.specs.State.{MachineState, first_state, hart_of, is_running}
use Rattle.rv_run.specs.Run.{Instant, finished, next_instant, preceded, run_of, run_slice, run_slices, state_after}
use Rattle.rv_run.specs.Progress.{plus_one}
use Rattle.rv_run.proofs.Ending.{instants_told}
use Rattle.sample_clock.specs.declared.clock.Sample.{Sample}
use Rattle.sample_clock.specs.Samples.{Paths, none_earlier, placed, sample_of, samples, samples_at}
use Rattle.sample_clock.proofs.RetiredSamples.{next-remainder, other-hart, own-hart, retired_of}

-- ---- one instruction

-- a period for an instruction that is sampled, by whether it retires
paid-step : (period r : ℕ) (retired : Bool) → 0 < period → cond (retired && ((r + 1) % period == 0)) period 0 + plus_one retired r % period ≤ r % period + 1
paid-step period r false some = omega arith
paid-step period r true some = elim (next-remainder period r some) [ inl up ↦ on_up up ((r + 1) % period == 0) refl | inr back ↦ on_back back.0 back.1 ((r + 1) % period == 0) ]
  where
    on_up : (r + 1) % period ≡ r % period + 1 → (t : Bool) → ((r + 1) % period == 0) ≡ t → cond t period 0 + (r + 1) % period ≤ r % period + 1
    on_up up true e = (let zero_left = eqb-true ((r + 1) % period) 0 e in absurd (omega (arith, up, zero_left)))
    on_up up false e = omega (arith, up)

    on_back : (r + 1) % period ≡ 0 → r % period + 1 ≡ period → (t : Bool) → cond t period 0 + (r + 1) % period ≤ r % period + 1
    on_back at last true = omega (arith, at, last)
    on_back at last false = omega (arith, at)

-- ---- what is owed

-- those that the first harts retired since their last samples
owed : ℕ → ℕ → List Instant → ℕ
owed period zero instants = 0
owed period (suc n) instants = retired_of n instants % period + owed period n instants

nothing-owed : (period n : ℕ) → 0 < period → owed period n [] ≡ 0
unfolding owed
nothing-owed period zero some = refl
nothing-owed period (suc n) some =
    let none : 0 % period ≡ 0 = mod-eq_of_lt some in
    let more = nothing-owed period n some in
    omega (arith, none, more)

others-owed : (period n : ℕ) (before : List Instant) (i : Instant) → n ≤ i.moment.hart → owed period n (before ++ i ∷ []) ≡ owed period n before
unfolding owed
others-owed period zero before i above = refl
others-owed period (suc n) before i above =
    let first = ap (λ (r : ℕ). r % period) (other-hart n before i (λ e. omega (arith, above, e))) in
    let rest = others-owed period n before i (omega (arith, above)) in
    omega (arith, first, rest)

one-owed : (period n : ℕ) (before : List Instant) (i : Instant) → i.moment.hart < n
    → owed period n (before ++ i ∷ []) + retired_of i.moment.hart before % period ≡ owed period n before + plus_one i.moment.retired (retired_of i.moment.hart before) % period
unfolding owed
one-owed period zero before i within = absurd (omega (arith, within))
one-owed period (suc n) before i within = elim (eqb_tells i.moment.hart n) [ inl h ↦ here h.1 | inr h ↦ before_it h.1 (one-owed period n before i) ]
  where
    here : i.moment.hart ≡ n → owed period (suc n) (before ++ i ∷ []) + retired_of i.moment.hart before % period ≡ owed period (suc n) before + plus_one i.moment.retired (retired_of i.moment.hart before) % period
    here is =
        let own : retired_of n (before ++ i ∷ []) % period ≡ plus_one i.moment.retired (retired_of n before) % period = ap (λ (r : ℕ). r % period) (own-hart n before i is) in
        let same : retired_of i.moment.hart before % period ≡ retired_of n before % period = ap (λ (h : ℕ). retired_of h before % period) is in
        let more : plus_one i.moment.retired (retired_of i.moment.hart before) % period ≡ plus_one i.moment.retired (retired_of n before) % period = ap (λ (h : ℕ). plus_one i.moment.retired (retired_of h before) % period) is in
        let rest = others-owed period n before i (omega (arith, is)) in
        omega (arith, own, same, more, rest)

    before_it : ¬ (i.moment.hart ≡ n)
        → (i.moment.hart < n → owed period n (before ++ i ∷ []) + retired_of i.moment.hart before % period ≡ owed period n before + plus_one i.moment.retired (retired_of i.moment.hart before) % period)
        → owed period (suc n) (before ++ i ∷ []) + retired_of i.moment.hart before % period ≡ owed period (suc n) before + plus_one i.moment.retired (retired_of i.moment.hart before) % period
    before_it apart rest =
        let first = ap (λ (r : ℕ). r % period) (other-hart n before i apart) in
        let less : i.moment.hart < n = elim (cases_lt i.moment.hart n) [ inl below ↦ below | inr above ↦ absurd (apart (let same : i.moment.hart ≡ n = omega (arith, within, above) in same)) ] in
        let more = rest less in
        omega (arith, first, more)

-- ---- many instructions

module _ (path_of : Paths) (period : ℕ) (some : 0 < period) where
  -- the samples of an instruction, of which there is one at most
  abbrev here : List Instant → Instant → List Sample
  here before i = samples_at path_of none_earlier (retired_every period) (record { before = before; instant = i })

  count-here : (before : List Instant) (i : Instant) → period * length (here before i) ≡ cond (i.moment.retired && ((retired_of i.moment.hart before + 1) % period == 0)) period 0
  count-here before i =
      ap (λ (n : ℕ). period * length (map (sample_of path_of i) (map (λ (e : ℕ × EventPeriod). e.0) (cond ((i.moment.retired && true) && ((n + 1) % period == 0)) ((0, record { event = Retired; period = period }) ∷ []) []))))
      (let same : 0 + retired_of i.moment.hart before ≡ retired_of i.moment.hart before = omega arith in same)
      ∙ by_test i.moment.retired ((retired_of i.moment.hart before + 1) % period == 0)
    where
      by_test : (r t : Bool) → period * length (map (sample_of path_of i) (map (λ (e : ℕ × EventPeriod). e.0) (cond ((r && true) && t) ((0, record { event = Retired; period = period }) ∷ []) []))) ≡ cond (r && t) period 0
      by_test true true = (let one = mul-suc period 0 in let none = mul-zero period in omega (arith, one, none))
      by_test true false = mul-zero period
      by_test false t = mul-zero period

  all-owed : (n : ℕ) (before xs : List Instant) → All (λ (i : Instant). i.moment.hart < n) xs
      → period * length (flat_map (samples_at path_of none_earlier (retired_every period)) (placed before xs)) + owed period n (before ++ xs) ≤ owed period n before + length xs
  unfolding placed
  all-owed n before [] within =
      let none = mul-zero period in
      let same = ap (owed period n) (append-nil before) in
      omega (arith, none, same)
  all-owed n before (i ∷ xs) within =
      let rest = all-owed n (before ++ i ∷ []) xs (All-tail (λ (j : Instant). j.moment.hart < n) i xs within) in
      let moved = one-owed period n before i (All-head (λ (j : Instant). j.moment.hart < n) i xs within) in
      let paid = paid-step period (retired_of i.moment.hart before) i.moment.retired some in
      let one = count-here before i in
      let long : length (here before i ++ flat_map (samples_at path_of none_earlier (retired_every period)) (placed (before ++ i ∷ []) xs)) ≡ length (here before i) + length (flat_map (samples_at path_of none_earlier (retired_every period)) (placed (before ++ i ∷ []) xs)) =
      length-append (here before i) (flat_map (samples_at path_of none_earlier (retired_every period)) (placed (before ++ i ∷ []) xs)) in
      let times = ap (λ (k : ℕ). period * k) long in
      let split = mul-add period (length (here before i)) (length (flat_map (samples_at path_of none_earlier (retired_every period)) (placed (before ++ i ∷ []) xs))) in
      let same = ap (owed period n) (append_assoc before (i ∷ []) xs) in
      omega (arith, rest, moved, paid, one, times, split, same)

-- ---- a run

slice-long : (count hart : ℕ) (s : MachineState) → length (run_slice count hart s).instants ≤ count
unfolding run_slice
slice-long zero hart s = omega arith
slice-long (suc count) hart s =
    let more = slice-long count hart (state_after hart s) in
    elim (is_running (hart_of s hart)) as (λ t. length (cond t (preceded (next_instant hart s ∷ []) (run_slice count hart (state_after hart s))) (finished s)).instants ≤ suc count)
    [ true ↦ omega (arith, more) | false ↦ omega arith ]

pub instructions-cons : (slice : Slice) (slices : List Slice) → instructions (slice ∷ slices) ≡ slice.count + instructions slices
instructions-cons slice slices = sum_by-cons (λ n. n) slice.count (map slice_count slices)

slices-long : (slices : List Slice) (s : MachineState) → length (run_slices slices s).instants ≤ instructions slices
unfolding run_slices
slices-long [] s = omega arith
slices-long (slice ∷ slices) s =
    let one = slice-long slice.count slice.hart s in
    let more = slices-long slices (run_slice slice.count slice.hart s).final in
    let all = instructions-cons slice slices in
    let long = length-append (run_slice slice.count slice.hart s).instants (run_slices slices (run_slice slice.count slice.hart s).final).instants in
    omega (arith, one, more, all, long)

pub few-samples : (path_of : Paths) (period : ℕ) (image : ProgramImage) (schedule : Scheduled) (input : List ℕ) → 0 < period → IsSchedule schedule
    → period * length (samples path_of (retired_every period) (run_of image schedule input).instants) ≤ instructions schedule.slices
few-samples path_of period image schedule input some is =
    let long = slices-long schedule.slices (first_state image schedule.harts input) in
    let within = instants_told image schedule input schedule.harts (first_state image schedule.harts input) schedule.slices is refl refl refl in
    let none = nothing-owed period schedule.harts some in
    let all = all-owed path_of period some schedule.harts [] (run_of image schedule input).instants within in
    omega (arith, long, none, all)
