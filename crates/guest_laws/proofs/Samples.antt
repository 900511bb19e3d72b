-- How many samples a run of a guest has.
use Rattle.std.proofs.Common.{ℕ, ◌*◌, ◌≤◌, List, [], ◌∷◌, length, map, All, arith}
use Rattle.std.specs.List.{range_with_len}
use Rattle.std.proofs.lemmas.List.Elements.{All-cons, All-nil}
use Rattle.std.proofs.lemmas.List.FromFn.{length-range_with_len}
use Rattle.scope_types.specs.Events.{retired_every}
use Rattle.rv_run.specs.Schedule.{IsSchedule, IsSlice, instructions}
use Rattle.rv_run.specs.Run.{run_of}
use Rattle.sample_clock.specs.Samples.{Paths, samples}
use Rattle.guest_gen.specs.Draws.{draw_state}
use Rattle.guest_gen.specs.Code.{function_count}
use Rattle.guest_gen.specs.Guest.{guest_of, slices}
use Rattle.guest_laws.specs.Read.{drawn_slice, drawn_slices, guest_image, guest_scheduled, most_guest_samples, slice_at}
use Rattle.guest_laws.proofs.Runs.{few-samples, instructions-cons}

one-slice : (s : ℕ) → IsSlice 4 (drawn_slice s)
one-slice s = record { hart = omega arith; count = omega arith }

each-slice : (s : ℕ) (js : List ℕ) → All (IsSlice 4) (map (slice_at s) js)
unfolding slice_at
each-slice s [] = All-nil (IsSlice 4)
each-slice s (j ∷ js) = All-cons (IsSlice 4) (drawn_slice (draw_state (2 * j) s)) (map (slice_at s) js) (one-slice (draw_state (2 * j) s)) (each-slice s js)

short-slices : (s : ℕ) (js : List ℕ) → instructions (map (slice_at s) js) ≤ 997 * length js
unfolding slice_at
short-slices s [] = omega arith
short-slices s (j ∷ js) =
    let all = instructions-cons (drawn_slice (draw_state (2 * j) s)) (map (slice_at s) js) in
    let more = short-slices s js in
    omega (arith, all, more)

slices-short : (s count : ℕ) → instructions (drawn_slices s count) ≤ 997 * count
unfolding drawn_slices
slices-short s count = (let many = length-range_with_len 0 count in let all = short-slices s (range_with_len 0 count) in omega (arith, many, all))

slices-each : (s count : ℕ) → All (IsSlice 4) (drawn_slices s count)
unfolding drawn_slices
slices-each s count = each-slice s (range_with_len 0 count)

is-schedule : (number : ℕ) → IsSchedule (guest_scheduled number)
is-schedule number =
    let s : ℕ = draw_state (3 * function_count) number in
    let all = slices-short (draw_state (3 * function_count) number) slices in
    record {
      some = omega arith;
      few = omega arith;
      slices = slices-each (draw_state (3 * function_count) number) slices;
      instructions = omega (arith, all);
    }

pub guests-have-few-samples : (number : ℕ) (path_of : Paths) → length (samples path_of (retired_every (guest_of number).period) (run_of (guest_image number) (guest_scheduled number) (guest_of number).input).instants) ≤ most_guest_samples
guests-have-few-samples number path_of =
    let all = slices-short (draw_state (3 * function_count) number) slices in
    let few = few-samples path_of 97 (guest_image number) (guest_scheduled number) (guest_of number).input (omega arith) (is-schedule number) in
    omega (arith, all, few)
