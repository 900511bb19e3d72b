-- What is read where all harts were read, or one of them is at fault.
use Rattle.std.proofs.Common.{◌≡◌, ℕ, ◌<◌, ◌≤◌, List, [], length, Ok, Err, refl}
use Rattle.std.proofs.lemmas.Bool.{le-ltb, lt-ltb}
use Rattle.prof_bytes.specs.declared.fail.Fail.{Fail}
use Rattle.prof_bytes.specs.declared.fail.Fail.TheVariants as fails
use Rattle.prof_bytes.specs.Outcome.{FailsBy}
use Rattle.prof_bytes.specs.Reading.{At, left_of}
use Rattle.prof_bytes.specs.Repeated.{times}
use Rattle.scope_types.specs.Raw.{Raw}
use Rattle.trace_lines.specs.declared.fault.TraceFault.{TraceFault}
use Rattle.trace_lines.specs.Traces.{HartTrace}
use Rattle.trace_lines.specs.Fields.{fault_at, word_from}
use Rattle.trace_lines.specs.Reading.{hart_from, harts_from, traced_path_from, traced_paths_from}

pub paths_fail : (frames count : ℕ) (at next : At) (fail : Fail TraceFault) → word_from at ≡ Ok (count, next) → FailsBy fail (times (λ i. traced_path_from frames) count 0 [] next) → FailsBy fail (traced_paths_from frames at)
unfolding traced_paths_from
paths_fail frames count at next (fails.Memory memory) counted is = tt
paths_fail frames count at next (fails.Fault fault) counted is = rw counted is

pub paths_whole : (frames count : ℕ) (at next end : At) (paths : List Raw) → word_from at ≡ Ok (count, next) → times (λ i. traced_path_from frames) count 0 [] next ≡ Ok (paths, end) → traced_paths_from frames at ≡ Ok (paths, end)
unfolding traced_paths_from
paths_whole frames count at next end paths counted is = rw counted is

pub harts_fail : (period count : ℕ) (at : At) (fail : Fail TraceFault) → FailsBy fail (times (λ i. hart_from period) count 0 [] at) → FailsBy fail (harts_from period count at)
unfolding harts_from
harts_fail period count at (fails.Memory memory) is = tt
harts_fail period count at (fails.Fault fault) is = rw is refl

pub harts_longer : (period count : ℕ) (at end : At) (harts : List HartTrace) → times (λ i. hart_from period) count 0 [] at ≡ Ok (harts, end) → 0 < length (left_of end) → harts_from period count at ≡ Err (fault_at end.offset)
unfolding harts_from
harts_longer period count at end harts is more = rw (is, lt-ltb 0 (length (left_of end)) more) refl

pub harts_whole : (period count : ℕ) (at end : At) (harts : List HartTrace) → times (λ i. hart_from period) count 0 [] at ≡ Ok (harts, end) → length (left_of end) ≤ 0 → harts_from period count at ≡ Ok harts
unfolding harts_from
harts_whole period count at end harts is none = rw (is, le-ltb 0 (length (left_of end)) none) refl
