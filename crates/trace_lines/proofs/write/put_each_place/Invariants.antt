use Rattle.std.proofs.Common.{◌≡◌, ◌++◌, take}
use Rattle.std.specs.List.{flat_map}
use Rattle.prof_bytes.specs.Number.{word}
use Rattle.scope_types.specs.Raw.{Raw}
use Rattle.trace_lines.specs.Traces.{distinct_paths}
use Rattle.trace_lines.specs.Spelling.{place_among}
use Rattle.trace_lines.proofs.write.put_each_place.Given as goal

abbrev pub invariant-loop-sample : goal.invariant-loop-sample
invariant-loop-sample l =
    l.out.items ≡ l.fn.out.items ++ flat_map (λ (raw : Raw). word (place_among (distinct_paths l.hart.samples) raw)) (take l.sample l.hart.samples)
