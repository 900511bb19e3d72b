use Rattle.std.proofs.Common.{◌++◌, ◌∙◌, ap}
use Rattle.prof_bytes.specs.Number.{number_bytes}
use Rattle.trace_lines.specs.Traces.{distinct_paths}
use Rattle.trace_lines.specs.Spelling.{places_bytes, traced_paths_bytes}
use Rattle.trace_lines.proofs.Writing.{three_parts}
use Rattle.trace_lines.proofs.write.put_hart.Goals as goal

pub returns : goal.returns
returns c =
    let h = c.args.hart.now in
    three_parts _ _ _ _ (number_bytes 8 h.retired) (traced_paths_bytes (distinct_paths h.samples)) (places_bytes (distinct_paths h.samples) h.samples)
    (c.in_ok-put_u64.ensures.ok ∙ ap (λ n. c.args.out.now.items ++ number_bytes 8 n) c.retired.ensures) c.in_ok-put_paths.ensures c.in_ok-put_places.ensures
