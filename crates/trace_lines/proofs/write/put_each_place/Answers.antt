use Rattle.std.proofs.Common.{◌<◌, List, ◌++◌, ◌∙◌, ap, length, arith}
use Rattle.std.proofs.lemmas.List.{get_or_default}
use Rattle.prof_bytes.specs.Number.{word}
use Rattle.scope_types.specs.Raw.{Raw}
use Rattle.trace_lines.specs.Reading.{path_at}
use Rattle.trace_lines.specs.Traces.{distinct_paths}
use Rattle.trace_lines.specs.Spelling.{place_among}
use Rattle.prof_bytes.proofs.Appending.{append_more}
use Rattle.trace_lines.proofs.write.put_each_place.Goals as goal

pub loop-sample-preserved : goal.loop-sample-preserved
loop-sample-preserved c =
    let samples : List Raw = c.args.hart.now.samples in
    let many = c.samples-sample-end.ensures.samples in
    let test = c.loop-sample-test.true in
    let own : c.loop-sample.sample < length samples = omega (arith, many, test) in
    append_more (λ (raw : Raw). word (place_among (distinct_paths samples) raw)) _ _ _ samples c.loop-sample.sample (path_at samples c.loop-sample.sample) own (get_or_default _ _ _ _ own) c.loop-sample.invariant
    (c.in_ok-put_u32.ensures.ok ∙ ap (λ n. c.loop-sample.out.items ++ word n) c.place.ensures.place)
