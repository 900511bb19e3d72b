use Rattle.std.proofs.Common.{List, sym}
use Rattle.std.proofs.lemmas.Option.{slice_get_within, get_or_from_slice_get}
use Rattle.scope_types.specs.Raw.{Raw}
use Rattle.trace_lines.specs.Traces.{distinct_paths}
use Rattle.trace_lines.specs.Spelling.{traced_path_bytes}
use Rattle.prof_bytes.proofs.Appending.{append_more}
use Rattle.trace_lines.proofs.write.put_each_path.Goals as goal

pub loop-place-preserved : goal.loop-place-preserved
loop-place-preserved c =
    let paths : List Raw = distinct_paths c.args.hart.now.samples in
    let raw : Raw = c.path.result.now in
    append_more traced_path_bytes _ _ _ paths c.loop-place.place raw (slice_get_within paths c.loop-place.place raw c.path.ensures) (sym (get_or_from_slice_get paths c.loop-place.place raw raw c.path.ensures)) c.loop-place.invariant c.in_ok-put_path.ensures
