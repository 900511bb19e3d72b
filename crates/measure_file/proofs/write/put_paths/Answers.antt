use Rattle.std.proofs.Common.{List, sym}
use Rattle.std.proofs.lemmas.Option.{slice_get_within, get_or_from_slice_get}
use Rattle.scope_types.specs.declared.frame.Counted.{Counted}
use Rattle.thread_cct.specs.Adding.{of_column}
use Rattle.measure_file.specs.Spelling.{path_bytes}
use Rattle.prof_bytes.proofs.Appending.{append_more}
use Rattle.measure_file.proofs.write.put_paths.Goals as goal

pub loop-index-preserved : goal.loop-index-preserved
loop-index-preserved c =
    let paths : List Counted = of_column c.args.ccts.now c.args.column in
    let counted : Counted = c.in_ok-counted.counted in
    append_more path_bytes _ _ _ paths c.loop-index.index counted (slice_get_within paths c.loop-index.index counted c.in_ok-counted.ensures)
    (sym (get_or_from_slice_get paths c.loop-index.index counted counted c.in_ok-counted.ensures)) c.loop-index.invariant c.in_ok-put_path.ensures
