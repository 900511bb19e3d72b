use Rattle.std.proofs.Common.{◌<◌, ap, length, arith}
use Rattle.std.proofs.lemmas.Option.{slice_get-get_or}
use Rattle.dwarf_info.proofs.info.Info.entries.Goals as goal

pub add_entries-requires-clause-read : goal.add_entries-requires-clause-read
add_entries-requires-clause-read c =
    let lt : c.loop-context.context-index < length c.self.inside.contexts.items = (let l = c.loop-context-test.true in let same = ap length c.as_slice-context-items.ensures.value in omega arith) in
    rw c.as_slice-context-items.ensures.value (c.self.invariant.indexed.read c.loop-context.context-index _ (slice_get-get_or c.self.inside.contexts.items c.loop-context.context-index _ lt))
