use Rattle.std.proofs.Common.{◌<◌, ap, length, arith}
use Rattle.std.proofs.lemmas.Option.{slice_get-get_or}
use Rattle.std.specs.List.{flat_map}
use Rattle.dwarf_info.specs.Sections.{sections_of}
use Rattle.dwarf_info.specs.Units.{entries_in}
use Rattle.dwarf_info.proofs.Outlining.{unit_few, unit_outlined, offsets_ascend}
use Rattle.dwarf_info.proofs.info.Info.outline.Goals as goal

pub add_outline-requires-clause-read : goal.add_outline-requires-clause-read
add_outline-requires-clause-read c =
    let lt : c.loop-context.context-index < length c.self.inside.contexts.items = (let l = c.loop-context-test.true in let same = ap length c.as_slice-context-items.ensures.value in omega arith) in
    rw c.as_slice-context-items.ensures.value (c.self.invariant.indexed.read c.loop-context.context-index _ (slice_get-get_or c.self.inside.contexts.items c.loop-context.context-index _ lt))

pub add_outline-requires-clause-few : goal.add_outline-requires-clause-few
add_outline-requires-clause-few c =
    unit_few (entries_in (sections_of c.self.inside.sections)) c.as_slice-context-items.result.now c.loop-context.context-index _ c.loop-context.outline c.self.inside.offsets
    c.loop-context-test.true c.loop-context.invariant (rw c.as_slice-context-items.ensures.value c.self.invariant.indexed.are) c.self.invariant.few

pub loop-context-preserved : goal.loop-context-preserved
loop-context-preserved c =
    unit_outlined (entries_in (sections_of c.self.inside.sections)) c.as_slice-context-items.result.now c.loop-context.context-index _ c.loop-context.outline c.add_outline.new.outline
    c.loop-context-test.true c.loop-context.invariant c.in_ok-add_outline.ensures

pub returns-in_err-add_outline-clause-ascend : goal.returns-in_err-add_outline-clause-ascend
returns-in_err-add_outline-clause-ascend c =
    rw (← c.self.view_is) (offsets_ascend (flat_map (entries_in (sections_of c.self.inside.sections)) c.self.inside.contexts.items) c.self.inside.offsets c.self.invariant.indexed.are c.self.invariant.ascend)

pub returns-clause-ascend : goal.returns-clause-ascend
returns-clause-ascend c =
    rw (← c.self.view_is) (offsets_ascend (flat_map (entries_in (sections_of c.self.inside.sections)) c.self.inside.contexts.items) c.self.inside.offsets c.self.invariant.indexed.are c.self.invariant.ascend)
