use Rattle.std.proofs.Common.{◌∙◌, []}
use Rattle.dwarf_forms.specs.Lists.{list_from}
use Rattle.dwarf_info.specs.Sections.{sections_of}
use Rattle.dwarf_info.specs.Ranges.{range_entry_from, list_ranges}
use Rattle.dwarf_info.proofs.RangeLists.{behind, goes_on, closes, stops, runs_out, nothing_behind}
use Rattle.dwarf_info.proofs.ranges.read_range_list.Goals as goal

pub returns-in-Err : goal.returns-in-Err
returns-in-Err c =
    let item = range_entry_from (sections_of c.args.sections.now) c.args.addr_base in
    let all = list_ranges c.args.start (list_from item c.left-room.result c.args.reader.now) in
    rw (← c.left-room.ensures) (stops c.in-Err.field-0 item c.loop.pairs.items c.loop.base c.left-room.result c.loop.counter c.loop.reader (behind [] all) c.loop-test.true c.in-Err.ensures c.loop.invariant ∙ nothing_behind all)

pub returns-in-Ok-None : goal.returns-in-Ok-None
returns-in-Ok-None c =
    let item = range_entry_from (sections_of c.args.sections.now) c.args.addr_base in
    let all = list_ranges c.args.start (list_from item c.left-room.result c.args.reader.now) in
    rw (← c.left-room.ensures) (closes item c.loop.pairs.items c.loop.base c.left-room.result c.loop.counter c.loop.reader c.range_entry.new.reader (behind [] all) c.loop-test.true (rw c.in-Ok-None.field-0-is at c.in-Ok-None.ensures) c.loop.invariant ∙ nothing_behind all)

pub loop-preserved : goal.loop-preserved
loop-preserved c =
    let item = range_entry_from (sections_of c.args.sections.now) c.args.addr_base in
    let all = list_ranges c.args.start (list_from item c.left-room.result c.args.reader.now) in
    rw (c.in_ok-base-in-Ok-Some.ensures.base, c.in_ok-base-in-Ok-Some.ensures.pairs) (goes_on item c.loop.pairs.items c.loop.base c.left-room.result c.loop.counter c.loop.reader c.range_entry.new.reader c.in-Ok-Some.entry (behind [] all) c.loop-test.true (rw c.in-Ok-Some.field-0-is at c.in-Ok-Some.ensures) c.loop.invariant)

pub returns : goal.returns
returns c =
    let item = range_entry_from (sections_of c.args.sections.now) c.args.addr_base in
    let all = list_ranges c.args.start (list_from item c.left-room.result c.args.reader.now) in
    rw (← c.left-room.ensures) (runs_out item c.loop.pairs.items c.loop.base c.left-room.result c.loop.counter c.loop.reader (behind [] all) c.loop-test.false c.loop.invariant ∙ nothing_behind all)
