use Rattle.std.proofs.Common.{◌≡◌, ◌∙◌, ◌-◌, ◌++◌, [], Some, None, Option, refl, sym, ap, arith}
use Rattle.std.specs.Prelude.{unwrap_or}
use Rattle.std.specs.List.{list_any}
use Rattle.std.proofs.lemmas.List.Folds.{list_any-append}
use Rattle.dwarf_forms.specs.Lists.{list_from}
use Rattle.dwarf_info.specs.Sections.{sections_of}
use Rattle.dwarf_info.specs.Ranges.{holds_within, range_entry_from, list_ranges, ranges_by}
use Rattle.dwarf_info.proofs.RangeLists.{Pairs, behind, goes_on, closes, stops, runs_out, nothing_behind}
use Rattle.dwarf_info.proofs.range_holds.list_holds.Goals as goal

pub loop-init : goal.loop-init
loop-init c =
    let all : c.left-room.result - 0 ≡ c.left-room.result = omega arith in
    record { front = []; held = refl; read = rw all refl }

pub returns-in-Err : goal.returns-in-Err
returns-in-Err c =
    let item = range_entry_from (sections_of c.args.sections.now) c.args.place.addr_base in
    let all = list_ranges c.args.place.base (list_from item c.left-room.result c.args.reader.now) in
    let none : None ≡ all = stops c.in-Err.field-0 item c.loop.invariant.front c.loop.base c.left-room.result c.loop.counter c.loop.reader (behind [] all) c.loop-test.true c.in-Err.ensures c.loop.invariant.read ∙ nothing_behind all in
    rw (← c.left-room.ensures) (ap (λ (o : Option Pairs). list_any (holds_within c.args.within c.args.address) (unwrap_or o [])) none)

pub returns-in-Ok-None : goal.returns-in-Ok-None
returns-in-Ok-None c =
    let item = range_entry_from (sections_of c.args.sections.now) c.args.place.addr_base in
    let all = list_ranges c.args.place.base (list_from item c.left-room.result c.args.reader.now) in
    let some : Some c.loop.invariant.front ≡ all = closes item c.loop.invariant.front c.loop.base c.left-room.result c.loop.counter c.loop.reader c.range_entry.new.reader (behind [] all) c.loop-test.true (rw c.in-Ok-None.field-0-is at c.in-Ok-None.ensures) c.loop.invariant.read ∙ nothing_behind all in
    c.loop.invariant.held ∙ rw (← c.left-room.ensures) (ap (λ (o : Option Pairs). list_any (holds_within c.args.within c.args.address) (unwrap_or o [])) some)

pub loop-preserved : goal.loop-preserved
loop-preserved c =
    let item = range_entry_from (sections_of c.args.sections.now) c.args.place.addr_base in
    let all = list_ranges c.args.place.base (list_from item c.left-room.result c.args.reader.now) in
    let test = holds_within c.args.within c.args.address in
    record {
      front = c.loop.invariant.front ++ ranges_by c.loop.base c.in-Ok-Some.entry;
      held = rw (c.loop.invariant.held, c.entry_holds-next.ensures.held) (sym (list_any-append test c.loop.invariant.front (ranges_by c.loop.base c.in-Ok-Some.entry)));
      read = rw c.entry_holds-next.ensures.base (goes_on item c.loop.invariant.front c.loop.base c.left-room.result c.loop.counter c.loop.reader c.range_entry.new.reader c.in-Ok-Some.entry (behind [] all) c.loop-test.true (rw c.in-Ok-Some.field-0-is at c.in-Ok-Some.ensures) c.loop.invariant.read);
    }

pub returns : goal.returns
returns c =
    let item = range_entry_from (sections_of c.args.sections.now) c.args.place.addr_base in
    let all = list_ranges c.args.place.base (list_from item c.left-room.result c.args.reader.now) in
    let none : None ≡ all = runs_out item c.loop.invariant.front c.loop.base c.left-room.result c.loop.counter c.loop.reader (behind [] all) c.loop-test.false c.loop.invariant.read ∙ nothing_behind all in
    rw (← c.left-room.ensures) (ap (λ (o : Option Pairs). list_any (holds_within c.args.within c.args.address) (unwrap_or o [])) none)
