use Rattle.std.proofs.Common.{rules, ◌≡◌, ◌∙◌, ◌-◌, ◌+◌, sym, ap, length, Err, arith, length-drop}
use Rattle.std.specs.Prelude.{option_to_list}
use Rattle.dwarf_forms.specs.Runs.{run_from}
use Rattle.dwarf_forms.proofs.Runs.{goes_on, is_done, is_spent, fails_at}
use Rattle.dwarf_info.specs.Entries.{entry_from, entries_from}
use Rattle.dwarf_info.proofs.Marks.{one_passed, all_passed, begins_behind, some_below}
use Rattle.dwarf_info.proofs.entries.mark_entries.Goals as goal

pub returns-then-left-eq0-clause-entries : goal.returns-then-left-eq0-clause-entries
returns-then-left-eq0-clause-entries c =
    let step = entry_from c.args.table.now c.args.«unit» in
    let total = run_from step c.left-room.result 0 c.args.reader.now in
    let p = c.loop.invariant.passed in
    rw (← c.left-room.ensures) (all_passed (run_from step (c.left-room.result - c.loop.counter) c.loop.depth c.loop.reader) total c.args.starts.now.offsets c.loop.starts.offsets c.loop.first p
    (is_done step p.entries c.left-room.result c.loop.counter c.loop.depth c.loop.reader total c.loop-test.true (search rules) p.read))

pub returns-in_err-entry-clause-entries : goal.returns-in_err-entry-clause-entries
returns-in_err-entry-clause-entries c =
    let step = entry_from c.args.table.now c.args.«unit» in
    let p = c.loop.invariant.passed in
    let failed : entries_from c.args.table.now c.args.«unit» c.args.reader.now ≡ Err c.in_err-entry.field-0.0 =
    rw (← c.left-room.ensures) (fails_at c.in_err-entry.field-0.0 step p.entries c.left-room.result c.loop.counter c.loop.depth c.loop.reader (run_from step c.left-room.result 0 c.args.reader.now)
    c.loop-test.true (search rules) (sym c.in_err-entry.ensures.entry) p.read) in
    search rules

pub loop-preserved : goal.loop-preserved
loop-preserved c =
    let step = entry_from c.args.table.now c.args.«unit» in
    let total = run_from step c.left-room.result 0 c.args.reader.now in
    let p = c.loop.invariant.passed in
    let on = begins_behind c.args.table.now c.args.«unit» c.loop.depth c.loop.reader c.read_entry.new.reader (option_to_list c.in_ok-entry.entry) c.in_ok-entry.below (sym c.in_ok-entry.ensures.entry) c.in_ok-entry.ensures.keeps in
    record {
      passed = one_passed (run_from step (c.left-room.result - c.loop.counter) c.loop.depth c.loop.reader) (run_from step (c.left-room.result - (c.loop.counter + 1)) c.in_ok-entry.below c.read_entry.new.reader) total
          c.args.starts.now.offsets c.loop.starts.offsets c.mark_some-first.new.starts.offsets c.loop.first c.mark_some-first.result c.in_ok-entry.entry p
          (goes_on step p.entries (option_to_list c.in_ok-entry.entry) c.left-room.result c.loop.counter c.loop.depth c.in_ok-entry.below c.loop.reader c.read_entry.new.reader total
          c.loop-test.true (search rules) (sym c.in_ok-entry.ensures.entry) p.read)
          c.mark_some-first.ensures.offsets c.mark_some-first.ensures.first;
      whole = c.in_ok-entry.ensures.keeps ∙ c.loop.invariant.whole;
      depth = let a = c.in_ok-entry.ensures.depth in let b = c.loop.invariant.depth in omega arith;
      bytes = c.mark_some-first.ensures.bytes ∙ c.loop.invariant.bytes;
      behind = c.mark_some-first.ensures.end c.read_entry.new.reader.at.offset (let b = c.loop.invariant.behind in omega arith) (some_below c.in_ok-entry.entry c.loop.reader.at.offset c.read_entry.new.reader.at.offset c.in_ok-entry.ensures.here on);
      end = λ bound old long. c.mark_some-first.ensures.end bound (c.loop.invariant.end bound old long)
          (some_below c.in_ok-entry.entry c.loop.reader.at.offset bound c.in_ok-entry.ensures.here
          (let left = c.left.ensures in let some = c.if-left-eq0.false in let whole = ap length c.loop.invariant.whole in let here = length-drop c.loop.reader.at.offset c.loop.reader.at.whole in omega arith));
    }

pub returns-clause-entries : goal.returns-clause-entries
returns-clause-entries c =
    let step = entry_from c.args.table.now c.args.«unit» in
    let total = run_from step c.left-room.result 0 c.args.reader.now in
    let p = c.loop.invariant.passed in
    rw (← c.left-room.ensures) (all_passed (run_from step (c.left-room.result - c.loop.counter) c.loop.depth c.loop.reader) total c.args.starts.now.offsets c.loop.starts.offsets c.loop.first p
    (is_spent step p.entries c.left-room.result c.loop.counter c.loop.depth c.loop.reader total c.loop-test.false p.read))
