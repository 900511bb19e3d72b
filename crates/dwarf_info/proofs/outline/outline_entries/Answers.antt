use Rattle.std.proofs.Common.{rules, ◌≡◌, ◌∙◌, ◌-◌, ◌+◌, sym, Ok, Err, arith}
use Rattle.std.specs.Prelude.{option_to_list}
use Rattle.dwarf_forms.specs.Runs.{run_from}
use Rattle.dwarf_forms.proofs.Runs.{goes_on, is_done, is_spent, fails_at}
use Rattle.dwarf_info.specs.Entries.{entry_from}
use Rattle.dwarf_info.proofs.Outlining.{one_passed, next_few, all_passed}
use Rattle.dwarf_info.proofs.outline.outline_entries.Goals as goal

pub returns-then-left-eq0 : goal.returns-then-left-eq0
returns-then-left-eq0 c = λ all is.
    let step = entry_from c.args.table.now c.args.«unit» in
    let p = c.loop.invariant.passed in
    all_passed (run_from step (c.left-room.result - c.loop.counter) c.loop.depth c.loop.reader) (run_from step c.left-room.result 0 c.args.reader.now) c.args.outline.now c.loop.outline all p
    (is_done step p.entries c.left-room.result c.loop.counter c.loop.depth c.loop.reader (run_from step c.left-room.result 0 c.args.reader.now) c.loop-test.true (search rules) p.read)
    (rw c.left-room.ensures is)

pub add_some-requires : goal.add_some-requires
add_some-requires c =
    let step = entry_from c.args.table.now c.args.«unit» in
    let total = run_from step c.left-room.result 0 c.args.reader.now in
    let p = c.loop.invariant.passed in
    next_few (run_from step (c.left-room.result - c.loop.counter) c.loop.depth c.loop.reader) (run_from step (c.left-room.result - (c.loop.counter + 1)) c.in-Ok.below c.read_entry.new.reader) total
    c.args.outline.now c.loop.outline (option_to_list c.in-Ok.entry) c.requires.few.entries p
    (goes_on step p.entries (option_to_list c.in-Ok.entry) c.left-room.result c.loop.counter c.loop.depth c.in-Ok.below c.loop.reader c.read_entry.new.reader total
    c.loop-test.true (search rules) (sym c.in-Ok.ensures.entry) p.read)
    (rw c.left-room.ensures c.requires.few.read) c.requires.few.few

pub unreachable-requires : goal.unreachable-requires
unreachable-requires c =
    let step = entry_from c.args.table.now c.args.«unit» in
    let total = run_from step c.left-room.result 0 c.args.reader.now in
    let p = c.loop.invariant.passed in
    let failed : total ≡ Err c.in-Err.field-0 =
    fails_at c.in-Err.field-0 step p.entries c.left-room.result c.loop.counter c.loop.depth c.loop.reader total c.loop-test.true (search rules) (sym c.in-Err.ensures.entry) p.read in
    let read : total ≡ Ok c.requires.few.entries = rw c.left-room.ensures c.requires.few.read in
    let both : Err c.in-Err.field-0 ≡ Ok c.requires.few.entries = sym failed ∙ read in
    absurd cc

pub loop-preserved : goal.loop-preserved
loop-preserved c =
    let step = entry_from c.args.table.now c.args.«unit» in
    let total = run_from step c.left-room.result 0 c.args.reader.now in
    let p = c.loop.invariant.passed in
    record {
      passed = one_passed (run_from step (c.left-room.result - c.loop.counter) c.loop.depth c.loop.reader) (run_from step (c.left-room.result - (c.loop.counter + 1)) c.in-Ok.below c.read_entry.new.reader) total
          c.args.outline.now c.loop.outline c.add_some.new.outline (option_to_list c.in-Ok.entry) p
          (goes_on step p.entries (option_to_list c.in-Ok.entry) c.left-room.result c.loop.counter c.loop.depth c.in-Ok.below c.loop.reader c.read_entry.new.reader total
          c.loop-test.true (search rules) (sym c.in-Ok.ensures.entry) p.read)
          (search rules);
      whole = c.in-Ok.ensures.keeps ∙ c.loop.invariant.whole;
      depth = let a = c.in-Ok.ensures.depth in let b = c.loop.invariant.depth in omega arith;
    }

pub returns : goal.returns
returns c = λ all is.
    let step = entry_from c.args.table.now c.args.«unit» in
    let p = c.loop.invariant.passed in
    all_passed (run_from step (c.left-room.result - c.loop.counter) c.loop.depth c.loop.reader) (run_from step c.left-room.result 0 c.args.reader.now) c.args.outline.now c.loop.outline all p
    (is_spent step p.entries c.left-room.result c.loop.counter c.loop.depth c.loop.reader (run_from step c.left-room.result 0 c.args.reader.now) c.loop-test.false p.read)
    (rw c.left-room.ensures is)
