use Rattle.std.proofs.Common.{rules, ◌≡◌, ◌∙◌, sym, Err, arith}
use Rattle.std.specs.Prelude.{option_to_list}
use Rattle.dwarf_forms.specs.Runs.{before, run_from}
use Rattle.dwarf_forms.proofs.Runs.{goes_on, is_done, is_spent, fails_at}
use Rattle.dwarf_info.specs.Entries.{entry_from, entries_from}
use Rattle.dwarf_info.proofs.entries.read_entries.Goals as goal

pub returns-then-left-eq0 : goal.returns-then-left-eq0
returns-then-left-eq0 c =
    rw (← c.left-room.ensures) (is_done (entry_from c.args.table.now c.args.«unit») c.loop.entries.items c.left-room.result c.loop.counter c.loop.depth c.loop.reader
    (before c.args.entries.now.items (run_from (entry_from c.args.table.now c.args.«unit») c.left-room.result 0 c.args.reader.now)) c.loop-test.true (search rules) c.loop.invariant.read)

pub returns-in_err-entry : goal.returns-in_err-entry
returns-in_err-entry c =
    let failed : before c.args.entries.now.items (entries_from c.args.table.now c.args.«unit» c.args.reader.now) ≡ Err c.in_err-entry.field-0.0 =
    rw (← c.left-room.ensures) (fails_at c.in_err-entry.field-0.0 (entry_from c.args.table.now c.args.«unit») c.loop.entries.items c.left-room.result c.loop.counter c.loop.depth c.loop.reader
    (before c.args.entries.now.items (run_from (entry_from c.args.table.now c.args.«unit») c.left-room.result 0 c.args.reader.now)) c.loop-test.true (search rules) (sym c.in_err-entry.ensures.entry) c.loop.invariant.read) in
    search rules

pub loop-preserved : goal.loop-preserved
loop-preserved c = record {
  read = rw (c.in_ok-push_some.ensures) (goes_on (entry_from c.args.table.now c.args.«unit») c.loop.entries.items (option_to_list c.in_ok-entry.entry) c.left-room.result c.loop.counter c.loop.depth c.in_ok-entry.below c.loop.reader c.read_entry.new.reader
      (before c.args.entries.now.items (run_from (entry_from c.args.table.now c.args.«unit») c.left-room.result 0 c.args.reader.now)) c.loop-test.true (search rules) (sym c.in_ok-entry.ensures.entry) c.loop.invariant.read);
  whole = c.in_ok-entry.ensures.keeps ∙ c.loop.invariant.whole;
  depth = let a = c.in_ok-entry.ensures.depth in let b = c.loop.invariant.depth in omega arith;
}

pub returns : goal.returns
returns c =
    rw (← c.left-room.ensures) (is_spent (entry_from c.args.table.now c.args.«unit») c.loop.entries.items c.left-room.result c.loop.counter c.loop.depth c.loop.reader
    (before c.args.entries.now.items (run_from (entry_from c.args.table.now c.args.«unit») c.left-room.result 0 c.args.reader.now)) c.loop-test.false c.loop.invariant.read)
