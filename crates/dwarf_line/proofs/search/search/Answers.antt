use Rattle.std.proofs.Common.{◌≡◌, ◌==◌, ◌∙◌, Err, false, rules, length}
use Rattle.prof_bytes.specs.Reading.{left_of}
use Rattle.dwarf_line.specs.Programs.{rows_from, matrix_from, start}
use Rattle.dwarf_line.specs.private.Unkept.{no_search, searched}
use Rattle.dwarf_line.proofs.Forward.{opcode_keeps}
use Rattle.dwarf_line.proofs.SearchedRows.{goes_on, is_done, is_spent, fails_at}
use Rattle.dwarf_line.proofs.search.search.Goals as goal

pub returns-then-left-eq0 : goal.returns-then-left-eq0
returns-then-left-eq0 c =
    rw (← c.left-room.ensures) (is_done c.args.segments.now c.args.address c.args.encoding.now c.loop.found c.left-room.result c.loop.counter c.loop.registers c.loop.program
    (searched c.args.segments.now c.args.address no_search (rows_from c.args.encoding.now c.left-room.result start c.args.program.now)) c.loop-test.true (search rules) c.loop.invariant.rows)

pub returns-in_err-effect : goal.returns-in_err-effect
returns-in_err-effect c =
    let more : (length (left_of c.loop.program.at) == 0) ≡ false = search rules in
    let failed : Err c.in_err-effect.field-0.0 ≡ searched c.args.segments.now c.args.address no_search (matrix_from c.args.encoding.now c.args.program.now) =
    rw (← c.left-room.ensures) (fails_at c.in_err-effect.field-0.0 c.args.segments.now c.args.address c.args.encoding.now c.loop.found c.left-room.result c.loop.counter c.loop.registers c.loop.program
    (searched c.args.segments.now c.args.address no_search (rows_from c.args.encoding.now c.left-room.result start c.args.program.now)) c.loop-test.true more c.in_err-effect.ensures c.loop.invariant.rows) in
    search rules

pub loop-preserved : goal.loop-preserved
loop-preserved c =
    let more : (length (left_of c.loop.program.at) == 0) ≡ false = search rules in
    record {
      whole = opcode_keeps c.args.encoding.now c.loop.registers c.loop.program c.read_opcode.new.reader c.in_ok-effect.effect c.in_ok-effect.ensures ∙ c.loop.invariant.whole;
      rows = rw c.seen_effect-found.ensures (goes_on c.args.segments.now c.args.address c.args.encoding.now c.loop.found c.in_ok-effect.effect c.left-room.result c.loop.counter c.loop.registers c.loop.program c.read_opcode.new.reader
          (searched c.args.segments.now c.args.address no_search (rows_from c.args.encoding.now c.left-room.result start c.args.program.now)) c.loop-test.true more c.in_ok-effect.ensures c.loop.invariant.rows);
    }

pub returns : goal.returns
returns c =
    rw (← c.left-room.ensures) (is_spent c.args.segments.now c.args.address c.args.encoding.now c.loop.found c.left-room.result c.loop.counter c.loop.registers c.loop.program
    (searched c.args.segments.now c.args.address no_search (rows_from c.args.encoding.now c.left-room.result start c.args.program.now)) c.loop-test.false c.loop.invariant.rows)
