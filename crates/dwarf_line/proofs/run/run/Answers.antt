use Rattle.std.proofs.Common.{◌≡◌, ◌==◌, ◌∙◌, Err, false, rules, length}
use Rattle.prof_bytes.specs.Reading.{left_of}
use Rattle.dwarf_line.specs.Programs.{rows_from, matrix_from, start}
use Rattle.dwarf_line.specs.private.Collecting.{collected}
use Rattle.dwarf_line.proofs.Forward.{opcode_keeps}
use Rattle.dwarf_line.proofs.CollectedRows.{effect_keeps, goes_on, is_done, is_spent, fails_at}
use Rattle.dwarf_line.proofs.run.run.Goals as goal

pub returns-then-left-eq0-clause-sequences : goal.returns-then-left-eq0-clause-sequences
returns-then-left-eq0-clause-sequences g c =
    rw (← c.left-room.ensures) (is_done c.args.encoding.now c.loop.collector c.left-room.result c.loop.counter c.loop.registers c.loop.program
    (collected c.args.collector.now (rows_from c.args.encoding.now c.left-room.result start c.args.program.now)) c.loop-test.true (search rules) c.loop.invariant.rows)

pub returns-in_err-effect-clause-sequences : goal.returns-in_err-effect-clause-sequences
returns-in_err-effect-clause-sequences g c =
    let more : (length (left_of c.loop.program.at) == 0) ≡ false = search rules in
    let failed : collected c.args.collector.now (matrix_from c.args.encoding.now c.args.program.now) ≡ Err c.in_err-effect.field-0.0 =
    rw (← c.left-room.ensures) (fails_at c.in_err-effect.field-0.0 c.args.encoding.now c.loop.collector c.left-room.result c.loop.counter c.loop.registers c.loop.program
    (collected c.args.collector.now (rows_from c.args.encoding.now c.left-room.result start c.args.program.now)) c.loop-test.true more c.in_err-effect.ensures c.loop.invariant.rows) in
    search rules

pub loop-preserved : goal.loop-preserved
loop-preserved g c =
    let more : (length (left_of c.loop.program.at) == 0) ≡ false = search rules in
    record {
      whole = opcode_keeps c.args.encoding.now c.loop.registers c.loop.program c.read_opcode.new.reader c.in_ok-effect.effect c.in_ok-effect.ensures ∙ c.loop.invariant.whole;
      segments = rw c.in_ok-add_some.ensures (effect_keeps c.loop.collector c.in_ok-effect.effect.row ∙ c.loop.invariant.segments);
      rows = rw c.in_ok-add_some.ensures (goes_on c.args.encoding.now c.loop.collector c.in_ok-effect.effect c.left-room.result c.loop.counter c.loop.registers c.loop.program c.read_opcode.new.reader
          (collected c.args.collector.now (rows_from c.args.encoding.now c.left-room.result start c.args.program.now)) c.loop-test.true more c.in_ok-effect.ensures c.loop.invariant.rows);
    }

pub returns-clause-sequences : goal.returns-clause-sequences
returns-clause-sequences g c =
    rw (← c.left-room.ensures) (is_spent c.args.encoding.now c.loop.collector c.left-room.result c.loop.counter c.loop.registers c.loop.program
    (collected c.args.collector.now (rows_from c.args.encoding.now c.left-room.result start c.args.program.now)) c.loop-test.false c.loop.invariant.rows)
