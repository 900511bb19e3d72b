use Rattle.std.proofs.Common.{◌≡◌, ◌∙◌, Err, sym, rules}
use Rattle.prof_bytes.specs.Fields.{uleb_from}
use Rattle.dwarf_line.specs.Programs.{skipped_from}
use Rattle.dwarf_line.proofs.Answered.{was_read, was_refused}
use Rattle.dwarf_line.proofs.CountedItems.{passes_one, stops, all_passed}
use Rattle.dwarf_line.proofs.program.skip.Goals as goal

pub returns-in_err-uleb : goal.returns-in_err-uleb
returns-in_err-uleb c =
    let fault = c.in_err-uleb.field-0.0 in
    let failed : skipped_from c.args.count c.args.registers c.args.reader.now ≡ Err c.in_err-uleb.field-0.0 =
    sym c.loop.invariant ∙ stops fault uleb_from c.args.registers c.args.count c.loop.counter c.loop.reader c.loop-test.true (was_refused (uleb_from c.loop.reader) fault c.loop.reader c.uleb.new.self c.in_err-uleb.ensures) in
    search rules

pub loop-preserved : goal.loop-preserved
loop-preserved c =
    sym (passes_one uleb_from c.args.registers c.args.count c.loop.counter c.loop.reader c.uleb.new.self c.in_ok-uleb.field-0 c.loop-test.true
    (was_read (uleb_from c.loop.reader) c.in_ok-uleb.field-0 c.loop.reader c.uleb.new.self c.in_ok-uleb.ensures))
    ∙ c.loop.invariant

pub returns : goal.returns
returns c = sym c.loop.invariant ∙ all_passed uleb_from c.args.registers c.args.count c.loop.counter c.loop.reader c.loop-test.false
