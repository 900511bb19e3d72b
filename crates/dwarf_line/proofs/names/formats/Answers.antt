use Rattle.std.proofs.Common.{◌≡◌, Err, rules}
use Rattle.dwarf_line.specs.Names.{repeated_from, format_from}
use Rattle.dwarf_line.proofs.CountedItems.{goes_on, is_done, fails_at}
use Rattle.dwarf_line.proofs.names.formats.Goals as goal

pub returns-in_err-read_format : goal.returns-in_err-read_format
returns-in_err-read_format c =
    let failed : repeated_from format_from c.args.count c.args.reader.now ≡ Err c.in_err-read_format.field-0.0 =
    fails_at c.in_err-read_format.field-0.0 format_from c.loop.formats.items c.args.count c.loop.counter c.loop.reader (repeated_from format_from c.args.count c.args.reader.now) c.loop-test.true c.in_err-read_format.ensures c.loop.invariant in
    search rules

pub loop-preserved : goal.loop-preserved
loop-preserved c =
    rw c.in_ok-push.ensures.items (goes_on format_from c.loop.formats.items c.args.count c.loop.counter c.loop.reader c.read_format.new.reader c.in_ok-read_format.field-0 (repeated_from format_from c.args.count c.args.reader.now) c.loop-test.true c.in_ok-read_format.ensures c.loop.invariant)

pub returns : goal.returns
returns c =
    is_done format_from c.loop.formats.items c.args.count c.loop.counter c.loop.reader (repeated_from format_from c.args.count c.args.reader.now) c.loop-test.false c.loop.invariant
