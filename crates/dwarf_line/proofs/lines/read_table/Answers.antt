use Rattle.std.proofs.Common.{◌≡◌, length, ap, arith}
use Rattle.dwarf_line.proofs.Within.{input_whole, program_below}
use Rattle.dwarf_line.proofs.lines.read_table.Goals as goal

pub run_header-requires : goal.run_header-requires
run_header-requires c =
    let whole : c.in_ok-reader.reader.at.whole ≡ c.args.line.now = input_whole c.args.line.now c.args.offset (record { offset = c.args.offset }) c.in_ok-reader.reader c.in_ok-reader.ensures in
    let below = program_below c.args.texts.now c.in_ok-reader.reader c.in-Some.header (rw c.in-Some.is at c.in_ok-read_header.ensures) in
    omega (arith, ap length whole, below)
