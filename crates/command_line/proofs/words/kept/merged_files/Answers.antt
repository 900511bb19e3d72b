use Rattle.std.proofs.Common.{map, arith}
use Rattle.command_line.specs.Kind.{view_want}
use Rattle.command_line.proofs.Merged.{all_files, merged_kinds}
use Rattle.command_line.proofs.words.kept.merged_files.Goals as goal

pub returns-clause-kinds : goal.returns-clause-kinds
returns-clause-kinds c =
    let past = c.loop-name-test.false in
    merged_kinds (map view_want c.loop-name.reads.items) c.args.elf.now c.args.names.now
    (all_files c.args.elf.now c.args.names.now c.loop-name.name-index (map view_want c.loop-name.reads.items) (omega (arith, past)) c.loop-name.invariant)
