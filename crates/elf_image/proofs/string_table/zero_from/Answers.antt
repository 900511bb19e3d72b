use Rattle.std.proofs.Common.{◌+◌, ◌*◌, ◌/◌, min, length, ◌∙◌, ap, arith}
use Rattle.elf_image.specs.private.StringTable.{first_zero, block}
use Rattle.elf_image.proofs.Ends.{zero_in_block, zero_later, first_above}
use Rattle.elf_image.proofs.string_table.zero_from.Goals as goal

pub returns-then-index-end-clause-zero : goal.returns-then-index-end-clause-zero
returns-then-index-end-clause-zero c = zero_in_block c.args.bytes.now c.args.start c.min-end.result c.zero_or_end-index.result c.zero_or_end-index.ensures.zero (omega arith) c.if-index-end.true

pub returns-clause-zero : goal.returns-clause-zero
returns-clause-zero c = zero_later c.args.bytes.now c.args.start c.min-end.result c.zero_or_end-index.result c.args.later c.zero_or_end-index.ensures.zero (omega arith) (omega arith) c.if-index-end.false (c.requires.later ∙ ap (first_zero c.args.bytes.now) (omega arith))

pub returns-clause-above : goal.returns-clause-above
returns-clause-above c =
    let above = first_above c.args.bytes.now (min (block * (c.args.start / block) + block) (length c.args.bytes.now)) in
    let is = c.requires.later in
    omega arith
