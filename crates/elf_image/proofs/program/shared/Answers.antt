use Rattle.std.proofs.Common.{not, ap, refl, ◌∙◌}
use Rattle.elf_image.specs.declared.header.ProgramHeader.{ProgramHeader}
use Rattle.elf_image.specs.Refusals.{shares_earlier, shared}
use Rattle.elf_image.proofs.Tables.{find_at, find_take_more}
use Rattle.elf_image.proofs.Shared.{alone}
use Rattle.elf_image.proofs.program.shared.Goals as goal

pub loop-index-preserved : goal.loop-index-preserved
loop-index-preserved c =
    let d : ProgramHeader = record { offset = 0; p_type = 0; p_offset = 0; p_vaddr = 0; p_filesz = 0; p_memsz = 0; p_flags = 0 } in
    let tested = alone c.is_first.result c.args.headers.now c.loop-index.index d c.requires.some c.requires.ascending c.loop-index-test.true (rw (c.requires.loaded, c.from.ensures, c.from-in-loop-index.ensures) at c.is_first.ensures) in
    find_take_more (shares_earlier c.args.headers.now) c.args.headers.now c.loop-index.index d c.loop-index.invariant c.loop-index-test.true (tested ∙ ap not c.if-not-is_first.false)

pub returns-then-not-is_first : goal.returns-then-not-is_first
unfolding shared
returns-then-not-is_first c =
    let d : ProgramHeader = record { offset = 0; p_type = 0; p_offset = 0; p_vaddr = 0; p_filesz = 0; p_memsz = 0; p_flags = 0 } in
    let tested = alone c.is_first.result c.args.headers.now c.loop-index.index d c.requires.some c.requires.ascending c.loop-index-test.true (rw (c.requires.loaded, c.from.ensures, c.from-in-loop-index.ensures) at c.is_first.ensures) in
    let found = find_at (shares_earlier c.args.headers.now) c.args.headers.now c.loop-index.index d c.loop-index.invariant c.loop-index-test.true (tested ∙ ap not c.if-not-is_first.true) in
    rw found refl
