use Rattle.std.proofs.Common.{◌+◌, ◌*◌, arith}
use Rattle.elf_image.specs.Headers.{section_header_at}
use Rattle.elf_image.proofs.Tables.{table_more}
use Rattle.elf_image.proofs.Checked.{sections_within}
use Rattle.elf_image.proofs.header.section_headers.Goals as goal

pub loop-k-preserved : goal.loop-k-preserved
loop-k-preserved c = table_more (λ k. section_header_at c.args.file.now (c.e_shoff-first.result + 40 * k)) c.loop-k.k _ _ _ c.loop-k.invariant c.in_ok-push.ensures.items c.section_header_at.ensures

pub overflow_add-first : goal.overflow_add-first
overflow_add-first c = let there = sections_within c.args.file.now c.requires.checked (omega arith) in omega arith
