use Rattle.guest_gen.specs.File.{elf_header}
use Rattle.guest_gen.proofs.Parts.{four_parts}
use Rattle.guest_gen.proofs.file.put_elf_header.Goals as goal

pub returns : goal.returns
unfolding elf_header
returns c =
    four_parts _ _ _ _ _ _ _ _ _ c.in_ok-extend_from_slice.ensures.items c.in_ok-put_halves.ensures (rw (c.from.ensures, c.headers_at.ensures) at c.in_ok-put_words.ensures) c.in_ok-put_halves-2.ensures
