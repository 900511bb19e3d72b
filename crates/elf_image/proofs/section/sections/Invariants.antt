use Rattle.std.proofs.Common.{◌≡◌, map, take}
use Rattle.std.specs.Prelude.{filter}
use Rattle.elf_image.specs.Image.{named}
use Rattle.elf_image.specs.Headers.{is_section, section_of}
use Rattle.elf_image.proofs.section.sections.Given as goal

abbrev pub invariant-loop-header : goal.invariant-loop-header
invariant-loop-header l = map named l.all.items ≡ map (section_of l.file) (filter is_section (take l.header-index l.headers))
