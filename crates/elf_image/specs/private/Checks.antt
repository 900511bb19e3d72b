-- Checks that come before a value.
use Rattle.std.specs.Prelude.{Result, Ok, Err}
use Rattle.elf_image.specs.declared.fault.ElfFault.{ElfFault}

-- the value, where the checks before it found nothing
abbrev pub after : {X : Type 0} → Result (Unit {0}) ElfFault → X → Result X ElfFault
after (Ok done) value = Ok value
after (Err fault) value = Err fault
