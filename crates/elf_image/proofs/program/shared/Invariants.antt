use Rattle.std.proofs.Common.{◌≡◌, take, None}
use Rattle.std.specs.Prelude.{find}
use Rattle.elf_image.specs.Refusals.{shares_earlier}
use Rattle.elf_image.proofs.program.shared.Given as goal

abbrev pub invariant-loop-index : goal.invariant-loop-index
invariant-loop-index l = find (shares_earlier l.headers) (take l.index l.headers) ≡ None
