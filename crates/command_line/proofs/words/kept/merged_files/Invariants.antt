use Rattle.std.proofs.Common.{◌≡◌, ◌∷◌, map, take}
use Rattle.command_line.specs.declared.kind.FileKind.TheVariants as kinds
use Rattle.command_line.specs.Kind.{view_want}
use Rattle.command_line.specs.Words.{wanted}
use Rattle.command_line.proofs.words.kept.merged_files.Given as goal

abbrev pub invariant-loop-name : goal.invariant-loop-name
invariant-loop-name l = map view_want l.reads.items ≡ wanted kinds.Program l.elf ∷ map (wanted kinds.Measurement) (take l.name-index l.names)
