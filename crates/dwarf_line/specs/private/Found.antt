-- Lines at addresses that are looked for in one table after the other.
use Rattle.std.specs.Prelude.{◌≡◌, List}
use Rattle.std.specs.Option.{option_or}
use Rattle.dwarf_line.specs.declared.found_lines.FoundLine.{FoundLine}
use Rattle.dwarf_line.specs.declared.sequence.Sequence.{Sequence}
use Rattle.dwarf_line.specs.private.Unkept.{first_line}

-- what is found once these sequences follow
abbrev pub found_after : List Sequence → FoundLine → FoundLine
found_after sequences f = record { address = f.address; line = option_or f.line (first_line f.address sequences) }

-- what is found, and else what the sequences that follow say, is what all sequences say
abbrev pub IsFoundBefore : List Sequence → List Sequence → FoundLine → Type 0
IsFoundBefore rest all f = option_or f.line (first_line f.address rest) ≡ first_line f.address all

-- what is found is what all sequences say
abbrev pub IsFoundIn : List Sequence → FoundLine → Type 0
IsFoundIn all f = f.line ≡ first_line f.address all
