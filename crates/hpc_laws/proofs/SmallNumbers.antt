-- What is so of the scopes that are read of a program's file: their numbers have 32 bits, and their names are short.
use Rattle.std.proofs.Common.{◌≡◌, ◌<◌, ◌^◌, ◌++◌, ℕ, List, length, All, Ok}
use Rattle.elf_image.specs.Reading.{image_of}
use Rattle.dwarf_info.specs.Sections.{Sections}
use Rattle.dwarf_info.specs.Units.{DebugInfo, debug_info_of}
use Rattle.dwarf_inline.specs.Structure.{structure_of}
use Rattle.dwarf_line.specs.Lines.{lines_at}
use Rattle.dwarf_line.specs.Names.{Texts}
use Rattle.scope_types.specs.declared.scope.ProcId.{ProcId}
use Rattle.scope_types.specs.declared.scope.ProcId.TheVariants.{Nameless}
use Rattle.scope_types.specs.Expansion.{FoundAt}
use Rattle.scope_types.specs.Words.{proc_words, line_words}
use Rattle.tree_types.specs.Naming.{Naming, unknown_procedure}
use Rattle.prof_db.specs.Stored.{IsShort, IsWord}
use Rattle.scope_find.specs.Found.{ProgramScopes}

-- the program of a file, the line tables at some offsets of a section, and the structure by the units and entries of
-- sections, without a fault. The section of line tables and that of entries have fewer than 2^32 bytes
pub record AreScopesOf (file : List ℕ) (p : ProgramScopes) : Type 0 where
  pub image : image_of file ≡ Ok p.image
  pub sections : Sections
  pub short_info : length sections.info < 2 ^ 32
  pub info : DebugInfo
  pub entries : debug_info_of sections ≡ Ok info
  pub line : List ℕ
  pub short_line : length line < 2 ^ 32
  pub texts : Texts
  pub offsets : List ℕ
  pub tables : lines_at line texts p.image.segments offsets ≡ Ok p.lines
  pub structure : structure_of info p.lines p.image ≡ Ok p.structure

-- numbers of 32 bits
abbrev pub AreWords : List ℕ → Type 0
AreWords numbers = All IsWord numbers

-- each number of what is found at an address has 32 bits
pub record HasSmallNumbers (found : FoundAt) : Type 0 where
  pub procedure : AreWords (proc_words found.procedure)
  pub inlines : All (λ i. AreWords (proc_words i.0 ++ line_words i.1)) found.inlines
  pub line : AreWords (line_words found.line)

-- names of at most as many bytes as a name may have; the procedure without a name has the one that reports show
pub record HasShortNames (naming : Naming) : Type 0 where
  pub procs : (id : ProcId) → IsShort (naming.proc_name id)
  pub nameless : naming.proc_name Nameless ≡ unknown_procedure
  pub files : (table number : ℕ) → IsShort (naming.file_name table number)
