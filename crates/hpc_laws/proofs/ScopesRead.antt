-- The scopes of a program that was read are those of its file.
use Rattle.std.proofs.Common.{◌≡◌, ℕ, ◌<◌, ◌≤◌, ◌^◌, List, length, map, codes, Ok, subst, arith}
use Rattle.prof_bytes.specs.Outcome.{◌>>=◌}
use Rattle.prof_bytes.proofs.Outcomes.{bind_ok, ok_same}
use Rattle.elf_image.specs.Image.{ProgramImage, bytes_of_name}
use Rattle.elf_image.specs.Reading.{image_of}
use Rattle.elf_image.proofs.Sections.{sections_small}
use Rattle.dwarf_info.specs.Units.{debug_info_of, unit_of}
use Rattle.dwarf_inline.specs.Structure.{structure_of}
use Rattle.dwarf_line.specs.declared.fault.LineFault.{LineFault}
use Rattle.dwarf_line.specs.Lines.{lines_at}
use Rattle.scope_find.specs.Found.{ProgramScopes}
use Rattle.hpc_laws.proofs.SmallNumbers.{AreScopesOf}
use Rattle.command_line.specs.declared.status.InputFault.TheVariants.{Entries, Lines, Program, Structure}
use Rattle.command_line.specs.Faulted.{faulted}
use Rattle.program_run.specs.Program.{program}
use Rattle.program_run.specs.Scopes.{debug_entries, debug_sections, debug_texts, line_tables, program_scopes, table_offsets}
use Rattle.command_line.specs.Kind.{program_limit}
use Rattle.command_line.proofs.Faults.{from_faulted}
use Rattle.hpc_laws.proofs.Scheduled.{program_loaded}

-- a section has no more bytes than the file
section_short : (elf : List ℕ) (image : ProgramImage) (name : List ℕ) → program elf ≡ Ok image → length elf ≤ program_limit → length (bytes_of_name image.sections name) < 2 ^ 32
section_short elf image name is short =
    let few = sections_small elf name in
    subst (λ (q : ProgramImage). length (bytes_of_name q.sections name) < 2 ^ 32) (program_loaded elf image is) (omega (arith, few, short))

pub scopes_read : (elf : List ℕ) (image : ProgramImage) (scopes : ProgramScopes) → program elf ≡ Ok image → program_scopes image ≡ Ok scopes → length elf ≤ program_limit → AreScopesOf elf scopes
unfolding program_scopes
scopes_read elf image scopes is found short =
    let info = bind_ok (debug_entries image) (λ info. line_tables image (table_offsets (map unit_of info.units)) >>= λ lines. faulted Structure (structure_of info lines image) >>= λ structure. Ok (record { structure = structure; lines = lines; image = image })) scopes found in
    let offsets : List ℕ = table_offsets (map unit_of info.0.units) in
    let lines = bind_ok (line_tables image offsets) (λ lines. faulted Structure (structure_of info.0 lines image) >>= λ structure. Ok (record { structure = structure; lines = lines; image = image })) scopes info.2 in
    let structure = bind_ok (faulted Structure (structure_of info.0 lines.0 image)) (λ structure. Ok (record { structure = structure; lines = lines.0; image = image })) scopes lines.2 in
    let line : List ℕ = bytes_of_name image.sections (codes ".debug_line") in
    subst (AreScopesOf elf) (ok_same (record { structure = structure.0; lines = lines.0; image = image }) scopes structure.2) (record {
      image = from_faulted Program (image_of elf) image is;
      sections = debug_sections image;
      short_info = section_short elf image (codes ".debug_info") is short;
      info = info.0;
      entries = from_faulted Entries (debug_info_of (debug_sections image)) info.0 info.1;
      line = line;
      short_line = section_short elf image (codes ".debug_line") is short;
      texts = debug_texts image;
      offsets = offsets;
      tables = from_faulted (λ (fault : LineFault). Lines fault.offset) (lines_at line (debug_texts image) image.segments offsets) lines.0 lines.1;
      structure = from_faulted Structure (structure_of info.0 lines.0 image) structure.0 structure.1;
    })
