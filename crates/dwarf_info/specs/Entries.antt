-- The entries of a unit, as a flat list with depths. DWARF 5, sections 2.3 and 7.5.3.
use Rattle.std.specs.Prelude.{ℕ, ◌+◌, ◌-◌, ◌==◌, List, [], ◌∷◌, Option, Some, None, Result, Ok, Err, if◌then◌else◌}
use Rattle.prof_bytes.specs.Fields.{Input, uleb_from}
use Rattle.prof_bytes.specs.Outcome.{◌>>=◌}
use Rattle.dwarf_forms.specs.declared.declaration.Abbrev.{Abbrev}
use Rattle.dwarf_forms.specs.Runs.{RunStep, run_to_end}
use Rattle.dwarf_info.specs.declared.entry.InfoEntry.{InfoEntry}
use Rattle.dwarf_info.specs.declared.fault.InfoFault.{InfoFault}
use Rattle.dwarf_info.specs.declared.fault.InfoFault.TheVariants.{BadUnit, BadAbbrev, UnknownForm}
use Rattle.dwarf_info.specs.Values.{passed_from, declaration_of}

-- an entry at an offset by its declaration; those that follow it are one level deeper where it has children
abbrev pub declared_entry : ℕ → ℕ → ℕ → Option Abbrev → Input InfoFault → RunStep ℕ InfoEntry InfoFault
declared_entry index depth offset None input = Err (BadAbbrev offset)
declared_entry index depth offset (Some d) input = do
  (passed, input) ← passed_from (UnknownForm offset) d.specs input
  Ok (
    record { offset = offset; depth = depth; tag = d.tag; «unit» = index } ∷ [],
    (if d.children then depth + 1 else depth),
    input,
  )

-- an entry at a depth, or the null entry that closes its level
unfoldable pub entry_from : List Abbrev → ℕ → ℕ → Input InfoFault → RunStep ℕ InfoEntry InfoFault
entry_from declared index depth input = do
  (code, after) ← uleb_from (record input { missing = BadUnit input.at.offset })
  if code == 0 then Ok ([], depth - 1, after)
      else declared_entry index depth input.at.offset (declaration_of declared code) after

-- the entries up to the end of the bytes of their unit, which has this index
abbrev pub entries_from : List Abbrev → ℕ → Input InfoFault → Result (List InfoEntry) InfoFault
entries_from declared index input = run_to_end (entry_from declared index) 0 input
