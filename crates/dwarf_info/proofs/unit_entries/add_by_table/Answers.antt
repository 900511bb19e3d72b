use Rattle.std.proofs.Common.{◌∙◌, ◌++◌, ap, sym, List}
use Rattle.std.proofs.lemmas.List.{append-nil}
use Rattle.dwarf_info.specs.declared.entry.InfoEntry.{InfoEntry}
use Rattle.dwarf_info.specs.Sections.{sections_of}
use Rattle.dwarf_info.proofs.Indexed.{none_past}
use Rattle.dwarf_info.proofs.unit_entries.add_by_table.Goals as goal

pub returns-then-offset-bytes : goal.returns-then-offset-bytes
returns-then-offset-bytes c =
    sym (ap (λ (es : List InfoEntry). c.args.entries.now.items ++ es) (none_past (sections_of c.args.sections.now) c.args.context.now c.bytes_before-bytes.result.now c.bytes_before-bytes.ensures c.if-offset-bytes.true) ∙ append-nil c.args.entries.now.items)
