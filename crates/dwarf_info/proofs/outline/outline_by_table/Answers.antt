use Rattle.std.proofs.Common.{sym, subst, List}
use Rattle.dwarf_info.specs.declared.entry.InfoEntry.{InfoEntry}
use Rattle.dwarf_info.specs.Sections.{sections_of}
use Rattle.dwarf_info.specs.private.Outlines.{AreOutlined}
use Rattle.dwarf_info.proofs.Indexed.{none_past}
use Rattle.dwarf_info.proofs.Outlining.{none_outlined}
use Rattle.dwarf_info.proofs.outline.outline_by_table.Goals as goal

pub returns-then-offset-bytes : goal.returns-then-offset-bytes
returns-then-offset-bytes c =
    subst (λ (es : List InfoEntry). AreOutlined c.args.outline.now es c.args.outline.now)
    (sym (none_past (sections_of c.args.sections.now) c.args.context.now c.bytes_before-bytes.result.now c.bytes_before-bytes.ensures c.if-offset-bytes.true))
    (none_outlined c.args.outline.now)
