use Rattle.std.proofs.Common.{◌≡◌, List, ℕ, IfOk, subst, arith}
use Rattle.scope_types.specs.Limits.{most_name_bytes}
use Rattle.dwarf_forms.specs.Sections.{section_text}
use Rattle.dwarf_line.proofs.CutPaths.{joined_cut}
use Rattle.dwarf_line.proofs.lines.joined_texts.Goals as goal

pub returns : goal.returns
returns c =
    subst (λ (text : List ℕ). IfOk c.joined_path.result (λ name. name ≡ text))
    (joined_cut most_name_bytes (section_text c.args.directory) (section_text c.args.path) c.cut-directory.result.now c.cut-path.result.now (omega arith) c.cut-directory.ensures c.cut-path.ensures)
    c.joined_path.ensures
