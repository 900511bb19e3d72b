use Rattle.std.proofs.Common.{◌∙◌}
use Rattle.scope_types.specs.Limits.{most_name_bytes}
use Rattle.dwarf_line.proofs.CutPaths.{path_is}
use Rattle.dwarf_line.proofs.lines.path_in_directory.Goals as goal

pub returns : goal.returns
returns c =
    c.from_vec.ensures ∙ c.truncate.ensures.items
    ∙ path_is most_name_bytes c.args.directory.now c.args.path.now _ _ _ _ _ _ c.new-name.ensures.items c.cut_name.ensures c.in_ok-extend_from_slice.ensures.items c.in_ok-push.ensures.items c.cut_name-2.ensures c.in_ok-extend_from_slice-2.ensures.items
