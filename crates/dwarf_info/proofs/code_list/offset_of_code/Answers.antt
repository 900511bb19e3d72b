use Rattle.std.proofs.Common.{◌≡◌, Ok, Some, sym, arith}
use Rattle.std.specs.Prelude.{slice_get}
use Rattle.std.proofs.lemmas.Grind.{common_steps}
use Rattle.dwarf_forms.specs.Abbreviations.{code_at}
use Rattle.dwarf_info.specs.private.CodeLists.{IsFirst}
use Rattle.dwarf_info.proofs.CodeLists.{all_at, listed_offset}
use Rattle.dwarf_info.proofs.code_list.offset_of_code.Goals as goal

pub returns-in-Ok : goal.returns-in-Ok
returns-in-Ok c = λ start all.
    let here : slice_get c.args.offsets.now c.partition_point-at.result ≡ Some c.in_ok-offset.offset = sym c.in_ok-offset.ensures in
    let code : code_at c.args.section.now c.in_ok-offset.offset ≡ Ok c.args.code = grind (arith, common_steps) in
    listed_offset c.args.section.now start c.in_ok-offset.offset c.args.code (all_at (IsFirst c.args.section.now start) c.args.offsets.now c.partition_point-at.result _ all here) code
