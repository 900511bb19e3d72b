use Rattle.std.proofs.Common.{◌≡◌, Some, arith, ◌+◌}
use Rattle.std.specs.Ordering.{nat_cmp}
use Rattle.std.specs.BTreeMap.{get}
use Rattle.std.proofs.lemmas.Grind.{common_steps}
use Rattle.dwarf_info.specs.private.Tables.{table_in}
use Rattle.dwarf_info.proofs.Suffixes.{is_behind}
use Rattle.dwarf_info.proofs.tables.Tables.suffix_near.Goals as goal

pub returns : goal.returns
returns c = λ section are.
    let at : get nat_cmp c.args.self.now.suffixes c.in_ok-start.start ≡ Some c.in_ok-suffix.suffix.now = grind (arith, common_steps) in
    let there : table_in c.args.self.now c.in_ok-start.start ≡ Some c.in_ok-table.table = grind (arith, common_steps) in
    let sum : c.in_ok-from.from ≡ c.in_ok-suffix.suffix.now.from + c.in_ok-index.index = grind (arith, common_steps) in
    is_behind section c.args.self.now c.in_ok-start.start c.in_ok-suffix.suffix.now _ c.in_ok-table.table c.in_ok-index.index c.args.offset at there sum
    (c.in_ok-index.ensures.table section c.in_ok-start.start (are.are c.in_ok-start.start c.in_ok-table.table there))
