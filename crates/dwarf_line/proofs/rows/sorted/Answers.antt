use Rattle.std.proofs.Common.{rules}
use Rattle.dwarf_line.proofs.RowsByAddress.{sorted_by_key}
use Rattle.dwarf_line.proofs.rows.sorted.Goals as goal

pub returns : goal.returns
returns c =
    sorted_by_key _ _ c.in_ok-sort_by_key.ensures.sorted c.in_ok-sort_by_key.ensures.stable (λ a r q k. search rules)
