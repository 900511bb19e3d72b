use Rattle.std.proofs.Common.{◌∙◌}
use Rattle.dwarf_line.proofs.RowsByAddress.{same_row}
use Rattle.dwarf_line.proofs.rows.SequenceRows.row_at.Goals as goal

pub returns : goal.returns
returns c =
    c.last_row_by_search.ensures ∙ same_row c.args.address c.args.self.now c.ascending.result.now c.ascending.ensures
