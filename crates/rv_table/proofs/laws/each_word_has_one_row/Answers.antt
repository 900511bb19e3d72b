use Rattle.rv_table.proofs.OneRow.{one_row, each_row_decodes}
use Rattle.rv_table.proofs.laws.each_word_has_one_row.Goals as goal

pub returns-clause-one : goal.returns-clause-one
returns-clause-one c = one_row

pub returns-clause-decodes : goal.returns-clause-decodes
returns-clause-decodes c = each_row_decodes
