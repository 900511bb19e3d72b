use Rattle.std.proofs.Common.{subst, sym, ◌∙◌}
use Rattle.std.specs.List.{find}
use Rattle.rv_table.specs.declared.inst.Inst.{Inst}
use Rattle.rv_table.specs.Table.{table, has_encoding, HasRegisters}
use Rattle.rv_table.proofs.Registers.{by_row-registers}
use Rattle.rv_table.proofs.rows.decode.Goals as goal

pub returns-clause-registers : goal.returns-clause-registers
returns-clause-registers c = subst (λ (i : Inst). HasRegisters i) (sym (c.inst_of.ensures ∙ c.row_of.ensures)) (by_row-registers c.args.word (find (has_encoding c.args.word) table))
