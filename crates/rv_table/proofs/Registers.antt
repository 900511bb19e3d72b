-- The numbers of registers that a word names are below 32.
use Rattle.std.proofs.Common.{ℕ, ◌/◌, ◌%◌, ◌^◌, ◌<◌, Option, Some, None, arith}
use Rattle.rv_table.specs.declared.inst.Op.{Op}
use Rattle.rv_table.specs.Fields.{Format, R, I, S, B, U, J, shift, bare, laid_out}
use Rattle.rv_table.specs.Table.{Row, by_row, HasRegisters}

below : (word from : ℕ) → word / 2 ^ from % 2 ^ 5 < 32
below word from = omega arith

laid_out-registers : (format : Format) (op : Op) (word : ℕ) → HasRegisters (laid_out format op word)
laid_out-registers R op word = record { rd = below word 7; rs1 = below word 15; rs2 = below word 20 }
laid_out-registers I op word = record { rd = below word 7; rs1 = below word 15; rs2 = omega arith }
laid_out-registers S op word = record { rd = omega arith; rs1 = below word 15; rs2 = below word 20 }
laid_out-registers B op word = record { rd = omega arith; rs1 = below word 15; rs2 = below word 20 }
laid_out-registers U op word = record { rd = below word 7; rs1 = omega arith; rs2 = omega arith }
laid_out-registers J op word = record { rd = below word 7; rs1 = omega arith; rs2 = omega arith }
laid_out-registers shift op word = record { rd = below word 7; rs1 = below word 15; rs2 = omega arith }
laid_out-registers bare op word = record { rd = omega arith; rs1 = omega arith; rs2 = omega arith }

pub by_row-registers : (word : ℕ) (found : Option Row) → HasRegisters (by_row word found)
by_row-registers word None = record { rd = omega arith; rs1 = omega arith; rs2 = omega arith }
by_row-registers word (Some row) = laid_out-registers row.format row.operation word
