-- An instruction by what is taken of its word.
use Rattle.rv_table.specs.declared.fields.Layout.{Layout}
use Rattle.rv_table.specs.declared.inst.Inst.{Inst}
use Rattle.rv_table.specs.Fields.{rd, rs1, rs2}

-- the instruction: its operation, the registers that a word names, and the immediate
abbrev pub inst_of : Layout → Inst
inst_of layout =
    record {
      op = layout.op;
      rd = rd layout.registers;
      rs1 = rs1 layout.registers;
      rs2 = rs2 layout.registers;
      imm = layout.imm;
    }
