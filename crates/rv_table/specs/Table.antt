-- The table of RV32IM (RISC-V unprivileged manual, "RV32/64G Instruction Set Listings"): which words
-- have which instruction, and what a word decodes to.
use Rattle.std.specs.Prelude.{ℕ, ◌<◌, ◌==◌, ◌&&◌, Bool, true, List, [], ◌∷◌, Option, Some, None}
use Rattle.std.specs.List.{find}
use Rattle.rv_table.specs.declared.inst.Op.{Op}
use Rattle.rv_table.specs.declared.inst.Op.TheVariants as ops
use Rattle.rv_table.specs.declared.inst.Inst.{Inst}
use Rattle.rv_table.specs.declared.opcode.TheConstants.{LOAD, MISC_MEM, OP_IMM, AUIPC, STORE, OP, LUI, BRANCH, JALR}
use Rattle.rv_table.specs.declared.opcode.TheConstants.{JAL, SYSTEM, MULDIV, ECALL, EBREAK}
use Rattle.rv_table.specs.Fields.{opcode, funct3, funct7, Format, R, I, S, B, U, J, shift, bare, laid_out}

-- what else of a word selects the instruction, where its opcode leaves several: funct3, funct3 and funct7, or
-- the whole word
pub data Selector : Type 0 where
  any : Selector
  funct3_is : ℕ → Selector
  functs_are : ℕ → ℕ → Selector
  word_is : ℕ → Selector

-- a row of the listings: which words are of it, by opcode and selector, how they are laid out, and the operation
pub record Row : Type 0 where
  pub code : ℕ
  pub selector : Selector
  pub format : Format
  pub operation : Op

-- a row by its columns
abbrev pub row : ℕ → Selector → Format → Op → Row
row code selector format operation = record { code = code; selector = selector; format = format; operation = operation }

-- one row an instruction: opcode, funct3 and funct7 where they decide, format, operation. The numbers are
-- those of the listings, in binary
abbrev pub table : List Row
table =
    row LUI any U ops.Lui
    ∷ row AUIPC any U ops.Auipc
    ∷ row JAL any J ops.Jal
    ∷ row JALR (funct3_is 0b000) I ops.Jalr
    ∷ row BRANCH (funct3_is 0b000) B ops.Beq
    ∷ row BRANCH (funct3_is 0b001) B ops.Bne
    ∷ row BRANCH (funct3_is 0b100) B ops.Blt
    ∷ row BRANCH (funct3_is 0b101) B ops.Bge
    ∷ row BRANCH (funct3_is 0b110) B ops.Bltu
    ∷ row BRANCH (funct3_is 0b111) B ops.Bgeu
    ∷ row LOAD (funct3_is 0b000) I ops.Lb
    ∷ row LOAD (funct3_is 0b001) I ops.Lh
    ∷ row LOAD (funct3_is 0b010) I ops.Lw
    ∷ row LOAD (funct3_is 0b100) I ops.Lbu
    ∷ row LOAD (funct3_is 0b101) I ops.Lhu
    ∷ row STORE (funct3_is 0b000) S ops.Sb
    ∷ row STORE (funct3_is 0b001) S ops.Sh
    ∷ row STORE (funct3_is 0b010) S ops.Sw
    ∷ row OP_IMM (funct3_is 0b000) I ops.Addi
    ∷ row OP_IMM (funct3_is 0b010) I ops.Slti
    ∷ row OP_IMM (funct3_is 0b011) I ops.Sltiu
    ∷ row OP_IMM (funct3_is 0b100) I ops.Xori
    ∷ row OP_IMM (funct3_is 0b110) I ops.Ori
    ∷ row OP_IMM (funct3_is 0b111) I ops.Andi
    ∷ row OP_IMM (functs_are 0b001 0) shift ops.Slli
    ∷ row OP_IMM (functs_are 0b101 0) shift ops.Srli
    ∷ row OP_IMM (functs_are 0b101 0b0100000) shift ops.Srai
    ∷ row OP (functs_are 0b000 0) R ops.Add
    ∷ row OP (functs_are 0b000 0b0100000) R ops.Sub
    ∷ row OP (functs_are 0b001 0) R ops.Sll
    ∷ row OP (functs_are 0b010 0) R ops.Slt
    ∷ row OP (functs_are 0b011 0) R ops.Sltu
    ∷ row OP (functs_are 0b100 0) R ops.Xor
    ∷ row OP (functs_are 0b101 0) R ops.Srl
    ∷ row OP (functs_are 0b101 0b0100000) R ops.Sra
    ∷ row OP (functs_are 0b110 0) R ops.Or
    ∷ row OP (functs_are 0b111 0) R ops.And
    ∷ row OP (functs_are 0b000 MULDIV) R ops.Mul
    ∷ row OP (functs_are 0b001 MULDIV) R ops.Mulh
    ∷ row OP (functs_are 0b010 MULDIV) R ops.Mulhsu
    ∷ row OP (functs_are 0b011 MULDIV) R ops.Mulhu
    ∷ row OP (functs_are 0b100 MULDIV) R ops.Div
    ∷ row OP (functs_are 0b101 MULDIV) R ops.Divu
    ∷ row OP (functs_are 0b110 MULDIV) R ops.Rem
    ∷ row OP (functs_are 0b111 MULDIV) R ops.Remu
    ∷ row MISC_MEM (funct3_is 0b000) bare ops.Fence
    ∷ row SYSTEM (word_is ECALL) bare ops.Ecall
    ∷ row SYSTEM (word_is EBREAK) bare ops.Ebreak
    ∷ []

-- a word has what the selector asks for
abbrev pub selects : ℕ → Selector → Bool
selects word any = true
selects word (funct3_is third) = funct3 word == third
selects word (functs_are third seventh) = (funct3 word == third) && (funct7 word == seventh)
selects word (word_is whole) = word == whole

-- the word has this row's encoding
abbrev pub has_encoding : ℕ → Row → Bool
has_encoding word row = (opcode word == row.code) && selects word row.selector

-- the operation and the fields of a row; `Illegal` without one
abbrev pub by_row : ℕ → Option Row → Inst
by_row word None = laid_out bare ops.Illegal word
by_row word (Some row) = laid_out row.format row.operation word

-- what a word decodes to: the operation of its row and the fields of that row's format, or `Illegal`
-- where the table has no row for it
abbrev pub decoded : ℕ → Inst
decoded word = by_row word (find (has_encoding word) table)

-- registers are x0 to x31
pub record HasRegisters (inst : Inst) : Type 0 where
  pub rd : inst.rd < 32
  pub rs1 : inst.rs1 < 32
  pub rs2 : inst.rs2 < 32
