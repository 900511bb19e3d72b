-- Instruction formats: which bits of a word make its fields (RISC-V unprivileged manual, "Base
-- Instruction Formats" and "Immediate Encoding Variants").
use Rattle.std.specs.Prelude.{ℕ, ◌+◌, ◌-◌, ◌*◌, ◌/◌, ◌%◌, ◌^◌, nat_lt, if◌then◌else◌}
use Rattle.rv_table.specs.declared.inst.Op.{Op}
use Rattle.rv_table.specs.declared.inst.Inst.{Inst}

-- a given number of bits of the word, from this bit on
abbrev pub bits : ℕ → ℕ → ℕ → ℕ
bits word from count = word / 2 ^ from % 2 ^ count

-- bits 0 to 6
abbrev pub opcode : ℕ → ℕ
opcode word = word % 2 ^ 7

-- the destination register: bits 7 to 11
abbrev pub rd : ℕ → ℕ
rd word = bits word 7 5

-- bits 12 to 14
abbrev pub funct3 : ℕ → ℕ
funct3 word = bits word 12 3

-- the first source register: bits 15 to 19
abbrev pub rs1 : ℕ → ℕ
rs1 word = bits word 15 5

-- the second source register: bits 20 to 24
abbrev pub rs2 : ℕ → ℕ
rs2 word = bits word 20 5

-- bits 25 to 31
abbrev pub funct7 : ℕ → ℕ
funct7 word = bits word 25 7

-- a number of that many bits, whose highest bit is its sign, modulo 2^32
abbrev pub sign_extended : ℕ → ℕ → ℕ
sign_extended count value = if nat_lt value (2 ^ (count - 1)) then value else value + (2 ^ 32 - 2 ^ count)

-- bits 20 to 31
abbrev pub i_immediate : ℕ → ℕ
i_immediate word = sign_extended 12 (bits word 20 12)

-- bits 25 to 31 over bits 7 to 11
abbrev pub s_immediate : ℕ → ℕ
s_immediate word = sign_extended 12 (bits word 25 7 * 2 ^ 5 + bits word 7 5)

-- an even offset: bit 31, bit 7, bits 25 to 30, bits 8 to 11, and a 0
abbrev pub b_immediate : ℕ → ℕ
b_immediate word =
    sign_extended 13 (bits word 31 1 * 2 ^ 12 + bits word 7 1 * 2 ^ 11 + bits word 25 6 * 2 ^ 5 + bits word 8 4 * 2)

-- bits 12 to 31 in their place, over twelve zeros
abbrev pub u_immediate : ℕ → ℕ
u_immediate word = bits word 12 20 * 2 ^ 12

-- an even offset: bit 31, bits 12 to 19, bit 20, bits 21 to 30, and a 0
abbrev pub j_immediate : ℕ → ℕ
j_immediate word =
    sign_extended 21 (bits word 31 1 * 2 ^ 20 + bits word 12 8 * 2 ^ 12 + bits word 20 1 * 2 ^ 11 + bits word 21 10 * 2)

-- the manual's formats; `shift` is I with a shift amount (shamt) in place of the immediate, and `bare`
-- has no operand
pub data Format : Type 0 where
  R : Format
  I : Format
  S : Format
  B : Format
  U : Format
  J : Format
  shift : Format
  bare : Format

-- an operation with the fields that its format has of the word
abbrev pub laid_out : Format → Op → ℕ → Inst
laid_out R operation word = record { op = operation; rd = rd word; rs1 = rs1 word; rs2 = rs2 word; imm = 0 }
laid_out I operation word = record { op = operation; rd = rd word; rs1 = rs1 word; rs2 = 0; imm = i_immediate word }
laid_out S operation word = record { op = operation; rd = 0; rs1 = rs1 word; rs2 = rs2 word; imm = s_immediate word }
laid_out B operation word = record { op = operation; rd = 0; rs1 = rs1 word; rs2 = rs2 word; imm = b_immediate word }
laid_out U operation word = record { op = operation; rd = rd word; rs1 = 0; rs2 = 0; imm = u_immediate word }
laid_out J operation word = record { op = operation; rd = rd word; rs1 = 0; rs2 = 0; imm = j_immediate word }
laid_out shift operation word = record { op = operation; rd = rd word; rs1 = rs1 word; rs2 = 0; imm = rs2 word }
laid_out bare operation word = record { op = operation; rd = 0; rs1 = 0; rs2 = 0; imm = 0 }
