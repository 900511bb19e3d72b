-- What the operations of RV32IM give of two words (RISC-V unprivileged manual, "Integer
-- Computational Instructions", and the "M" extension). All is modulo 2^32.
use Rattle.prof_bytes.specs.Number.{word_sum}
use Rattle.std.specs.Prelude.{ℕ, ◌+◌, ◌-◌, ◌*◌, ◌/◌, ◌%◌, ◌^◌, ◌==◌, ℤ, pos, ◌*ℤ◌, Bool, if◌then◌else◌, nat_lt, bit_and}
use Rattle.std.specs.Prelude.{bit_or, bit_xor}
use Rattle.std.specs.Int.{w32, w64, cast_signed, cast_unsigned, int_shr}
use Rattle.std.specs.Prelude.{int_div, int_rem, int_lt}
use Rattle.rv_table.specs.declared.inst.Op.{Op}
use Rattle.rv_table.specs.declared.inst.Op.TheVariants as ops

-- a word as a number in two's complement
abbrev pub signed : ℕ → ℤ
signed word = cast_signed w32 word

-- a number as a word in two's complement
abbrev pub word_of : ℤ → ℕ
word_of number = cast_unsigned w32 number

-- the upper word of a product of two words, in 64 bits
abbrev pub upper_word : ℤ → ℕ
upper_word product = cast_unsigned w64 product / 2 ^ 32

-- 1 where a comparison holds, and else 0 (SLT and its like)
abbrev pub flag : Bool → ℕ
flag test = if test then 1 else 0

-- SUB
abbrev pub difference : ℕ → ℕ → ℕ
difference a b = (a + (2 ^ 32 - b)) % 2 ^ 32

-- shifts are by the lowest five bits of the second word
abbrev pub left_shift : ℕ → ℕ → ℕ
left_shift a b = a * 2 ^ (b % 32) % 2 ^ 32

-- SRL and SRLI: zeros come in
abbrev pub right_shift : ℕ → ℕ → ℕ
right_shift a b = a / 2 ^ (b % 32)

-- SRA and SRAI: copies of the sign come in
abbrev pub right_shift_signed : ℕ → ℕ → ℕ
right_shift_signed a b = word_of (int_shr (signed a) (b % 32))

-- MUL ("Multiplication Operations")
abbrev pub product : ℕ → ℕ → ℕ
product a b = a * b % 2 ^ 32

-- the quotient is rounded towards 0; by 0 it is all ones, and the remainder is the dividend. The one
-- quotient that does not fit, 2^31, is -2^31 as a word
abbrev pub quotient_signed : ℕ → ℕ → ℕ
quotient_signed a b = if b == 0 then 2 ^ 32 - 1 else word_of (int_div (signed a) (signed b))

-- DIVU
abbrev pub quotient : ℕ → ℕ → ℕ
quotient a b = if b == 0 then 2 ^ 32 - 1 else a / b

-- REM
abbrev pub remainder_signed : ℕ → ℕ → ℕ
remainder_signed a b = if b == 0 then a else word_of (int_rem (signed a) (signed b))

-- REMU
abbrev pub remainder : ℕ → ℕ → ℕ
remainder a b = if b == 0 then a else a % b

-- what an operation computes of its two registers and its immediate
abbrev pub computed : Op → ℕ → ℕ → ℕ → ℕ
computed ops.Addi a b imm = word_sum a imm
computed ops.Slti a b imm = flag (int_lt (signed a) (signed imm))
computed ops.Sltiu a b imm = flag (nat_lt a imm)
computed ops.Xori a b imm = bit_xor a imm
computed ops.Ori a b imm = bit_or a imm
computed ops.Andi a b imm = bit_and a imm
computed ops.Slli a b imm = left_shift a imm
computed ops.Srli a b imm = right_shift a imm
computed ops.Srai a b imm = right_shift_signed a imm
computed ops.Add a b imm = word_sum a b
computed ops.Sub a b imm = difference a b
computed ops.Sll a b imm = left_shift a b
computed ops.Slt a b imm = flag (int_lt (signed a) (signed b))
computed ops.Sltu a b imm = flag (nat_lt a b)
computed ops.Xor a b imm = bit_xor a b
computed ops.Srl a b imm = right_shift a b
computed ops.Sra a b imm = right_shift_signed a b
computed ops.Or a b imm = bit_or a b
computed ops.And a b imm = bit_and a b
computed ops.Mul a b imm = product a b
computed ops.Mulh a b imm = upper_word (signed a *ℤ signed b)
computed ops.Mulhsu a b imm = upper_word (signed a *ℤ pos b)
computed ops.Mulhu a b imm = upper_word (pos a *ℤ pos b)
computed ops.Div a b imm = quotient_signed a b
computed ops.Divu a b imm = quotient a b
computed ops.Rem a b imm = remainder_signed a b
computed ops.Remu a b imm = remainder a b
computed _ a b imm = 0
