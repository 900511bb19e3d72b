-- The code of a guest: words of RV32I (RISC-V unprivileged manual, chapters "RV32I" and "Instruction set listings").
use Rattle.std.specs.Prelude.{ℕ, ◌+◌, ◌-◌, ◌*◌, ◌/◌, ◌%◌, ◌^◌, nat_lt, List, [], ◌∷◌, ◌++◌, if◌then◌else◌}
use Rattle.std.specs.List.{flat_map, range_with_len}
use Rattle.prof_bytes.specs.Number.{words}
use Rattle.guest_gen.specs.declared.code.DrawnFunction.{DrawnFunction}
use Rattle.guest_gen.specs.Draws.{draw, draw_state}

-- how many functions there are
abbrev pub function_count : ℕ
function_count = 48

-- where the program begins
abbrev pub entry : ℕ
entry = 0x10000

-- the bytes of a function: 13 words
abbrev pub function_size : ℕ
function_size = 52

-- where a function begins; the first one follows the four words of the start
abbrev pub function_start : ℕ → ℕ
function_start i = 0x10010 + function_size * i

-- ---- what a function does

-- it counts down from a number, and then calls two functions, by three draws: one of the next three, and one of the
-- next five
abbrev pub drawn_function : ℕ → ℕ → DrawnFunction
drawn_function s i = record {
  turns = 1 + draw s 0 % 31;
  first = i + 1 + draw s 1 % 3;
  second = i + 1 + draw s 2 % 5;
}

-- ---- words

-- ADDI x0, x0, 0
abbrev pub nop : ℕ
nop = 0x00000013

-- JAL: the offset's bits 20, 10 to 1, 11 and 19 to 12, then the register and the opcode
abbrev pub jal : ℕ → ℕ → ℕ
jal rd offset = offset / 2 ^ 20 % 2 * 2 ^ 31 + offset / 2 % 2 ^ 10 * 2 ^ 21 + offset / 2 ^ 11 % 2 * 2 ^ 20
    + offset / 2 ^ 12 % 2 ^ 8 * 2 ^ 12 + rd * 2 ^ 7 + 0x6f

-- from an address, a call of a function further on; nothing, where there is no function of that number
abbrev pub call_instruction : ℕ → ℕ → ℕ
call_instruction address callee = if nat_lt callee function_count then jal 1 (function_start callee - address) else nop

-- call f0, again and again; two EBREAK
abbrev pub start_words : List ℕ
start_words = 0x010000ef ∷ 0xffdff06f ∷ 0x00100073 ∷ 0x00100073 ∷ []

-- ADDI sp, sp, -16; SW ra, 12(sp); SW s0, 8(sp); ADDI s0, x0, turns; three words that are repeated: ADDI a5, a5, 1,
-- ADDI s0, s0, -1, BNE s0, x0, -8; the calls; LW ra, 12(sp); LW s0, 8(sp); ADDI sp, sp, 16; JALR x0, 0(ra)
abbrev pub function_words : ℕ → DrawnFunction → List ℕ
function_words i f = 0xff010113 ∷ 0x00112623 ∷ 0x00812423 ∷ (0x00000413 + f.turns * 2 ^ 20) ∷ 0x00178793 ∷ 0xfff40413
    ∷ 0xfe041ce3 ∷ call_instruction (function_start i + 28) f.first ∷ call_instruction (function_start i + 32) f.second
    ∷ 0x00c12083 ∷ 0x00812403 ∷ 0x01010113 ∷ 0x00008067 ∷ []

-- ---- bytes

-- a function, which draws after those before it
unfoldable pub function_bytes : ℕ → ℕ → List ℕ
function_bytes s i = words (function_words i (drawn_function (draw_state (3 * i) s) i))

-- a given number of functions
unfoldable pub functions_bytes : ℕ → ℕ → List ℕ
functions_bytes s count = flat_map (function_bytes s) (range_with_len 0 count)

-- the whole code, with draws from a state on
abbrev pub code : ℕ → List ℕ
code s = words start_words ++ functions_bytes s function_count
