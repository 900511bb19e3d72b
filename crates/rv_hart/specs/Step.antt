-- One step of one hart: what the instruction at pc does to pc, registers and memory, or the trap that
-- it meets (RISC-V unprivileged manual, "RV32I Base Integer Instruction Set").
use Rattle.std.specs.Prelude.{◌≡◌, ℕ, ◌*◌, ◌/◌, ◌%◌, ◌==◌, not, Bool, true, false, List, slice_index}
use Rattle.std.specs.Prelude.{slice_set, Option, Some, None, option_map, if◌then◌else◌, nat_lt, int_lt}
use Rattle.prof_bytes.specs.Number.{number_bytes}
use Rattle.rv_table.specs.declared.inst.Op.{Op}
use Rattle.rv_table.specs.declared.inst.Op.TheVariants as ops
use Rattle.rv_table.specs.declared.inst.Inst.{Inst}
use Rattle.rv_table.specs.Fields.{sign_extended}
use Rattle.rv_table.specs.Table.{decoded}
use Rattle.rv_hart.specs.declared.outcome.Stepped.{Stepped}
use Rattle.rv_hart.specs.declared.outcome.Stepped.TheVariants as stepped
use Rattle.rv_hart.specs.declared.outcome.Cause.{Cause}
use Rattle.rv_hart.specs.declared.outcome.Cause.TheVariants as cause
use Rattle.rv_memory.specs.AddressSpace.{AddressSpace, fetched_at, loaded, stored}
use Rattle.prof_bytes.specs.Number.{word_sum}
use Rattle.rv_hart.specs.Arithmetic.{signed, computed}

-- a hart and its memory: the address of the next instruction, x0 to x31, the bytes
pub record State : Type 0 where
  pub pc : ℕ
  pub registers : List ℕ
  pub memory : AddressSpace

-- a state of these
abbrev pub state : ℕ → List ℕ → AddressSpace → State
state pc registers memory = record { pc = pc; registers = registers; memory = memory }

-- what a register holds: x0 is 0 ("Programmers' Model for Base Integer ISA")
abbrev pub register : List ℕ → ℕ → ℕ
register registers number = if number == 0 then 0 else slice_index registers number

-- registers with a value in one of them: x0 is not written
abbrev pub with_register : List ℕ → ℕ → ℕ → List ℕ
with_register registers number value = if number == 0 then registers else slice_set registers number value

-- what the first register holds that an instruction reads
abbrev pub rs1_value : Inst → State → ℕ
rs1_value inst s = register s.registers inst.rs1

-- and the second one
abbrev pub rs2_value : Inst → State → ℕ
rs2_value inst s = register s.registers inst.rs2

-- a trap changes nothing ("Exceptions, Traps, and Interrupts")
abbrev pub trapped : Cause → State → State × Stepped
trapped why s = (s, stepped.Trap why)

-- the result goes into the destination, and the hart goes on at this pc
abbrev pub retired : Inst → ℕ → ℕ → State → State × Stepped
retired inst value next s = (state next (with_register s.registers inst.rd value) s.memory, stepped.Retired)

-- a result goes into the destination, and the hart goes on with the next word ("Integer Computational Instructions")
abbrev pub computes : Inst → ℕ → State → State × Stepped
computes inst value s = retired inst value (word_sum s.pc 4) s

-- a jump ("Unconditional Jumps") leaves the address of the next instruction in the destination
abbrev pub jumps : Inst → ℕ → State → State × Stepped
jumps inst target s = if target % 4 == 0 then retired inst (word_sum s.pc 4) target s else trapped cause.Target s

-- the hart goes on at this pc, and no register is written
abbrev pub continues_at : ℕ → State → State × Stepped
continues_at next s = (state next s.registers s.memory, stepped.Retired)

-- a branch: its target where the test holds, and else the next word ("Conditional Branches")
abbrev pub branches : Inst → Bool → State → State × Stepped
branches inst taken s =
    let target = word_sum s.pc inst.imm in
    if not taken then continues_at (word_sum s.pc 4) s
    else (if target % 4 == 0 then continues_at target s else trapped cause.Target s)

-- a load of this number, if it may be made ("Load and Store Instructions")
abbrev pub loads : Inst → Option ℕ → State → State × Stepped
loads inst None s = trapped cause.Load s
loads inst (Some number) s = computes inst number s

-- the address that a load or a store means
abbrev pub address : Inst → State → ℕ
address inst s = word_sum (rs1_value inst s) inst.imm

-- the number that a load reads
abbrev pub operand : Inst → ℕ → State → Option ℕ
operand inst size s = loaded s.memory (address inst s) size

-- a store that was made, or was not
abbrev pub finishes_store : Bool × AddressSpace → State → State × Stepped
finishes_store answer s =
    if answer.0 then (state (word_sum s.pc 4) s.registers answer.1, stepped.Retired) else trapped cause.Store s

-- a store of the lowest bytes of the second register
abbrev pub stores : Inst → ℕ → State → State × Stepped
stores inst size s = finishes_store (stored s.memory (address inst s) (number_bytes size (rs2_value inst s))) s

-- whether a branch is taken, by what its two registers hold ("Conditional Branches"); no other operation is taken
abbrev pub is_taken : Op → ℕ → ℕ → Bool
is_taken ops.Beq a b = a == b
is_taken ops.Bne a b = not (a == b)
is_taken ops.Blt a b = int_lt (signed a) (signed b)
is_taken ops.Bge a b = not (int_lt (signed a) (signed b))
is_taken ops.Bltu a b = nat_lt a b
is_taken ops.Bgeu a b = not (nat_lt a b)
is_taken _ a b = false

-- the test of a branch in a state
abbrev pub branch_test : Op → Inst → State → Bool
branch_test op inst s = is_taken op (rs1_value inst s) (rs2_value inst s)

-- what the instruction does, by its operation
abbrev pub executed : Op → Inst → State → State × Stepped
executed ops.Illegal inst s = trapped cause.Illegal s
executed ops.Lui inst s = computes inst inst.imm s
executed ops.Auipc inst s = computes inst (word_sum s.pc inst.imm) s
executed ops.Jal inst s = jumps inst (word_sum s.pc inst.imm) s
executed ops.Jalr inst s = jumps inst (word_sum (rs1_value inst s) inst.imm / 2 * 2) s
executed ops.Beq inst s = branches inst (branch_test ops.Beq inst s) s
executed ops.Bne inst s = branches inst (branch_test ops.Bne inst s) s
executed ops.Blt inst s = branches inst (branch_test ops.Blt inst s) s
executed ops.Bge inst s = branches inst (branch_test ops.Bge inst s) s
executed ops.Bltu inst s = branches inst (branch_test ops.Bltu inst s) s
executed ops.Bgeu inst s = branches inst (branch_test ops.Bgeu inst s) s
executed ops.Lb inst s = loads inst (option_map (sign_extended 8) (operand inst 1 s)) s
executed ops.Lh inst s = loads inst (option_map (sign_extended 16) (operand inst 2 s)) s
executed ops.Lw inst s = loads inst (operand inst 4 s) s
executed ops.Lbu inst s = loads inst (operand inst 1 s) s
executed ops.Lhu inst s = loads inst (operand inst 2 s) s
executed ops.Sb inst s = stores inst 1 s
executed ops.Sh inst s = stores inst 2 s
executed ops.Sw inst s = stores inst 4 s
executed ops.Fence inst s = continues_at (word_sum s.pc 4) s
executed ops.Ecall inst s = (s, stepped.Ecall)
executed ops.Ebreak inst s = (s, stepped.Break)
executed operation inst s = computes inst (computed operation (rs1_value inst s) (rs2_value inst s) inst.imm) s

-- the step of an instruction
abbrev pub carried_out : Inst → State → State × Stepped
carried_out inst s = executed inst.op inst s

-- the word at pc, where it may be fetched
abbrev pub fetched : State → Option ℕ
fetched s = fetched_at s.memory s.pc

-- the step of the word that was fetched, if one was
abbrev pub after_fetch : Option ℕ → State → State × Stepped
after_fetch None s = trapped cause.Fetch s
after_fetch (Some word) s = carried_out (decoded word) s

-- the state after one instruction, and how it ended. A trap, an environment call and a breakpoint
-- change nothing
abbrev pub step_of : State → State × Stepped
step_of s = after_fetch (fetched s) s

-- the operations that write memory
abbrev pub is_store : Op → Bool
is_store ops.Sb = true
is_store ops.Sh = true
is_store ops.Sw = true
is_store _ = false

-- a word that was fetched is one of them
abbrev pub word_is_store : Option ℕ → Bool
word_is_store None = false
word_is_store (Some word) = is_store (decoded word).op

-- the instruction at pc is a store that retires
pub record StoresNow (s : State) : Type 0 where
  pub store : word_is_store (fetched s) ≡ true
  pub retires : (step_of s).1 ≡ stepped.Retired
