-- What holds of each way in which a step ends holds of each step.
use Rattle.std.proofs.Common.{ℕ, ◌%◌, ◌==◌, ◌*◌, ◌/◌, Bool, true, false, cond, List, Option, Some, None, option_map}
use Rattle.rv_table.specs.declared.inst.Op.{Op}
use Rattle.rv_table.specs.declared.inst.Op.TheVariants as ops
use Rattle.rv_table.specs.declared.inst.Inst.{Inst}
use Rattle.rv_table.specs.Fields.{sign_extended}
use Rattle.rv_table.specs.Table.{decoded}
use Rattle.rv_hart.specs.declared.outcome.Stepped.{Stepped}
use Rattle.rv_hart.specs.declared.outcome.Stepped.TheVariants as stepped
use Rattle.rv_hart.specs.declared.outcome.Cause.{Cause}
use Rattle.rv_hart.specs.declared.outcome.Cause.TheVariants as cause
use Rattle.prof_bytes.specs.Number.{number_bytes, word_sum}
use Rattle.rv_memory.specs.AddressSpace.{stored}
use Rattle.rv_hart.specs.Step.{State, rs1_value, rs2_value, address, operand, trapped, retired, jumps, continues_at, branches, loads, finishes_store, branch_test, executed, fetched, after_fetch, step_of}

-- the ways in which the step of a state may end
pub record HoldsOfEnds (P : State × Stepped → Type 0) (s : State) : Type 0 where
  pub trap : (why : Cause) → P (trapped why s)
  pub call : P (s, stepped.Ecall)
  pub stop : P (s, stepped.Break)
  pub result : (inst : Inst) (value next : ℕ) → P (retired inst value next s)
  pub going_on : (next : ℕ) → P (continues_at next s)
  pub store : (at : ℕ) (bytes : List ℕ) → P (finishes_store (stored s.memory at bytes) s)

module _ (P : State × Stepped → Type 0) (s : State) (holds : HoldsOfEnds P s) where
  jump : (inst : Inst) (target : ℕ) → P (jumps inst target s)
  jump inst target =
      elim (target % 4 == 0) as (λ b. P (cond b (retired inst (word_sum s.pc 4) target s) (trapped cause.Target s))) [ true ↦ holds.result inst (word_sum s.pc 4) target | false ↦ holds.trap cause.Target ]

  branch : (inst : Inst) (test : Bool) → P (branches inst test s)
  branch inst true =
      elim (word_sum s.pc inst.imm % 4 == 0) as (λ b. P (cond b (continues_at (word_sum s.pc inst.imm) s) (trapped cause.Target s))) [ true ↦ holds.going_on (word_sum s.pc inst.imm) | false ↦ holds.trap cause.Target ]
  branch inst false = holds.going_on (word_sum s.pc 4)

  load : (inst : Inst) (number : Option ℕ) → P (loads inst number s)
  load inst None = holds.trap cause.Load
  load inst (Some number) = holds.result inst number (word_sum s.pc 4)

  store : (inst : Inst) (size : ℕ) → P (finishes_store (stored s.memory (address inst s) (number_bytes size (rs2_value inst s))) s)
  store inst size = holds.store (address inst s) (number_bytes size (rs2_value inst s))

  pub of_operation : (op : Op) (inst : Inst) → P (executed op inst s)
  of_operation ops.Illegal inst = holds.trap cause.Illegal
  of_operation ops.Jal inst = jump inst (word_sum s.pc inst.imm)
  of_operation ops.Jalr inst = jump inst (word_sum (rs1_value inst s) inst.imm / 2 * 2)
  of_operation ops.Beq inst = branch inst (branch_test ops.Beq inst s)
  of_operation ops.Bne inst = branch inst (branch_test ops.Bne inst s)
  of_operation ops.Blt inst = branch inst (branch_test ops.Blt inst s)
  of_operation ops.Bge inst = branch inst (branch_test ops.Bge inst s)
  of_operation ops.Bltu inst = branch inst (branch_test ops.Bltu inst s)
  of_operation ops.Bgeu inst = branch inst (branch_test ops.Bgeu inst s)
  of_operation ops.Lb inst = load inst (option_map (sign_extended 8) (operand inst 1 s))
  of_operation ops.Lh inst = load inst (option_map (sign_extended 16) (operand inst 2 s))
  of_operation ops.Lw inst = load inst (operand inst 4 s)
  of_operation ops.Lbu inst = load inst (operand inst 1 s)
  of_operation ops.Lhu inst = load inst (operand inst 2 s)
  of_operation ops.Sb inst = store inst 1
  of_operation ops.Sh inst = store inst 2
  of_operation ops.Sw inst = store inst 4
  of_operation ops.Fence inst = holds.going_on (word_sum s.pc 4)
  of_operation ops.Ecall inst = holds.call
  of_operation ops.Ebreak inst = holds.stop
  of_operation _ inst = holds.result inst _ (word_sum s.pc 4)

  of_word : (word : Option ℕ) → P (after_fetch word s)
  of_word None = holds.trap cause.Fetch
  of_word (Some word) = of_operation (decoded word).op (decoded word)

  pub of_step : P (step_of s)
  of_step = of_word (fetched s)
