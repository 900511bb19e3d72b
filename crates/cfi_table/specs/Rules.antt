-- The rules that call frame instructions make (DWARF 5, sections 6.4.2 and 6.4.3).
use Rattle.std.specs.Prelude.{◌≡◌, ℕ, ◌≤◌, ◌<◌, ◌+◌, ◌%◌, ◌^◌, ◌==◌, Bool, false, nat_lt, List, [], ◌∷◌}
use Rattle.std.specs.Prelude.{length, zero, suc, replicate, slice_get}
use Rattle.std.specs.Prelude.{Option, Some, None, Result, Ok, if◌then◌else◌, unwrap_or}
use Rattle.std.specs.List.{slice_set}
use Rattle.std.specs.Option.{option_map_or, ok_or}
use Rattle.prof_bytes.specs.Reading.{left_of}
use Rattle.prof_bytes.specs.Outcome.{◌>>=◌}
use Rattle.prof_bytes.specs.Fields.{Input}
use Rattle.cfi_table.specs.declared.fault.FrameFault.{FrameFault}
use Rattle.cfi_table.specs.declared.instruction.AlignmentFactors.{AlignmentFactors}
use Rattle.cfi_table.specs.declared.instruction.CallFrameInstruction.{CallFrameInstruction}
use Rattle.cfi_table.specs.declared.instruction.CallFrameInstruction.TheVariants as instructions
use Rattle.cfi_table.specs.declared.rules.Cfa.{Cfa}
use Rattle.cfi_table.specs.declared.rules.Cfa.TheVariants as cfas
use Rattle.cfi_table.specs.declared.rules.Rule.{Rule}
use Rattle.cfi_table.specs.declared.rules.Rule.TheVariants as rules
use Rattle.cfi_table.specs.Instructions.{Reading, instruction_from}

-- the rules that remember_state keeps
pub record Remembered : Type 0 where
  pub cfa : Cfa
  pub regs : List Rule

-- the location, the rules there, and the rules that were remembered, the latest first
pub record FrameState : Type 0 where
  pub location : ℕ
  pub cfa : Cfa
  pub regs : List Rule
  pub remembered : List Remembered

-- no rule is in force, and every register has the same value
abbrev pub all_same_value : List Rule
all_same_value = replicate 32 rules.Kept

-- the state before the first instruction of a CIE
abbrev pub no_rules : FrameState
no_rules = record { location = 0; cfa = cfas.Missing; regs = all_same_value; remembered = [] }

-- ---- what an instruction makes of the rules; nothing where it is at fault

-- a rule for a register; those of registers from 32 on are passed over
abbrev pub with_rule : ℕ → Rule → FrameState → FrameState
with_rule register rule s = if nat_lt register 32 then record s { regs = slice_set s.regs register rule } else s

-- a register's rule
abbrev pub rule_at : List Rule → ℕ → Rule
rule_at regs register = unwrap_or (slice_get regs register) rules.Kept

-- the registers from one up to another have the same value
abbrev pub AreSameValue : List Rule → ℕ → ℕ → Type 0
AreSameValue regs from to = (register : ℕ) → from ≤ register → register < to → rule_at regs register ≡ rules.Kept

-- def_cfa: no register above 31
abbrev pub with_cfa : ℕ → ℕ → FrameState → Option FrameState
with_cfa register offset s = if nat_lt register 32 then Some (record s { cfa = cfas.Register register offset })
    else None

-- def_cfa_register keeps the offset, which is 0 where no rule has been given yet
abbrev pub with_cfa_register : ℕ → Cfa → FrameState → Option FrameState
with_cfa_register register cfas.Missing s = with_cfa register 0 s
with_cfa_register register (cfas.Register old offset) s = with_cfa register offset s
with_cfa_register register cfas.Expression s = None

-- def_cfa_offset keeps the register, of which there must be one
abbrev pub with_cfa_offset : ℕ → Cfa → FrameState → Option FrameState
with_cfa_offset offset cfas.Missing s = None
with_cfa_offset offset (cfas.Register register old) s = Some (record s { cfa = cfas.Register register offset })
with_cfa_offset offset cfas.Expression s = None

-- register(R): no source above 31
abbrev pub with_source : ℕ → ℕ → FrameState → Option FrameState
with_source register source s =
    if nat_lt register 32 then (if nat_lt source 32 then Some (with_rule register (rules.Copy source) s) else None)
    else Some s

-- restore_state goes back to the latest of the remembered rules, of which there must be one
abbrev pub with_remembered : List Remembered → FrameState → Option FrameState
with_remembered [] s = None
with_remembered (r ∷ older) s = Some (record s { cfa = r.cfa; regs = r.regs; remembered = older })

-- remember_state
abbrev pub remembering : FrameState → FrameState
remembering s = record s { remembered = record { cfa = s.cfa; regs = s.regs } ∷ s.remembered }

-- `initial` are the rules after the CIE's instructions, to which restore goes back
abbrev pub execute : List Rule → CallFrameInstruction → FrameState → Option FrameState
execute initial instructions.Nop s = Some s
execute initial (instructions.SetLoc address) s = Some (record s { location = address })
execute initial (instructions.AdvanceLoc delta) s = Some (record s { location = (s.location + delta) % 2 ^ 32 })
execute initial (instructions.DefCfa register offset) s = with_cfa register offset s
execute initial (instructions.DefCfaRegister register) s = with_cfa_register register s.cfa s
execute initial (instructions.DefCfaOffset offset) s = with_cfa_offset offset s.cfa s
execute initial instructions.DefCfaExpression s = Some (record s { cfa = cfas.Expression })
execute initial (instructions.Undefined register) s = Some (with_rule register rules.Undefined s)
execute initial (instructions.SameValue register) s = Some (with_rule register rules.Kept s)
execute initial (instructions.Offset register offset) s = Some (with_rule register (rules.Saved offset) s)
execute initial (instructions.ValOffset register offset) s = Some (with_rule register (rules.Sum offset) s)
execute initial (instructions.Register register source) s = with_source register source s
execute initial (instructions.Expression register) s = Some (with_rule register rules.Expression s)
execute initial (instructions.ValExpression register) s = Some (with_rule register rules.Expression s)
execute initial (instructions.Restore register) s = Some (with_rule register (rule_at initial register) s)
execute initial instructions.RememberState s = Some (remembering s)
execute initial instructions.RestoreState s = with_remembered s.remembered s

-- ---- instructions one after another

-- an instruction's fault is its offset
abbrev pub fault_here : Input FrameFault → FrameFault
fault_here input = record { offset = input.at.offset }

-- one instruction, carried out in a state by `execution`
abbrev pub step_by : {S : Type 0} → (CallFrameInstruction → S → Option S) → AlignmentFactors → Input FrameFault → S
    → Reading S
step_by execution factors input s = do
  (instruction, next) ← instruction_from factors (record input { missing = fault_here input })
  t ← ok_or (execution instruction s) (fault_here input)
  Ok (t, next)

-- the state after the instructions up to the first after which it stops, or the fault of the first that has one.
-- At most `room` instructions are carried out: as many as there are bytes are enough
-- (`InstructionsHaveRoom` in Laws)
unfoldable pub run_by : {S : Type 0} → (CallFrameInstruction → S → Option S) → (S → Bool) → ℕ → AlignmentFactors
    → Input FrameFault → S
    → Result S FrameFault
run_by execution stops zero factors input s = Ok s
run_by execution stops (suc room) factors input s =
    if length (left_of input.at) == 0 then Ok s
    else step_by execution factors input s
    >>= λ done. if stops done.0 then Ok done.0 else run_by execution stops room factors done.1 done.0

-- the location is above the limit, if there is one
abbrev pub is_past : Option ℕ → FrameState → Bool
is_past limit s = option_map_or (λ address. nat_lt address s.location) limit false

-- the rules after the instructions, up to the first that moves the location past the limit
abbrev pub run_all
    : Option ℕ → List Rule → AlignmentFactors → Input FrameFault → FrameState → Result FrameState FrameFault
run_all limit initial factors input s = run_by (execute initial) (is_past limit)
    (length (left_of input.at)) factors input s
