-- Which instruction is at fault depends on the forms of the CFA's rules alone, now and as they were remembered.
use Rattle.std.specs.Prelude.{ℕ, Bool, false, nat_lt, List, [], ◌∷◌, length, Option, Some, None, Result, if◌then◌else◌}
use Rattle.prof_bytes.specs.Reading.{left_of}
use Rattle.prof_bytes.specs.Fields.{Input}
use Rattle.prof_bytes.specs.Outcome.{viewed}
use Rattle.cfi_table.specs.declared.fault.FrameFault.{FrameFault}
use Rattle.cfi_table.specs.declared.instruction.AlignmentFactors.{AlignmentFactors}
use Rattle.cfi_table.specs.declared.instruction.CallFrameInstruction.{CallFrameInstruction}
use Rattle.cfi_table.specs.declared.instruction.CallFrameInstruction.TheVariants as instructions
use Rattle.cfi_table.specs.declared.rules.Cfa.{Cfa}
use Rattle.cfi_table.specs.declared.rules.Cfa.TheVariants as cfas
use Rattle.cfi_table.specs.declared.checker.CfaForm.{CfaForm}
use Rattle.cfi_table.specs.declared.checker.CfaForm.TheVariants as forms
use Rattle.cfi_table.specs.Rules.{FrameState, Remembered, run_by}

-- the form of the CFA's rule, and the forms that were remembered, the latest first
pub record CfaForms : Type 0 where
  pub current : CfaForm
  pub remembered : List CfaForm

-- no rule is in force
abbrev pub no_forms : CfaForms
no_forms = record { current = forms.Missing; remembered = [] }

-- def_cfa: no register above 31
abbrev pub to_register : ℕ → CfaForms → Option CfaForms
to_register register k = if nat_lt register 32 then Some (record k { current = forms.Register }) else None

-- def_cfa_register: not where the CFA is an expression
abbrev pub to_new_register : ℕ → CfaForm → CfaForms → Option CfaForms
to_new_register register forms.Missing k = to_register register k
to_new_register register forms.Register k = to_register register k
to_new_register register forms.Expression k = None

-- def_cfa_offset: where the CFA is a register and an offset
abbrev pub to_new_offset : CfaForm → CfaForms → Option CfaForms
to_new_offset forms.Missing k = None
to_new_offset forms.Register k = Some k
to_new_offset forms.Expression k = None

-- register(R): no source above 31
abbrev pub to_source : ℕ → ℕ → CfaForms → Option CfaForms
to_source register source k = if nat_lt register 32 then (if nat_lt source 32 then Some k else None) else Some k

-- restore_state: where a form was remembered
abbrev pub to_remembered : List CfaForm → CfaForms → Option CfaForms
to_remembered [] k = None
to_remembered (r ∷ older) k = Some (record { current = r; remembered = older })

-- the forms after an instruction; nothing where it is at fault
abbrev pub execute_forms : CallFrameInstruction → CfaForms → Option CfaForms
execute_forms instructions.Nop k = Some k
execute_forms (instructions.SetLoc address) k = Some k
execute_forms (instructions.AdvanceLoc delta) k = Some k
execute_forms (instructions.DefCfa register offset) k = to_register register k
execute_forms (instructions.DefCfaRegister register) k = to_new_register register k.current k
execute_forms (instructions.DefCfaOffset offset) k = to_new_offset k.current k
execute_forms instructions.DefCfaExpression k = Some (record k { current = forms.Expression })
execute_forms (instructions.Undefined register) k = Some k
execute_forms (instructions.SameValue register) k = Some k
execute_forms (instructions.Offset register offset) k = Some k
execute_forms (instructions.ValOffset register offset) k = Some k
execute_forms (instructions.Register register source) k = to_source register source k
execute_forms (instructions.Expression register) k = Some k
execute_forms (instructions.ValExpression register) k = Some k
execute_forms (instructions.Restore register) k = Some k
execute_forms instructions.RememberState k = Some (record k { remembered = k.current ∷ k.remembered })
execute_forms instructions.RestoreState k = to_remembered k.remembered k

-- a run that stops at no form
abbrev pub never : CfaForms → Bool
never k = false

-- the forms after the instructions, or the fault of the first that has one
abbrev pub run_forms : AlignmentFactors → Input FrameFault → CfaForms → Result CfaForms FrameFault
run_forms factors input k = run_by execute_forms never (length (left_of input.at)) factors input k

-- ---- the forms of rules

-- the form of the CFA's rule
abbrev pub form_of : Cfa → CfaForm
form_of cfas.Missing = forms.Missing
form_of (cfas.Register register offset) = forms.Register
form_of cfas.Expression = forms.Expression

-- the forms of rules that were remembered
abbrev pub remembered_forms : List Remembered → List CfaForm
remembered_forms [] = []
remembered_forms (r ∷ older) = form_of r.cfa ∷ remembered_forms older

-- the forms of a state
abbrev pub forms_of : FrameState → CfaForms
forms_of s = record { current = form_of s.cfa; remembered = remembered_forms s.remembered }

-- the forms after instructions, or their fault
abbrev pub forms_after : Result FrameState FrameFault → Result CfaForms FrameFault
forms_after r = viewed forms_of r
