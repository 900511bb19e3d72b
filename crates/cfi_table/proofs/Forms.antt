-- The forms of the CFA's rules say which instruction is at fault.
use Rattle.std.proofs.Common.{◌≡◌, ℕ, zero, suc, Bool, true, false, cond, List, [], ◌∷◌, length, Option, Some, None, Ok, Err, refl, sym, ap, ◌∙◌}
use Rattle.std.specs.Prelude.{◌==◌, nat_lt, option_map}
use Rattle.std.specs.List.{slice_set}
use Rattle.std.specs.Option.{ok_or}
use Rattle.prof_bytes.specs.Outcome.{◌>>=◌, viewed}
use Rattle.prof_bytes.specs.Reading.{left_of}
use Rattle.prof_bytes.specs.Fields.{Input}
use Rattle.cfi_table.specs.declared.fault.FrameFault.{FrameFault}
use Rattle.cfi_table.specs.declared.instruction.AlignmentFactors.{AlignmentFactors}
use Rattle.cfi_table.specs.declared.instruction.CallFrameInstruction.{CallFrameInstruction}
use Rattle.cfi_table.specs.declared.instruction.CallFrameInstruction.TheVariants as instructions
use Rattle.cfi_table.specs.declared.rules.Cfa.{Cfa}
use Rattle.cfi_table.specs.declared.rules.Cfa.TheVariants as cfas
use Rattle.cfi_table.specs.declared.rules.Rule.{Rule}
use Rattle.cfi_table.specs.declared.rules.Rule.TheVariants as rules
use Rattle.cfi_table.specs.declared.checker.CfaForm.{CfaForm}
use Rattle.cfi_table.specs.declared.checker.CfaForm.TheVariants as forms
use Rattle.cfi_table.specs.Instructions.{Reading, instruction_from}
use Rattle.cfi_table.specs.Rules.{FrameState, Remembered, rule_at, with_rule, with_cfa, with_cfa_register, with_cfa_offset, with_source}
use Rattle.cfi_table.specs.Rules.{with_remembered, execute, fault_here, step_by, run_by, is_past, run_all}
use Rattle.cfi_table.specs.private.Checking.{CfaForms, form_of, remembered_forms, forms_of, forms_after, to_register, to_new_register}
use Rattle.cfi_table.specs.private.Checking.{to_new_offset, to_source, to_remembered, execute_forms, never, run_forms}

-- registers below 32 alone have rules
with_rule_forms : (register : ℕ) (rule : Rule) (s : FrameState) → forms_of (with_rule register rule s) ≡ forms_of s
with_rule_forms register rule s = go (nat_lt register 32)
  where
    go : (b : Bool) → forms_of (cond b (record s { regs = slice_set s.regs register rule }) s) ≡ forms_of s
    go true = refl
    go false = refl

gives_rule : (register : ℕ) (rule : Rule) (s : FrameState) → option_map forms_of (Some (with_rule register rule s)) ≡ Some (forms_of s)
gives_rule register rule s = ap (λ (k : CfaForms). Some k) (with_rule_forms register rule s)

with_cfa_forms : (register offset : ℕ) (s : FrameState) → option_map forms_of (with_cfa register offset s) ≡ to_register register (forms_of s)
with_cfa_forms register offset s = go (nat_lt register 32)
  where
    go : (b : Bool) → option_map forms_of (cond b (Some (record s { cfa = cfas.Register register offset })) None) ≡ cond b (Some (record (forms_of s) { current = forms.Register })) None
    go true = refl
    go false = refl

with_source_forms : (register source : ℕ) (s : FrameState) → option_map forms_of (with_source register source s) ≡ to_source register source (forms_of s)
with_source_forms register source s = go (nat_lt register 32) (nat_lt source 32)
  where
    go : (b d : Bool) → option_map forms_of (cond b (cond d (Some (with_rule register (rules.Copy source) s)) None) (Some s)) ≡ cond b (cond d (Some (forms_of s)) None) (Some (forms_of s))
    go true true = gives_rule register (rules.Copy source) s
    go true false = refl
    go false d = refl

with_register_forms : (register : ℕ) (c : Cfa) (s : FrameState) → option_map forms_of (with_cfa_register register c s) ≡ to_new_register register (form_of c) (forms_of s)
with_register_forms register cfas.Missing s = with_cfa_forms register 0 s
with_register_forms register (cfas.Register old offset) s = with_cfa_forms register offset s
with_register_forms register cfas.Expression s = refl

with_offset_forms : (offset : ℕ) (s : FrameState) (c : Cfa) → s.cfa ≡ c → option_map forms_of (with_cfa_offset offset c s) ≡ to_new_offset (form_of c) (forms_of s)
with_offset_forms offset s cfas.Missing e = refl
with_offset_forms offset s (cfas.Register register old) e = ap (λ (k : CfaForm). Some (record { current = k; remembered = remembered_forms s.remembered })) (sym (ap form_of e))
with_offset_forms offset s cfas.Expression e = refl

with_remembered_forms : (rs : List Remembered) (s : FrameState) → option_map forms_of (with_remembered rs s) ≡ to_remembered (remembered_forms rs) (forms_of s)
with_remembered_forms [] s = refl
with_remembered_forms (r ∷ older) s = refl

pub execute_as_forms : (initial : List Rule) (i : CallFrameInstruction) (s : FrameState) → option_map forms_of (execute initial i s) ≡ execute_forms i (forms_of s)
execute_as_forms initial instructions.Nop s = refl
execute_as_forms initial (instructions.SetLoc address) s = refl
execute_as_forms initial (instructions.AdvanceLoc delta) s = refl
execute_as_forms initial (instructions.DefCfa register offset) s = with_cfa_forms register offset s
execute_as_forms initial (instructions.DefCfaRegister register) s = with_register_forms register s.cfa s
execute_as_forms initial (instructions.DefCfaOffset offset) s = with_offset_forms offset s s.cfa refl
execute_as_forms initial instructions.DefCfaExpression s = refl
execute_as_forms initial (instructions.Undefined register) s = gives_rule register rules.Undefined s
execute_as_forms initial (instructions.SameValue register) s = gives_rule register rules.Kept s
execute_as_forms initial (instructions.Offset register offset) s = gives_rule register (rules.Saved offset) s
execute_as_forms initial (instructions.ValOffset register offset) s = gives_rule register (rules.Sum offset) s
execute_as_forms initial (instructions.Register register source) s = with_source_forms register source s
execute_as_forms initial (instructions.Expression register) s = gives_rule register rules.Expression s
execute_as_forms initial (instructions.ValExpression register) s = gives_rule register rules.Expression s
execute_as_forms initial (instructions.Restore register) s = gives_rule register (rule_at initial register) s
execute_as_forms initial instructions.RememberState s = refl
execute_as_forms initial instructions.RestoreState s = with_remembered_forms s.remembered s

abbrev seen : FrameState × Input FrameFault → CfaForms × Input FrameFault
seen t = (forms_of t.0, t.1)

step_as_forms : (initial : List Rule) (f : AlignmentFactors) (input : Input FrameFault) (s : FrameState) → viewed seen (step_by (execute initial) f input s) ≡ step_by execute_forms f input (forms_of s)
step_as_forms initial f input s = decoded (instruction_from f (record input { missing = fault_here input }))
  where
    behind : Input FrameFault → FrameState → Reading FrameState
    behind next t = Ok (t, next)

    behind_forms : Input FrameFault → CfaForms → Reading CfaForms
    behind_forms next k = Ok (k, next)

    executed : (next : Input FrameFault) (o : Option FrameState) → viewed seen (ok_or o (fault_here input) >>= behind next) ≡ (ok_or (option_map forms_of o) (fault_here input) >>= behind_forms next)
    executed next None = refl
    executed next (Some t) = refl

    decoded : (r : Reading CallFrameInstruction)
        → viewed seen (r >>= λ i. ok_or (execute initial i.0 s) (fault_here input) >>= behind i.1) ≡ (r >>= λ i. ok_or (execute_forms i.0 (forms_of s)) (fault_here input) >>= behind_forms i.1)
    decoded (Err fault) = refl
    decoded (Ok i) = executed i.1 (execute initial i.0 s) ∙ ap (λ (o : Option CfaForms). ok_or o (fault_here input) >>= behind_forms i.1) (execute_as_forms initial i.0 s)

-- the forms at a run's end, or its fault
run_as_forms : (n : ℕ) (initial : List Rule) (f : AlignmentFactors) (input : Input FrameFault) (s : FrameState) → viewed forms_of (run_by (execute initial) (is_past None) n f input s) ≡ run_by execute_forms never n f input (forms_of s)
unfolding run_by
run_as_forms zero initial f input s = refl
run_as_forms (suc n) initial f input s = go (length (left_of input.at) == 0) (step_by (execute initial) f input s) (step_by execute_forms f input (forms_of s)) (step_as_forms initial f input s) (λ next t. run_as_forms n initial f next t)
  where
    steps : (r : Reading FrameState) → ((next : Input FrameFault) (t : FrameState) → viewed forms_of (run_by (execute initial) (is_past None) n f next t) ≡ run_by execute_forms never n f next (forms_of t))
        → viewed forms_of (r >>= λ done. run_by (execute initial) (is_past None) n f done.1 done.0) ≡ (viewed seen r >>= λ done. run_by execute_forms never n f done.1 done.0)
    steps (Err fault) same = refl
    steps (Ok t) same = same t.1 t.0

    go : (b : Bool) (r : Reading FrameState) (q : Reading CfaForms) → viewed seen r ≡ q → ((next : Input FrameFault) (t : FrameState) → viewed forms_of (run_by (execute initial) (is_past None) n f next t) ≡ run_by execute_forms never n f next (forms_of t))
        → viewed forms_of (cond b (Ok s) (r >>= λ done. run_by (execute initial) (is_past None) n f done.1 done.0)) ≡ cond b (Ok (forms_of s)) (q >>= λ done. run_by execute_forms never n f done.1 done.0)
    go true r q e same = refl
    go false r q e same = steps r same ∙ ap (λ (p : Reading CfaForms). p >>= λ done. run_by execute_forms never n f done.1 done.0) e

pub all_as_forms : (initial : List Rule) (f : AlignmentFactors) (input : Input FrameFault) (s : FrameState) → forms_after (run_all None initial f input s) ≡ run_forms f input (forms_of s)
all_as_forms initial f input s = run_as_forms (length (left_of input.at)) initial f input s
