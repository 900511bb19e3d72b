-- The rules at an address in a short form, which leaves out the registers that are kept.
use Rattle.std.specs.Prelude.{◌≡◌, ℕ, Bool, true, false, List, [], ◌∷◌, length, get_or, slice_set, map, Option}
use Rattle.std.specs.Prelude.{Some, None, option_map, ◌==◌, ◌&&◌}
use Rattle.std.specs.Prelude.{Result, Ok}
use Rattle.std.specs.Prelude.{Err, if◌then◌else◌}
use Rattle.std.specs.List.{list_any}
use Rattle.scope_types.specs.declared.frame.End.{End}
use Rattle.scope_types.specs.declared.frame.End.TheVariants.{Partial}
use Rattle.scope_types.specs.declared.frame.PartialCause.TheVariants as causes
use Rattle.cfi_table.specs.declared.rules.Rule.{Rule}
use Rattle.cfi_table.specs.declared.rules.Rule.TheVariants as rules
use Rattle.cfi_table.specs.declared.rules.Rules.{Rules}
use Rattle.cfi_table.specs.declared.rules.Cfa.TheVariants as cfas
use Rattle.cfi_unwind.specs.declared.caller.Unwound.{Unwound}
use Rattle.cfi_unwind.specs.declared.caller.Unwound.TheVariants.{Caller, Ends}
use Rattle.cfi_unwind.specs.declared.unwind_rule.RegisterRule.{RegisterRule}
use Rattle.cfi_unwind.specs.declared.saved_registers.SavedRegister.{SavedRegister}
use Rattle.cfi_unwind.specs.declared.unwind_rule.FrameLayout.{FrameLayout}
use Rattle.cfi_unwind.specs.declared.unwind_rule.UnwindRule.{UnwindRule}
use Rattle.cfi_unwind.specs.declared.unwind_rule.UnwindRule.TheVariants as unwind_rules
use Rattle.prof_bytes.specs.Number.{word_sum}
use Rattle.cfi_unwind.specs.Caller.{Words, is_expression, is_unmapped, recovered, recovered_all}
use Rattle.cfi_unwind.specs.private.Stepwise.{caller_at, caller_from, caller_if}

-- the register has the same value in the caller
abbrev pub is_kept : Rule → Bool
is_kept rules.Kept = true
is_kept rules.Undefined = false
is_kept (rules.Saved offset) = false
is_kept (rules.Sum offset) = false
is_kept (rules.Copy source) = false
is_kept rules.Expression = false

-- the register is saved where no word can be loaded
abbrev pub is_unmapped_register : Words → ℕ → RegisterRule → Bool
is_unmapped_register words cfa each = is_unmapped words cfa each.rule

-- the registers are recovered one after another, each from the values before all of them
abbrev pub recovered_each : Words → List ℕ → ℕ → List RegisterRule → List ℕ → List ℕ
recovered_each words registers cfa [] values = values
recovered_each words registers cfa (each ∷ rest) values =
    recovered_each words registers cfa rest (slice_set values each.register
    (recovered words registers cfa (get_or registers each.register 0) each.rule))

-- the registers' rules recover what all rules do, over every memory and canonical frame address
pub record RecoversOver (words : Words) (registers : List ℕ) (cfa : ℕ) (few : List RegisterRule)
    (regs : List Rule) : Type 0 where
  pub mapped : list_any (is_unmapped_register words cfa) few ≡ list_any (is_unmapped words cfa) regs
  pub made : recovered_each words registers cfa few registers ≡ recovered_all words registers cfa regs

-- the registers' rules recover what all rules do, over every memory and canonical frame address
abbrev pub Recovers : List RegisterRule → List Rule → Type 0
Recovers few regs = (words : Words) (registers : List ℕ) (cfa : ℕ) → length registers ≡ 32
    → RecoversOver words registers cfa few regs

-- a register that is saved
abbrev pub saved_rule : SavedRegister → RegisterRule
saved_rule saved = record { register = saved.register; rule = rules.Saved saved.offset }

-- the registers are saved, the others are kept, and no rule is an expression
pub record AreSaved (saved : List SavedRegister) (regs : List Rule) : Type 0 where
  pub recovers : Recovers (map saved_rule saved) regs
  pub expression : list_any is_expression regs ≡ false

-- the unwind rule is of the layout and such registers
pub record HasSaved (layout : FrameLayout) (unwind_rule : UnwindRule) (regs : List Rule) : Type 0 where
  pub saved : List SavedRegister
  pub is : unwind_rule ≡ unwind_rules.Saved layout saved
  pub saves : AreSaved saved regs

-- the canonical frame address and the return address are found by the layout
pub record IsLayoutOf (layout : FrameLayout) (found : Rules) : Type 0 where
  pub cfa : found.cfa ≡ cfas.Register layout.cfa_register layout.cfa_offset
  pub return_register : layout.return_register ≡ found.return_register

-- the canonical frame address is so far above x2, and x1 has the return address
abbrev pub usual_layout : ℕ → FrameLayout
usual_layout cfa_offset = record { cfa_register = 2; cfa_offset = cfa_offset; return_register = 1 }

-- x1 alone is not kept, and saved
abbrev pub return_address_saved : ℕ → List RegisterRule
return_address_saved offset = record { register = 1; rule = rules.Saved offset } ∷ []

-- the layout is the usual one
abbrev pub is_usual : FrameLayout → Bool
is_usual layout = layout.cfa_register == 2 && layout.return_register == 1

-- the offset at which the return address is saved, where it is the only one that is
abbrev pub return_offset : List SavedRegister → Option ℕ
return_offset [] = None
return_offset (only ∷ []) = if only.register == 1 then Some only.offset else None
return_offset (first ∷ second ∷ others) = None

-- the CFA's offset and the return address's, where this alone is saved in the usual layout
abbrev pub return_saved : UnwindRule → Option (ℕ × ℕ)
return_saved (unwind_rules.Ends end) = None
return_saved (unwind_rules.ReturnSaved cfa_offset offset) = None
return_saved (unwind_rules.Saved layout saved) =
    if is_usual layout then option_map (λ offset. (layout.cfa_offset, offset)) (return_offset saved) else None
return_saved (unwind_rules.Mixed layout few) = None

-- CFA = register + offset
abbrev pub cfa_by : List ℕ → FrameLayout → ℕ
cfa_by registers layout = word_sum (get_or registers layout.cfa_register 0) layout.cfa_offset

-- the caller has these registers but x0, which is 0, and x2, which is the canonical frame address
abbrev pub caller_with_cfa : List ℕ → ℕ → ℕ → Unwound
caller_with_cfa registers cfa return_register = caller_at (slice_set (slice_set registers 0 0) 2 cfa) return_register

-- what is found over a canonical frame address
abbrev pub unwound_over : Words → List ℕ → ℕ → List RegisterRule → ℕ → Unwound
unwound_over words registers return_register few cfa =
    if list_any (is_unmapped_register words cfa) few then Ends (Partial causes.Unmapped)
    else caller_with_cfa (recovered_each words registers cfa few registers) cfa return_register

-- what is found by a layout, and the rules of the registers that are not kept
abbrev pub unwound_with : Words → List ℕ → FrameLayout → List RegisterRule → Unwound
unwound_with words registers layout few = unwound_over words registers layout.return_register few
    (cfa_by registers layout)

-- what an unwind rule finds of an activation
abbrev pub unwound_by : Words → List ℕ → UnwindRule → Unwound
unwound_by words registers (unwind_rules.Ends end) = Ends end
unwound_by words registers (unwind_rules.ReturnSaved cfa_offset offset) =
    unwound_with words registers (usual_layout cfa_offset) (return_address_saved offset)
unwound_by words registers (unwind_rules.Saved layout saved) =
    unwound_with words registers layout (map saved_rule saved)
unwound_by words registers (unwind_rules.Mixed layout few) = unwound_with words registers layout few.items

-- the caller's pc with the registers there, or how the path ends
abbrev pub unwound_to : Result ℕ End → List ℕ → Unwound
unwound_to (Ok pc) registers = Caller (record { pc = pc; registers = registers })
unwound_to (Err end) registers = Ends end

-- the unwind rule finds of every activation what the rules say
abbrev pub FollowsSome : UnwindRule → Rules → Type 0
FollowsSome unwind_rule found = (words : Words) (registers : List ℕ) → length registers ≡ 32
    → unwound_by words registers unwind_rule ≡ caller_from words registers found

-- the same where there may be no rules
abbrev pub FollowsRules : UnwindRule → Option Rules → Type 0
FollowsRules unwind_rule found = (words : Words) (registers : List ℕ) → length registers ≡ 32
    → unwound_by words registers unwind_rule ≡ caller_if words registers found
