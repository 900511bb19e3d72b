-- The tests of an activation one after another, as they are made.
use Rattle.std.specs.Prelude.{ℕ, ◌-◌, ◌^◌, ◌==◌, List, get_or, Option, Some, None, if◌then◌else◌}
use Rattle.std.specs.List.{list_any}
use Rattle.scope_types.specs.declared.frame.End.TheVariants.{Whole, Partial}
use Rattle.scope_types.specs.declared.frame.PartialCause.TheVariants as causes
use Rattle.cfi_table.specs.declared.rules.Rules.{Rules}
use Rattle.cfi_table.specs.Rules.{rule_at}
use Rattle.cfi_unwind.specs.declared.caller.Unwound.{Unwound}
use Rattle.cfi_unwind.specs.declared.caller.Unwound.TheVariants.{Caller, Ends}
use Rattle.prof_bytes.specs.Number.{word_sum}
use Rattle.cfi_unwind.specs.Caller.{Words, is_undefined, has_expression, cfa_of, is_unmapped, callers_registers}

-- the return address is 0
abbrev pub caller_at : List ℕ → ℕ → Unwound
caller_at registers return_register =
    if get_or registers return_register 0 == 0 then Ends Whole
    else Caller (record { pc = word_sum (get_or registers return_register 0) (2 ^ 32 - 4); registers = registers })

-- a register saved in memory can't be loaded
abbrev pub caller_over : Words → List ℕ → Rules → ℕ → Unwound
caller_over words registers found cfa =
    if list_any (is_unmapped words cfa) found.regs then Ends (Partial causes.Unmapped)
    else caller_at (callers_registers words registers cfa found.regs) found.return_register

-- no CFA rule is in force
abbrev pub caller_with : Words → List ℕ → Rules → Option ℕ → Unwound
caller_with words registers found None = Ends (Partial causes.NoCfa)
caller_with words registers found (Some cfa) = caller_over words registers found cfa

-- the return register's rule is undefined, or a rule is an expression
abbrev pub caller_from : Words → List ℕ → Rules → Unwound
caller_from words registers found =
    if is_undefined (rule_at found.regs found.return_register) then Ends Whole
    else if has_expression found then Ends (Partial causes.Expression)
    else caller_with words registers found (cfa_of registers found.cfa)

-- no FDE holds the pc
abbrev pub caller_if : Words → List ℕ → Option Rules → Unwound
caller_if words registers None = Ends (Partial causes.NoFde)
caller_if words registers (Some found) = caller_from words registers found
