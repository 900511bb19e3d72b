-- The caller of an activation by the rules of call frame information (DWARF 5, section 6.4.4; RISC-V psABI, "DWARF
-- register numbers").
use Rattle.prof_bytes.specs.Number.{word_sum}
use Rattle.std.specs.Prelude.{ℕ, ◌-◌, ◌^◌, ◌==◌, ◌||◌, Bool, true, false, List, [], ◌∷◌, map, get_or}
use Rattle.std.specs.Prelude.{slice_set, find, Option, Some, None}
use Rattle.std.specs.Prelude.{is_none, unwrap_or, option_map}
use Rattle.std.specs.List.{list_any, range_with_len}
use Rattle.scope_types.specs.declared.frame.End.{End}
use Rattle.scope_types.specs.declared.frame.End.TheVariants.{Whole, Partial}
use Rattle.scope_types.specs.declared.frame.PartialCause.TheVariants as causes
use Rattle.cfi_table.specs.declared.rules.Cfa.{Cfa}
use Rattle.cfi_table.specs.declared.rules.Cfa.TheVariants as cfas
use Rattle.cfi_table.specs.declared.rules.Rule.{Rule}
use Rattle.cfi_table.specs.declared.rules.Rule.TheVariants as rules
use Rattle.cfi_table.specs.declared.rules.Rules.{Rules}
use Rattle.cfi_table.specs.Rules.{rule_at}
use Rattle.cfi_unwind.specs.declared.caller.Activation.{Activation}
use Rattle.cfi_unwind.specs.declared.caller.Unwound.{Unwound}
use Rattle.cfi_unwind.specs.declared.caller.Unwound.TheVariants.{Caller, Ends}
use Rattle.cfi_unwind.specs.Region.{is_in}

-- the word of four bytes at each address, nothing where it can't be loaded
abbrev pub Words : Type 0
Words = ℕ → Option ℕ

-- ---- what the rules say

-- the rule is undefined: the value is lost
abbrev pub is_undefined : Rule → Bool
is_undefined rules.Kept = false
is_undefined rules.Undefined = true
is_undefined (rules.Saved offset) = false
is_undefined (rules.Sum offset) = false
is_undefined (rules.Copy source) = false
is_undefined rules.Expression = false

-- the rule is an expression
abbrev pub is_expression : Rule → Bool
is_expression rules.Kept = false
is_expression rules.Undefined = false
is_expression (rules.Saved offset) = false
is_expression (rules.Sum offset) = false
is_expression (rules.Copy source) = false
is_expression rules.Expression = true

-- the CFA's rule is an expression
abbrev pub is_cfa_expression : Cfa → Bool
is_cfa_expression cfas.Missing = false
is_cfa_expression (cfas.Register register offset) = false
is_cfa_expression cfas.Expression = true

-- the CFA's rule is an expression, or that of a register
abbrev pub has_expression : Rules → Bool
has_expression found = is_cfa_expression found.cfa || list_any is_expression found.regs

-- the canonical frame address; nothing where no register and offset give it
abbrev pub cfa_of : List ℕ → Cfa → Option ℕ
cfa_of registers cfas.Missing = None
cfa_of registers (cfas.Register register offset) = Some (word_sum (get_or registers register 0) offset)
cfa_of registers cfas.Expression = None

-- the register is saved where no word can be loaded
abbrev pub is_unmapped : Words → ℕ → Rule → Bool
is_unmapped words cfa rules.Kept = false
is_unmapped words cfa rules.Undefined = false
is_unmapped words cfa (rules.Saved offset) = is_none (words (word_sum cfa offset))
is_unmapped words cfa (rules.Sum offset) = false
is_unmapped words cfa (rules.Copy source) = false
is_unmapped words cfa rules.Expression = false

-- ---- the caller's registers

-- a register's value in the caller by its rule, where `own` is its value here; 0 where it is undefined, or where an
-- expression or memory that can't be loaded would give it
abbrev pub recovered : Words → List ℕ → ℕ → ℕ → Rule → ℕ
recovered words registers cfa own rules.Kept = own
recovered words registers cfa own rules.Undefined = 0
recovered words registers cfa own (rules.Saved offset) = unwrap_or (words (word_sum cfa offset)) 0
recovered words registers cfa own (rules.Sum offset) = word_sum cfa offset
recovered words registers cfa own (rules.Copy source) = get_or registers source 0
recovered words registers cfa own rules.Expression = 0

-- of each register, by its rule
unfoldable pub recovered_all : Words → List ℕ → ℕ → List Rule → List ℕ
recovered_all words registers cfa regs = map (λ number. recovered words registers cfa (get_or registers number 0)
    (rule_at regs number)) (range_with_len 0 32)

-- x0 is 0, and x2, the stack pointer, is the canonical frame address
abbrev pub callers_registers : Words → List ℕ → ℕ → List Rule → List ℕ
callers_registers words registers cfa regs = slice_set (slice_set (recovered_all words registers cfa regs) 0 0) 2 cfa

-- ---- the tests of an activation

-- the first test that holds says how the path ends
abbrev pub first_end : List (Bool × End) → Option End
first_end tests = option_map (λ t. t.1) (find (λ t. t.0) tests)

-- the rules at each address, and the entry region
pub record Unwinding : Type 0 where
  pub rules : ℕ → Option Rules
  pub region : ℕ × ℕ

-- rules in place of none. Where no FDE holds the pc, and where no CFA is found, an earlier test holds, so that these
-- values do not matter
abbrev pub absent_rules : Rules
absent_rules = record { cfa = cfas.Missing; regs = []; return_register = 0 }

-- the rules, or those in place of none
abbrev pub rules_or_none : Option Rules → Rules
rules_or_none found = unwrap_or found absent_rules

-- the canonical frame address, or 0 in place of none
abbrev pub cfa_or_zero : List ℕ → Rules → ℕ
cfa_or_zero registers found = unwrap_or (cfa_of registers found.cfa) 0

-- the return address in the caller's registers
abbrev pub return_address : Words → List ℕ → Rules → ℕ
return_address words registers found = get_or (callers_registers words registers
    (cfa_or_zero registers found) found.regs) found.return_register 0

-- by the rules at the pc, if there are any: each test in its order, and how the path ends where it is the first that
-- holds
abbrev pub end_tests : Unwinding → Words → Activation → Option Rules → List (Bool × End)
end_tests u words here found =
    let rules = rules_or_none found in
    (is_in u.region here.pc, Whole)
    ∷ (is_none found, Partial causes.NoFde)
    ∷ (is_undefined (rule_at rules.regs rules.return_register), Whole)
    ∷ (has_expression rules, Partial causes.Expression)
    ∷ (is_none (cfa_of here.registers rules.cfa), Partial causes.NoCfa)
    ∷ (list_any (is_unmapped words (cfa_or_zero here.registers rules)) rules.regs, Partial causes.Unmapped)
    ∷ (return_address words here.registers rules == 0, Whole)
    ∷ []

-- the caller's pc is that of its call, 4 below the return address
abbrev pub caller_by : Words → Activation → Rules → Activation
caller_by words here found = record {
  pc = word_sum (return_address words here.registers found) (2 ^ 32 - 4);
  registers = callers_registers words here.registers (cfa_or_zero here.registers found) found.regs;
}

-- the path ends so, or goes on to the caller
abbrev pub unwound_as : Option End → Activation → Unwound
unwound_as None caller = Caller caller
unwound_as (Some end) caller = Ends end

-- the caller of an activation, or how the path ends there (and a path that has no room for the caller is partial)
unfoldable pub caller_of : Unwinding → Words → Activation → Unwound
caller_of u words here =
    unwound_as (first_end (end_tests u words here (u.rules here.pc)))
    (caller_by words here (rules_or_none (u.rules here.pc)))
