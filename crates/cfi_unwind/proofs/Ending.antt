-- The tests of an activation, made one after another.
use Rattle.std.proofs.Common.{◌≡◌, ℕ, Bool, true, false, cond, List, [], ◌∷◌, Option, Some, None, refl, ap, ◌∙◌}
use Rattle.std.specs.Prelude.{◌-◌, ◌^◌, ◌==◌, get_or, is_none, unwrap_or}
use Rattle.std.specs.List.{list_any}
use Rattle.scope_types.specs.declared.frame.End.{End}
use Rattle.scope_types.specs.declared.frame.End.TheVariants.{Whole, Partial}
use Rattle.scope_types.specs.declared.frame.PartialCause.TheVariants as causes
use Rattle.cfi_table.specs.declared.rules.Rules.{Rules}
use Rattle.cfi_table.specs.Rules.{rule_at}
use Rattle.cfi_unwind.specs.declared.caller.Activation.{Activation}
use Rattle.cfi_unwind.specs.declared.caller.Unwound.{Unwound}
use Rattle.cfi_unwind.specs.declared.caller.Unwound.TheVariants.{Ends}
use Rattle.cfi_unwind.specs.Region.{is_in}
use Rattle.prof_bytes.specs.Number.{word_sum}
use Rattle.cfi_unwind.specs.Caller.{Words, Unwinding, is_undefined, has_expression, cfa_of, is_unmapped, callers_registers}
use Rattle.cfi_unwind.specs.Caller.{first_end, rules_or_none, cfa_or_zero, caller_by, unwound_as, caller_of}
use Rattle.cfi_unwind.specs.private.Stepwise.{caller_with, caller_if}

one_test : (b : Bool) (end : End) (tests : List (Bool × End)) (caller : Activation) → unwound_as (first_end ((b, end) ∷ tests)) caller ≡ cond b (Ends end) (unwound_as (first_end tests) caller)
one_test true end tests caller = refl
one_test false end tests caller = refl

-- the tests over a canonical frame address
abbrev pub memory_tests : Words → List ℕ → Rules → ℕ → List (Bool × End)
memory_tests words registers found cfa =
    (list_any (is_unmapped words cfa) found.regs, Partial causes.Unmapped)
    ∷ (get_or (callers_registers words registers cfa found.regs) found.return_register 0 == 0, Whole)
    ∷ []

abbrev pub caller_over_cfa : Words → List ℕ → Rules → ℕ → Activation
caller_over_cfa words registers found cfa = record {
  pc = word_sum (get_or (callers_registers words registers cfa found.regs) found.return_register 0) (2 ^ 32 - 4);
  registers = callers_registers words registers cfa found.regs;
}

by_cfa : (words : Words) (registers : List ℕ) (found : Rules) (o : Option ℕ)
    → unwound_as (first_end ((is_none o, Partial causes.NoCfa) ∷ memory_tests words registers found (unwrap_or o 0))) (caller_over_cfa words registers found (unwrap_or o 0)) ≡ caller_with words registers found o
by_cfa words registers found None = refl
by_cfa words registers found (Some cfa) =
    let unmapped = list_any (is_unmapped words cfa) found.regs in
    let outermost = get_or (callers_registers words registers cfa found.regs) found.return_register 0 == 0 in
    let caller = caller_over_cfa words registers found cfa in
    one_test unmapped (Partial causes.Unmapped) ((outermost, Whole) ∷ []) caller
    ∙ ap (λ (x : Unwound). cond unmapped (Ends (Partial causes.Unmapped)) x) (one_test outermost Whole [] caller)

-- the tests after the first
abbrev pub later_tests : Words → Activation → Option Rules → List (Bool × End)
later_tests words here found =
    let rules = rules_or_none found in
    (is_none found, Partial causes.NoFde)
    ∷ (is_undefined (rule_at rules.regs rules.return_register), Whole)
    ∷ (has_expression rules, Partial causes.Expression)
    ∷ (is_none (cfa_of here.registers rules.cfa), Partial causes.NoCfa)
    ∷ memory_tests words here.registers rules (cfa_or_zero here.registers rules)

by_rules : (words : Words) (here : Activation) (o : Option Rules) → unwound_as (first_end (later_tests words here o)) (caller_by words here (rules_or_none o)) ≡ caller_if words here.registers o
by_rules words here None = refl
by_rules words here (Some found) =
    let undefined = is_undefined (rule_at found.regs found.return_register) in
    let expression = has_expression found in
    let cfa = cfa_of here.registers found.cfa in
    let caller = caller_over_cfa words here.registers found (unwrap_or cfa 0) in
    let memory = (is_none cfa, Partial causes.NoCfa) ∷ memory_tests words here.registers found (unwrap_or cfa 0) in
    one_test undefined Whole ((expression, Partial causes.Expression) ∷ memory) caller
    ∙ ap (λ (x : Unwound). cond undefined (Ends Whole) x) (
    one_test expression (Partial causes.Expression) memory caller
    ∙ ap (λ (x : Unwound). cond expression (Ends (Partial causes.Expression)) x) (by_cfa words here.registers found cfa))

pub one_by_one : (u : Unwinding) (words : Words) (here : Activation) → caller_of u words here ≡ cond (is_in u.region here.pc) (Ends Whole) (caller_if words here.registers (u.rules here.pc))
unfolding caller_of
one_by_one u words here =
    one_test (is_in u.region here.pc) Whole (later_tests words here (u.rules here.pc)) (caller_by words here (rules_or_none (u.rules here.pc)))
    ∙ ap (λ (x : Unwound). cond (is_in u.region here.pc) (Ends Whole) x) (by_rules words here (u.rules here.pc))

pub outside_region : (u : Unwinding) (words : Words) (here : Activation) → is_in u.region here.pc ≡ false → caller_of u words here ≡ caller_if words here.registers (u.rules here.pc)
outside_region u words here e = one_by_one u words here ∙ ap (λ (b : Bool). cond b (Ends Whole) (caller_if words here.registers (u.rules here.pc))) e

pub inside_region : (u : Unwinding) (words : Words) (here : Activation) → is_in u.region here.pc ≡ true → caller_of u words here ≡ Ends Whole
inside_region u words here e = one_by_one u words here ∙ ap (λ (b : Bool). cond b (Ends Whole) (caller_if words here.registers (u.rules here.pc))) e
