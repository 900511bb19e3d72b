-- A path that is walked from the innermost frame outwards.
use Rattle.std.proofs.Common.{◌≡◌, ℕ, suc, ◌+◌, ◌-◌, ◌<◌, ◌≤◌, Bool, true, false, Bor, Option, Some, List, [], ◌∷◌, ◌++◌, length, nat_lt, sym, subst, ap, ap₂, ◌∙◌, arith}
use Rattle.std.specs.Prelude.{IfSome}
use Rattle.std.proofs.lemmas.Bool.{ltb-true}
use Rattle.std.proofs.lemmas.Bool.Decides.{nat_tests}
use Rattle.std.proofs.lemmas.List.{append_assoc, append-nil, length-append}
use Rattle.scope_types.specs.declared.frame.Frame.{Frame}
use Rattle.scope_types.specs.declared.frame.End.{End}
use Rattle.scope_types.specs.declared.frame.End.TheVariants.{Partial}
use Rattle.scope_types.specs.declared.frame.PartialCause.TheVariants as causes
use Rattle.scope_types.specs.Raw.{Raw}
use Rattle.cfi_unwind.specs.declared.caller.Activation.{Activation}
use Rattle.cfi_unwind.specs.declared.caller.Unwound.{Unwound}
use Rattle.cfi_unwind.specs.declared.caller.Unwound.TheVariants.{Caller, Ends}
use Rattle.cfi_unwind.specs.Caller.{Words, Unwinding, caller_of}
use Rattle.cfi_unwind.specs.Chain.{frame_of}
use Rattle.cfi_unwind.specs.Path.{within, outside, path_from, path_of}
use Rattle.cfi_unwind.specs.declared.unwind_rule.UnwindRule.{UnwindRule}
use Rattle.cfi_unwind.specs.declared.unwind_rule.UnwindRule.TheVariants as rules
use Rattle.cfi_unwind.specs.declared.unwind_rule.UnwindRule.TheVariants.{ReturnSaved}
use Rattle.cfi_unwind.specs.private.Index.{FindsCallers}
use Rattle.cfi_unwind.specs.private.Walks.{with_outer, path_over}

-- one frame more
opened : (u : Unwinding) (words : Words) (here : Activation) (frames : List Frame) (unwound : Unwound) → length frames < 512 → unwound ≡ caller_of u words here
    → path_over u words frames here ≡ with_outer frames (within here.pc (outside (λ caller. path_from (512 - (length frames + 1)) u words caller) unwound))
unfolding path_from
opened u words here frames unwound low is =
    let room : 512 - length frames ≡ suc (512 - (length frames + 1)) = omega arith in
    ap (λ (r : ℕ). with_outer frames (path_from r u words here)) room
    ∙ ap (λ (x : Unwound). with_outer frames (within here.pc (outside (λ caller. path_from (512 - (length frames + 1)) u words caller) x))) (sym is)

pub walks : (u : Unwinding) (words : Words) (here caller : Activation) (frames after : List Frame) → length frames < 512 → after ≡ frames ++ frame_of here ∷ [] → Caller caller ≡ caller_of u words here
    → path_over u words frames here ≡ path_over u words after caller
walks u words here caller frames after low pushed is =
    let outer : ℕ → Raw = λ n. path_from n u words caller in
    let more : length after ≡ length frames + 1 = ap (λ (fs : List Frame). length fs) pushed ∙ length-append frames (frame_of here ∷ []) in
    opened u words here frames (Caller caller) low is
    ∙ ap (λ (fs : List Frame). record { end = (outer (512 - (length frames + 1))).end; frames = fs }) (sym (append_assoc frames (frame_of here ∷ []) (outer (512 - (length frames + 1))).frames))
    ∙ ap₂ (λ (fs : List Frame) (n : ℕ). with_outer fs (outer (512 - n))) (sym pushed) (sym more)

pub ends_here : (u : Unwinding) (words : Words) (here : Activation) (frames after : List Frame) (end : End) (path : Raw) → path ≡ record { end = end; frames = after } → length frames < 512 → after ≡ frames ++ frame_of here ∷ []
    → Ends end ≡ caller_of u words here → path ≡ path_over u words frames here
ends_here u words here frames after end path path_is low pushed is =
    path_is
    ∙ ap (λ (fs : List Frame). record { end = end; frames = fs }) pushed
    ∙ sym (opened u words here frames (Ends end) low is)

pub is_full : (u : Unwinding) (words : Words) (here : Activation) (frames : List Frame) → 512 ≤ length frames → record { end = Partial causes.Depth; frames = frames } ≡ path_over u words frames here
unfolding path_from
is_full u words here frames high =
    let room : 512 - length frames ≡ 0 = omega arith in
    sym (ap (λ (r : ℕ). with_outer frames (path_from r u words here)) room
    ∙ ap (λ (fs : List Frame). record { end = Partial causes.Depth; frames = fs }) (append-nil frames))

-- each path from an address ends there
pub one_frame : (u : Unwinding) (words : Words) (here : Activation) (empty after : List Frame) (end : End) (path : Raw) → FindsCallers u here.pc (rules.Ends end) → length here.registers ≡ 32 → empty ≡ [] → after ≡ empty ++ frame_of here ∷ []
    → path ≡ record { end = end; frames = after } → path ≡ path_of u here.pc here.registers words
one_frame u words here empty after end path finds long none pushed is =
    ends_here u words here [] after end path is (omega arith) (pushed ∙ ap (λ (fs : List Frame). fs ++ frame_of here ∷ []) none) (finds words here.registers long)

-- the unwind rule that was made ready, where it is of the usual layout
pub usual_finds : (u : Unwinding) (pc : ℕ) (ready : Option (Bor UnwindRule)) (rule : Bor UnwindRule) (cfa_offset offset : ℕ) → ready ≡ Some rule → rule.now ≡ ReturnSaved cfa_offset offset
    → IfSome ready (λ unwind_rule. FindsCallers u pc unwind_rule.now) → FindsCallers u pc (ReturnSaved cfa_offset offset)
usual_finds u pc ready rule cfa_offset offset is rule_is finds =
    subst (λ (r : UnwindRule). FindsCallers u pc r) rule_is (subst (λ (o : Option (Bor UnwindRule)). IfSome o (λ unwind_rule. FindsCallers u pc unwind_rule.now)) is finds)

pub has_room : (frames : List Frame) (b : Bool) → b ≡ nat_lt (length frames) 512 → b ≡ true → length frames < 512
has_room frames b is room = ltb-true (length frames) 512 (sym is ∙ room)

pub has_none : (frames : List Frame) (b : Bool) → b ≡ nat_lt (length frames) 512 → b ≡ false → 512 ≤ length frames
has_none frames b is none = grind (arith, nat_tests)
