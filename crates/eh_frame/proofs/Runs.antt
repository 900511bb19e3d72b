-- Runs of instructions that were written read back as those that were meant.
use Rattle.std.proofs.Common.{◌≡◌, ℕ, zero, suc, ◌+◌, ◌≤◌, ◌<◌, Bool, true, false, cond, List, [], ◌∷◌, ◌++◌, length, length-append, Option, Some, None, Result, Ok, Err, refl, ap, subst, ◌∙◌, append_assoc, arith}
use Rattle.std.specs.Prelude.{◌==◌, All, nat_lt, replicate}
use Rattle.std.specs.List.{flat_map}
use Rattle.std.specs.Option.{option_and_then}
use Rattle.std.proofs.lemmas.Bool.Decides.{nat_tests}
use Rattle.std.proofs.lemmas.List.{length-replicate}
use Rattle.prof_bytes.specs.Outcome.{◌>>=◌}
use Rattle.prof_bytes.specs.Reading.{left_of}
use Rattle.prof_bytes.specs.Fields.{Input}
use Rattle.prof_bytes.proofs.Tests.{not_zero}
use Rattle.cfi_table.specs.declared.fault.FrameFault.{FrameFault}
use Rattle.cfi_table.specs.declared.instruction.AlignmentFactors.{AlignmentFactors}
use Rattle.cfi_table.specs.declared.instruction.CallFrameInstruction.{CallFrameInstruction}
use Rattle.cfi_table.specs.declared.instruction.CallFrameInstruction.TheVariants as instructions
use Rattle.cfi_table.specs.declared.rules.Cfa.{Cfa}
use Rattle.cfi_table.specs.declared.rules.Cfa.TheVariants as cfas
use Rattle.cfi_table.specs.declared.rules.Rule.{Rule}
use Rattle.cfi_table.specs.declared.rules.Rule.TheVariants as rules
use Rattle.cfi_table.specs.Instructions.{Reading}
use Rattle.cfi_table.specs.Rules.{FrameState, execute, with_rule, rule_at, with_cfa, with_cfa_register, with_source, step_by, run_by, is_past}
use Rattle.cfi_table.proofs.Chains.{marked}
use Rattle.cfi_table.proofs.Runs.{run_end}
use Rattle.eh_frame.specs.declared.address.AddressEncoding.{AddressEncoding}
use Rattle.eh_frame.specs.Runs.{eh_step_by, before_all, listed_by, rules_after}
use Rattle.eh_frame.specs.Translation.{register_byte, encoded}
use Rattle.eh_frame.specs.Laws.{ones, HasWordOperands, with_register_bytes, ReadsBack, RunsReadBack}
use Rattle.eh_frame.proofs.Listed.{few, step_ran}
use Rattle.eh_frame.proofs.ReadBack.{instruction_read}

-- ---- registers from 32 on are alike

still_high : (r : ℕ) → nat_lt r 32 ≡ false → nat_lt (register_byte r) 32 ≡ false
still_high r e = grind (arith, nat_tests)

same_low : (r : ℕ) → nat_lt r 32 ≡ true → register_byte r ≡ r
same_low r e = grind (arith, nat_tests)

alike : {X : Type 0} (f : ℕ → X) (r : ℕ) → (nat_lt r 32 ≡ false → f (register_byte r) ≡ f r) → f (register_byte r) ≡ f r
alike {X} f r high = go (nat_lt r 32) refl
  where
    go : (b : Bool) → nat_lt r 32 ≡ b → f (register_byte r) ≡ f r
    go true e = ap f (same_low r e)
    go false e = high e

alike_rule : (r : ℕ) (rule : Rule) (s : FrameState) → with_rule (register_byte r) rule s ≡ with_rule r rule s
alike_rule r rule s = alike (λ (n : ℕ). with_rule n rule s) r (λ e. rw (still_high r e, e) refl)

alike_restored : (initial : List Rule) (r : ℕ) (s : FrameState) → with_rule (register_byte r) (rule_at initial (register_byte r)) s ≡ with_rule r (rule_at initial r) s
alike_restored initial r s = alike (λ (n : ℕ). with_rule n (rule_at initial n) s) r (λ e. rw (still_high r e, e) refl)

alike_cfa : (r offset : ℕ) (s : FrameState) → with_cfa (register_byte r) offset s ≡ with_cfa r offset s
alike_cfa r offset s = alike (λ (n : ℕ). with_cfa n offset s) r (λ e. rw (still_high r e, e) refl)

alike_cfa_register : (r : ℕ) (cfa : Cfa) (s : FrameState) → with_cfa_register (register_byte r) cfa s ≡ with_cfa_register r cfa s
alike_cfa_register r cfas.Missing s = alike_cfa r 0 s
alike_cfa_register r (cfas.Register old offset) s = alike_cfa r offset s
alike_cfa_register r cfas.Expression s = refl

alike_source : (r source : ℕ) (s : FrameState) → with_source (register_byte r) (register_byte source) s ≡ with_source r source s
alike_source r source s =
    alike (λ (n : ℕ). with_source n (register_byte source) s) r (λ e. rw (still_high r e, e) refl)
    ∙ alike (λ (n : ℕ). with_source r n s) source (λ e. rw (still_high source e, e) refl)

pub kept_alike : (initial : List Rule) (i : CallFrameInstruction) (s : FrameState) → execute initial (with_register_bytes i) s ≡ execute initial i s
kept_alike initial instructions.Nop s = refl
kept_alike initial (instructions.SetLoc address) s = refl
kept_alike initial (instructions.AdvanceLoc delta) s = refl
kept_alike initial (instructions.DefCfa register offset) s = alike_cfa register offset s
kept_alike initial (instructions.DefCfaRegister register) s = alike_cfa_register register s.cfa s
kept_alike initial (instructions.DefCfaOffset offset) s = refl
kept_alike initial instructions.DefCfaExpression s = refl
kept_alike initial (instructions.Undefined register) s = ap (λ (t : FrameState). Some t) (alike_rule register rules.Undefined s)
kept_alike initial (instructions.SameValue register) s = ap (λ (t : FrameState). Some t) (alike_rule register rules.Kept s)
kept_alike initial (instructions.Offset register offset) s = ap (λ (t : FrameState). Some t) (alike_rule register (rules.Saved offset) s)
kept_alike initial (instructions.ValOffset register offset) s = ap (λ (t : FrameState). Some t) (alike_rule register (rules.Sum offset) s)
kept_alike initial (instructions.Register register source) s = alike_source register source s
kept_alike initial (instructions.Expression register) s = ap (λ (t : FrameState). Some t) (alike_rule register rules.Expression s)
kept_alike initial (instructions.ValExpression register) s = ap (λ (t : FrameState). Some t) (alike_rule register rules.Expression s)
kept_alike initial (instructions.Restore register) s = ap (λ (t : FrameState). Some t) (alike_restored initial register s)
kept_alike initial instructions.RememberState s = refl
kept_alike initial instructions.RestoreState s = refl

-- ---- one step

-- the instruction at the front is carried out, and these bytes are left
abbrev Steps : List Rule → Input FrameFault → FrameState → FrameState → List ℕ → Type 0
Steps initial input s t rest = (next : Input FrameFault) × (step_by (execute initial) ones input s ≡ Ok (t, next)) × (left_of next.at ≡ rest)

steps : (initial : List Rule) (i : CallFrameInstruction) (rest : List ℕ) (input : Input FrameFault) (s t : FrameState) → HasWordOperands i → left_of input.at ≡ encoded i ++ rest → execute initial i s ≡ Some t → Steps initial input s t rest
steps initial i rest input s t words is done =
    let read : ReadsBack (with_register_bytes i) (marked input) rest = instruction_read i (marked input) rest words is in
    (read.0, rw (read.1, kept_alike initial i s, done) refl, read.2)

run_more : (limit : Option ℕ) (initial : List Rule) (room : ℕ) (input next : Input FrameFault) (s t : FrameState) → 0 < length (left_of input.at) → step_by (execute initial) ones input s ≡ Ok (t, next) → is_past limit t ≡ false
    → run_by (execute initial) (is_past limit) (suc room) ones input s ≡ run_by (execute initial) (is_past limit) room ones next t
unfolding run_by
run_more limit initial room input next s t some is goes = rw (not_zero _ some, is, goes) refl

run_stop : (limit : Option ℕ) (initial : List Rule) (room : ℕ) (input next : Input FrameFault) (s t : FrameState) → 0 < length (left_of input.at) → step_by (execute initial) ones input s ≡ Ok (t, next) → is_past limit t ≡ true
    → run_by (execute initial) (is_past limit) (suc room) ones input s ≡ Ok t
unfolding run_by
run_stop limit initial room input next s t some is stop = rw (not_zero _ some, is, stop) refl

-- ---- zeros do nothing

zeros_back : (limit : Option ℕ) (initial : List Rule) (zeros room : ℕ) (input : Input FrameFault) (s : FrameState) → left_of input.at ≡ replicate zeros 0 → length (left_of input.at) ≤ room
    → run_by (execute initial) (is_past limit) room ones input s ≡ Ok s
zeros_back limit initial zero room input s is enough = run_end (execute initial) (is_past limit) room ones input s (ap (λ (xs : List ℕ). length xs) is)
zeros_back limit initial (suc zeros) zero input s is enough =
    let some : length (left_of input.at) ≡ suc zeros = ap (λ (xs : List ℕ). length xs) is ∙ length-replicate (suc zeros) 0 in
    absurd (omega arith)
zeros_back limit initial (suc zeros) (suc room) input s is enough =
    go (is_past limit s) refl (steps initial instructions.Nop (replicate zeros 0) input s s tt is refl) (λ next behind few. zeros_back limit initial zeros room next s behind few)
  where
    size : length (left_of input.at) ≡ suc zeros
    size = ap (λ (xs : List ℕ). length xs) is ∙ length-replicate (suc zeros) 0

    go : (b : Bool) → is_past limit s ≡ b → Steps initial input s s (replicate zeros 0)
        → ((next : Input FrameFault) → left_of next.at ≡ replicate zeros 0 → length (left_of next.at) ≤ room → run_by (execute initial) (is_past limit) room ones next s ≡ Ok s)
        → run_by (execute initial) (is_past limit) (suc room) ones input s ≡ Ok s
    go true past step again = let some = size in run_stop limit initial room input step.0 s s (omega arith) step.1 past
    go false past step again =
        let some = size in
        let less : length (left_of step.0.at) ≡ zeros = ap (λ (xs : List ℕ). length xs) step.2 ∙ length-replicate zeros 0 in
        run_more limit initial room input step.0 s s (omega arith) step.1 past ∙ again step.0 step.2 (omega arith)

-- ---- written instructions, with zeros after them

ok_of : (s t : FrameState) → Some s ≡ Some t → (let u : Result FrameState FrameFault = Ok s in u) ≡ Ok t
ok_of s t e = cc

pub run_back : (limit : Option ℕ) (initial : List Rule) (all : List CallFrameInstruction) (zeros room : ℕ) (input : Input FrameFault) (s t : FrameState) → All HasWordOperands all → left_of input.at ≡ flat_map encoded all ++ replicate zeros 0
    → length (left_of input.at) ≤ room → rules_after limit initial all s ≡ Some t → run_by (execute initial) (is_past limit) room ones input s ≡ Ok t
unfolding rules_after
run_back limit initial [] zeros room input s t words is enough done = zeros_back limit initial zeros room input s is enough ∙ ok_of s t done
run_back limit initial (i ∷ all) zeros zero input s t words is enough done =
    let some = (few i).0 in
    let size : length (left_of input.at) ≡ length (encoded i) + length (flat_map encoded all ++ replicate zeros 0) =
    ap (λ (xs : List ℕ). length xs) (is ∙ append_assoc (encoded i) (flat_map encoded all) (replicate zeros 0)) ∙ length-append (encoded i) (flat_map encoded all ++ replicate zeros 0) in
    absurd (omega arith)
run_back limit initial (i ∷ all) zeros (suc room) input s t words is enough done =
    executed (execute initial i s) refl done (λ next u behind few after. run_back limit initial all zeros room next u t (λ k d lt. words (suc k) d (omega arith)) behind few after)
  where
    rest : List ℕ
    rest = flat_map encoded all ++ replicate zeros 0

    here : left_of input.at ≡ encoded i ++ (flat_map encoded all ++ replicate zeros 0)
    here = is ∙ append_assoc (encoded i) (flat_map encoded all) (replicate zeros 0)

    size : length (left_of input.at) ≡ length (encoded i) + length (flat_map encoded all ++ replicate zeros 0)
    size = ap (λ (xs : List ℕ). length xs) here ∙ length-append (encoded i) (flat_map encoded all ++ replicate zeros 0)

    Again : Type 0
    Again = (next : Input FrameFault) (u : FrameState) → left_of next.at ≡ flat_map encoded all ++ replicate zeros 0 → length (left_of next.at) ≤ room → rules_after limit initial all u ≡ Some t
        → run_by (execute initial) (is_past limit) room ones next u ≡ Ok t

    stepped : (b : Bool) (u : FrameState) → is_past limit u ≡ b → Steps initial input s u (flat_map encoded all ++ replicate zeros 0) → cond b (Some u) (rules_after limit initial all u) ≡ Some t → Again
        → run_by (execute initial) (is_past limit) (suc room) ones input s ≡ Ok t
    stepped true u past step e again =
        let some = (few i).0 in
        let long = size in
        run_stop limit initial room input step.0 s u (omega arith) step.1 past ∙ ok_of u t e
    stepped false u past step e again =
        let some = (few i).0 in
        let long = size in
        let less : length (left_of step.0.at) ≡ length (flat_map encoded all ++ replicate zeros 0) = ap (λ (xs : List ℕ). length xs) step.2 in
        run_more limit initial room input step.0 s u (omega arith) step.1 past ∙ again step.0 u step.2 (omega arith) e

    executed : (o : Option FrameState) → execute initial i s ≡ o → option_and_then (λ (u : FrameState). cond (is_past limit u) (Some u) (rules_after limit initial all u)) o ≡ Some t → Again
        → run_by (execute initial) (is_past limit) (suc room) ones input s ≡ Ok t
    executed None ran e again = absurd cc
    executed (Some u) ran e again = stepped (is_past limit u) u refl (steps initial i (flat_map encoded all ++ replicate zeros 0) input s u (words 0 i (omega arith)) here ran) e again

pub runs_read_back : RunsReadBack
runs_read_back limit initial all zeros input s t words is done = run_back limit initial all zeros (length (left_of input.at)) input s t words is (omega arith) done

-- ---- what is listed makes the rules that it ends with

same_list : (p q : List CallFrameInstruction × FrameState) → (let u : Result (List CallFrameInstruction × FrameState) FrameFault = Ok p in u) ≡ Ok q → p ≡ q
same_list p q e = cc

none_listed : (initial : List Rule) (s : FrameState) (r : List CallFrameInstruction × FrameState) → (let u : Result (List CallFrameInstruction × FrameState) FrameFault = Ok ([], s) in u) ≡ Ok r → rules_after None initial r.0 s ≡ Some r.1
unfolding rules_after
none_listed initial s r e =
    let P : List CallFrameInstruction × FrameState → Type 0 = λ p. rules_after None initial p.0 s ≡ Some p.1 in
    subst P (same_list ([], s) r e) refl

pub listed_rules : (initial : List Rule) (room : ℕ) (a : AddressEncoding) (f : AlignmentFactors) (input : Input FrameFault) (s : FrameState) (r : List CallFrameInstruction × FrameState) → listed_by (execute initial) room a f input s ≡ Ok r
    → rules_after None initial r.0 s ≡ Some r.1
unfolding listed_by rules_after
listed_rules initial zero a f input s r e = none_listed initial s r e
listed_rules initial (suc room) a f input s r e = go (length (left_of input.at) == 0) (eh_step_by (execute initial) a f input s) refl e (λ next t q is. listed_rules initial room a f next t q is)
  where
    Again : Type 0
    Again = (next : Input FrameFault) (t : FrameState) (q : List CallFrameInstruction × FrameState) → listed_by (execute initial) room a f next t ≡ Ok q → rules_after None initial q.0 t ≡ Some q.1

    one : (i : CallFrameInstruction) (t : FrameState) (q : Result (List CallFrameInstruction × FrameState) FrameFault) → execute initial i s ≡ Some t → ((p : List CallFrameInstruction × FrameState) → q ≡ Ok p → rules_after None initial p.0 t ≡ Some p.1)
        → before_all i q ≡ Ok r → rules_after None initial r.0 s ≡ Some r.1
    one i t (Err fault) ran again e = absurd cc
    one i t (Ok q) ran again e =
        let P : List CallFrameInstruction × FrameState → Type 0 = λ p. rules_after None initial p.0 s ≡ Some p.1 in
        subst P (same_list (i ∷ q.0, q.1) r e) (rw ran (again q refl))

    stepped : (d : Reading (CallFrameInstruction × FrameState)) → eh_step_by (execute initial) a f input s ≡ d → (d >>= λ done. before_all done.0.0 (listed_by (execute initial) room a f done.1 done.0.1)) ≡ Ok r → Again → rules_after None initial r.0 s ≡ Some r.1
    stepped (Err fault) is e again = absurd cc
    stepped (Ok done) is e again = one done.0.0 done.0.1 (listed_by (execute initial) room a f done.1 done.0.1) (step_ran (execute initial) a f input done.1 done.0.0 s done.0.1 is).1 (λ p is. again done.1 done.0.1 p is) e

    go : (b : Bool) (d : Reading (CallFrameInstruction × FrameState)) → eh_step_by (execute initial) a f input s ≡ d → cond b (Ok ([], s)) (d >>= λ done. before_all done.0.0 (listed_by (execute initial) room a f done.1 done.0.1)) ≡ Ok r → Again → rules_after None initial r.0 s ≡ Some r.1
    go true d is e again = none_listed initial s r e
    go false d is e again = stepped d is e again
