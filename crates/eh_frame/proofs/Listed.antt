-- Lists of instructions, one more at a time.
use Rattle.std.proofs.Common.{◌≡◌, ℕ, zero, suc, ◌+◌, ◌*◌, ◌-◌, ◌≤◌, ◌<◌, ◌^◌, Bool, true, false, cond, List, [], ◌∷◌, ◌++◌, length, length-append, Option, Some, None, Result, Ok, Err, refl, sym, ap, subst, ◌∙◌, append_assoc, arith}
use Rattle.std.specs.Prelude.{◌==◌, option_map}
use Rattle.std.specs.List.{flat_map}
use Rattle.std.proofs.lemmas.Bool.Decides.{nat_tests}
use Rattle.std.proofs.lemmas.List.{append-nil}
use Rattle.std.proofs.lemmas.List.Concat.{flat_map-append}
use Rattle.std.proofs.lemmas.Bool.{eq-eqb}
use Rattle.std.specs.Option.{ok_or}
use Rattle.prof_bytes.specs.Outcome.{◌>>=◌, FailsBy, Gives, viewed}
use Rattle.prof_bytes.specs.Reading.{left_of}
use Rattle.prof_bytes.specs.Fields.{Input, number_from}
use Rattle.prof_bytes.specs.declared.fail.Fail.{Fail}
use Rattle.prof_bytes.specs.declared.fail.Fail.TheVariants as fails
use Rattle.prof_bytes.proofs.Tests.{not_zero}
use Rattle.cfi_table.specs.declared.constants.TheConstants.{DW_CFA_set_loc}
use Rattle.cfi_table.specs.declared.fault.FrameFault.{FrameFault}
use Rattle.cfi_table.specs.declared.instruction.AlignmentFactors.{AlignmentFactors}
use Rattle.cfi_table.specs.declared.instruction.CallFrameInstruction.{CallFrameInstruction}
use Rattle.cfi_table.specs.declared.instruction.CallFrameInstruction.TheVariants as instructions
use Rattle.cfi_table.specs.declared.rules.Rule.{Rule}
use Rattle.cfi_table.specs.Instructions.{Reading, instruction_after_opcode}
use Rattle.cfi_table.specs.Rules.{FrameState, execute, fault_here, no_rules, all_same_value}
use Rattle.cfi_table.specs.Entries.{instructions_of}
use Rattle.cfi_table.specs.private.Checking.{CfaForms, no_forms, forms_of, execute_forms}
use Rattle.cfi_table.proofs.Forms.{execute_as_forms}
use Rattle.cfi_table.proofs.Moves.{AllMove, stays, binds, either, number_moves, opcode_moves, behind_byte}
use Rattle.cfi_table.proofs.Chains.{marked}
use Rattle.cfi_table.proofs.Runs.{left_shorter}
use Rattle.prof_bytes.proofs.Outcomes.{bind_ok, ok_same}
use Rattle.eh_frame.specs.declared.address.AddressEncoding.{AddressEncoding}
use Rattle.eh_frame.specs.Addresses.{address_from}
use Rattle.eh_frame.specs.Runs.{eh_instruction_from, eh_step_by, before_all, listed_by, listed_instructions, addresses_of, cie_instructions, fde_instructions}
use Rattle.eh_frame.specs.declared.cie.EhCie.{EhCie}
use Rattle.eh_frame.specs.Translation.{encoded}
use Rattle.eh_frame.specs.private.Checked.{listed_forms, written_after}
use Rattle.eh_frame.proofs.Outcomes.{gives_viewed}

-- ---- an instruction takes bytes

pub address_moves : (a : AddressEncoding) (input : Input FrameFault) → AllMove input (address_from a input)
unfolding address_from
address_moves a input = binds input (number_from 4 input) _ (number_moves 4 input) (λ n. stays n.1)

pub eh_instruction_moves : (a : AddressEncoding) (f : AlignmentFactors) (input next : Input FrameFault) (i : CallFrameInstruction) → eh_instruction_from a f input ≡ Ok (i, next) → (next.at.whole ≡ input.at.whole) × (input.at.offset < next.at.offset)
unfolding eh_instruction_from
eh_instruction_moves a f input next i e =
    behind_byte (λ byte. cond (byte.0 == DW_CFA_set_loc) (address_from a byte.1 >>= λ to. (let r : Reading CallFrameInstruction = Ok (instructions.SetLoc to.0, to.1) in r)) (instruction_after_opcode f byte.0 byte.1)) input next i
    (λ n mid. either mid (n == DW_CFA_set_loc) _ _ (binds mid (address_from a mid) _ (address_moves a mid) (λ to. stays to.1)) (opcode_moves f n mid)) e

-- what a step carried out
pub step_ran : {S : Type 0} (x : CallFrameInstruction → S → Option S) (a : AddressEncoding) (f : AlignmentFactors) (input next : Input FrameFault) (i : CallFrameInstruction) (s t : S) → eh_step_by x a f input s ≡ Ok ((i, t), next)
    → (eh_instruction_from a f (marked input) ≡ Ok (i, next)) × (x i s ≡ Some t)
unfolding eh_step_by
step_ran {S} x a f input next i s t e = let read = bind_ok (eh_instruction_from a f (marked input)) _ ((i, t), next) e in executed read.0 (x read.0.0 s) read.1 refl read.2
  where
    executed : (j : CallFrameInstruction × Input FrameFault) (o : Option S) → eh_instruction_from a f (marked input) ≡ Ok j → x j.0 s ≡ o
        → (ok_or o (fault_here input) >>= λ u. (let r : Reading (CallFrameInstruction × S) = Ok ((j.0, u), j.1) in r)) ≡ Ok ((i, t), next) → (eh_instruction_from a f (marked input) ≡ Ok (i, next)) × (x i s ≡ Some t)
    executed j None read ran e = absurd cc
    executed j (Some u) read ran e =
        let P : (CallFrameInstruction × S) × Input FrameFault → Type 0 = λ p. (eh_instruction_from a f (marked input) ≡ Ok (p.0.0, p.1)) × (x p.0.0 s ≡ Some p.0.1) in
        subst P (ok_same {F = FrameFault} ((j.0, u), j.1) ((i, t), next) e) (read, ran)

pub step_moves : {S : Type 0} (x : CallFrameInstruction → S → Option S) (a : AddressEncoding) (f : AlignmentFactors) (input next : Input FrameFault) (i : CallFrameInstruction) (s t : S) → eh_step_by x a f input s ≡ Ok ((i, t), next)
    → (next.at.whole ≡ input.at.whole) × (input.at.offset < next.at.offset)
step_moves x a f input next i s t e = eh_instruction_moves a f (marked input) next i (step_ran x a f input next i s t e).0

pub shortens : {S : Type 0} (x : CallFrameInstruction → S → Option S) (a : AddressEncoding) (f : AlignmentFactors) (input next : Input FrameFault) (i : CallFrameInstruction) (s t : S) → 0 < length (left_of input.at) → eh_step_by x a f input s ≡ Ok ((i, t), next)
    → length (left_of next.at) < length (left_of input.at)
shortens x a f input next i s t some is = let moves = step_moves x a f input next i s t is in left_shorter input next moves.0 moves.1 some

-- ---- a list by its first step

pub list_end : {S : Type 0} (x : CallFrameInstruction → S → Option S) (m : ℕ) (a : AddressEncoding) (f : AlignmentFactors) (input : Input FrameFault) (s : S) → length (left_of input.at) ≡ 0 → listed_by x m a f input s ≡ Ok ([], s)
unfolding listed_by
list_end x zero a f input s none = refl
list_end x (suc m) a f input s none = rw (eq-eqb _ 0 none) refl

list_more : {S : Type 0} (x : CallFrameInstruction → S → Option S) (m : ℕ) (a : AddressEncoding) (f : AlignmentFactors) (input next : Input FrameFault) (i : CallFrameInstruction) (s t : S) → 0 < length (left_of input.at) → eh_step_by x a f input s ≡ Ok ((i, t), next)
    → listed_by x (suc m) a f input s ≡ before_all i (listed_by x m a f next t)
unfolding listed_by
list_more x m a f input next i s t some is = rw (not_zero _ some, is) refl

list_fault : {S : Type 0} (x : CallFrameInstruction → S → Option S) (m : ℕ) (a : AddressEncoding) (f : AlignmentFactors) (input : Input FrameFault) (s : S) (fault : FrameFault) → 0 < length (left_of input.at) → eh_step_by x a f input s ≡ Err fault
    → listed_by x (suc m) a f input s ≡ Err fault
unfolding listed_by
list_fault x m a f input s fault some is = rw (not_zero _ some, is) refl

-- ---- what a loop over instructions keeps

abbrev pub after_done : {S : Type 0} → List CallFrameInstruction → List CallFrameInstruction × S → List CallFrameInstruction × S
after_done done r = (done ++ r.0, r.1)

pub record KeepsList {S : Type 0} (x : CallFrameInstruction → S → Option S) (a : AddressEncoding) (f : AlignmentFactors) (first input : Input FrameFault) (s0 s : S) (out0 out : List ℕ) : Type 0 where
  pub whole : input.at.whole ≡ first.at.whole
  pub count : ℕ
  pub enough : length (left_of input.at) ≤ count
  pub done : List CallFrameInstruction
  pub so_far : viewed (after_done done) (listed_by x count a f input s) ≡ listed_by x (length (left_of first.at)) a f first s0
  pub put : out ≡ out0 ++ flat_map encoded done

none_done : {S F : Type 0} (r : Result (List CallFrameInstruction × S) F) → viewed (after_done []) r ≡ r
none_done (Ok r) = refl
none_done (Err fault) = refl

one_done : {S F : Type 0} (done : List CallFrameInstruction) (i : CallFrameInstruction) (r : Result (List CallFrameInstruction × S) F) → viewed (after_done (done ++ i ∷ [])) r ≡ viewed (after_done done) (before_all i r)
one_done {S} {F} done i (Ok r) = ap (λ (is : List CallFrameInstruction). Ok (is, r.1)) (append_assoc done (i ∷ []) r.0)
one_done done i (Err fault) = refl

pub begins : {S : Type 0} (x : CallFrameInstruction → S → Option S) (a : AddressEncoding) (f : AlignmentFactors) (first : Input FrameFault) (s0 : S) (out0 : List ℕ) → KeepsList x a f first first s0 s0 out0 out0
begins x a f first s0 out0 = record {
  whole = refl;
  count = length (left_of first.at);
  enough = omega arith;
  done = [];
  so_far = none_done (listed_by x (length (left_of first.at)) a f first s0);
  put = sym (append-nil out0);
}

pub keeps_short : {S : Type 0} (x : CallFrameInstruction → S → Option S) (a : AddressEncoding) (f : AlignmentFactors) (first input : Input FrameFault) (s0 s : S) (out0 out : List ℕ) → KeepsList x a f first input s0 s out0 out
    → length first.at.whole < 2 ^ 32 → length input.at.whole < 2 ^ 32
keeps_short x a f first input s0 s out0 out kept lt = let len : length input.at.whole ≡ length first.at.whole = ap (λ (xs : List ℕ). length xs) kept.whole in omega arith

pub turns : {S : Type 0} (x : CallFrameInstruction → S → Option S) (a : AddressEncoding) (f : AlignmentFactors) (first input next : Input FrameFault) (i : CallFrameInstruction) (s0 s t : S) (out0 out after : List ℕ)
    → 0 < length (left_of input.at) → eh_step_by x a f input s ≡ Ok ((i, t), next) → after ≡ out ++ encoded i → KeepsList x a f first input s0 s out0 out → KeepsList x a f first next s0 t out0 after
turns x a f first input next i s0 s t out0 out after some is pushed kept =
    let moves = step_moves x a f input next i s t is in
    let shorter = left_shorter input next moves.0 moves.1 some in
    let enough = kept.enough in
    let one : kept.count ≡ suc (kept.count - 1) = omega arith in
    record {
      whole = moves.0 ∙ kept.whole;
      count = kept.count - 1;
      enough = omega arith;
      done = kept.done ++ i ∷ [];
      so_far =
          one_done kept.done i (listed_by x (kept.count - 1) a f next t)
          ∙ ap (λ r. viewed (after_done kept.done) r) (sym (list_more x (kept.count - 1) a f input next i s t some is) ∙ ap (λ (n : ℕ). listed_by x n a f input s) (sym one))
          ∙ kept.so_far;
      put =
          pushed
          ∙ ap (λ (bs : List ℕ). bs ++ encoded i) kept.put
          ∙ append_assoc out0 (flat_map encoded kept.done) (encoded i)
          ∙ ap (λ (bs : List ℕ). out0 ++ bs) (ap (λ (bs : List ℕ). flat_map encoded kept.done ++ bs) (sym (append-nil (encoded i))) ∙ sym (flat_map-append encoded kept.done (i ∷ [])));
    }

fails_here : {S : Type 0} (x : CallFrameInstruction → S → Option S) (a : AddressEncoding) (f : AlignmentFactors) (first input : Input FrameFault) (s0 s : S) (out0 out : List ℕ) (fault : FrameFault) → 0 < length (left_of input.at) → eh_step_by x a f input s ≡ Err fault
    → KeepsList x a f first input s0 s out0 out → listed_by x (length (left_of first.at)) a f first s0 ≡ Err fault
fails_here x a f first input s0 s out0 out fault some is kept =
    let enough = kept.enough in
    let one : kept.count ≡ suc (kept.count - 1) = omega arith in
    sym kept.so_far ∙ ap (λ r. viewed (after_done kept.done) r) (ap (λ (n : ℕ). listed_by x n a f input s) one ∙ list_fault x (kept.count - 1) a f input s fault some is)

pub fails_by : {S : Type 0} (x : CallFrameInstruction → S → Option S) (a : AddressEncoding) (f : AlignmentFactors) (first input : Input FrameFault) (s0 s : S) (out0 out : List ℕ) (fail : Fail FrameFault) → 0 < length (left_of input.at) → FailsBy fail (eh_step_by x a f input s)
    → KeepsList x a f first input s0 s out0 out → FailsBy fail (viewed (written_after out0) (listed_by x (length (left_of first.at)) a f first s0))
fails_by x a f first input s0 s out0 out (fails.Memory memory) some is kept = tt
fails_by x a f first input s0 s out0 out (fails.Fault fault) some is kept = ap (λ r. viewed (written_after out0) r) (fails_here x a f first input s0 s out0 out fault some is kept)

pub list_done : {S : Type 0} (x : CallFrameInstruction → S → Option S) (a : AddressEncoding) (f : AlignmentFactors) (first input : Input FrameFault) (s0 s : S) (out0 out : List ℕ) → length (left_of input.at) ≡ 0
    → (kept : KeepsList x a f first input s0 s out0 out) → listed_by x (length (left_of first.at)) a f first s0 ≡ Ok (kept.done ++ [], s)
list_done x a f first input s0 s out0 out none kept = sym kept.so_far ∙ ap (λ r. viewed (after_done kept.done) r) (list_end x kept.count a f input s none)

pub ends_here : {S : Type 0} (x : CallFrameInstruction → S → Option S) (a : AddressEncoding) (f : AlignmentFactors) (first input : Input FrameFault) (s0 s : S) (out0 out : List ℕ) → length (left_of input.at) ≡ 0
    → KeepsList x a f first input s0 s out0 out → viewed (written_after out0) (listed_by x (length (left_of first.at)) a f first s0) ≡ Ok (out, s)
ends_here x a f first input s0 s out0 out none kept =
    ap (λ r. viewed (written_after out0) r) (list_done x a f first input s0 s out0 out none kept)
    ∙ ap (λ (is : List CallFrameInstruction). Ok (out0 ++ flat_map encoded is, s)) (append-nil kept.done)
    ∙ ap (λ (bs : List ℕ). Ok (bs, s)) (sym kept.put)

-- ---- from one to seven bytes an instruction

pub few : (i : CallFrameInstruction) → (0 < length (encoded i)) × (length (encoded i) ≤ 7)
few instructions.Nop = (omega arith, omega arith)
few (instructions.SetLoc address) = (omega arith, omega arith)
few (instructions.AdvanceLoc delta) = (omega arith, omega arith)
few (instructions.DefCfa register offset) = (omega arith, omega arith)
few (instructions.DefCfaRegister register) = (omega arith, omega arith)
few (instructions.DefCfaOffset offset) = (omega arith, omega arith)
few instructions.DefCfaExpression = (omega arith, omega arith)
few (instructions.Undefined register) = (omega arith, omega arith)
few (instructions.SameValue register) = (omega arith, omega arith)
few (instructions.Offset register offset) = (omega arith, omega arith)
few (instructions.ValOffset register offset) = (omega arith, omega arith)
few (instructions.Register register source) = (omega arith, omega arith)
few (instructions.Expression register) = (omega arith, omega arith)
few (instructions.ValExpression register) = (omega arith, omega arith)
few (instructions.Restore register) = (omega arith, omega arith)
few instructions.RememberState = (omega arith, omega arith)
few instructions.RestoreState = (omega arith, omega arith)

abbrev pub Short : {S : Type 0} → Input FrameFault → Result (List CallFrameInstruction × S) FrameFault → Type 0
Short input (Ok r) = length (flat_map encoded r.0) ≤ 7 * length (left_of input.at)
Short input (Err fault) = Unit {0}

pub listed_short : {S : Type 0} (x : CallFrameInstruction → S → Option S) (m : ℕ) (a : AddressEncoding) (f : AlignmentFactors) (input : Input FrameFault) (s : S) → Short input (listed_by x m a f input s)
unfolding listed_by
listed_short x zero a f input s = omega arith
listed_short {S} x (suc m) a f input s = go (length (left_of input.at) == 0) refl (eh_step_by x a f input s) refl (λ next t. listed_short x m a f next t)
  where
    one : (i : CallFrameInstruction) (next : Input FrameFault) (r : Result (List CallFrameInstruction × S) FrameFault) → length (left_of next.at) < length (left_of input.at) → Short next r → Short input (before_all i r)
    one i next (Err fault) less short = tt
    one i next (Ok r) less short =
        let most = (few i).1 in
        let both : length (encoded i ++ flat_map encoded r.0) ≡ length (encoded i) + length (flat_map encoded r.0) = length-append (encoded i) (flat_map encoded r.0) in
        omega arith

    steps : (r : Reading (CallFrameInstruction × S)) → eh_step_by x a f input s ≡ r → 0 < length (left_of input.at) → ((next : Input FrameFault) (t : S) → Short next (listed_by x m a f next t))
        → Short input (r >>= λ done. before_all done.0.0 (listed_by x m a f done.1 done.0.1))
    steps (Err fault) is some short = tt
    steps (Ok done) is some short = one done.0.0 done.1 (listed_by x m a f done.1 done.0.1) (shortens x a f input done.1 done.0.0 s done.0.1 some is) (short done.1 done.0.1)

    left_some : (n : ℕ) → (n == 0) ≡ false → 0 < n
    left_some n e = grind (arith, nat_tests)

    go : (b : Bool) → (length (left_of input.at) == 0) ≡ b → (r : Reading (CallFrameInstruction × S)) → eh_step_by x a f input s ≡ r → ((next : Input FrameFault) (t : S) → Short next (listed_by x m a f next t))
        → Short input (cond b (Ok ([], s)) (r >>= λ done. before_all done.0.0 (listed_by x m a f done.1 done.0.1)))
    go true left r is short = omega arith
    go false left r is short = steps r is (left_some _ left) short

pub put_short : {S : Type 0} (x : CallFrameInstruction → S → Option S) (a : AddressEncoding) (f : AlignmentFactors) (input : Input FrameFault) (s t : S) (out0 out : List ℕ) → viewed (written_after out0) (listed_by x (length (left_of input.at)) a f input s) ≡ Ok (out, t)
    → length out ≤ length out0 + 7 * length (left_of input.at)
put_short {S} x a f input s t out0 out e = from (listed_by x (length (left_of input.at)) a f input s) (listed_short x (length (left_of input.at)) a f input s) e
  where
    same : (p q : List ℕ × S) → (let r : Result (List ℕ × S) FrameFault = Ok p in r) ≡ Ok q → p.0 ≡ q.0
    same p q e = cc

    from : (r : Result (List CallFrameInstruction × S) FrameFault) → Short input r → viewed (written_after out0) r ≡ Ok (out, t) → length out ≤ length out0 + 7 * length (left_of input.at)
    from (Err fault) short e = absurd cc
    from (Ok r) short e =
        let is : length (out0 ++ flat_map encoded r.0) ≡ length out = ap (λ (bs : List ℕ). length bs) (same (written_after out0 r) (out, t) e) in
        let both = length-append out0 (flat_map encoded r.0) in
        omega arith

-- ---- the forms say which instruction is at fault

abbrev forms_step : (CallFrameInstruction × FrameState) × Input FrameFault → (CallFrameInstruction × CfaForms) × Input FrameFault
forms_step r = ((r.0.0, forms_of r.0.1), r.1)

abbrev pub forms_list : List CallFrameInstruction × FrameState → List CallFrameInstruction × CfaForms
forms_list r = (r.0, forms_of r.1)

step_as_forms : (initial : List Rule) (a : AddressEncoding) (f : AlignmentFactors) (input : Input FrameFault) (s : FrameState) → viewed forms_step (eh_step_by (execute initial) a f input s) ≡ eh_step_by execute_forms a f input (forms_of s)
unfolding eh_step_by
step_as_forms initial a f input s = decoded (eh_instruction_from a f (record input { missing = fault_here input }))
  where
    after : CallFrameInstruction × Input FrameFault → FrameState → Reading (CallFrameInstruction × FrameState)
    after j t = Ok ((j.0, t), j.1)

    after_forms : CallFrameInstruction × Input FrameFault → CfaForms → Reading (CallFrameInstruction × CfaForms)
    after_forms j k = Ok ((j.0, k), j.1)

    executed : (j : CallFrameInstruction × Input FrameFault) (o : Option FrameState) → viewed forms_step (ok_or o (fault_here input) >>= after j) ≡ (ok_or (option_map forms_of o) (fault_here input) >>= after_forms j)
    executed j None = refl
    executed j (Some t) = refl

    decoded : (r : Reading CallFrameInstruction)
        → viewed forms_step (r >>= λ j. ok_or (execute initial j.0 s) (fault_here input) >>= after j) ≡ (r >>= λ j. ok_or (execute_forms j.0 (forms_of s)) (fault_here input) >>= after_forms j)
    decoded (Err fault) = refl
    decoded (Ok j) = executed j (execute initial j.0 s) ∙ ap (λ (o : Option CfaForms). ok_or o (fault_here input) >>= after_forms j) (execute_as_forms initial j.0 s)

pub list_as_forms : (m : ℕ) (initial : List Rule) (a : AddressEncoding) (f : AlignmentFactors) (input : Input FrameFault) (s : FrameState) → viewed forms_list (listed_by (execute initial) m a f input s) ≡ listed_by execute_forms m a f input (forms_of s)
unfolding listed_by
list_as_forms zero initial a f input s = refl
list_as_forms (suc m) initial a f input s = go (length (left_of input.at) == 0) (eh_step_by (execute initial) a f input s) (eh_step_by execute_forms a f input (forms_of s)) (step_as_forms initial a f input s) (λ next t. list_as_forms m initial a f next t)
  where
    Same : Type 0
    Same = (next : Input FrameFault) (t : FrameState) → viewed forms_list (listed_by (execute initial) m a f next t) ≡ listed_by execute_forms m a f next (forms_of t)

    one : (i : CallFrameInstruction) (r : Result (List CallFrameInstruction × FrameState) FrameFault) → viewed forms_list (before_all i r) ≡ before_all i (viewed forms_list r)
    one i (Ok r) = refl
    one i (Err fault) = refl

    steps : (r : Reading (CallFrameInstruction × FrameState)) → Same
        → viewed forms_list (r >>= λ done. before_all done.0.0 (listed_by (execute initial) m a f done.1 done.0.1)) ≡ (viewed forms_step r >>= λ done. before_all done.0.0 (listed_by execute_forms m a f done.1 done.0.1))
    steps (Err fault) same = refl
    steps (Ok t) same = one t.0.0 (listed_by (execute initial) m a f t.1 t.0.1) ∙ ap (λ (r : Result (List CallFrameInstruction × CfaForms) FrameFault). before_all t.0.0 r) (same t.1 t.0.1)

    go : (b : Bool) (r : Reading (CallFrameInstruction × FrameState)) (q : Reading (CallFrameInstruction × CfaForms)) → viewed forms_step r ≡ q → Same
        → viewed forms_list (cond b (Ok ([], s)) (r >>= λ done. before_all done.0.0 (listed_by (execute initial) m a f done.1 done.0.1))) ≡ cond b (Ok ([], forms_of s)) (q >>= λ done. before_all done.0.0 (listed_by execute_forms m a f done.1 done.0.1))
    go true r q e same = refl
    go false r q e same = steps r same ∙ ap (λ (p : Reading (CallFrameInstruction × CfaForms)). p >>= λ done. before_all done.0.0 (listed_by execute_forms m a f done.1 done.0.1)) e

-- what the checker put is what the rules list
pub put_as_forms : (initial : List Rule) (a : AddressEncoding) (f : AlignmentFactors) (input : Input FrameFault) (s : FrameState) (out : List ℕ) → viewed (λ (r : List CallFrameInstruction × FrameState). out ++ flat_map encoded r.0) (listed_instructions initial a f input s)
    ≡ viewed (λ (p : List ℕ × CfaForms). p.0) (viewed (written_after out) (listed_forms a f input (forms_of s)))
put_as_forms initial a f input s out =
    seen (listed_instructions initial a f input s)
    ∙ ap (λ (r : Result (List CallFrameInstruction × CfaForms) FrameFault). viewed (λ (p : List ℕ × CfaForms). p.0) (viewed (written_after out) r)) (list_as_forms (length (left_of input.at)) initial a f input s)
  where
    seen : (r : Result (List CallFrameInstruction × FrameState) FrameFault) → viewed (λ (r : List CallFrameInstruction × FrameState). out ++ flat_map encoded r.0) r ≡ viewed (λ (p : List ℕ × CfaForms). p.0) (viewed (written_after out) (viewed forms_list r))
    seen (Ok r) = refl
    seen (Err fault) = refl

-- where the checker ended well, so do the rules, with the same forms
pub ends_as_forms : (initial : List Rule) (a : AddressEncoding) (f : AlignmentFactors) (input : Input FrameFault) (s : FrameState) (out : List ℕ) (p : List ℕ × CfaForms) → viewed (written_after out) (listed_forms a f input (forms_of s)) ≡ Ok p
    → (r : List CallFrameInstruction × FrameState) × (listed_instructions initial a f input s ≡ Ok r) × (p.1 ≡ forms_of r.1)
ends_as_forms initial a f input s out p e = from (listed_instructions initial a f input s) refl (ap (λ (r : Result (List CallFrameInstruction × CfaForms) FrameFault). viewed (written_after out) r) (list_as_forms (length (left_of input.at)) initial a f input s) ∙ e)
  where
    same : (p q : List ℕ × CfaForms) → (let r : Result (List ℕ × CfaForms) FrameFault = Ok p in r) ≡ Ok q → q.1 ≡ p.1
    same p q e = cc

    from : (r : Result (List CallFrameInstruction × FrameState) FrameFault) → listed_instructions initial a f input s ≡ r → viewed (written_after out) (viewed forms_list r) ≡ Ok p → (r : List CallFrameInstruction × FrameState) × (listed_instructions initial a f input s ≡ Ok r) × (p.1 ≡ forms_of r.1)
    from (Err fault) is e = absurd cc
    from (Ok r) is e = (r, is, same (written_after out (forms_list r)) p e)

-- ---- what the checker puts, as the definitions have it

put_seen : (initial : List Rule) (a : AddressEncoding) (f : AlignmentFactors) (input : Input FrameFault) (s : FrameState) (out after : List ℕ) (k : CfaForms) (r : Result (Unit {0}) (Fail FrameFault)) → Gives (λ done. (after, k)) r (viewed (written_after out) (listed_forms a f input (forms_of s)))
    → Gives (λ done. after) r (viewed (λ (r : List CallFrameInstruction × FrameState). out ++ flat_map encoded r.0) (listed_instructions initial a f input s))
put_seen initial a f input s out after k r e =
    let P : Result (List ℕ) FrameFault → Type 0 = λ w. Gives (λ (done : Unit {0}). after) r w in
    subst P (sym (put_as_forms initial a f input s out))
    (gives_viewed (λ (done : Unit {0}). (after, k)) (λ (p : List ℕ × CfaForms). p.0) r (viewed (written_after out) (listed_forms a f input (forms_of s))) e)

pub own_gives : (address : ℕ) (cie : EhCie) (start : ℕ) (input : Input FrameFault) (initial : FrameState) (k0 k : CfaForms) (out after : List ℕ) (r : Result (Unit {0}) (Fail FrameFault)) → k0 ≡ forms_of initial
    → Gives (λ done. (after, k)) r (viewed (written_after out) (listed_forms (addresses_of address cie) cie.factors input k0))
    → Gives (λ done. after) r (viewed (λ (r : List CallFrameInstruction × FrameState). out ++ flat_map encoded r.0) (fde_instructions address cie start input initial))
own_gives address cie start input initial k0 k out after r same e =
    let P : CfaForms → Type 0 = λ x. Gives (λ (done : Unit {0}). (after, k)) r (viewed (written_after out) (listed_forms (addresses_of address cie) cie.factors input x)) in
    put_seen initial.regs (addresses_of address cie) cie.factors input (record initial { location = start }) out after k r (subst P same e)

pub cie_gives : (section : List ℕ) (address : ℕ) (cie : EhCie) (out after : List ℕ) (k : CfaForms) (r : Result (Unit {0}) (Fail FrameFault))
    → Gives (λ done. (after, k)) r (viewed (written_after out) (listed_forms (addresses_of address cie) cie.factors (instructions_of section cie.initial_instructions) no_forms))
    → Gives (λ done. after) r (viewed (λ (r : List CallFrameInstruction × FrameState). out ++ flat_map encoded r.0) (cie_instructions section address cie))
unfolding cie_instructions
cie_gives section address cie out after k r e = put_seen all_same_value (addresses_of address cie) cie.factors (instructions_of section cie.initial_instructions) no_rules out after k r e

pub cie_ends : (section : List ℕ) (address : ℕ) (cie : EhCie) (out : List ℕ) (p : List ℕ × CfaForms) → viewed (written_after out) (listed_forms (addresses_of address cie) cie.factors (instructions_of section cie.initial_instructions) no_forms) ≡ Ok p
    → (r : List CallFrameInstruction × FrameState) × (cie_instructions section address cie ≡ Ok r) × (p.1 ≡ forms_of r.1)
unfolding cie_instructions
cie_ends section address cie out p e = ends_as_forms all_same_value (addresses_of address cie) cie.factors (instructions_of section cie.initial_instructions) no_rules out p e
