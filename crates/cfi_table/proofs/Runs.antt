-- Runs of instructions, one more at a time.
use Rattle.std.proofs.Common.{◌≡◌, ℕ, zero, suc, ◌-◌, ◌≤◌, ◌<◌, ◌^◌, Bool, true, false, List, length, length-drop, Option, Ok, Err, refl, sym, ap, ◌∙◌, arith}
use Rattle.std.proofs.lemmas.Bool.{eq-eqb}
use Rattle.std.specs.Option.{ok_or}
use Rattle.prof_bytes.specs.Outcome.{FailsBy}
use Rattle.prof_bytes.specs.Reading.{left_of}
use Rattle.prof_bytes.specs.Fields.{Input}
use Rattle.prof_bytes.specs.declared.fail.Fail.{Fail}
use Rattle.prof_bytes.specs.declared.fail.Fail.TheVariants as fails
use Rattle.prof_bytes.proofs.Outcomes.{bind_ok, ok_same}
use Rattle.prof_bytes.proofs.Tests.{not_zero}
use Rattle.cfi_table.specs.declared.fault.FrameFault.{FrameFault}
use Rattle.cfi_table.specs.declared.instruction.AlignmentFactors.{AlignmentFactors}
use Rattle.cfi_table.specs.declared.instruction.CallFrameInstruction.{CallFrameInstruction}
use Rattle.cfi_table.specs.Instructions.{instruction_from}
use Rattle.cfi_table.specs.Rules.{fault_here, step_by, run_by}
use Rattle.cfi_table.proofs.Moves.{instruction_moves}

pub run_end : {S : Type 0} (x : CallFrameInstruction → S → Option S) (stops : S → Bool) (m : ℕ) (f : AlignmentFactors) (input : Input FrameFault) (s : S) → length (left_of input.at) ≡ 0 → run_by x stops m f input s ≡ Ok s
unfolding run_by
run_end x stops zero f input s none = refl
run_end x stops (suc m) f input s none = rw (eq-eqb _ 0 none) refl

run_more : {S : Type 0} (x : CallFrameInstruction → S → Option S) (stops : S → Bool) (m : ℕ) (f : AlignmentFactors) (input next : Input FrameFault) (s t : S) → 0 < length (left_of input.at) → step_by x f input s ≡ Ok (t, next) → stops t ≡ false
    → run_by x stops (suc m) f input s ≡ run_by x stops m f next t
unfolding run_by
run_more x stops m f input next s t some is goes = rw (not_zero _ some, is, goes) refl

run_stop : {S : Type 0} (x : CallFrameInstruction → S → Option S) (stops : S → Bool) (m : ℕ) (f : AlignmentFactors) (input next : Input FrameFault) (s t : S) → 0 < length (left_of input.at) → step_by x f input s ≡ Ok (t, next) → stops t ≡ true
    → run_by x stops (suc m) f input s ≡ Ok t
unfolding run_by
run_stop x stops m f input next s t some is stop = rw (not_zero _ some, is, stop) refl

run_fault : {S : Type 0} (x : CallFrameInstruction → S → Option S) (stops : S → Bool) (m : ℕ) (f : AlignmentFactors) (input : Input FrameFault) (s : S) (fault : FrameFault) → 0 < length (left_of input.at) → step_by x f input s ≡ Err fault
    → run_by x stops (suc m) f input s ≡ Err fault
unfolding run_by
run_fault x stops m f input s fault some is = rw (not_zero _ some, is) refl

-- a step takes bytes
pub step_moves : {S : Type 0} (x : CallFrameInstruction → S → Option S) (f : AlignmentFactors) (input next : Input FrameFault) (s t : S) → step_by x f input s ≡ Ok (t, next) → (next.at.whole ≡ input.at.whole) × (input.at.offset < next.at.offset)
step_moves {S} x f input next s t e =
    let read = bind_ok (instruction_from f (record input { missing = fault_here input })) _ (t, next) e in
    let ran = bind_ok (ok_or (x read.0.0 s) (fault_here input)) _ (t, next) read.2 in
    instruction_moves f (record input { missing = fault_here input }) next read.0.0
    (read.1 ∙ ap (λ (p : S × Input FrameFault). Ok (read.0.0, p.1)) (ok_same {F = FrameFault} (ran.0, read.0.1) (t, next) ran.2))

pub left_shorter : (input next : Input FrameFault) → next.at.whole ≡ input.at.whole → input.at.offset < next.at.offset → 0 < length (left_of input.at) → length (left_of next.at) < length (left_of input.at)
left_shorter input next same lt some =
    let len : length next.at.whole ≡ length input.at.whole = ap (λ (xs : List ℕ). length xs) same in
    omega (arith, length-drop input.at.offset input.at.whole, length-drop next.at.offset next.at.whole)

-- what a loop over instructions keeps
pub record Keeps {S : Type 0} (x : CallFrameInstruction → S → Option S) (stops : S → Bool) (f : AlignmentFactors) (first input : Input FrameFault) (s0 s : S) : Type 0 where
  pub whole : input.at.whole ≡ first.at.whole
  pub count : ℕ
  pub enough : length (left_of input.at) ≤ count
  pub so_far : run_by x stops count f input s ≡ run_by x stops (length (left_of first.at)) f first s0

pub begins : {S : Type 0} (x : CallFrameInstruction → S → Option S) (stops : S → Bool) (f : AlignmentFactors) (first : Input FrameFault) (s0 : S) → Keeps x stops f first first s0 s0
begins x stops f first s0 = record { whole = refl; count = length (left_of first.at); enough = omega arith; so_far = refl }

pub keeps_short : {S : Type 0} (x : CallFrameInstruction → S → Option S) (stops : S → Bool) (f : AlignmentFactors) (first input : Input FrameFault) (s0 s : S) → Keeps x stops f first input s0 s → length first.at.whole < 2 ^ 32 → length input.at.whole < 2 ^ 32
keeps_short x stops f first input s0 s kept lt = let len : length input.at.whole ≡ length first.at.whole = ap (λ (xs : List ℕ). length xs) kept.whole in omega arith

pub turns : {S : Type 0} (x : CallFrameInstruction → S → Option S) (stops : S → Bool) (f : AlignmentFactors) (first input next : Input FrameFault) (s0 s t : S) → 0 < length (left_of input.at) → step_by x f input s ≡ Ok (t, next) → stops t ≡ false
    → Keeps x stops f first input s0 s → Keeps x stops f first next s0 t
turns x stops f first input next s0 s t some is goes kept =
    let moves = step_moves x f input next s t is in
    let shorter = left_shorter input next moves.0 moves.1 some in
    let enough = kept.enough in
    let one : kept.count ≡ suc (kept.count - 1) = omega arith in
    record {
      whole = moves.0 ∙ kept.whole;
      count = kept.count - 1;
      enough = omega arith;
      so_far = sym (run_more x stops (kept.count - 1) f input next s t some is goes) ∙ ap (λ (n : ℕ). run_by x stops n f input s) (sym one) ∙ kept.so_far;
    }

pub shortens : {S : Type 0} (x : CallFrameInstruction → S → Option S) (f : AlignmentFactors) (input next : Input FrameFault) (s t : S) → 0 < length (left_of input.at) → step_by x f input s ≡ Ok (t, next) → length (left_of next.at) < length (left_of input.at)
shortens x f input next s t some is = let moves = step_moves x f input next s t is in left_shorter input next moves.0 moves.1 some

pub stops_here : {S : Type 0} (x : CallFrameInstruction → S → Option S) (stops : S → Bool) (f : AlignmentFactors) (first input next : Input FrameFault) (s0 s t : S) → 0 < length (left_of input.at) → step_by x f input s ≡ Ok (t, next) → stops t ≡ true
    → Keeps x stops f first input s0 s → run_by x stops (length (left_of first.at)) f first s0 ≡ Ok t
stops_here x stops f first input next s0 s t some is stop kept =
    let enough = kept.enough in
    let one : kept.count ≡ suc (kept.count - 1) = omega arith in
    sym kept.so_far ∙ ap (λ (n : ℕ). run_by x stops n f input s) one ∙ run_stop x stops (kept.count - 1) f input next s t some is stop

fails_here : {S : Type 0} (x : CallFrameInstruction → S → Option S) (stops : S → Bool) (f : AlignmentFactors) (first input : Input FrameFault) (s0 s : S) (fault : FrameFault) → 0 < length (left_of input.at) → step_by x f input s ≡ Err fault
    → Keeps x stops f first input s0 s → run_by x stops (length (left_of first.at)) f first s0 ≡ Err fault
fails_here x stops f first input s0 s fault some is kept =
    let enough = kept.enough in
    let one : kept.count ≡ suc (kept.count - 1) = omega arith in
    sym kept.so_far ∙ ap (λ (n : ℕ). run_by x stops n f input s) one ∙ run_fault x stops (kept.count - 1) f input s fault some is

pub fails_by : {S : Type 0} (x : CallFrameInstruction → S → Option S) (stops : S → Bool) (f : AlignmentFactors) (first input : Input FrameFault) (s0 s : S) (fail : Fail FrameFault) → 0 < length (left_of input.at) → FailsBy fail (step_by x f input s)
    → Keeps x stops f first input s0 s → FailsBy fail (run_by x stops (length (left_of first.at)) f first s0)
fails_by x stops f first input s0 s (fails.Memory memory) some is kept = tt
fails_by x stops f first input s0 s (fails.Fault fault) some is kept = fails_here x stops f first input s0 s fault some is kept

pub ends_here : {S : Type 0} (x : CallFrameInstruction → S → Option S) (stops : S → Bool) (f : AlignmentFactors) (first input : Input FrameFault) (s0 s : S) → length (left_of input.at) ≡ 0
    → Keeps x stops f first input s0 s → run_by x stops (length (left_of first.at)) f first s0 ≡ Ok s
ends_here x stops f first input s0 s none kept = sym kept.so_far ∙ run_end x stops kept.count f input s none
