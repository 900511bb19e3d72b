-- As much room as there are bytes is enough.
use Rattle.std.proofs.Common.{◌≡◌, ℕ, zero, suc, ◌≤◌, ◌<◌, Bool, true, false, cond, [], length, Option, None, Result, Ok, Err, refl, sym, ap, arith}
use Rattle.std.specs.Prelude.{◌==◌}
use Rattle.prof_bytes.specs.Outcome.{◌>>=◌}
use Rattle.prof_bytes.specs.Reading.{left_of}
use Rattle.prof_bytes.specs.Fields.{Input, part_from}
use Rattle.prof_bytes.proofs.Tests.{above_zero}
use Rattle.cfi_table.specs.declared.fault.FrameFault.{FrameFault}
use Rattle.cfi_table.specs.declared.extent.ZeroLength.{ZeroLength}
use Rattle.cfi_table.specs.declared.instruction.AlignmentFactors.{AlignmentFactors}
use Rattle.cfi_table.specs.declared.instruction.CallFrameInstruction.{CallFrameInstruction}
use Rattle.cfi_table.specs.Instructions.{Reading}
use Rattle.cfi_table.specs.Rules.{execute, is_past, step_by, run_by}
use Rattle.cfi_table.specs.Entries.{before_others, at_zero, chained, chain_from}
use Rattle.cfi_table.specs.Laws.{EntriesHaveRoom, InstructionsHaveRoom}
use Rattle.cfi_table.proofs.Chains.{marked, entry_between, shorter, step_end}
use Rattle.cfi_table.proofs.Runs.{run_end, shortens}

same_entries : (z : ZeroLength) (m n : ℕ) (input : Input FrameFault) → length (left_of input.at) ≤ m → length (left_of input.at) ≤ n → chain_from z m input ≡ chain_from z n input
unfolding chain_from
same_entries z zero n input a b = sym (step_end z n input (omega arith))
same_entries z (suc m) zero input a b = step_end z (suc m) input (omega arith)
same_entries z (suc m) (suc n) input a b = go (length (left_of input.at) == 0) refl (part_from (marked input)) refl (λ next c d. same_entries z m n next c d)
  where
    Again : Type 0
    Again = (next : Input FrameFault) → length (left_of next.at) ≤ m → length (left_of next.at) ≤ n → chain_from z m next ≡ chain_from z n next

    sized : (e : Bool) (body rest : Input FrameFault) → chain_from z m rest ≡ chain_from z n rest
        → cond e (at_zero z (chain_from z m rest)) (before_others (entry_between input rest) (chain_from z m rest)) ≡ cond e (at_zero z (chain_from z n rest)) (before_others (entry_between input rest) (chain_from z n rest))
    sized true body rest same = ap (at_zero z) same
    sized false body rest same = ap (before_others (entry_between input rest)) same

    linked : (r : Reading (Input FrameFault)) → part_from (marked input) ≡ r → 0 < length (left_of input.at) → Again → chained z input (λ next. chain_from z m next) r ≡ chained z input (λ next. chain_from z n next) r
    linked (Err fault) is some again = refl
    linked (Ok found) is some again =
        let less = shorter input found.0 found.1 some is in
        sized (length (left_of found.0.at) == 0) found.0 found.1 (again found.1 (omega arith) (omega arith))

    go : (e : Bool) → (length (left_of input.at) == 0) ≡ e → (r : Reading (Input FrameFault)) → part_from (marked input) ≡ r → Again
        → cond e ([], None) (chained z input (λ next. chain_from z m next) r) ≡ cond e ([], None) (chained z input (λ next. chain_from z n next) r)
    go true left r is again = refl
    go false left r is again = linked r is (above_zero _ left) again

same_run : {S : Type 0} (x : CallFrameInstruction → S → Option S) (stops : S → Bool) (m n : ℕ) (f : AlignmentFactors) (input : Input FrameFault) (s : S) → length (left_of input.at) ≤ m → length (left_of input.at) ≤ n
    → run_by x stops m f input s ≡ run_by x stops n f input s
unfolding run_by
same_run x stops zero n f input s a b = sym (run_end x stops n f input s (omega arith))
same_run x stops (suc m) zero f input s a b = run_end x stops (suc m) f input s (omega arith)
same_run {S} x stops (suc m) (suc n) f input s a b = go (length (left_of input.at) == 0) refl (step_by x f input s) refl (λ next t c d. same_run x stops m n f next t c d)
  where
    Again : Type 0
    Again = (next : Input FrameFault) (t : S) → length (left_of next.at) ≤ m → length (left_of next.at) ≤ n → run_by x stops m f next t ≡ run_by x stops n f next t

    stopped : (e : Bool) (t : S) (next : Input FrameFault) → run_by x stops m f next t ≡ run_by x stops n f next t
        → (let u : Result S FrameFault = cond e (Ok t) (run_by x stops m f next t) in u) ≡ cond e (Ok t) (run_by x stops n f next t)
    stopped true t next same = refl
    stopped false t next same = same

    stepped : (r : Reading S) → step_by x f input s ≡ r → 0 < length (left_of input.at) → Again
        → (r >>= λ done. (let u : Result S FrameFault = cond (stops done.0) (Ok done.0) (run_by x stops m f done.1 done.0) in u))
        ≡ (r >>= λ done. (let u : Result S FrameFault = cond (stops done.0) (Ok done.0) (run_by x stops n f done.1 done.0) in u))
    stepped (Err fault) is some again = refl
    stepped (Ok done) is some again =
        let less = shortens x f input done.1 s done.0 some is in
        stopped (stops done.0) done.0 done.1 (again done.1 done.0 (omega arith) (omega arith))

    go : (e : Bool) → (length (left_of input.at) == 0) ≡ e → (r : Reading S) → step_by x f input s ≡ r → Again
        → (let u : Result S FrameFault = cond e (Ok s) (r >>= λ done. cond (stops done.0) (Ok done.0) (run_by x stops m f done.1 done.0)) in u)
        ≡ cond e (Ok s) (r >>= λ done. cond (stops done.0) (Ok done.0) (run_by x stops n f done.1 done.0))
    go true left r is again = refl
    go false left r is again = stepped r is (above_zero _ left) again

pub entries_have_room : EntriesHaveRoom
entries_have_room z room input enough = same_entries z room (length (left_of input.at)) input enough (omega arith)

pub instructions_have_room : InstructionsHaveRoom
instructions_have_room room limit initial factors input s enough =
    same_run (execute initial) (is_past limit) room (length (left_of input.at)) factors input s enough (omega arith)
