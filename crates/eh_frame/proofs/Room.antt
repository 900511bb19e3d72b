-- As much room as there are bytes is enough.
use Rattle.std.proofs.Common.{◌≡◌, ℕ, zero, suc, ◌≤◌, ◌<◌, Bool, true, false, cond, List, [], length, Option, Result, Ok, Err, refl, sym, ap, arith}
use Rattle.std.specs.Prelude.{◌==◌}
use Rattle.prof_bytes.specs.Outcome.{◌>>=◌}
use Rattle.prof_bytes.specs.Reading.{left_of}
use Rattle.prof_bytes.specs.Fields.{Input}
use Rattle.prof_bytes.proofs.Tests.{above_zero}
use Rattle.cfi_table.specs.declared.fault.FrameFault.{FrameFault}
use Rattle.cfi_table.specs.declared.instruction.AlignmentFactors.{AlignmentFactors}
use Rattle.cfi_table.specs.declared.instruction.CallFrameInstruction.{CallFrameInstruction}
use Rattle.cfi_table.specs.Instructions.{Reading}
use Rattle.cfi_table.specs.Rules.{execute}
use Rattle.eh_frame.specs.declared.address.AddressEncoding.{AddressEncoding}
use Rattle.eh_frame.specs.Runs.{eh_step_by, before_all, listed_by}
use Rattle.eh_frame.specs.Laws.{ListsHaveRoom}
use Rattle.eh_frame.proofs.Listed.{shortens, list_end}

same_list : {S : Type 0} (x : CallFrameInstruction → S → Option S) (m n : ℕ) (a : AddressEncoding) (f : AlignmentFactors) (input : Input FrameFault) (s : S) → length (left_of input.at) ≤ m → length (left_of input.at) ≤ n
    → listed_by x m a f input s ≡ listed_by x n a f input s
unfolding listed_by
same_list x zero n a f input s p q = sym (list_end x n a f input s (omega arith))
same_list x (suc m) zero a f input s p q = list_end x (suc m) a f input s (omega arith)
same_list {S} x (suc m) (suc n) a f input s p q = go (length (left_of input.at) == 0) refl (eh_step_by x a f input s) refl (λ next t c d. same_list x m n a f next t c d)
  where
    Again : Type 0
    Again = (next : Input FrameFault) (t : S) → length (left_of next.at) ≤ m → length (left_of next.at) ≤ n → listed_by x m a f next t ≡ listed_by x n a f next t

    stepped : (r : Reading (CallFrameInstruction × S)) → eh_step_by x a f input s ≡ r → 0 < length (left_of input.at) → Again
        → (r >>= λ done. before_all done.0.0 (listed_by x m a f done.1 done.0.1)) ≡ (r >>= λ done. before_all done.0.0 (listed_by x n a f done.1 done.0.1))
    stepped (Err fault) is some again = refl
    stepped (Ok done) is some again =
        let less = shortens x a f input done.1 done.0.0 s done.0.1 some is in
        ap (λ (r : Result (List CallFrameInstruction × S) FrameFault). before_all done.0.0 r) (again done.1 done.0.1 (omega arith) (omega arith))

    go : (e : Bool) → (length (left_of input.at) == 0) ≡ e → (r : Reading (CallFrameInstruction × S)) → eh_step_by x a f input s ≡ r → Again
        → (let u : Result (List CallFrameInstruction × S) FrameFault = cond e (Ok ([], s)) (r >>= λ done. before_all done.0.0 (listed_by x m a f done.1 done.0.1)) in u)
        ≡ cond e (Ok ([], s)) (r >>= λ done. before_all done.0.0 (listed_by x n a f done.1 done.0.1))
    go true left r is again = refl
    go false left r is again = stepped r is (above_zero _ left) again

pub lists_have_room : ListsHaveRoom
lists_have_room room initial addresses factors input s enough =
    same_list (execute initial) room (length (left_of input.at)) addresses factors input s enough (omega arith)
