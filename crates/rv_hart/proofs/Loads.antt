-- What a load puts into its destination does not depend on how memory is kept.
use Rattle.std.proofs.Common.{◌≡◌, ℕ, List, Option, Result, Ok, Err, IfOk, sym, ap, ap₂, ◌∙◌}
use Rattle.rv_table.specs.declared.inst.Op.{Op}
use Rattle.rv_table.specs.declared.inst.Inst.{Inst}
use Rattle.rv_memory.specs.AddressSpace.{AddressSpace}
use Rattle.rv_hart.specs.declared.counting.Halt.{Halt}
use Rattle.rv_hart.specs.declared.execute.Continuation.{Continuation}
use Rattle.rv_hart.specs.declared.outcome.Stepped.{Stepped}
use Rattle.rv_hart.specs.private.Continuing.{step_ended}
use Rattle.rv_hart.specs.Step.{State, state, executed, carried_out, loads}

loads-kept : (inst : Inst) (pc : ℕ) (registers : List ℕ) (old new : AddressSpace) (a b : Option ℕ) → new ≡ old → a ≡ b → loads inst a (state pc registers new) ≡ loads inst b (state pc registers old)
loads-kept inst pc registers old new a b same number = ap₂ (λ (m : AddressSpace) (n : Option ℕ). loads inst n (state pc registers m)) same number

-- the load of an instruction, over memory that was kept otherwise
pub load-ok : {other : Op} (inst : Inst) (s t : State) (new : AddressSpace) (a b : Option ℕ) (r : Result Continuation Halt) → inst.op ≡ other → executed other inst s ≡ loads inst b s → new ≡ s.memory → a ≡ b
    → IfOk r (λ how. ◌≡◌ {A = State × Stepped} (t, step_ended how) (loads inst a (state s.pc s.registers new))) → IfOk r (λ how. ◌≡◌ {A = State × Stepped} (t, step_ended how) (carried_out inst s))
load-ok inst s t new a b (Ok how) same is kept number done =
    done ∙ loads-kept inst s.pc s.registers s.memory new a b kept number ∙ sym (ap (λ (op : Op). executed op inst s) same ∙ is)
load-ok inst s t new a b (Err h) same is kept number done = tt
