-- A store that was made, and one that was not.
use Rattle.std.proofs.Common.{◌≡◌, ℕ, Bool, true, List, Some, Result, Ok, Err, IfOk, IfErr, sym, ap, ap₂, subst, ◌∙◌}
use Rattle.prof_bytes.specs.Number.{number_bytes}
use Rattle.rv_table.specs.declared.inst.Inst.{Inst}
use Rattle.scope_types.specs.declared.event.Event.{Event}
use Rattle.scope_types.specs.declared.event.Event.TheVariants.{Stores}
use Rattle.rv_table.specs.declared.inst.Op.{Op}
use Rattle.rv_hart.specs.declared.counting.Halt.{Halt}
use Rattle.rv_hart.specs.declared.counting.Halt.TheVariants as halt
use Rattle.rv_hart.specs.declared.execute.Continuation.{Continuation}
use Rattle.rv_hart.specs.private.Continuing.{step_ended}
use Rattle.rv_hart.specs.private.Counting.{Halts, StopsStore}
use Rattle.rv_hart.specs.declared.outcome.Stepped.{Stepped}
use Rattle.rv_hart.specs.declared.outcome.Stepped.TheVariants as stepped
use Rattle.prof_bytes.specs.Number.{word_sum}
use Rattle.rv_memory.specs.AddressSpace.{AddressSpace, stored}
use Rattle.rv_hart.specs.Events.{event_by, IsFull}
use Rattle.rv_hart.specs.Step.{State, state, finishes_store, stores, executed, is_store, branch_test, address, rs2_value}

-- what was written, with the state's memory in its stead
pub put-yes : (s : State) (after : AddressSpace) (at : ℕ) (bytes : List ℕ) → (true, after) ≡ stored s.memory at bytes → (state (word_sum s.pc 4) s.registers after, stepped.Retired) ≡ finishes_store (stored s.memory at bytes) s
put-yes s after at bytes done = ap (λ (q : Bool × AddressSpace). finishes_store q s) done

-- the same store, whose address and bytes are those of the instruction
pub store-ok : {E : Type 0} (s after : State) (inst : Inst) (size at : ℕ) (bytes : List ℕ) (r : Result Continuation E) → at ≡ address inst s → bytes ≡ number_bytes size (rs2_value inst s) → IfOk r (λ q. ◌≡◌ {A = State × Stepped} (after, step_ended q) (finishes_store (stored s.memory at bytes) s)) → IfOk r (λ q. ◌≡◌ {A = State × Stepped} (after, step_ended q) (stores inst size s))
store-ok s after inst size at bytes (Ok q) there what done = done ∙ ap₂ (λ (a : ℕ) (b : List ℕ). finishes_store (stored s.memory a b) s) there what
store-ok s after inst size at bytes (Err e) there what done = tt

pub store-why : (left : Event → ℕ) (s : State) (inst : Inst) (size at : ℕ) (bytes : List ℕ) (r : Result Continuation Halt) → at ≡ address inst s → bytes ≡ number_bytes size (rs2_value inst s) → IfErr r (λ h. StopsStore h left (finishes_store (stored s.memory at bytes) s)) → IfErr r (λ h. StopsStore h left (stores inst size s))
store-why left s inst size at bytes (Ok q) there what why = tt
store-why left s inst size at bytes (Err h) there what why =
    subst (λ (after : State × Stepped). StopsStore h left after) (ap₂ (λ (a : ℕ) (b : List ℕ). finishes_store (stored s.memory a b) s) there what) why

-- of the instruction
pub store-halts : {other : Op} (left : Event → ℕ) (inst : Inst) (s : State) (size : ℕ) (r : Result Continuation Halt) → inst.op ≡ other → is_store other ≡ true → executed other inst s ≡ stores inst size s → event_by other (branch_test other inst s) ≡ Some Stores
    → IfErr r (λ h. StopsStore h left (stores inst size s)) → IfErr r (λ h. Halts h left inst s)
store-halts left inst s size (Ok q) same stores is event why = tt
store-halts left inst s size (Err (halt.Memory memory)) same store is event why =
    (ap is_store same ∙ store, ap (λ (op : Op). (executed op inst s).1) same ∙ ap (λ (q : State × Stepped). q.1) is ∙ why)
store-halts left inst s size (Err halt.Full) same store is event why =
    subst (IsFull left) (sym (ap (λ (op : Op). event_by op (branch_test op inst s)) same ∙ event)) why
