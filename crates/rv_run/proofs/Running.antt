-- Many steps of one hart, as instructions of the machine.
use Rattle.std.proofs.Common.{◌≡◌, ◌⊎◌, inl, inr, ℕ, zero, suc, ◌+◌, ◌<◌, true, false, List, length, Result, Ok, Err, IfOk, OnErr, refl, sym, ap, ap₂, subst, ◌∙◌, set, arith}
use Rattle.std.proofs.lemmas.List.{get_or-set_same, set-set, set-get_or, length-set}
use Rattle.prof_bytes.specs.declared.fail.Memory.{Memory}
use Rattle.rv_memory.specs.AddressSpace.{AddressSpace}
use Rattle.scope_types.specs.declared.event.Event.{Event}
use Rattle.rv_hart.specs.Events.{extra_event, IsFull}
use Rattle.rv_hart.specs.Running.{after_steps, Ran}
use Rattle.rv_hart.specs.Step.{State, step_of, StoresNow}
use Rattle.rv_hart.specs.declared.outcome.Stepped.{Stepped}
use Rattle.rv_hart.specs.declared.outcome.Stepped.TheVariants as stepped
use Rattle.rv_run.specs.State.{HartState, MachineState, hart_of, no_hart, with_hart, is_running, step_state, count_after, stepped_hart}
use Rattle.rv_run.specs.declared.hart.HartEnd.{HartEnd}
use Rattle.rv_run.specs.Run.{stepped_machine}
use Rattle.rv_run.specs.Progress.{is_plain, retires_plainly, IsLast}
use Rattle.rv_run.specs.private.Queue.{CountedStopsBy, Passing, StopsBy}
use Rattle.rv_run.proofs.Passing.{Plain, not-plain, passing-first, passing-more, step-plain}

-- a hart that retired so many instructions and has come to this state
abbrev moved_hart : ℕ → ℕ → State → MachineState → HartState
moved_hart hart count t s =
    record { pc = t.pc; registers = t.registers; retired = (hart_of s hart).retired + count; end = (hart_of s hart).end }

abbrev moved : ℕ → ℕ → State → MachineState → MachineState
moved hart count t s = with_hart hart (moved_hart hart count t s) (record s { memory = t.memory })

abbrev pub with_memory : MachineState → AddressSpace → List HartState → MachineState
with_memory s memory harts = record { memory = memory; harts = harts; input = s.input; output = s.output }

moved-none : (hart : ℕ) (s : MachineState) → moved hart 0 (step_state (hart_of s hart) s.memory) s ≡ s
moved-none hart s =
    let h : HartState = hart_of s hart in
    let same : moved_hart hart 0 (step_state (hart_of s hart) s.memory) s ≡ hart_of s hart =
    ap (λ (n : ℕ). let g : HartState = record { pc = h.pc; registers = h.registers; retired = n; end = h.end } in g) (let e : h.retired + 0 ≡ h.retired = omega arith in e) in
    ap (λ (g : HartState). with_memory s s.memory (set s.harts hart g)) same ∙ ap (with_memory s s.memory) (set-get_or s.harts hart no_hart)

moved-same : (hart count : ℕ) (t : State) (s : MachineState) → hart < length s.harts → hart_of (moved hart count t s) hart ≡ moved_hart hart count t s
moved-same hart count t s within = get_or-set_same s.harts hart (moved_hart hart count t s) no_hart within

-- one step more
moved-step : (hart count : ℕ) (t u : State) (s : MachineState) → u ≡ (step_of t).0 → (step_of t).1 ≡ stepped.Retired
    → moved hart (count + 1) u s ≡ with_memory s (step_of t).0.memory (set (set s.harts hart (moved_hart hart count t s)) hart (stepped_hart (moved_hart hart count t s) (step_of t)))
moved-step hart count t u s is retired =
    let h : HartState = hart_of s hart in
    let shape : State → ℕ → HartState = λ v n. record { pc = v.pc; registers = v.registers; retired = n; end = h.end } in
    let many : h.retired + (count + 1) ≡ count_after (step_of t).1 (h.retired + count) =
    (let e : h.retired + (count + 1) ≡ h.retired + count + 1 = omega arith in e) ∙ sym (ap (λ (how : Stepped). count_after how (h.retired + count)) retired) in
    let same : moved_hart hart (count + 1) u s ≡ stepped_hart (moved_hart hart count t s) (step_of t) = ap₂ shape is many in
    ap₂ (with_memory s) (ap (λ (v : State). v.memory) is)
    (ap (set s.harts hart) same ∙ sym (set-set s.harts hart (moved_hart hart count t s) (stepped_hart (moved_hart hart count t s) (step_of t))))

moved-more : (hart count : ℕ) (t u : State) (s : MachineState) → hart < length s.harts → u ≡ (step_of t).0 → (step_of t).1 ≡ stepped.Retired
    → moved hart (count + 1) u s ≡ stepped_machine hart (step_of (step_state (hart_of (moved hart count t s) hart) t.memory)) (moved hart count t s)
moved-more hart count t u s within is retired =
    subst
    (λ (h : HartState). moved hart (count + 1) u s ≡ with_memory s (step_of (step_state h t.memory)).0.memory (set (set s.harts hart (moved_hart hart count t s)) hart (stepped_hart h (step_of (step_state h t.memory)))))
    (sym (moved-same hart count t s within)) (moved-step hart count t u s is retired)

moved-plain : (hart count : ℕ) (t u : State) (s : MachineState) → hart < length s.harts → u ≡ (step_of t).0 → (step_of t).1 ≡ stepped.Retired → Plain hart (moved hart count t s) (moved hart (count + 1) u s)
moved-plain hart count t u s within is retired =
    step-plain hart (moved hart count t s) (moved hart (count + 1) u s) stepped.Retired
    (omega (arith, within, length-set s.harts hart (moved_hart hart count t s)))
    (moved-more hart count t u s within is retired)
    (sym (ap (λ (h : HartState). (step_of (step_state h t.memory)).1) (moved-same hart count t s within) ∙ retired))
    refl

passing-moved : (hart count : ℕ) (t : State) (s : MachineState) → hart < length s.harts → is_running (hart_of s hart) ≡ true → Ran count (step_state (hart_of s hart) s.memory) t → Passing hart count s (moved hart count t s)
unfolding after_steps
passing-moved hart zero t s within running ran =
    subst (λ (n : MachineState). Passing hart 0 s n) (sym (ap (λ (v : State). moved hart 0 v s) ran.state ∙ moved-none hart s)) (passing-first hart s running)
passing-moved hart (suc count) t s within running ran =
    let before : State = after_steps count (step_state (hart_of s hart) s.memory) in
    let first : Passing hart count s (moved hart count before s) =
    passing-moved hart count before s within running (record { state = refl; retired = λ k few. ran.retired k (omega arith) }) in
    let more : Passing hart (count + 1) s (moved hart (count + 1) t s) =
    passing-more hart count s (moved hart count before s) (moved hart (count + 1) t s) first
    (moved-plain hart count before t s within ran.state (ran.retired count (omega arith))) within
    (ap (λ (h : HartState). step_state h before.memory) (moved-same hart count before s within)) in
    subst (λ (n : ℕ). Passing hart n s (moved hart n t s)) (let e : count + 1 ≡ suc count = omega arith in e) more

-- the instructions that a hart did in a run of its own
pub passing-run : (hart count : ℕ) (core : HartState) (memory : AddressSpace) (s : MachineState) → hart < length s.harts → core.retired ≡ (hart_of s hart).retired + count → core.end ≡ (hart_of s hart).end
    → Ran count (step_state (hart_of s hart) s.memory) (step_state core memory) → is_running (hart_of s hart) ≡ true → Passing hart count s (with_memory s memory (set s.harts hart core))
passing-run hart count core memory s within retired end ran running =
    let shape : ℕ → HartEnd → HartState = λ n e. record { pc = core.pc; registers = core.registers; retired = n; end = e } in
    let same : moved_hart hart count (step_state core memory) s ≡ core = ap₂ shape (sym retired) (sym end) in
    subst (λ (h : HartState). Passing hart count s (with_memory s memory (set s.harts hart h))) same (passing-moved hart count (step_state core memory) s within running ran)

-- why it ended
ended : (core : HartState) (memory : AddressSpace) (count most hart : ℕ) (new : MachineState) (how : Stepped) → step_state (hart_of new hart) new.memory ≡ step_state core memory
    → (step_state core memory, how) ≡ step_of (step_state core memory) → (how ≡ stepped.Retired → ⊥) → (count ≡ most) ⊎ (retires_plainly hart new ≡ false)
ended core memory count most hart new how here ends other =
    inr (ap (λ (v : State). is_plain (step_of v).1) here ∙ sym (ap (λ (q : State × Stepped). is_plain q.1) ends) ∙ not-plain how other)

stops-state : (core : HartState) (memory : AddressSpace) (count most hart : ℕ) (new : MachineState) (last : Result Stepped Memory) → step_state (hart_of new hart) new.memory ≡ step_state core memory
    → (last ≡ Ok stepped.Retired → count ≡ most) → IfOk last (λ how. ¬ (how ≡ stepped.Retired) → (step_state core memory, how) ≡ step_of (step_state core memory))
    → OnErr last (StoresNow (step_state core memory)) → OnErr last (count < most) → StopsBy last count most hart new
stops-state core memory count most hart new (Ok stepped.Retired) here all ends stores short = inl (all refl)
stops-state core memory count most hart new (Ok stepped.Ecall) here all ends stores short =
    let other : stepped.Ecall ≡ stepped.Retired → ⊥ = λ e. absurd cc in
    ended core memory count most hart new stepped.Ecall here (ends other) other
stops-state core memory count most hart new (Ok stepped.Break) here all ends stores short =
    let other : stepped.Break ≡ stepped.Retired → ⊥ = λ e. absurd cc in
    ended core memory count most hart new stepped.Break here (ends other) other
stops-state core memory count most hart new (Ok (stepped.Trap why)) here all ends stores short =
    let other : stepped.Trap why ≡ stepped.Retired → ⊥ = λ e. absurd cc in
    ended core memory count most hart new (stepped.Trap why) here (ends other) other
stops-state core memory count most hart new (Err error) here all ends stores short =
    (short, ap (λ (v : State). is_plain (step_of v).1) here ∙ ap is_plain stores.retires)

pub stops-run : (core : HartState) (memory : AddressSpace) (count most hart : ℕ) (s : MachineState) (last : Result Stepped Memory) → hart < length s.harts
    → (last ≡ Ok stepped.Retired → count ≡ most) → IfOk last (λ how. ¬ (how ≡ stepped.Retired) → (step_state core memory, how) ≡ step_of (step_state core memory))
    → OnErr last (StoresNow (step_state core memory)) → OnErr last (count < most) → StopsBy last count most hart (with_memory s memory (set s.harts hart core))
stops-run core memory count most hart s last within all ends stores short =
    stops-state core memory count most hart (with_memory s memory (set s.harts hart core)) last
    (ap (λ (h : HartState). step_state h memory) (get_or-set_same s.harts hart core no_hart within)) all ends stores short

-- the same of steps that count events
counted : (count most hart : ℕ) (left : Event → ℕ) (new : MachineState) → (count ≡ most) ⊎ (retires_plainly hart new ≡ false) → (count ≡ most) ⊎ IsLast left hart new
counted count most hart left new (inl all) = inl all
counted count most hart left new (inr stops) = inr (inl stops)

counted-full : (count most hart : ℕ) (left : Event → ℕ) (v : State) (new : MachineState) → step_state (hart_of new hart) new.memory ≡ v → (count ≡ most) ⊎ IsFull left (extra_event v) → (count ≡ most) ⊎ IsLast left hart new
counted-full count most hart left v new here (inl all) = inl all
counted-full count most hart left v new here (inr full) = inr (inr (subst (λ (u : State). IsFull left (extra_event u)) (sym here) full))

counted-state : (core : HartState) (memory : AddressSpace) (count most hart : ℕ) (left : Event → ℕ) (new : MachineState) (last : Result Stepped Memory) → step_state (hart_of new hart) new.memory ≡ step_state core memory
    → (last ≡ Ok stepped.Retired → (count ≡ most) ⊎ IsFull left (extra_event (step_state core memory))) → IfOk last (λ how. ¬ (how ≡ stepped.Retired) → (step_state core memory, how) ≡ step_of (step_state core memory))
    → OnErr last (StoresNow (step_state core memory)) → OnErr last (count < most) → CountedStopsBy last count most left hart new
counted-state core memory count most hart left new (Ok stepped.Retired) here all ends stores short = counted-full count most hart left (step_state core memory) new here (all refl)
counted-state core memory count most hart left new (Ok stepped.Ecall) here all ends stores short =
    let other : stepped.Ecall ≡ stepped.Retired → ⊥ = λ e. absurd cc in
    counted count most hart left new (ended core memory count most hart new stepped.Ecall here (ends other) other)
counted-state core memory count most hart left new (Ok stepped.Break) here all ends stores short =
    let other : stepped.Break ≡ stepped.Retired → ⊥ = λ e. absurd cc in
    counted count most hart left new (ended core memory count most hart new stepped.Break here (ends other) other)
counted-state core memory count most hart left new (Ok (stepped.Trap why)) here all ends stores short =
    let other : stepped.Trap why ≡ stepped.Retired → ⊥ = λ e. absurd cc in
    counted count most hart left new (ended core memory count most hart new (stepped.Trap why) here (ends other) other)
counted-state core memory count most hart left new (Err error) here all ends stores short =
    (short, ap (λ (v : State). is_plain (step_of v).1) here ∙ ap is_plain stores.retires)

pub counted-stops : (core : HartState) (memory : AddressSpace) (count most hart : ℕ) (left : Event → ℕ) (s : MachineState) (last : Result Stepped Memory) → hart < length s.harts
    → (last ≡ Ok stepped.Retired → (count ≡ most) ⊎ IsFull left (extra_event (step_state core memory))) → IfOk last (λ how. ¬ (how ≡ stepped.Retired) → (step_state core memory, how) ≡ step_of (step_state core memory))
    → OnErr last (StoresNow (step_state core memory)) → OnErr last (count < most) → CountedStopsBy last count most left hart (with_memory s memory (set s.harts hart core))
counted-stops core memory count most hart left s last within all ends stores short =
    counted-state core memory count most hart left (with_memory s memory (set s.harts hart core)) last
    (ap (λ (h : HartState). step_state h memory) (get_or-set_same s.harts hart core no_hart within)) all ends stores short
