-- Events that are counted, instruction by instruction, and why one is not carried out.
use Rattle.std.proofs.Common.{◌≡◌, ◌≢◌, ◌⊎◌, inl, inr, ℕ, zero, suc, ◌+◌, ◌-◌, ◌<◌, ◌≤◌, Bool, true, false, Option, Some, None, option_map, Result, Ok, Err, IfOk, IfErr, OnErr, refl, sym, ap, ap₂, subst, ◌∙◌, arith}
use Rattle.scope_types.specs.declared.event.Event.{Event}
use Rattle.rv_table.specs.declared.inst.Op.{Op}
use Rattle.rv_table.specs.declared.inst.Op.TheVariants as ops
use Rattle.rv_table.specs.declared.inst.Inst.{Inst}
use Rattle.rv_table.specs.Table.{decoded}
use Rattle.rv_hart.specs.declared.counting.Halt.{Halt}
use Rattle.rv_hart.specs.declared.counting.Halt.TheVariants as halt
use Rattle.rv_hart.specs.declared.execute.Continuation.{Continuation}
use Rattle.rv_hart.specs.declared.outcome.Stepped.{Stepped}
use Rattle.rv_hart.specs.declared.outcome.Stepped.TheVariants as stepped
use Rattle.rv_hart.specs.Events.{event_by, inst_event, fetched_event, extra_event, occurs, event_count, Spent, SpentBy, IsFull}
use Rattle.rv_hart.specs.Running.{after_steps, Ran}
use Rattle.rv_hart.specs.Step.{State, fetched, is_store, branch_test, StoresNow}
use Rattle.rv_hart.specs.private.Continuing.{step_ended}
use Rattle.rv_hart.specs.private.Counting.{met_event, Counts, Halts, HaltsAt, IsFullHalt, without_full}
use Rattle.rv_hart.proofs.Runs.{after-twice, kept-stores}

-- ---- the event of one instruction

pub met-retired : (extra : Option Event) → met_event extra stepped.Retired ≡ extra
met-retired None = refl
met-retired (Some event) = refl

met-other : (extra : Option Event) (how : Stepped) → how ≢ stepped.Retired → met_event extra how ≡ None
met-other None how other = refl
met-other (Some event) stepped.Retired other = absurd (other refl)
met-other (Some event) stepped.Ecall other = refl
met-other (Some event) stepped.Break other = refl
met-other (Some event) (stepped.Trap why) other = refl

-- an instruction that retired and was counted
pub counted-one : {how : Stepped} (counts : Bool) (old new : Event → ℕ) (event : Event) → how ≡ stepped.Retired → (counts ≡ true → Spent old new (Some event)) → Counts counts old new (Some event) how
counted-one counts old new event retired spent = subst (λ (h : Stepped). Counts counts old new (Some event) h) (sym retired) spent

-- an operation that has no event
pub none-counted : {other : Op} (counts : Bool) (left : Event → ℕ) (inst : Inst) (s : State) (how : Stepped) → inst.op ≡ other → event_by other (branch_test other inst s) ≡ None → Counts counts left left (inst_event inst s) how
none-counted counts left inst s how same none _ event =
    subst (λ (x : Option Event). left event ≡ left event + occurs event (met_event x how)) (sym (ap (λ (op : Op). event_by op (branch_test op inst s)) same ∙ none)) (let e : left event ≡ left event + 0 = omega arith in e)

-- and one that has
pub some-counted : {other : Op} (counts : Bool) (old new : Event → ℕ) (inst : Inst) (s : State) (extra : Option Event) (r : Result Continuation Halt) → inst.op ≡ other → extra ≡ event_by other (branch_test other inst s) → IfOk r (λ how. Counts counts old new extra (step_ended how))
    → IfOk r (λ how. Counts counts old new (inst_event inst s) (step_ended how))
some-counted counts old new inst s extra (Ok how) same is counted =
    subst (λ (x : Option Event). Counts counts old new x (step_ended how)) (is ∙ sym (ap (λ (op : Op). event_by op (branch_test op inst s)) same)) counted
some-counted counts old new inst s extra (Err h) same is counted = tt

-- there is no more room for it
pub some-full : {other : Op} (left : Event → ℕ) (inst : Inst) (s : State) (extra : Option Event) (r : Result Continuation Halt) → inst.op ≡ other → extra ≡ event_by other (branch_test other inst s) → IfErr r (λ h. IsFullHalt h left extra)
    → IfErr r (λ h. Halts h left inst s)
some-full left inst s extra (Ok how) same is full = tt
some-full left inst s extra (Err (halt.Memory memory)) same is full = absurd full
some-full left inst s extra (Err halt.Full) same is full =
    subst (λ (x : Option Event). IsFull left x) (is ∙ sym (ap (λ (op : Op). event_by op (branch_test op inst s)) same)) full

-- ---- one instruction of a run

by-event : (word : Option ℕ) (s : State) (inst : Inst) → option_map decoded word ≡ Some inst → fetched_event word s ≡ inst_event inst s
by-event None s inst is = absurd cc
by-event (Some word) s inst is = let same : decoded word ≡ inst = cc in ap (λ (i : Inst). inst_event i s) same

-- the event of an instruction whose word is known
pub kept-event : (s : State) (inst : Inst) → option_map decoded (fetched s) ≡ Some inst → extra_event s ≡ inst_event inst s
kept-event s inst is = by-event (fetched s) s inst is

-- where an instruction is not carried out, it is one
pub not-illegal : (h : Halt) (left : Event → ℕ) (inst : Inst) (s : State) → Halts h left inst s → inst.op ≢ ops.Illegal
not-illegal (halt.Memory memory) left inst s halts none = let clash : false ≡ true = sym (ap is_store none) ∙ halts.0 in absurd cc
not-illegal halt.Full left inst s halts none =
    let full : IsFull left (event_by ops.Illegal (branch_test ops.Illegal inst s)) = subst (IsFull left) (ap (λ (op : Op). event_by op (branch_test op inst s)) none) halts in
    full

pub halted : (h : Halt) (left : Event → ℕ) (inst : Inst) (s : State) → option_map decoded (fetched s) ≡ Some inst → Halts h left inst s → HaltsAt h left s
halted (halt.Memory memory) left inst s is halts = kept-stores s inst is halts.0 halts.1
halted halt.Full left inst s is halts = subst (IsFull left) (sym (kept-event s inst is)) halts

-- ---- many instructions

pub count-more : (event : Event) (count : ℕ) (s : State) → event_count event (count + 1) s ≡ event_count event count s + occurs event (extra_event (after_steps count s))
unfolding event_count
count-more event count s = ap (λ (n : ℕ). event_count event n s) (let e : count + 1 ≡ suc count = omega arith in e)

pub count-none : (event : Event) (s : State) → event_count event 0 s ≡ 0
unfolding event_count
count-none event s = refl

count-twice : (event : Event) (m n : ℕ) (s : State) → event_count event (m + n) s ≡ event_count event m s + event_count event n (after_steps m s)
unfolding event_count
count-twice event m zero s = ap (λ (j : ℕ). event_count event j s) (let e : m + 0 ≡ m = omega arith in e) ∙ (let e : event_count event m s ≡ event_count event m s + 0 = omega arith in e)
count-twice event m (suc n) s =
    ap (λ (j : ℕ). event_count event j s) (let e : m + suc n ≡ suc (m + n) = omega arith in e)
    ∙ ap₂ (λ (a b : ℕ). a + b) (count-twice event m n s) (ap (λ (x : State). occurs event (extra_event x)) (after-twice m n s))
    ∙ (let e : event_count event m s + event_count event n (after_steps m s) + occurs event (extra_event (after_steps n (after_steps m s))) ≡ event_count event m s + (event_count event n (after_steps m s) + occurs event (extra_event (after_steps n (after_steps m s)))) = omega arith in e)

pub spent-none : (left : Event → ℕ) (s : State) → SpentBy left left 0 s
spent-none left s event = (let none = count-none event s in omega (arith, none))

-- the same by how many are left of the most
pub spent-start : (left : Event → ℕ) (most : ℕ) (s : State) → SpentBy left left (most - most) s
spent-start left most s = subst (λ (n : ℕ). SpentBy left left n s) (let e : 0 ≡ most - most = omega arith in e) (spent-none left s)

spent-more : (a b c : Event → ℕ) (count : ℕ) (s t : State) → SpentBy a b count s → t ≡ after_steps count s → Spent b c (extra_event t) → SpentBy a c (count + 1) s
spent-more a b c count s t was is now event =
    let before = was event in
    let here = now event in
    let same : occurs event (extra_event t) ≡ occurs event (extra_event (after_steps count s)) = ap (λ (x : State). occurs event (extra_event x)) is in
    let more = count-more event count s in
    omega (arith, before, here, same, more)

-- an instruction that retired
pub spent-next : (counts : Bool) (a b c : Event → ℕ) (most left : ℕ) (s t : State) (inst : Inst) (how : Continuation) → 0 < left → left ≤ most → Ran (most - left) s t → SpentBy a b (most - left) s → option_map decoded (fetched t) ≡ Some inst → step_ended how ≡ stepped.Retired
    → Counts counts b c (inst_event inst t) (step_ended how) → counts ≡ true → SpentBy a c (most - (left - 1)) s
spent-next counts a b c most left s t inst how some few ran was word retired counted is =
    let met : Spent b c (met_event (inst_event inst t) (step_ended how)) = counted is in
    let here : met_event (inst_event inst t) (step_ended how) ≡ extra_event t = ap (met_event (inst_event inst t)) retired ∙ met-retired (inst_event inst t) ∙ sym (kept-event t inst word) in
    subst (λ (n : ℕ). SpentBy a c n s) (let e : most - left + 1 ≡ most - (left - 1) = omega arith in e)
    (spent-more a b c (most - left) s t was ran.state (subst (Spent b c) here met))

-- and one that did not
pub spent-kept : (counts : Bool) (a b c : Event → ℕ) (count : ℕ) (s : State) (extra : Option Event) (how : Stepped) → how ≢ stepped.Retired → SpentBy a b count s → Counts counts b c extra how → counts ≡ true → SpentBy a c count s
spent-kept counts a b c count s extra how other was counted is event =
    let met : Spent b c None = subst (Spent b c) (met-other extra how other) (counted is) in
    let before = was event in
    let here : b event ≡ c event + 0 = met event in
    omega (arith, before, here)

-- a counter that did not change
pub same-spent : {K : Type 0} (left : K → Event → ℕ) (a : Event → ℕ) (old new : K) (count : ℕ) (s : State) → new ≡ old → SpentBy a (left old) count s → SpentBy a (left new) count s
same-spent {K} left a old new count s same spent = subst (λ (k : K). SpentBy a (left k) count s) (sym same) spent

pub same-halts : {K : Type 0} (left : K → Event → ℕ) (old new : K) (h : Halt) (s t : State) → new ≡ old → t ≡ s → HaltsAt h (left old) s → HaltsAt h (left new) t
same-halts {K} left old new h s t same state halts = subst (λ (u : State). HaltsAt h (left new) u) (sym state) (subst (λ (k : K). HaltsAt h (left k) s) (sym same) halts)

-- runs that follow one another
pub spent-twice : (a b c : Event → ℕ) (m n : ℕ) (s t : State) → Ran m s t → SpentBy a b m s → SpentBy b c n t → SpentBy a c (m + n) s
spent-twice a b c m n s t ran first second event =
    let before = first event in
    let behind = second event in
    let same : event_count event n t ≡ event_count event n (after_steps m s) = ap (event_count event n) ran.state in
    let twice = count-twice event m n s in
    omega (arith, before, behind, same, twice)

-- ---- the answer of a run

never-full : (extra : Option Event) → IsFull (λ _. 1) extra → ⊥
never-full None full = full
never-full (Some event) full = absurd (let e : 1 ≡ 0 = full in omega arith)

-- where nothing is counted
pub plain-retired : (P : Type 0) (last : Result Stepped Halt) (s : State) → (last ≡ Ok stepped.Retired → P) → IfErr last (λ h. HaltsAt h (λ _. 1) s) → without_full last ≡ Ok stepped.Retired → P
plain-retired P (Ok how) s all why is = all (let same : how ≡ stepped.Retired = cc in ap (λ (h : Stepped). let r : Result Stepped Halt = Ok h in r) same)
plain-retired P (Err (halt.Memory memory)) s all why is = absurd cc
plain-retired P (Err halt.Full) s all why is = absurd (never-full (extra_event s) why)

-- and where it is
pub counted-all : (count most : ℕ) (left : Event → ℕ) (last : Result Stepped Halt) (s : State) → (last ≡ Ok stepped.Retired → count ≡ most) → IfErr last (λ h. HaltsAt h left s) → without_full last ≡ Ok stepped.Retired → (count ≡ most) ⊎ IsFull left (extra_event s)
counted-all count most left (Ok how) s all why is = inl (all (let same : how ≡ stepped.Retired = cc in ap (λ (h : Stepped). let r : Result Stepped Halt = Ok h in r) same))
counted-all count most left (Err (halt.Memory memory)) s all why is = absurd cc
counted-all count most left (Err halt.Full) s all why is = inr why

pub last-ends : (P : Stepped → Type 0) (last : Result Stepped Halt) → IfOk last (λ how. (how ≡ stepped.Retired → ⊥) → P how) → IfOk (without_full last) (λ how. (how ≡ stepped.Retired → ⊥) → P how)
last-ends P (Ok how) ends = ends
last-ends P (Err (halt.Memory memory)) ends = tt
last-ends P (Err halt.Full) ends = λ other. absurd (other refl)

pub last-memory : (left : Event → ℕ) (last : Result Stepped Halt) (s : State) → IfErr last (λ h. HaltsAt h left s) → OnErr (without_full last) (StoresNow s)
last-memory left (Ok how) s why = tt
last-memory left (Err (halt.Memory memory)) s why = why
last-memory left (Err halt.Full) s why = tt

pub last-short : (P : Type 0) (last : Result Stepped Halt) → OnErr last P → OnErr (without_full last) P
last-short P (Ok how) short = tt
last-short P (Err (halt.Memory memory)) short = short
last-short P (Err halt.Full) short = tt
