-- What one instruction does to the counts of all harts.
use Rattle.std.proofs.Common.{◌≡◌, ℕ, zero, suc, ◌+◌, ◌<◌, ◌==◌, ◌||◌, Bool, true, false, cond, List, [], ◌∷◌, map, length, take, min, slice_set, refl, sym, ap, ap₂, subst, ◌∙◌}
use Rattle.std.proofs.lemmas.List.{get_or-set_same, get_or-set_other}
use Rattle.std.proofs.Math.ListN.{length-set}
use Rattle.rv_memory.specs.AddressSpace.{AddressSpace, stored}
use Rattle.rv_hart.specs.Step.{State, step_of}
use Rattle.rv_hart.specs.declared.outcome.Stepped.{Stepped}
use Rattle.rv_hart.specs.declared.outcome.Stepped.TheVariants as stepped
use Rattle.rv_run.specs.declared.hart.HartEnd.{HartEnd}
use Rattle.rv_run.specs.declared.linux.TheConstants.{SYS_READ, SYS_WRITE, SYS_EXIT, SYS_EXIT_GROUP, EBADF, EFAULT, ENOSYS, A0, A1, A2, A7}
use Rattle.rv_run.specs.declared.hart.HartEnd.TheVariants as ends
use Rattle.rv_run.specs.State.{HartState, MachineState, hart_in, hart_of, no_hart, is_running, step_state, stepped_hart}
use Rattle.rv_run.specs.Calls.{Acted, Answered, reads, writes, call_numbered, completes, ends_by, ends_all, grouped, with_answer, with_end, only_answers, all_readable, writes_out, room_for, read_into, negative, holds_in}
use Rattle.rv_run.specs.Run.{acts, acts_by, acts_after, stepped_machine}
use Rattle.rv_run.specs.Progress.{CountsRetired, plus_one}
use Rattle.rv_run.proofs.Unchanged.{not-retired}

-- one hart's state in place of another that retired so many
with-counts : (hart : ℕ) (s : MachineState) (harts : List HartState) (new : HartState) (retired : Bool) → hart < length harts → harts ≡ s.harts → new.retired ≡ plus_one retired (hart_of s hart).retired
    → (after : MachineState) → after.harts ≡ slice_set harts hart new → CountsRetired hart retired s after
with-counts hart s harts new retired within same is after set_to =
    record {
      own = ap (λ (hs : List HartState). (hart_in hs hart).retired) set_to ∙ ap (λ (h : HartState). h.retired) (get_or-set_same harts hart new no_hart within) ∙ is;
      others = λ other apart.
          ap (λ (hs : List HartState). (hart_in hs other).retired) set_to
          ∙ ap (λ (h : HartState). h.retired) (get_or-set_other harts hart other new no_hart apart)
          ∙ ap (λ (hs : List HartState). (hart_in hs other).retired) same;
      harts = ap length set_to ∙ length-set harts hart new ∙ ap length same;
    }

group-one : (status : ℕ) (h : HartState) → (grouped status h).retired ≡ h.retired
group-one status h = elim (is_running h) as (λ b. (cond b (with_end (ends.Group status) h) h).retired ≡ h.retired) [ true ↦ refl | false ↦ refl ]

group-counts : (status : ℕ) (harts : List HartState) (hart : ℕ) → (hart_in (map (grouped status) harts) hart).retired ≡ (hart_in harts hart).retired
group-counts status [] hart = refl
group-counts status (h ∷ harts) zero = group-one status h
group-counts status (h ∷ harts) (suc hart) = group-counts status harts hart

group-length : (status : ℕ) (harts : List HartState) → length (map (grouped status) harts) ≡ length harts
group-length status [] = refl
group-length status (h ∷ harts) = ap (λ (n : ℕ). suc n) (group-length status harts)

-- reads and writes change no hart
read-harts : (count : ℕ) (answer : Bool × AddressSpace) (s : MachineState) → (read_into count answer s).state.harts ≡ s.harts
read-harts count (true, m) s = refl
read-harts count (false, m) s = refl

completes-counts : (hart : ℕ) (s : MachineState) (answered : Answered) → hart < length s.harts → answered.state.harts ≡ s.harts → CountsRetired hart true s (completes hart answered).state
completes-counts hart s answered within same =
    with-counts hart s answered.state.harts (with_answer answered.answer (hart_of answered.state hart)) true (subst (λ (hs : List HartState). hart < length hs) (sym same) within) same
    (ap (λ (hs : List HartState). (hart_in hs hart).retired + 1) same) (completes hart answered).state refl

ends-counts : (hart : ℕ) (s : MachineState) (end : HartEnd) → hart < length s.harts → CountsRetired hart false s (ends_by hart end s).state
ends-counts hart s end within = with-counts hart s s.harts (with_end end (hart_of s hart)) false within refl refl (ends_by hart end s).state refl

all-counts : (hart : ℕ) (s : MachineState) (status : ℕ) → CountsRetired hart false s (ends_all status s).state
all-counts hart s status =
    record { own = group-counts status s.harts hart; others = λ other apart. group-counts status s.harts other; harts = group-length status s.harts }

abbrev CountsBy : ℕ → MachineState → Acted → Type 0
CountsBy hart s acted = CountsRetired hart acted.retired s acted.state

reads-harts : (a b c : ℕ) (s : MachineState) → (reads a b c s).state.harts ≡ s.harts
reads-harts a b c s =
    elim (a == 0) as (λ t. (cond t (read_into (min c (length s.input)) (stored s.memory b (take c s.input)) s) (only_answers (negative EBADF) s)).state.harts ≡ s.harts)
    [ true ↦ read-harts (min c (length s.input)) (stored s.memory b (take c s.input)) s | false ↦ refl ]

write-harts : (b c : ℕ) (s : MachineState) → (cond (all_readable s.memory b c) (writes_out b (room_for c s.output) s) (only_answers (negative EFAULT) s)).state.harts ≡ s.harts
write-harts b c s =
    elim (all_readable s.memory b c) as (λ t. (cond t (writes_out b (room_for c s.output) s) (only_answers (negative EFAULT) s)).state.harts ≡ s.harts) [ true ↦ refl | false ↦ refl ]

writes-harts : (a b c : ℕ) (s : MachineState) → (writes a b c s).state.harts ≡ s.harts
writes-harts a b c s =
    elim ((a == 1) || (a == 2)) as (λ t. (cond t (cond (all_readable s.memory b c) (writes_out b (room_for c s.output) s) (only_answers (negative EFAULT) s)) (only_answers (negative EBADF) s)).state.harts ≡ s.harts)
    [ true ↦ write-harts b c s | false ↦ refl ]

call_numbered-counts : (hart number a b c : ℕ) (s : MachineState) → hart < length s.harts → CountsBy hart s (call_numbered hart number a b c s)
call_numbered-counts hart number a b c s within =
    choose (number == SYS_READ) (number == SYS_WRITE) (number == SYS_EXIT) (number == SYS_EXIT_GROUP)
  where
    choose : (p q r t : Bool) → CountsBy hart s (cond p (completes hart (reads a b c s)) (cond q (completes hart (writes a b c s)) (cond r (ends_by hart (ends.Exit a) s) (cond t (ends_all a s) (completes hart (only_answers (negative ENOSYS) s))))))
    choose true q r t = completes-counts hart s (reads a b c s) within (reads-harts a b c s)
    choose false true r t = completes-counts hart s (writes a b c s) within (writes-harts a b c s)
    choose false false true t = ends-counts hart s (ends.Exit a) within
    choose false false false true = all-counts hart s a
    choose false false false false = completes-counts hart s (only_answers (negative ENOSYS) s) within refl

acted-counts : (hart : ℕ) (s : MachineState) (how : Stepped) → hart < length s.harts → (how ≡ stepped.Retired → ⊥) → CountsBy hart s (acts_by how hart s)
acted-counts hart s stepped.Retired within other = absurd (other refl)
acted-counts hart s stepped.Ecall within other = call_numbered-counts hart (holds_in hart s A7) (holds_in hart s A0) (holds_in hart s A1) (holds_in hart s A2) s within
acted-counts hart s stepped.Break within other = ends-counts hart s (ends.Break (hart_of s hart).pc) within
acted-counts hart s (stepped.Trap why) within other = ends-counts hart s (ends.Trap why (hart_of s hart).pc) within

steps-count : (hart : ℕ) (s : MachineState) (after : State) (how : Stepped) → hart < length s.harts → ((how ≡ stepped.Retired → ⊥) → stepped_machine hart (after, how) s ≡ s) → CountsBy hart s (acts_after hart (after, how) s)
steps-count hart s after stepped.Retired within same =
    with-counts hart s s.harts (stepped_hart (hart_of s hart) (after, stepped.Retired)) true within refl refl (stepped_machine hart (after, stepped.Retired) s) refl
steps-count hart s after stepped.Ecall within same =
    subst (λ (t : MachineState). CountsBy hart s (acts_by stepped.Ecall hart t)) (sym (same (λ e. absurd cc))) (acted-counts hart s stepped.Ecall within (λ e. absurd cc))
steps-count hart s after stepped.Break within same =
    subst (λ (t : MachineState). CountsBy hart s (acts_by stepped.Break hart t)) (sym (same (λ e. absurd cc))) (acted-counts hart s stepped.Break within (λ e. absurd cc))
steps-count hart s after (stepped.Trap why) within same =
    subst (λ (t : MachineState). CountsBy hart s (acts_by (stepped.Trap why) hart t)) (sym (same (λ e. absurd cc))) (acted-counts hart s (stepped.Trap why) within (λ e. absurd cc))

pub acts-count : (hart : ℕ) (s : MachineState) → hart < length s.harts → CountsRetired hart (acts hart s).retired s (acts hart s).state
unfolding acts
acts-count hart s within =
    let r : State × Stepped = step_of (step_state (hart_of s hart) s.memory) in
    steps-count hart s r.0 r.1 within (not-retired hart s)

-- what was done to a machine, by how its step ended
pub acts-as : (hart : ℕ) (s new : MachineState) (how : Stepped) → new ≡ stepped_machine hart (step_of (step_state (hart_of s hart) s.memory)) s → how ≡ (step_of (step_state (hart_of s hart) s.memory)).1 → acts_by how hart new ≡ acts hart s
unfolding acts
acts-as hart s new how is ends = ap₂ (λ (h : Stepped) (n : MachineState). acts_by h hart n) ends is

pub same-as : (hart : ℕ) (s new : MachineState) (how : Stepped) → new ≡ stepped_machine hart (step_of (step_state (hart_of s hart) s.memory)) s → how ≡ (step_of (step_state (hart_of s hart) s.memory)).1 → (how ≡ stepped.Retired → ⊥) → new ≡ s
same-as hart s new how is ends other = is ∙ not-retired hart s (λ e. other (ends ∙ e))

pub counts-of : (hart : ℕ) (s new : MachineState) (is_retired : Bool) → record { state = new; retired = is_retired } ≡ acts hart s → hart < length s.harts → CountsRetired hart is_retired s new
counts-of hart s new is_retired done within = subst (λ (a : Acted). CountsRetired hart a.retired s a.state) (sym done) (acts-count hart s within)
