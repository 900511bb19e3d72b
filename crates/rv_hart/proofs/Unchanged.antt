-- A step that does not retire changes nothing.
use Rattle.std.proofs.Common.{◌≡◌, Bool, true, false, refl, sym, ap, subst, ◌∙◌}
use Rattle.rv_table.specs.declared.inst.Inst.{Inst}
use Rattle.rv_hart.specs.declared.outcome.Stepped.{Stepped}
use Rattle.rv_hart.specs.declared.outcome.Stepped.TheVariants as stepped
use Rattle.rv_hart.specs.declared.outcome.Cause.{Cause}
use Rattle.rv_memory.specs.AddressSpace.{AddressSpace, stored}
use Rattle.rv_hart.specs.Step.{State, finishes_store, carried_out, step_of}
use Rattle.rv_hart.proofs.StepCases.{HoldsOfEnds, of_operation, of_step}

abbrev pub Changes : State → State → Stepped → Type 0
Changes s after stepped.Retired = Unit {0}
Changes s after stepped.Ecall = after ≡ s
Changes s after stepped.Break = after ≡ s
Changes s after (stepped.Trap why) = after ≡ s

abbrev pub IfChanged : State → State × Stepped → Type 0
IfChanged s r = Changes s r.0 r.1

put : (answer : Bool × AddressSpace) (s : State) → IfChanged s (finishes_store answer s)
put (true, m) s = tt
put (false, m) s = refl

ends : (s : State) → HoldsOfEnds (IfChanged s) s
ends s = record {
  trap = λ why. refl;
  call = refl;
  stop = refl;
  result = λ inst value next. tt;
  going_on = λ next. tt;
  store = λ at bytes. put (stored s.memory at bytes) s;
}

pub step-changes : (s : State) → IfChanged s (step_of s)
step-changes s = of_step (IfChanged s) s (ends s)

changes-none : (s after : State) (how : Stepped) → Changes s after how → (how ≡ stepped.Retired → ⊥) → after ≡ s
changes-none s after stepped.Retired same other = absurd (other refl)
changes-none s after stepped.Ecall same other = same
changes-none s after stepped.Break same other = same
changes-none s after (stepped.Trap why) same other = same

-- where a step did not retire, its state is the one before it
pub unchanged : (s after : State) (how : Stepped) → (after, how) ≡ step_of s → (how ≡ stepped.Retired → ⊥) → after ≡ s
unchanged s after how is other = changes-none s after how (subst (IfChanged s) (sym is) (step-changes s)) other

-- so the next step ends so again
pub ends-again : (s after : State) (how : Stepped) → (after, how) ≡ step_of s → (how ≡ stepped.Retired → ⊥) → (after, how) ≡ step_of after
ends-again s after how is other = is ∙ ap step_of (sym (unchanged s after how is other))

-- a word that is no instruction changes nothing
pub unchanged-word : (inst : Inst) (s after : State) (why : Cause) → (after, stepped.Trap why) ≡ carried_out inst s → after ≡ s
unchanged-word inst s after why is = subst (IfChanged s) (sym is) (of_operation (IfChanged s) s (ends s) inst.op inst)
