-- A refusal stays one, and what was accepted is so after a fault was renamed.
use Rattle.std.proofs.Common.{◌≡◌, Result, Ok, Err, IfOk, ap, sym, subst, ◌∙◌}
use Rattle.prof_bytes.specs.declared.fail.Fail.{Fail}
use Rattle.prof_bytes.specs.declared.fail.Fail.TheVariants as fails
use Rattle.prof_bytes.specs.Outcome.{◌>>=◌, FailsBy, Gives}
use Rattle.prof_bytes.proofs.Outcomes.{ok_same}
use Rattle.command_line.specs.declared.status.InputFault.{InputFault}
use Rattle.command_line.specs.Faulted.{faulted}
use Rattle.command_line.specs.Refusing.{Refused}

pub fails_next : {X Y : Type 0} (next : X → Result Y InputFault) (fail : Fail InputFault) (wanted : Result X InputFault) → FailsBy fail wanted → FailsBy fail (wanted >>= next)
fails_next next (fails.Fault fault) wanted refused = ap (λ (r : Result _ InputFault). r >>= next) refused
fails_next next (fails.Memory memory) wanted refused = tt

pub from_faulted : {X F : Type 0} (fault : F → InputFault) (r : Result X F) (x : X) → faulted fault r ≡ Ok x → r ≡ Ok x
from_faulted fault (Ok y) x is = ap Ok (ok_same y x is)
from_faulted fault (Err f) x is = absurd cc

-- what a lower layer gives, with its fault as an input's
pub refused_gives : {X Y F : Type 0} (view : X → Y) (fault : F → InputFault) (Turns : F → InputFault → Type 0) (read : Result X (Fail F)) (result : Result X (Fail InputFault)) (wanted : Result Y F) → ((f : F) (g : InputFault) → Turns f g → g ≡ fault f) → Gives view read wanted
    → Refused Turns read result → Gives view result (faulted fault wanted)
refused_gives view fault Turns (Ok x) result wanted turns given is = subst (λ r. Gives view r (faulted fault wanted)) (sym is) (ap (faulted fault) given)
refused_gives view fault Turns (Err (fails.Fault f)) result wanted turns given (g, is, turned) =
    subst (λ r. Gives view r (faulted fault wanted)) (sym is) (ap (faulted fault) given ∙ ap Err (sym (turns f g turned)))
refused_gives view fault Turns (Err (fails.Memory memory)) result wanted turns given is = subst (λ r. Gives view r (faulted fault wanted)) (sym is) tt

pub refused_ok : {X F : Type 0} (Holds : X → Type 0) (Turns : F → InputFault → Type 0) (read : Result X (Fail F)) (result : Result X (Fail InputFault)) → IfOk read Holds → Refused Turns read result → IfOk result Holds
refused_ok Holds Turns (Ok x) result holds is = subst (λ r. IfOk r Holds) (sym is) holds
refused_ok Holds Turns (Err (fails.Fault f)) result holds (g, is, turned) = subst (λ r. IfOk r Holds) (sym is) tt
refused_ok Holds Turns (Err (fails.Memory memory)) result holds is = subst (λ r. IfOk r Holds) (sym is) tt

pub ruleset input_steps = (refused_gives, refused_ok)
