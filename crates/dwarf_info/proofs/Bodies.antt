-- What is before or after other items, and what fails first.
use Rattle.std.proofs.Common.{◌≡◌, List, [], ◌∷◌, ◌++◌, length, Result, Ok, Err, refl}
use Rattle.std.specs.Prelude.{slice_get}
use Rattle.prof_bytes.specs.Outcome.{◌>>=◌, FailsBy}
use Rattle.prof_bytes.specs.declared.fail.Fail.{Fail}
use Rattle.prof_bytes.specs.declared.fail.Fail.TheVariants as fails
use Rattle.dwarf_forms.specs.Runs.{before}

pub before_none : {X F : Type 0} (r : Result (List X) F) → before [] r ≡ r
before_none (Ok new) = refl
before_none (Err f) = refl

pub first_behind : {X : Type 0} (front new : List X) → slice_get (front ++ new) (length front) ≡ slice_get new 0
first_behind [] new = refl
first_behind (x ∷ front) new = first_behind front new

-- what fails at first fails
pub fails_before : {X Y F : Type 0} (fail : Fail F) (r : Result X F) (next : X → Result Y F) → FailsBy fail r → FailsBy fail (r >>= next)
fails_before (fails.Memory memory) r next e = tt
fails_before (fails.Fault fault) (Ok x) next e = absurd cc
fails_before (fails.Fault fault) (Err other) next e = cc
