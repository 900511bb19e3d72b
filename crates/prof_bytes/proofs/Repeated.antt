-- A step that a loop takes so many times.
use Rattle.std.proofs.Common.{◌≡◌, ℕ, suc, ◌-◌, ◌+◌, ◌≤◌, ◌<◌, List, [], ◌∷◌, ◌++◌, Result, Ok, Err, sym, ◌∙◌, refl, arith}
use Rattle.prof_bytes.specs.Outcome.{FailsBy}
use Rattle.prof_bytes.specs.Reading.{At}
use Rattle.prof_bytes.specs.Repeated.{times, adding}
use Rattle.prof_bytes.specs.declared.fail.Fail.{Fail}
use Rattle.prof_bytes.specs.declared.fail.Fail.TheVariants as fails

abbrev pub Step : Type 0 → Type 0 → Type 0
Step S F = ℕ → S → At → Result (S × At) F

-- one more was taken
pub goes_on : {S F : Type 0} (step : Step S F) (n i : ℕ) (before so_far : S) (at next : At) (total : Result (S × At) F)
    → i < n → step i before at ≡ Ok (so_far, next) → times step (n - i) i before at ≡ total → times step (n - (i + 1)) (i + 1) so_far next ≡ total
unfolding times
goes_on step n i before so_far at next total lt read so_far_is =
    let k : n - i ≡ suc (n - (i + 1)) = omega arith in
    let one : times step (n - i) i before at ≡ times step (n - (i + 1)) (i + 1) so_far next = rw (k, read) refl in
    sym one ∙ so_far_is

-- one is at fault
pub fails_at : {S F : Type 0} (found : F) (step : Step S F) (n i : ℕ) (before : S) (at : At) (total : Result (S × At) F)
    → i < n → step i before at ≡ Err found → times step (n - i) i before at ≡ total → total ≡ Err found
unfolding times
fails_at found step n i before at total lt read so_far_is =
    let k : n - i ≡ suc (n - (i + 1)) = omega arith in
    let one : times step (n - i) i before at ≡ Err found = rw (k, read) refl in
    sym so_far_is ∙ one

pub fails_by : {S F : Type 0} (fail : Fail F) (step : Step S F) (n i : ℕ) (before : S) (at : At) (total : Result (S × At) F)
    → i < n → FailsBy fail (step i before at) → times step (n - i) i before at ≡ total → FailsBy fail total
fails_by (fails.Memory memory) step n i before at total lt read so_far_is = tt
fails_by (fails.Fault found) step n i before at total lt read so_far_is = fails_at found step n i before at total lt read so_far_is

-- all were taken
pub ends : {S F : Type 0} (step : Step S F) (n i : ℕ) (before : S) (at : At) (total : Result (S × At) F)
    → n ≤ i → times step (n - i) i before at ≡ total → total ≡ Ok (before, at)
unfolding times
ends step n i before at total le so_far_is =
    let k : n - i ≡ 0 = omega arith in
    let one : times step (n - i) i before at ≡ Ok (before, at) = rw k refl in
    sym so_far_is ∙ one

-- ---- one more of a list

pub added : {X F : Type 0} (item : At → Result (X × At) F) (i : ℕ) (before after : List X) (at next : At) (x : X)
    → after ≡ before ++ x ∷ [] → item at ≡ Ok (x, next) → adding item i before at ≡ Ok (after, next)
added item i before after at next x is read = rw (read, is) refl

pub not_added : {X F : Type 0} (item : At → Result (X × At) F) (i : ℕ) (before : List X) (at : At) (found : F)
    → item at ≡ Err found → adding item i before at ≡ Err found
not_added item i before at found read = rw read refl

pub not_added_by : {X F : Type 0} (item : At → Result (X × At) F) (i : ℕ) (before : List X) (at : At) (fail : Fail F)
    → FailsBy fail (item at) → FailsBy fail (adding item i before at)
not_added_by item i before at (fails.Memory memory) read = tt
not_added_by item i before at (fails.Fault found) read = not_added item i before at found read
