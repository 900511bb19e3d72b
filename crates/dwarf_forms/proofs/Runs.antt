-- Reading items to the end of the bytes, as a loop does.
use Rattle.std.proofs.Common.{◌≡◌, ℕ, suc, ◌-◌, ◌+◌, ◌≤◌, ◌<◌, true, false, List, ◌++◌, Result, Ok, Err, refl, sym, ap, ◌∙◌, append_assoc, arith}
use Rattle.std.proofs.lemmas.List.{append-nil}
use Rattle.prof_bytes.specs.Fields.{Input}
use Rattle.prof_bytes.specs.Outcome.{FailsBy}
use Rattle.prof_bytes.specs.declared.fail.Fail.{Fail}
use Rattle.prof_bytes.specs.declared.fail.Fail.TheVariants as fails
use Rattle.dwarf_forms.specs.Runs.{RunStep, is_end, before, run_from}

regroup : {X F : Type 0} (front new : List X) (read : Result (List X) F) → before front (before new read) ≡ before (front ++ new) read
regroup {X = X} front new (Ok xs) = ap Ok (sym (append_assoc front new xs))
regroup front new (Err f) = refl

-- one more step was made
pub goes_on : {S X F : Type 0} (step : S → Input F → RunStep S X F) (front new : List X) (room i : ℕ) (state next : S) (input after : Input F) (total : Result (List X) F)
    → i < room → is_end input ≡ false → step state input ≡ Ok (new, next, after)
    → before front (run_from step (room - i) state input) ≡ total → before (front ++ new) (run_from step (room - (i + 1)) next after) ≡ total
unfolding run_from
goes_on step front new room i state next input after total lt more made so_far =
    let k : room - i ≡ suc (room - (i + 1)) = omega arith in
    let one : before front (run_from step (room - i) state input) ≡ before (front ++ new) (run_from step (room - (i + 1)) next after) =
    rw (k, more, made) (regroup front new (run_from step (room - (i + 1)) next after)) in
    sym one ∙ so_far

-- the bytes are input their end
pub is_done : {S X F : Type 0} (step : S → Input F → RunStep S X F) (front : List X) (room i : ℕ) (state : S) (input : Input F) (total : Result (List X) F)
    → i < room → is_end input ≡ true
    → before front (run_from step (room - i) state input) ≡ total → total ≡ Ok front
unfolding run_from
is_done {X = X} step front room i state input total lt none so_far =
    let k : room - i ≡ suc (room - (i + 1)) = omega arith in
    let one : before front (run_from step (room - i) state input) ≡ Ok front = rw (k, none) (ap (λ (xs : List X). Ok xs) (append-nil front)) in
    sym so_far ∙ one

-- the steps are spent
pub is_spent : {S X F : Type 0} (step : S → Input F → RunStep S X F) (front : List X) (room i : ℕ) (state : S) (input : Input F) (total : Result (List X) F)
    → room ≤ i
    → before front (run_from step (room - i) state input) ≡ total → total ≡ Ok front
unfolding run_from
is_spent {X = X} step front room i state input total le so_far =
    let k : room - i ≡ 0 = omega arith in
    let one : before front (run_from step (room - i) state input) ≡ Ok front = rw k (ap (λ (xs : List X). Ok xs) (append-nil front)) in
    sym so_far ∙ one

-- a step is input fault
pub fails_at : {S X F : Type 0} (found : F) (step : S → Input F → RunStep S X F) (front : List X) (room i : ℕ) (state : S) (input : Input F) (total : Result (List X) F)
    → i < room → is_end input ≡ false → step state input ≡ Err found
    → before front (run_from step (room - i) state input) ≡ total → total ≡ Err found
unfolding run_from
fails_at found step front room i state input total lt more made so_far =
    let k : room - i ≡ suc (room - (i + 1)) = omega arith in
    let one : before front (run_from step (room - i) state input) ≡ Err found = rw (k, more, made) refl in
    sym so_far ∙ one

pub fails_by : {S X F : Type 0} (fail : Fail F) (step : S → Input F → RunStep S X F) (front : List X) (room i : ℕ) (state : S) (input : Input F) (total : Result (List X) F)
    → i < room → is_end input ≡ false → FailsBy fail (step state input)
    → before front (run_from step (room - i) state input) ≡ total → FailsBy fail total
fails_by (fails.Memory memory) step front room i state input total lt more made so_far = tt
fails_by (fails.Fault found) step front room i state input total lt more made so_far = fails_at found step front room i state input total lt more made so_far
