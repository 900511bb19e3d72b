-- Items that follow one another to the end of the bytes, read in a state that each of them changes.
use Rattle.std.specs.Prelude.{ℕ, zero, suc, ◌==◌, ◌++◌, Bool, List, [], length, Result, Ok, if◌then◌else◌}
use Rattle.prof_bytes.specs.Fields.{Input}
use Rattle.prof_bytes.specs.Reading.{left_of}
use Rattle.prof_bytes.specs.Outcome.{◌>>=◌}

-- what a step gives: items, the next state, and the input after it
abbrev pub RunStep : Type 0 → Type 0 → Type 0 → Type 0
RunStep S X F = Result (List X × S × Input F) F

-- no bytes are left
abbrev pub is_end : {F : Type 0} → Input F → Bool
is_end input = length (left_of input.at) == 0

-- items before those that are read next
abbrev pub before : {X F : Type 0} → List X → Result (List X) F → Result (List X) F
before front read = read >>= (λ items. Ok (front ++ items))

-- the items up to the end of the bytes, in at most `room` steps
unfoldable pub run_from : {S X F : Type 0} → (S → Input F → RunStep S X F) → ℕ → S → Input F → Result (List X) F
run_from step zero state input = Ok []
run_from step (suc room) state input =
    if is_end input then Ok []
    else step state input >>= (λ taken. before taken.0 (run_from step room taken.1 taken.2))

-- the items up to the end of the bytes, in at most one step for each byte. That is enough where each
-- step takes a byte or more, as those of units and entries do (`die_count_is_at_most_bytes`)
abbrev pub run_to_end : {S X F : Type 0} → (S → Input F → RunStep S X F) → S → Input F → Result (List X) F
run_to_end step state input = run_from step (length (left_of input.at)) state input
