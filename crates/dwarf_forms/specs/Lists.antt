-- Items that follow one another up to the one that closes their list.
use Rattle.std.specs.Prelude.{ℕ, zero, suc, List, [], ◌∷◌, Option, Some, None, Result, Ok, Err}
use Rattle.prof_bytes.specs.Fields.{Input}
use Rattle.prof_bytes.specs.Outcome.{◌>>=◌}

-- an item before those that follow it; nothing, where it closes the list
abbrev pub with_first : {X F : Type 0} → Option X → Input F → (Input F → Result (List X × Input F) F)
    → Result (List X × Input F) F
with_first None after rest = Ok ([], after)
with_first (Some x) after rest = do
  (others, end) ← rest after
  Ok (x ∷ others, end)

-- items up to the one that closes the list; the input's fault where `room` of them do not.
-- As many as there are bytes are enough (`declaration_count_is_at_most_bytes`, `die_count_is_at_most_bytes`)
unfoldable pub list_from : {X F : Type 0} → (Input F → Result (Option X × Input F) F) → ℕ → Input F
    → Result (List X × Input F) F
list_from item zero input = Err input.missing
list_from item (suc room) input = do
  (first, after) ← item input
  with_first first after (list_from item room)
