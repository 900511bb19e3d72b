-- How many entries the columns of an event have together, a hart at a time.
use Rattle.std.proofs.Common.{◌≡◌, ℕ, ◌+◌, List, length, arith}
use Rattle.std.proofs.lemmas.List.FromFn.{sum_by-map-range_with_len_more}
use Rattle.tree_types.specs.declared.content.ProfileEntry.{ProfileEntry}
use Rattle.prof_db.specs.private.EventEntries.{column_entries, entries_of_event}

pub one_hart_more : (events place : ℕ) (lists : List (List ProfileEntry)) (hart : ℕ)
    → entries_of_event events place lists (hart + 1) ≡ entries_of_event events place lists hart + length (column_entries events place lists hart)
one_hart_more events place lists hart =
    sum_by-map-range_with_len_more (λ (list : List ProfileEntry). length list) (column_entries events place lists) 0 hart hart (omega arith)
