-- How the lists of the nodes that have values of an event, and those of its columns, are put one after another.
use Rattle.std.specs.Prelude.{◌≡◌, ℕ, ◌+◌, List, length, map, take}
use Rattle.std.specs.List.{range_with_len}
use Rattle.tree_types.specs.declared.content.ContextEntry.{ContextEntry}
use Rattle.tree_types.specs.Lists.{AreStarts, cut}
use Rattle.tree_types.specs.declared.content.ProfileEntry.{ProfileEntry}
use Rattle.prof_db.specs.private.EventParts.{event_lists, event_number_of, hart_list}

-- of the nodes below this one: the lists of those that have values of the event; and their numbers, and this one's
pub record AreEventLists (events place : ℕ) (lists : List (List ContextEntry)) (node : ℕ) (starts : List ℕ)
    (entries : List ContextEntry) (numbers : List ℕ) : Type 0 where
  pub ordered : AreStarts starts (length entries)
  pub lists_are : cut starts entries ≡ event_lists events place (take node lists)
  pub numbers_are : numbers ≡ map (event_number_of events place lists) (range_with_len 0 (node + 1))

-- of the harts below this one: the lists of their columns of the event
pub record AreHartLists (events place : ℕ) (numbers : List ℕ) (lists : List (List ProfileEntry)) (hart : ℕ)
    (starts : List ℕ) (entries : List ProfileEntry) : Type 0 where
  pub ordered : AreStarts starts (length entries)
  pub lists_are : cut starts entries ≡ map (hart_list events place numbers lists) (range_with_len 0 hart)
