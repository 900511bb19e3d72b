-- The head of a database of two events, of version 2, up to what all versions share.
use Rattle.std.proofs.Common.{◌≡◌, [], ◌∷◌, refl}
use Rattle.scope_types.specs.declared.event.Event.TheVariants.{Retired, Taken}
use Rattle.tree_types.specs.declared.content.EventContent.{EventContent}
use Rattle.prof_db.specs.Spelling.{database_head}

-- retired every 49 and taken every 1, of one hart
abbrev two_events : EventContent
two_events = record {
  events = record { event = Retired; period = 49 } ∷ record { event = Taken; period = 1 } ∷ [];
  runs = 1 ∷ [];
  names = record { procs = []; files = [] };
  nodes = [];
  profiles = [];
  contexts = [];
}

pub head_of_two_events : database_head two_events ≡ 72 ∷ 80 ∷ 67 ∷ 80 ∷ 82 ∷ 79 ∷ 70 ∷ 50 ∷ 2 ∷ 0 ∷ 0 ∷ 0 ∷ 0 ∷ 0 ∷ 0 ∷ 0 ∷ 49 ∷ 0 ∷ 0 ∷ 0 ∷ 3 ∷ 0 ∷ 0 ∷ 0 ∷ 1 ∷ 0 ∷ 0 ∷ 0 ∷ 1 ∷ 0 ∷ 0 ∷ 0 ∷ []
head_of_two_events = refl
