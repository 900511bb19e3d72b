-- The head of a database of two runs, of version 3, up to what all versions share.
use Rattle.std.proofs.Common.{◌≡◌, [], ◌∷◌, refl}
use Rattle.scope_types.specs.declared.event.Event.TheVariants.{Retired}
use Rattle.tree_types.specs.declared.content.EventContent.{EventContent}
use Rattle.prof_db.specs.Spelling.{database_head}

-- retired every 5, of one run of a hart and one of two
abbrev two_runs : EventContent
two_runs = record {
  events = record { event = Retired; period = 5 } ∷ [];
  runs = 1 ∷ 2 ∷ [];
  names = record { procs = []; files = [] };
  nodes = [];
  profiles = [];
  contexts = [];
}

pub head_of_two_runs : database_head two_runs ≡ 72 ∷ 80 ∷ 67 ∷ 80 ∷ 82 ∷ 79 ∷ 70 ∷ 51 ∷ 1 ∷ 0 ∷ 0 ∷ 0 ∷ 0 ∷ 0 ∷ 0 ∷ 0 ∷ 5 ∷ 0 ∷ 0 ∷ 0 ∷ 2 ∷ 0 ∷ 0 ∷ 0 ∷ 1 ∷ 0 ∷ 0 ∷ 0 ∷ 2 ∷ 0 ∷ 0 ∷ 0 ∷ []
head_of_two_runs = refl
