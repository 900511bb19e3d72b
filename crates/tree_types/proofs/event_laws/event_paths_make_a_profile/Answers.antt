use Rattle.tree_types.proofs.EventParts.{profile_of_event_paths}
use Rattle.tree_types.proofs.event_laws.event_paths_make_a_profile.Goals as goal

pub returns : goal.returns
returns c = profile_of_event_paths
