use Rattle.tree_types.proofs.ContentParts.{profile_of_paths}
use Rattle.tree_types.proofs.content_laws.paths_make_a_profile.Goals as goal

pub returns : goal.returns
returns c = profile_of_paths
