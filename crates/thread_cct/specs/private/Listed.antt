-- Paths whose frames lie in one list of addresses.
use Rattle.std.specs.Prelude.{◌≡◌, ℕ, ◌+◌, ◌≤◌, List, length, map, take, drop, All}
use Rattle.scope_types.specs.declared.frame.Counted.{Counted}
use Rattle.scope_types.specs.Limits.{most_frames_of_path}
use Rattle.thread_cct.specs.declared.path_list.ListedPath.{ListedPath}
use Rattle.thread_cct.specs.Listing.{frame_at, frames_of_all}

-- a path whose frames begin at an index of the addresses
abbrev pub listed_path : List ℕ → ListedPath → Counted
listed_path pcs p = record {
  path = record { end = p.end; frames = map frame_at (take p.length (drop p.first pcs)) };
  count = p.count;
}

-- all paths
abbrev pub listed_paths : List ℕ → List ListedPath → List Counted
listed_paths pcs paths = map (listed_path pcs) paths

-- a path has some frames, as many as a path may have, and they lie among the addresses
pub record IsListed (pcs : List ℕ) (p : ListedPath) : Type 0 where
  pub some : 1 ≤ p.length
  pub few : p.length ≤ most_frames_of_path
  pub within : p.first + p.length ≤ length pcs

-- so does each path, and they have so many frames together
pub record AreListed (pcs : List ℕ) (paths : List ListedPath) (frames : ℕ) : Type 0 where
  pub each : All (IsListed pcs) paths
  pub sum : frames ≡ frames_of_all (listed_paths pcs paths)
