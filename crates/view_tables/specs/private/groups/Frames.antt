-- What the code knows of each node: the frames above it, where its descendants end, and how much it weighs.
use Rattle.std.specs.Prelude.{◌≡◌, ℕ, zero, suc, ◌+◌, ◌-◌, ◌*◌, ◌^◌, ◌<◌, ◌≤◌, List, [], ◌∷◌, length}
use Rattle.std.specs.Prelude.{slice_index, slice_index_or, count_by, Bool, true, false, if◌then◌else◌, nat_lt, set}
use Rattle.scope_types.specs.declared.scope.Scope.{Scope}
use Rattle.scope_types.specs.declared.scope.Scope.TheVariants.{Proc, Call, Stmt}
use Rattle.tree_types.specs.declared.content.Content.{Content}
use Rattle.tree_types.specs.declared.content.Kind.TheVariants.{Exclusive}
use Rattle.tree_types.specs.Nodes.{no_parent}
use Rattle.tree_types.specs.Paths.{Path}
use Rattle.tree_types.specs.PathsOf.{paths_of}
use Rattle.tree_types.specs.TopDown.{over_columns}
use Rattle.tree_types.specs.Tree.{node_at}
use Rattle.view_tables.specs.declared.groups.frames.Frames.{Frames}
use Rattle.view_tables.specs.declared.groups.occurrence.View.{View}
use Rattle.view_tables.specs.declared.groups.occurrence.View.TheVariants.{Callers, Flat}
use Rattle.view_tables.specs.Views.{Sequences}
use Rattle.view_tables.specs.Callers.{procs_up}
use Rattle.view_tables.specs.Flat.{frame_proc}
use Rattle.view_tables.specs.private.groups.Occurrences.{has_frame, sample_at, content_samples, ups}
use Rattle.view_tables.specs.private.Values.{path_of_node, total_value}

-- the parent's number
abbrev pub parent_at : Content → ℕ → ℕ
parent_at c number = (node_at c.nodes number).parent

-- the own scope of the node with a number
abbrev pub scope_at : Content → ℕ → Scope
scope_at c number = (node_at c.nodes number).scope

-- ---- procedures above

-- where a search for the procedure of a frame ends
abbrev pub stops : View → Scope → Bool
stops view (Proc id) = true
stops Flat (Call line) = true
stops Flat (Stmt line) = true
stops view s = false

-- it finds the same from two occurrences up
abbrev pub SameProcs : View → Path → Path → Type 0
SameProcs Callers scopes others = procs_up scopes ≡ procs_up others
SameProcs Flat scopes others = frame_proc scopes ≡ frame_proc others

-- where the search from a number on ends
abbrev pub head_above : List ℕ → ℕ → ℕ
head_above heads number = slice_index_or heads number no_parent

-- the node where the search from another one ends, or no node
pub record IsHeadOf (view : View) (c : Content) (number head : ℕ) : Type 0 where
  pub same : SameProcs view (ups c number) (ups c head)
  pub stop : head < length c.nodes → stops view (scope_at c head) ≡ true

-- the heads of the first nodes, one for each
pub record AreHeads (view : View) (c : Content) (heads : List ℕ) : Type 0 where
  pub long : length heads ≤ length c.nodes
  pub each : (number : ℕ) → number < length heads → IsHeadOf view c number (head_above heads number)

-- ---- descendants

-- the node itself and its descendants are the numbers from its own up to the end
pub record IsEnd (c : Content) (number end : ℕ) : Type 0 where
  pub behind : number < end
  pub within : end ≤ length c.nodes
  pub inside : (j : ℕ) → number < j → j < end → (number ≤ parent_at c j) × (parent_at c j < j)
  pub outside : (j : ℕ) → end ≤ j → j < length c.nodes → parent_at c j < end → parent_at c j < number

-- from a number on, each node's end
pub record AreEnds (c : Content) (from : ℕ) (ends : List ℕ) : Type 0 where
  pub long : length ends ≡ length c.nodes
  pub each : (number : ℕ) → from ≤ number → number < length c.nodes → IsEnd c number (slice_index ends number)

-- ---- weights

-- the sum of the values at the numbers below n
unfoldable pub sum_below : (ℕ → ℕ) → ℕ → ℕ
sum_below f zero = 0
sum_below f (suc n) = sum_below f n + f n

-- the weight at a number that passes
abbrev pub weight_if : (ℕ → Bool) → List ℕ → ℕ → ℕ
weight_if test weights number = if test number then slice_index weights number else 0

-- what the numbers below n that pass weigh
abbrev pub weighed : (ℕ → Bool) → List ℕ → ℕ → ℕ
weighed test weights n = sum_below (weight_if test weights) n

-- the exclusive value of each node, over all columns
pub record AreCosts (c : Content) (costs : List ℕ) : Type 0 where
  pub each : (number : ℕ) → number < length costs
      → slice_index costs number ≡ over_columns c.period c.columns (paths_of c) (path_of_node c number) Exclusive

-- weights that stand for the samples, where from a number on only frames have some
pub record AreWeights (view : View) (c : Content) (from : ℕ) (weights : List ℕ) : Type 0 where
  pub long : length weights ≡ length c.nodes
  pub samples : (test : Sequences → Bool) → test [] ≡ false → c.period * count_by test (content_samples view c)
      ≡ weighed (λ number. test (sample_at view c number)) weights (length c.nodes)
  pub none : (number : ℕ) → from ≤ number → has_frame view (ups c number) ≡ false → slice_index weights number ≡ 0
  pub few : sum_below (slice_index weights) (length c.nodes) ≤ total_value c

-- a weight that is moved to another number, or away where that is none
abbrev pub weight_moved : List ℕ → ℕ → ℕ → List ℕ
weight_moved weights number to = if nat_lt to (length weights)
    then set (set weights number 0) to (slice_index (set weights number 0) to + slice_index weights number)
    else set weights number 0

-- the sums of the weights below each number, and of all
pub record ArePrefixSums (weights sums : List ℕ) : Type 0 where
  pub long : length sums ≡ length weights + 1
  pub each : (number : ℕ) → number ≤ length weights → slice_index sums number ≡ sum_below (slice_index weights) number

-- sums that can be told from each node's number and its end
pub record AreRanges (ends sums : List ℕ) : Type 0 where
  pub long : length ends < length sums
  pub within : (k : ℕ) → k < length ends → slice_index ends k < length sums
  pub rise : (k : ℕ) → k < length ends → slice_index sums k ≤ slice_index sums (slice_index ends k)

-- what frames and their descendants weigh, each node once. The frames ascend; those before `reach` are counted
abbrev pub covered : List ℕ → List ℕ → ℕ → List ℕ → ℕ
covered ends sums reach [] = 0
covered ends sums reach (f ∷ fs) = if nat_lt f reach then covered ends sums reach fs
    else (slice_index sums (slice_index ends f) - slice_index sums f) + covered ends sums (slice_index ends f) fs

-- all of these, for a view of a content
pub record AreFrames (view : View) (c : Content) (frames : Frames) : Type 0 where
  pub long : length frames.heads.items ≡ length c.nodes
  pub heads : AreHeads view c frames.heads.items
  pub ends : AreEnds c 0 frames.ends.items
  pub weights : AreWeights view c 0 frames.weights.items
  pub sums : ArePrefixSums frames.weights.items frames.sums.items
  pub small : total_value c ≤ 2 ^ 52
