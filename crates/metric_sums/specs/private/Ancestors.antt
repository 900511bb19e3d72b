-- The ancestors whose children are being summed up, and what a node does to them.
use Rattle.std.specs.Prelude.{◌≡◌, ℕ, ◌-◌, ◌*◌, ◌<◌, ◌==◌, ◌⊎◌, List, [], ◌∷◌, ◌++◌, length, replicate}
use Rattle.std.specs.Prelude.{Bool, false, Option, Some, None, slice_get, slice_index_or}
use Rattle.std.specs.List.{flat_map, range_with_len}
use Rattle.scope_types.specs.declared.scope.Scope.{Scope}
use Rattle.tree_types.specs.declared.content.Kind.{Kind}
use Rattle.tree_types.specs.declared.content.Kind.TheVariants.{Exclusive, Frame, Inclusive}
use Rattle.tree_types.specs.declared.node_values.NodeValue.{NodeValue}
use Rattle.tree_types.specs.NodeValues.{nonzero}
use Rattle.metric_sums.specs.declared.column_sums.Sum.{Sum}
use Rattle.metric_sums.specs.declared.ancestors.OpenNode.{OpenNode}
use Rattle.metric_sums.specs.private.Sums.{handed_up, sum_of_both, no_paths}

-- whether a list of nodes ends with one
abbrev pub is_node : ℕ → Option OpenNode → Bool
is_node node None = false
is_node node (Some o) = o.node == node

-- whether the last of the ancestors is this node
abbrev pub ends_with : ℕ → List OpenNode → Bool
ends_with node ancestors = is_node node (slice_get ancestors (length ancestors - 1))

-- ancestors without the last one, and the sums of that
abbrev pub LeavesAncestors : ℕ → List OpenNode → List OpenNode → Option (List Sum) → Type 0
LeavesAncestors node old new None = (ends_with node old ≡ false) × (new ≡ old)
LeavesAncestors node old new (Some sums) = old ≡ new ++ record { node = node; sums = sums } ∷ []

-- the sums of a node: those of the last of the ancestors, or new ones
abbrev pub SumsOf : ℕ → ℕ → List OpenNode → List OpenNode → List Sum → Type 0
SumsOf columns node old new sums = (old ≡ new ++ record { node = node; sums = sums } ∷ [])
    ⊎ ((ends_with node old ≡ false) × (new ≡ old) × (sums ≡ replicate columns no_paths))

-- sums that are joined to another node's
abbrev pub IsJoined : Scope → List Sum → List Sum → List Sum → Type 0
IsJoined scope up sums new = (length new ≡ length up) × ((h : ℕ) (d : Sum) → h < length new
    → slice_index_or new h d ≡ sum_of_both (slice_index_or up h d) (handed_up scope (slice_index_or sums h d)))

-- sums that are turned into the parent's
abbrev pub IsTurned : Scope → List Sum → List Sum → Type 0
IsTurned scope sums new = (length new ≡ length sums) × ((h : ℕ) (d : Sum) → h < length new
    → slice_index_or new h d ≡ handed_up scope (slice_index_or sums h d))

-- sums are handed up to the parent's, which is the last of the ancestors, or become the parent's
abbrev pub HandsUp : ℕ → Scope → List Sum → List OpenNode → List OpenNode → Type 0
HandsUp parent scope sums old new =
    ((rest : List OpenNode) × (up : List Sum) × (sum : List Sum)
    × (old ≡ rest ++ record { node = parent; sums = up } ∷ [])
    × (new ≡ rest ++ record { node = parent; sums = sum } ∷ []) × IsJoined scope up sums sum)
    ⊎ ((turned : List Sum) × (ends_with parent old ≡ false)
    × (new ≡ old ++ record { node = parent; sums = turned } ∷ []) × IsTurned scope sums turned)

-- ---- the values of sums

-- the value of so many paths, in retired instructions
abbrev pub value_of_kind : ℕ → ℕ → ℕ → Kind → ℕ → NodeValue
value_of_kind period node column kind paths =
    record { node = node; column = column; kind = kind; value = period * paths }

-- the three values of a node's sum for a column
abbrev pub sum_values : ℕ → ℕ → ℕ → Sum → List NodeValue
sum_values period node column s = value_of_kind period node column Exclusive s.exclusive
    ∷ value_of_kind period node column Frame s.frame ∷ value_of_kind period node column Inclusive s.inclusive ∷ []

-- the period of a column in the list of the columns' periods
abbrev pub period_in : List ℕ → ℕ → ℕ
period_in periods column = slice_index_or periods column 0

-- those of the columns from one on, each with its period
abbrev pub values_of_sums : (ℕ → ℕ) → ℕ → List Sum → ℕ → ℕ → List NodeValue
values_of_sums period node sums first count =
    nonzero (flat_map (λ column. sum_values (period column) node column (slice_index_or sums column no_paths))
    (range_with_len first count))
