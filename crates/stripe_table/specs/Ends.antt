-- What a closed set of stripes says.
use Rattle.std.specs.Prelude.{◌≡◌, ℕ, ◌<◌, List, length, slice_index_or}
use Rattle.std.specs.List.{flat_map, range_with_len}
use mathlib.Core.Option.{some}
use lib.ListN.{get_elem?}
use Rattle.scope_types.specs.CallPaths.{ColumnPath, each_path}
use Rattle.scope_types.specs.declared.path.Entry.{Entry}
use Rattle.scope_types.specs.Limits.{stripe_count}
use Rattle.stripe_table.specs.Limits.{Chunks, dealt}
use Rattle.stripe_table.specs.declared.view.PassView.{PassView}
use Rattle.stripe_table.specs.declared.stripe.Stripe.{Stripe}
use Rattle.stripe_table.specs.Stripe.{empty_stripe}
use Rattle.stripe_table.specs.Fits.{Fits}
use Rattle.stripe_table.specs.Views.{occurrences}

-- the stripes, and what the pass did and offered that closed them
pub record SetValue : Type 0 where
  pub stripes : List Stripe
  pub view : PassView
  pub offered : List (ℕ × ℕ)

-- stripe s is there, and fits the plan with k names
abbrev pub FitsAt : Chunks → List Stripe → ℕ → ℕ → Type 0
FitsAt plan all s k = (x : Stripe) × (get_elem? all s ≡ some x) × Fits plan s k x

-- the names of stripe s
abbrev pub stripe_names : List Stripe → ℕ → List ℕ
stripe_names all s = (slice_index_or all s empty_stripe).names

-- the entries that the trie of stripe s stands for
abbrev pub trie_of : List Stripe → ℕ → List Entry
trie_of all s = (slice_index_or all s empty_stripe).trie

-- each of the sixteen stripes fits the plan, with as many names as it has
abbrev pub AllFit : Chunks → List Stripe → Type 0
AllFit plan all = (length all ≡ stripe_count)
    × ((s : ℕ) → s < stripe_count → Fits plan s (length (stripe_names all s)) (slice_index_or all s empty_stripe))

-- the call paths of the pieces that a stripe names: of each chunk that it names, those that the plan deals to it
abbrev pub paths_named_by : SetValue → ℕ → List ColumnPath
paths_named_by set s = flat_map (λ c. each_path (dealt set.view.plan c s)) (stripe_names set.stripes s)

-- and of all sixteen stripes, one after the other
unfoldable pub named_paths : SetValue → List ColumnPath
named_paths set = flat_map (paths_named_by set) (range_with_len 0 stripe_count)

-- each stripe names each chunk of the plan
abbrev pub NamesAll : SetValue → Type 0
NamesAll set = (c s : ℕ) → c < length set.view.plan → s < stripe_count → 0 < occurrences c (stripe_names set.stripes s)
