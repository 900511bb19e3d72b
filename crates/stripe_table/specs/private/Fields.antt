-- The fields of a stripe, of the stripes and of a closed set.
use Rattle.std.specs.Prelude.{◌≡◌, ℕ, ◌+◌, ◌≤◌, Bool, true, false, slice_index_or, List, [], length, vec_capacity, Vec}
use Rattle.std.specs.declared.alloc.Global.{Global}
use Rattle.scope_types.specs.Limits.{stripe_count}
use Rattle.atomic_table.specs.Seated.{TableId}
use Rattle.stripe_table.specs.Limits.{Chunks, IsLimited}
use Rattle.stripe_table.specs.Ends.{AllFit}
use Rattle.stripe_table.specs.Views.{occurrences}
use Rattle.stripe_table.specs.declared.stripe.Stripe.{Stripe}

-- a chunk that has no mark is no name
abbrev pub MarksNames : List Bool → List ℕ → Type 0
MarksNames marks names = (c : ℕ) → slice_index_or marks c true ≡ false → occurrences c names ≡ 0

-- what holds of the fields of the stripes: a word for the next number and one for each stripe, a slot for each stripe,
-- the plan's chunks, and room for all stripes
pub record IsStripes (table : TableId) (plan : Chunks) (chunks : ℕ) (spare : Vec Stripe Global) : Type 0 where
  pub words : table.words ≡ stripe_count + 1
  pub slots : table.slots ≡ stripe_count
  pub chunks_are : length plan ≡ chunks
  pub limited : IsLimited plan
  pub none : spare.items ≡ []
  pub room : stripe_count ≤ vec_capacity spare

-- what holds of a set
pub record IsSet (plan : Chunks) (all : List Stripe) : Type 0 where
  pub limited : IsLimited plan
  pub fit : AllFit plan all
