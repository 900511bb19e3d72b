-- Marks of the chunks that stripes name, and what settling does to the names.
use Rattle.std.specs.Prelude.{◌≡◌, ℕ, ◌<◌, Bool, false, ltb, List, [], length, slice_index_or}
use Rattle.scope_types.specs.Limits.{stripe_count}
use Rattle.stripe_table.specs.Ends.{stripe_names}
use Rattle.stripe_table.specs.Views.{occurrences, sum_below}
use Rattle.stripe_table.specs.declared.stripe.Stripe.{Stripe}

-- whether a stripe names a chunk
abbrev pub is_named : List Stripe → ℕ → ℕ → Bool
is_named all s c = ltb 0 (occurrences c (stripe_names all s))

-- the mark of chunk c in the marks of stripe s
abbrev pub chunk_mark : List (List Bool) → ℕ → ℕ → Bool
chunk_mark marks s c = slice_index_or (slice_index_or marks s []) c false

-- stripe s has a mark of chunk c, and it says whether the stripe names the chunk
pub record MarkIsExact (all : List Stripe) (marks : List (List Bool)) (s c : ℕ) : Type 0 where
  pub stripe : s < length marks
  pub chunk : c < length (slice_index_or marks s [])
  pub exact : chunk_mark marks s c ≡ is_named all s c

-- of a given number of chunks, those are marked that are among the names
pub record MarksChunks (chunks : ℕ) (names : List ℕ) (marks : List Bool) : Type 0 where
  pub count : length marks ≡ chunks
  pub exact : (c : ℕ) → c < chunks → slice_index_or marks c false ≡ ltb 0 (occurrences c names)

-- the marks of each stripe
pub record MarksAll (chunks : ℕ) (all : List Stripe) (marks : List (List Bool)) : Type 0 where
  pub count : length marks ≡ stripe_count
  pub each : (s : ℕ) → s < stripe_count → MarksChunks chunks (stripe_names all s) (slice_index_or marks s [])

-- how many names the sixteen stripes have
abbrev pub name_count : List Stripe → ℕ
name_count all = sum_below stripe_count (λ s. length (stripe_names all s))

-- the stripes name the chunk c as often as before
abbrev pub SameNames : List Stripe → List Stripe → ℕ → Type 0
SameNames old new c = (s : ℕ) → occurrences c (stripe_names new s) ≡ occurrences c (stripe_names old s)
