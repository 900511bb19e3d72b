-- The numbered keys by which paths are sorted, and those of them that tie.
use Rattle.std.specs.Prelude.{◌≡◌, ℕ, ◌+◌, ◌<◌, ◌≤◌, ◌==◌, ◌&&◌, Bool, true, false}
use Rattle.std.specs.Prelude.{List, ◌∷◌, length, map, nat_eq, nat_lt, All}
use Rattle.std.specs.Prelude.{Option, None, Some, slice_get, slice_index_or, if◌then◌else◌}
use Rattle.std.specs.Cmp.Lexicographic.{pointwise, slice_cmp}
use Rattle.std.specs.Ordering.{nat_cmp, ordering_then}
use Rattle.std.specs.declared.cmp.Ordering.{Ordering}
use Rattle.scope_types.specs.declared.frame.Counted.{Counted}
use Rattle.scope_types.specs.Ends.{end_number}
use Rattle.thread_cct.specs.declared.repeats.NumberedPath.{NumberedPath}
use Rattle.thread_cct.specs.Listing.{frame_at}

-- paths that are the same lie together, in order of their numbers
abbrev pub key_order : NumberedPath → NumberedPath → Ordering
key_order a b = ordering_then (nat_cmp a.pc b.pc) (ordering_then (nat_cmp a.end b.end)
    (ordering_then (slice_cmp nat_cmp a.callers.now b.callers.now) (nat_cmp a.number b.number)))

-- whether two keys are of the same path
abbrev pub is_tied : NumberedPath → NumberedPath → Bool
is_tied a b = a.pc == b.pc && (a.end == b.end && pointwise nat_eq a.callers.now b.callers.now)

-- a key has a path's end and addresses
pub record IsKeyOf (c : Counted) (key : NumberedPath) : Type 0 where
  pub end : key.end ≡ end_number c.path.end
  pub frames : c.path.frames ≡ map frame_at (key.pc ∷ key.callers.now)

-- a key has the path of its number
pub record IsNumbered (counted : List Counted) (key : NumberedPath) : Type 0 where
  pub path : Counted
  pub at : slice_get counted key.number ≡ Some path
  pub is : IsKeyOf path key

-- each path has a key, in order
pub record AreKeys (counted : List Counted) (keys : List NumberedPath) : Type 0 where
  pub many : length keys ≡ length counted
  pub each : All (IsNumbered counted) keys
  pub order : (i : ℕ) (d : NumberedPath) → i < length keys → (slice_index_or keys i d).number ≡ i

-- a number, or one that was found before and is less
abbrev pub lesser : Option ℕ → ℕ → Option ℕ
lesser None number = Some number
lesser (Some least) number = if nat_lt least number then Some least else Some number

-- of the first n keys none ties with the one before it
abbrev pub HasNoTie : List NumberedPath → ℕ → Type 0
HasNoTie keys n = (i : ℕ) (d : NumberedPath) → i + 1 < n
    → is_tied (slice_index_or keys i d) (slice_index_or keys (i + 1) d) ≡ false

-- of the first n keys some tie with the one before them, and this is the least number of those
pub record IsLeastTie (keys : List NumberedPath) (n number : ℕ) : Type 0 where
  pub at : ℕ
  pub below : at + 1 < n
  pub within : at + 1 < length keys
  pub tied : (d : NumberedPath) → is_tied (slice_index_or keys at d) (slice_index_or keys (at + 1) d) ≡ true
  pub is : (d : NumberedPath) → (slice_index_or keys (at + 1) d).number ≡ number
  pub least : (i : ℕ) (d : NumberedPath) → i + 1 < n
      → is_tied (slice_index_or keys i d) (slice_index_or keys (i + 1) d) ≡ true
      → number ≤ (slice_index_or keys (i + 1) d).number
