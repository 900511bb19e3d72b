-- What is kept of an address, by its place.
use Rattle.std.specs.Prelude.{ℕ, ◌/◌, ◌%◌, ◌==◌, List, slice_get, Option, Some, None, if◌then◌else◌}
use Rattle.std.specs.Option.{option_and_then}
use Rattle.scope_find.specs.declared.found.Found.{Found}
use Rattle.scope_expand.specs.declared.memo.KeptFound.{KeptFound}
use Rattle.scope_expand.specs.Kept.{most_kept}

-- what was found, where it was at this address
abbrev pub found_if_at : ℕ → KeptFound → Option Found
found_if_at pc k = if k.pc == pc then Some k.found else None

-- what is kept of an address, by the number of its place
abbrev pub found_kept : List ℕ → List KeptFound → ℕ → Option Found
found_kept numbers kept pc =
    option_and_then (found_if_at pc) (option_and_then (slice_get kept) (slice_get numbers (pc / 4 % most_kept)))
