-- The addresses that are gathered of raw paths.
use Rattle.std.specs.Prelude.{ℕ, ◌+◌, ◌*◌, ◌-◌, ◌^◌, ◌||◌, nat_lt, min, Bool, List, [], ◌++◌, length, map, true, false}
use Rattle.std.specs.Prelude.{if◌then◌else◌}
use Rattle.std.specs.Ordering.{nat_cmp}
use Rattle.scope_types.specs.Raw.{Raw}
use Rattle.tree_types.specs.Ascending.{ascending}

-- addresses, how many frames may still be added, whether there was no room for a path's frames, and how many addresses
-- there are at most before those that are there twice are dropped
pub record Gathered : Type 0 where
  pub addresses : List ℕ
  pub room : ℕ
  pub is_over : Bool
  pub most : ℕ

-- how many addresses are added at least before those that are there twice are dropped
abbrev pub least_dropped : ℕ
least_dropped = 65536

-- the greatest number of addresses
abbrev pub most_addresses : ℕ
most_addresses = 2 ^ 64 - 1

-- no addresses, and room for those of so many frames
abbrev pub none_gathered : ℕ → Gathered
none_gathered frames = record { addresses = []; room = frames; is_over = false; most = least_dropped }

-- twice as many addresses, and as many as are added at least
abbrev pub most_after : ℕ → ℕ
most_after count = min (min (count * 2) most_addresses + least_dropped) most_addresses

-- each address once, in ascending order
abbrev pub each_once : List ℕ → Gathered → Gathered
each_once addresses g = record g { addresses = addresses; most = most_after (length addresses) }

-- the same addresses, each once where there are more than the most
abbrev pub within_most : Gathered → Gathered
within_most g = if nat_lt g.most (length g.addresses) then each_once (ascending nat_cmp g.addresses) g else g

-- the addresses of a raw path's frames come last
abbrev pub with_frames : Gathered → Raw → Gathered
with_frames g raw = record g {
  addresses = g.addresses ++ map (λ frame. frame.pc) raw.frames;
  room = g.room - length raw.frames;
}

-- with the addresses of a raw path's frames, if there is room
abbrev pub gathered_with : Gathered → Raw → Gathered
gathered_with g raw =
    if g.is_over || nat_lt g.room (length raw.frames) then record g { is_over = true }
    else within_most (with_frames g raw)
