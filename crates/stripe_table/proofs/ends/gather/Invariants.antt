use Rattle.std.proofs.Common.{◌≡◌, ℕ, ◌-◌, ◌<◌, ◌≤◌, false, get_or, take, vec_capacity}
use Rattle.core.specs.Mem.Slots.{slots_items, slots_filled, slots_len}
use Rattle.core.specs.Mem.Slots.Ownership.{Filled}
use Rattle.stripe_table.proofs.ends.gather.Given as goal

abbrev pub invariant-loop-i : goal.invariant-loop-i
invariant-loop-i l = Filled (slots_filled l.closed.slots) l.i (slots_len l.closed.slots) × ((k : ℕ) → k < l.i → get_or (slots_filled l.closed.slots) k false ≡ false)
    × (slots_len l.closed.slots ≡ 16) × (slots_items l.closed.slots ≡ slots_items l.initial.closed.slots) × (l.into.items ≡ take l.i (slots_items l.closed.slots)) × (16 ≤ vec_capacity l.into) × (l.i ≤ 16)

abbrev pub decreases-loop-i : goal.decreases-loop-i
decreases-loop-i l = slots_len l.closed.slots - l.i
