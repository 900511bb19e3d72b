use Rattle.std.proofs.Common.{◌≡◌, ◌*◌, ◌<◌, ℕ, take, drop, length, Some}
use Rattle.std.specs.Prelude.{slice_get}
use Rattle.dwarf_info.specs.private.Starts.{set_from}
use Rattle.dwarf_info.proofs.offsets.counts_of.Given as goal

abbrev pub invariant-loop-rest : goal.invariant-loop-rest
invariant-loop-rest l = record {
  rest : l.rest ≡ drop (32 * length l.counts.items) l.flags;
  count : l.count ≡ length (set_from 0 (take (32 * length l.counts.items) l.flags));
  counted : (block : ℕ) (count : ℕ) → slice_get l.counts.items block ≡ Some count → count ≡ length (set_from 0 (take (32 * block) l.flags));
  starts : (block : ℕ) → block < length l.counts.items → 32 * block < length l.flags;
}

abbrev pub decreases-loop-rest : goal.decreases-loop-rest
decreases-loop-rest l = length l.rest
