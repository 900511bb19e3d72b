use Rattle.std.proofs.Common.{◌≡◌, ℕ, ◌-◌, ◌*◌, ◌<◌, ◌≤◌, length, get_or, min}
use Rattle.elf_image.specs.private.StringTable.{first_zero, block, blocks}
use Rattle.elf_image.proofs.string_table.ends_of.Given as goal

abbrev pub invariant-loop-done : goal.invariant-loop-done
invariant-loop-done l = record {
  count : length l.ends.items ≡ l.done;
  next : l.next ≡ first_zero l.bytes (min (block * (blocks l.bytes - l.done)) (length l.bytes));
  within : l.next ≤ length l.bytes;
  each : (j : ℕ) → j < length l.ends.items → get_or l.ends.items j 0 ≡ first_zero l.bytes (block * (blocks l.bytes - 1 - j));
}
