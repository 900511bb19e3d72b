use Rattle.std.proofs.Common.{◌≡◌, ◌≤◌, ℕ, Bool, true, false, take, length-take, arith}
use Rattle.core.specs.Int.{from_bool}
use Rattle.dwarf_info.proofs.SetFlags.{set_count, set_few}
use Rattle.dwarf_info.proofs.offsets.count_set.Goals as goal

one_at_most : (n : ℕ) (b : Bool) → n ≡ from_bool b → n ≤ 1
one_at_most n true e = omega arith
one_at_most n false e = omega arith

pub overflow_add-count : goal.overflow_add-count
overflow_add-count c =
    let so_far = c.loop-flag.invariant in
    let same = set_count 0 (take c.loop-flag.flag-index c.args.flags.now) in
    let few = set_few 0 (take c.loop-flag.flag-index c.args.flags.now) in
    let long = length-take c.loop-flag.flag-index c.args.flags.now in
    let one = one_at_most c.from-count.result _ c.from-count.ensures in
    let all = c.requires in
    omega arith
