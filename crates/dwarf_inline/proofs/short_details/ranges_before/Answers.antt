use Rattle.std.proofs.Common.{◌<◌, ◌≤◌, ◌+◌, length, take, get_or, ap, arith}
use Rattle.std.proofs.lemmas.List.Sums.{sum_by_more_le}
use Rattle.dwarf_inline.specs.private.ShortDetails.{ShortDetail, count_ranges}
use Rattle.dwarf_inline.proofs.short_details.ranges_before.Goals as goal

pub overflow_add-count : goal.overflow_add-count
overflow_add-count c =
    let item : ShortDetail = c.index-list-index.result in
    let here = c.requires.here in
    let lt : c.loop-index.index < length c.args.list.now = omega (arith, c.loop-index-test.true) in
    let more : count_ranges (take c.loop-index.index c.args.list.now) + (get_or c.args.list.now c.loop-index.index item).range_count ≤ count_ranges c.args.list.now =
    sum_by_more_le (λ (d : ShortDetail). d.range_count) c.args.list.now c.loop-index.index item lt in
    let few = c.requires.firsts.few in
    omega (arith, c.loop-index.invariant.count, c.from-count.ensures, c.range_count.ensures, ap (λ (d : ShortDetail). d.range_count) c.index-list-index.is)
