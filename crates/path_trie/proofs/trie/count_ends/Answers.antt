use Rattle.std.proofs.Common.{arith}
use Rattle.path_trie.specs.declared.trie.PathEnd.{PathEnd}
use Rattle.path_trie.proofs.Seen.{total_small}
use Rattle.path_trie.proofs.trie.count_ends.Goals as goal

pub overflow_add-total : goal.overflow_add-total
overflow_add-total c =
    let none : PathEnd = record { node = 0; column = 0; count = 0 } in
    let small = total_small c.args.ends.now c.args.node c.args.column c.loop-end.end-index c.loop-end.total none c.loop-end-test.true c.loop-end.invariant c.requires in
    let is = c.from-total.ensures in
    omega (arith, small, is)
