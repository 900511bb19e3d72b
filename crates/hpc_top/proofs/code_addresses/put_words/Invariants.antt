use Rattle.std.proofs.Common.{◌≡◌, ◌*◌, ◌++◌, map}
use Rattle.std.specs.List.{range_with_len}
use Rattle.hpc_top.proofs.code_addresses.put_words.Given as goal

abbrev pub invariant-loop-index : goal.invariant-loop-index
invariant-loop-index l =
    l.addresses.items ≡ l.fn.addresses.items ++ map (λ word. 4 * word) (range_with_len l.words.0 l.index)
