use Rattle.std.proofs.Common.{subst}
use Rattle.std.specs.List.Sorted.{IsStrictlyIncreasing}
use Rattle.thread_cct.proofs.DistinctDigests.{apart}
use Rattle.thread_cct.proofs.path_list.digests_differ.Goals as goal

pub returns : goal.returns
returns c told =
    apart c.args.pcs.now c.args.paths.now c.in_ok-digests.digests.items c.sort_unstable.new.self.items c.in_ok-digests.ensures c.sort_unstable.ensures.permutation
    (subst IsStrictlyIncreasing c.as_slice.ensures.value (c.ascend.ensures.all told))
