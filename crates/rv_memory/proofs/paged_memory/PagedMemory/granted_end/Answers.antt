use Rattle.std.proofs.Common.{rules, ◌≡◌, sym, ◌∙◌, arith}
use Rattle.rv_memory.specs.private.Paging.{bit_of}
use Rattle.rv_memory.proofs.Contiguous.{granted-up}
use Rattle.rv_memory.proofs.paged_memory.PagedMemory.granted_end.Goals as goal

pub returns-then-grants-clause-granted : goal.returns-then-grants-clause-granted
returns-then-grants-clause-granted c a low high =
    let same : c.in_ok-at.at ≡ c.args.at = search rules in
    granted-up c.args.self.now.regions c.in_ok-region.region (bit_of c.args.right) c.in_ok-at.at a
    (c.requires.apart c.in_ok-at.at c.in_ok-region.region (sym c.in_ok-region.ensures.found)) (sym c.grants.ensures ∙ c.if-grants.true) c.in_ok-region.ensures.within.0 (omega (arith, same, low)) high
