use Rattle.std.proofs.Common.{ℕ, Some, sym, ap, ◌∙◌}
use Rattle.rv_memory.proofs.Whole.{fetched-paged}
use Rattle.rv_memory.proofs.access.fetch.Goals as goal

pub returns : goal.returns
returns c =
    ap (λ (n : ℕ). Some n) c.number.ensures.value
    ∙ sym
    (fetched-paged c.args.paged.now c.args.region.now c.args.pc c.requires.paged c.requires.region c.requires.found c.requires.aligned c.ranges.pc.fits
    (sym c.grants.ensures ∙ c.if-not-grants.false) (sym c.covers.ensures ∙ c.if-not-covers.false))
