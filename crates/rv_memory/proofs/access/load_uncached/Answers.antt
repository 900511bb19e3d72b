use Rattle.std.proofs.Common.{ℕ, Some, sym, ap, ◌∙◌}
use Rattle.elf_image.specs.declared.elf.TheConstants.{PF_R}
use Rattle.rv_memory.proofs.Contiguous.{all-granted}
use Rattle.rv_memory.proofs.Whole.{loaded-paged}
use Rattle.rv_memory.proofs.access.load_uncached.Goals as goal

pub returns-then-grants-clause-number : goal.returns-then-grants-clause-number
returns-then-grants-clause-number c =
    ap (λ (n : ℕ). Some n) c.number.ensures.value
    ∙ sym
    (loaded-paged c.args.paged.now c.args.at c.args.count c.requires.paged
    (all-granted c.args.paged.now.regions c.region_holding-region.result PF_R c.args.at c.args.count c.region_holding-region.ensures (sym c.covers.ensures ∙ c.if-covers.true) (sym c.grants.ensures ∙ c.if-grants.true)))
