use Rattle.std.proofs.Common.{◌+◌, sym, ap, ◌∙◌}
use Rattle.std.proofs.Common.{length}
use Rattle.elf_image.specs.declared.elf.TheConstants.{PF_W}
use Rattle.rv_memory.specs.AddressSpace.{may}
use Rattle.rv_memory.specs.declared.paged_memory.PagedMemory.{PagedMemory}
use Rattle.rv_memory.proofs.Contiguous.{all-each}
use Rattle.rv_memory.proofs.Whole.{granted-whole, stored-paged, after-same, regions-same}
use Rattle.rv_memory.proofs.access.store_bytewise.Goals as goal

pub make_all-requires-clause-low : goal.make_all-requires-clause-low
make_all-requires-clause-low c =
    granted-whole c.args.paged.now PF_W c.args.at (length c.args.bytes.now) c.requires (sym c.all_granted.ensures ∙ c.if-not-all_granted.false) c.ranges.at.fits

pub put_all-requires-clause-low : goal.put_all-requires-clause-low
put_all-requires-clause-low c =
    granted-whole c.args.paged.now PF_W c.args.at (length c.args.bytes.now) c.requires (sym c.all_granted.ensures ∙ c.if-not-all_granted.false) c.ranges.at.fits

pub returns-clause-ok : goal.returns-clause-ok
returns-clause-ok c =
    stored-paged c.args.paged.now c.put_all.new.self c.args.at c.args.bytes.now
    (regions-same c.args.paged.now c.make_all.new.self c.in_ok-make_all.ensures.rest ∙ regions-same c.make_all.new.self c.put_all.new.self c.put_all.ensures.rest)
    (sym c.all_granted.ensures ∙ c.if-not-all_granted.false)
    (λ a. c.put_all.ensures.values a ∙ after-same c.args.paged.now c.make_all.new.self c.args.at c.args.bytes.now c.in_ok-make_all.ensures.values a)

pub put_all-requires-clause-granted : goal.put_all-requires-clause-granted
put_all-requires-clause-granted c i few =
    ap (λ (k : PagedMemory). may PF_W k.regions (c.args.at + i)) c.in_ok-make_all.ensures.rest
    ∙ all-each (may PF_W c.args.paged.now.regions) c.args.at (length c.args.bytes.now) i (sym c.all_granted.ensures ∙ c.if-not-all_granted.false) few
