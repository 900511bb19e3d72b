use Rattle.std.proofs.Common.{◌≡◌, ℕ, ◌++◌, map, List, ap, ap₂, ◌∙◌}
use Rattle.std.specs.List.{range_with_len}
use Rattle.elf_image.specs.declared.part.Segment.{Segment}
use Rattle.rv_memory.specs.AddressSpace.{AddressSpace, each_address, first_byte, regions_of, stack_of, IsRegionOf}
use Rattle.rv_memory.specs.declared.paged_memory.PagedMemory.{PagedMemory}
use Rattle.rv_memory.specs.private.Pages.{no_region, PageStore, stored_page}
use Rattle.rv_memory.specs.private.Paging.{IsPaged, memory_of}
use Rattle.rv_memory.proofs.Regions.{of-paged}
use Rattle.rv_memory.proofs.program_memory.ProgramMemory.of.Goals as goal

pub invariant_of-result : goal.invariant_of-result
invariant_of-result c =
    let paged : PagedMemory = record { file = c.bytes.result; regions = c.in_ok-of.field-0; pages = c.new.result } in
    let both : IsPaged paged × IsRegionOf paged.regions no_region =
    of-paged paged c.args.image.now c.args.harts c.segments.ensures.loaded c.requires
    (c.in_ok-of.ensures ∙ c.in_ok-listed.ensures ∙ ap (λ (s : List Segment). s ++ map stack_of (range_with_len 0 c.args.harts)) c.segments.ensures.value)
    c.new.ensures in
    record { paged = both.0; own = both.1 }

pub returns : goal.returns
unfolding stored_page
returns c =
    let regions : c.in_ok-of.field-0 ≡ regions_of c.args.image.now c.args.harts =
    c.in_ok-of.ensures ∙ c.in_ok-listed.ensures ∙ ap (λ (s : List Segment). s ++ map stack_of (range_with_len 0 c.args.harts)) c.segments.ensures.value in
    ap (λ (store : PageStore). memory_of (record { file = c.bytes.result; regions = c.in_ok-of.field-0; pages = store })) c.new.ensures
    ∙ ap₂ (λ (file : List ℕ) (all : List Segment). let m : AddressSpace = record { regions = all; bytes = each_address (first_byte file all) } in m) c.bytes.ensures regions
