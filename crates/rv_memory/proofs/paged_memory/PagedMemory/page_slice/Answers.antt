use Rattle.std.proofs.Common.{◌/◌, ◌*◌, ◌^◌, List, ℕ, ap₂, refl}
use Rattle.elf_image.specs.declared.part.Segment.{Segment}
use Rattle.scope_types.specs.Memory.{word_in}
use Rattle.rv_memory.specs.private.Pages.{Paged}
use Rattle.rv_memory.proofs.Lending.{words-loaded}
use Rattle.rv_memory.proofs.paged_memory.PagedMemory.page_slice.Goals as goal

pub returns : goal.returns
returns c at =
    let page : Segment → List ℕ → Paged = λ region bytes. record { region = region; bytes = bytes } in
    words-loaded c.args.self.now c.args.at (c.args.at / 2 ^ 12 * 2 ^ 12) at (page c.page_region.result c.page_bytes.result.now) (word_in c.lent.result at) c.requires
    (ap₂ page c.page_region.ensures c.page_bytes.ensures) refl (c.lent.ensures at)
