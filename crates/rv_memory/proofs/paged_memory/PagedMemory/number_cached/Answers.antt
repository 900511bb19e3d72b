use Rattle.std.proofs.Common.{refl}
use Rattle.elf_image.specs.declared.elf.TheConstants.{PF_R}
use Rattle.rv_memory.specs.private.Pages.{Paged}
use Rattle.rv_memory.specs.private.Paging.{page_of}
use Rattle.rv_memory.specs.private.PageCache.{AreInPage}
use Rattle.rv_memory.proofs.Contiguous.{in_page-covered}
use Rattle.rv_memory.proofs.Whole.{page-loaded}
use Rattle.rv_memory.proofs.paged_memory.PagedMemory.number_cached.Goals as goal

pub returns-clause-number : goal.returns-clause-number
returns-clause-number c =
    let page : Paged = page_of c.args.self.now c.args.at in
    let are : AreInPage page PF_R c.args.at c.args.count c.in_ok-bytes.bytes.now = c.in_ok-bytes.ensures in
    page-loaded c.args.self.now c.args.at c.args.count c.number.result page c.in_ok-bytes.bytes.now c.requires.paged refl
    (in_page-covered page PF_R c.args.at c.args.count are.in_page) are.in_page.granted are.in_page.within are.are c.number.ensures.value
