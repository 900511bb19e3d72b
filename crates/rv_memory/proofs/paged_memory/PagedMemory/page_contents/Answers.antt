use Rattle.std.proofs.Common.{◌≡◌, ◌==◌, ◌*◌, true, [], length, sym, ◌∙◌, arith}
use Rattle.std.proofs.lemmas.Bool.{eqb-true}
use Rattle.std.proofs.lemmas.List.{nil_from_length}
use Rattle.rv_memory.proofs.Contiguous.{value-first}
use Rattle.rv_memory.proofs.paged_memory.PagedMemory.page_contents.Goals as goal

pub returns-then-is_empty-clause-bytes : goal.returns-then-is_empty-clause-bytes
returns-then-is_empty-clause-bytes c i few =
    let empty : true ≡ (length c.page_bytes.result.now == 0) = c.if-is_empty.ensures in
    let none : [] ≡ c.page_bytes.result.now = sym (nil_from_length c.page_bytes.result.now (eqb-true (length c.page_bytes.result.now) 0 (sym empty))) in
    c.in_ok-bytes.ensures.bytes i few
    ∙ sym
    (value-first c.args.self.now c.args.region.now (c.args.number * 4096) 4096 i (none ∙ c.page_bytes.ensures) (omega arith) c.requires.region
    (sym c.covers.ensures ∙ c.if-covers.true) few)
