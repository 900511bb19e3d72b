use Rattle.std.proofs.Common.{◌≡◌, ◌==◌, true, ℕ, ◌%◌, [], length, take, drop, sym, ap, ◌∙◌, arith}
use Rattle.std.proofs.lemmas.List.{nil_from_length}
use Rattle.std.proofs.lemmas.Bool.{eqb-true}
use Rattle.rv_memory.proofs.Contiguous.{in_page-page, in_page-none, in_page-intact}
use Rattle.rv_memory.proofs.paged_memory.PagedMemory.contiguous.Goals as goal

pub returns-then-is_empty : goal.returns-then-is_empty
returns-then-is_empty c =
    let empty : true ≡ (length c.page_bytes-bytes.result.now == 0) = c.if-is_empty.ensures in
    let none : [] ≡ c.page_bytes-bytes.result.now =
    sym (nil_from_length c.page_bytes-bytes.result.now (eqb-true (length c.page_bytes-bytes.result.now) 0 (sym empty))) in
    in_page-none c.args.self.now c.args.region.now c.args.at c.args.count (none ∙ c.page_bytes-bytes.ensures) (omega arith)
    c.requires.region c.requires.covered c.contiguous_in_file-then-is_empty.result c.contiguous_in_file-then-is_empty.ensures.length c.contiguous_in_file-then-is_empty.ensures.bytes

pub returns : goal.returns
returns c =
    ap (λ (n : ℕ). take n (drop (c.args.at % 4096) c.page_bytes-bytes.result.now)) (omega arith)
    ∙ in_page-page c.args.self.now c.args.at c.args.count c.page_bytes-bytes.result.now c.page_bytes-bytes.ensures (omega arith) (omega arith)

pub returns-then-not-grants : goal.returns-then-not-grants
returns-then-not-grants c =
    in_page-intact c.args.self.now c.args.region.now c.args.at c.args.count c.requires.paged c.requires.region c.requires.covered
    (sym c.grants.ensures ∙ c.if-not-grants.true) c.contiguous_in_file.result c.contiguous_in_file.ensures.length c.contiguous_in_file.ensures.bytes
