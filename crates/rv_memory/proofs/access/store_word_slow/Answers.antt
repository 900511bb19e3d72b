use Rattle.std.proofs.Common.{◌≡◌, List, ℕ, Bool, true, length, take, IfOk, OnErr, ap, subst, ◌∙◌}
use Rattle.prof_bytes.specs.Number.{number_bytes}
use Rattle.elf_image.specs.declared.elf.TheConstants.{PF_W}
use Rattle.rv_memory.specs.AddressSpace.{AddressSpace, may_all, stored}
use Rattle.rv_memory.specs.private.Paging.{memory_of}
use Rattle.rv_memory.proofs.Bytes.{lowest}
use Rattle.rv_memory.proofs.access.store_word_slow.Goals as goal

pub returns-clause-ok : goal.returns-clause-ok
returns-clause-ok c =
    let same : c.lowest_bytes.result.now ≡ number_bytes c.args.size c.args.word =
    c.lowest_bytes.ensures ∙ ap (take c.args.size) c.to_le_bytes-bytes.ensures ∙ lowest c.args.size c.args.word c.requires.size in
    subst (λ (bytes : List ℕ). IfOk c.store_slow.result (λ answer. ◌≡◌ {A = Bool × AddressSpace} (answer, memory_of c.store_slow.new.paged) (stored (memory_of c.args.paged.now) c.args.at bytes))) same
    c.store_slow.ensures.ok

pub returns-clause-writable : goal.returns-clause-writable
returns-clause-writable c =
    let same : c.lowest_bytes.result.now ≡ number_bytes c.args.size c.args.word =
    c.lowest_bytes.ensures ∙ ap (take c.args.size) c.to_le_bytes-bytes.ensures ∙ lowest c.args.size c.args.word c.requires.size in
    subst (λ (bytes : List ℕ). OnErr c.store_slow.result (may_all PF_W (memory_of c.args.paged.now) c.args.at (length bytes) ≡ true)) same
    c.store_slow.ensures.writable
