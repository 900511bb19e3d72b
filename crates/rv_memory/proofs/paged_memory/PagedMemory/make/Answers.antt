use Rattle.std.proofs.Common.{List, ℕ, length, get_or, refl, ap, ◌∙◌, ◌/◌, ◌^◌}
use Rattle.rv_memory.proofs.Put.{make-value}
use Rattle.rv_memory.proofs.paged_memory.PagedMemory.make.Goals as goal

pub returns-clause-values : goal.returns-clause-values
returns-clause-values c =
    make-value c.args.self.now (record { file = c.args.self.now.file; regions = c.args.self.now.regions; pages = c.make.new.self }) (c.args.at / 2 ^ 12) (record { region = c.unwrap_or-region.result; bytes = c.as_slice.result.now })
    (λ _. refl) c.in_ok-make.ensures.ok
    (ap length c.as_slice.ensures.value ∙ c.in_ok-bytes.ensures.long)
    (λ i few. ap (λ (b : List ℕ). get_or b i 0) c.as_slice.ensures.value ∙ c.in_ok-bytes.ensures.bytes i few)
