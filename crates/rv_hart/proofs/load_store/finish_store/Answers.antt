use Rattle.std.proofs.Common.{Bool, sym, ap, ◌∙◌}
use Rattle.prof_bytes.specs.Number.{number_bytes}
use Rattle.rv_memory.specs.AddressSpace.{AddressSpace}
use Rattle.rv_hart.specs.private.Indexing.{word_address}
use Rattle.rv_hart.specs.Step.{state}
use Rattle.scope_types.specs.declared.event.Event.TheVariants.{Stores}
use Rattle.rv_hart.proofs.Spending.{counted-one}
use Rattle.rv_hart.proofs.Stores.{put-yes}
use Rattle.rv_hart.proofs.load_store.finish_store.Goals as goal

pub returns-in-Ok-true-clause-ok : goal.returns-in-Ok-true-clause-ok
returns-in-Ok-true-clause-ok g c base registers =
    c.to_next.ensures.ends base registers c.store_word.new.self
    ∙ put-yes (state (word_address base c.args.index.now) registers c.args.memory.now) c.store_word.new.self c.args.at (number_bytes c.args.size c.args.word)
    (ap (λ (b : Bool). let q : Bool × AddressSpace = (b, c.store_word.new.self) in q) (sym c.in-Ok-true.field-0-test) ∙ c.in-Ok-true.ensures.ok)

pub returns-in-Ok-true-clause-counts : goal.returns-in-Ok-true-clause-counts
returns-in-Ok-true-clause-counts g c = counted-one g.C.Counter.counts (g.C.Counter.left c.args.counter.now) (g.C.Counter.left c.count.new.self) Stores c.to_next.ensures.retires c.count.ensures
