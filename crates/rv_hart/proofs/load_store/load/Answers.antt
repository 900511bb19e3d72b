use Rattle.std.proofs.Common.{ℕ, Option, sym, ap, ◌∙◌}
use Rattle.scope_types.specs.declared.event.Event.TheVariants.{Loads}
use Rattle.rv_hart.specs.Step.{state, loads}
use Rattle.rv_hart.specs.private.Indexing.{word_address}
use Rattle.rv_hart.proofs.Spending.{counted-one}
use Rattle.rv_hart.proofs.load_store.load.Goals as goal

pub returns-clause-ends : goal.returns-clause-ends
returns-clause-ends g c base m =
    c.write_back.ensures.ends base m ∙ ap (λ (n : Option ℕ). loads c.args.inst.now n (state (word_address base c.args.index.now) c.args.hart.now.regs m)) (sym c.in-Some.is)

pub returns-clause-goes : goal.returns-clause-goes
returns-clause-goes g c = c.write_back.ensures.goes

pub returns-clause-counts : goal.returns-clause-counts
returns-clause-counts g c = counted-one g.C.Counter.counts (g.C.Counter.left c.args.counter.now) (g.C.Counter.left c.count.new.self) Loads c.write_back.ensures.retires c.count.ensures
