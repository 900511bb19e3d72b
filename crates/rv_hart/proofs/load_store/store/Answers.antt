use Rattle.std.proofs.Common.{ℕ, ap}
use Rattle.prof_bytes.specs.Number.{number_bytes}
use Rattle.prof_bytes.specs.Number.{word_sum}
use Rattle.rv_hart.specs.private.Indexing.{word_address}
use Rattle.rv_hart.specs.Step.{state}
use Rattle.rv_hart.proofs.Stores.{store-ok, store-why}
use Rattle.rv_hart.proofs.load_store.store.Goals as goal

pub returns-clause-ok : goal.returns-clause-ok
returns-clause-ok g c base =
    store-ok (state (word_address base c.args.index.now) c.args.hart.now.regs c.args.memory.now) (state (word_address base c.finish_store.new.index) c.args.hart.now.regs c.finish_store.new.memory) c.args.inst.now c.args.size (word_sum c.read.result c.args.inst.now.imm) (number_bytes c.args.size c.read-2.result) c.finish_store.result
    (ap (λ (n : ℕ). word_sum n c.args.inst.now.imm) c.read.ensures)
    (ap (number_bytes c.args.size) c.read-2.ensures)
    (c.finish_store.ensures.ok base c.args.hart.now.regs)

pub returns-clause-why : goal.returns-clause-why
returns-clause-why g c base =
    store-why (g.C.Counter.left c.args.counter.now) (state (word_address base c.args.index.now) c.args.hart.now.regs c.args.memory.now) c.args.inst.now c.args.size (word_sum c.read.result c.args.inst.now.imm) (number_bytes c.args.size c.read-2.result) c.finish_store.result
    (ap (λ (n : ℕ). word_sum n c.args.inst.now.imm) c.read.ensures)
    (ap (number_bytes c.args.size) c.read-2.ensures)
    (c.finish_store.ensures.why (state (word_address base c.args.index.now) c.args.hart.now.regs c.args.memory.now))
