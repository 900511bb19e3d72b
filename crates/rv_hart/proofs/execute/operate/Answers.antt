use Rattle.std.proofs.Common.{ℕ, ap, ap₂, ◌∙◌}
use Rattle.rv_hart.specs.Arithmetic.{computed}
use Rattle.rv_hart.specs.Step.{computes}
use Rattle.rv_hart.specs.private.Indexing.{state_at}
use Rattle.rv_hart.proofs.execute.operate.Goals as goal

pub returns-clause-ends : goal.returns-clause-ends
returns-clause-ends c base m =
    c.write_back.ensures.ends base m
    ∙ ap (λ (n : ℕ). computes c.args.inst.now n (state_at base c.args.index.now c.args.hart.now m))
    (c.compute.ensures ∙ ap₂ (λ (x y : ℕ). computed c.args.op x y c.args.inst.now.imm) c.read-a.ensures c.read-b.ensures)

pub returns-clause-goes : goal.returns-clause-goes
returns-clause-goes c = c.write_back.ensures.goes
