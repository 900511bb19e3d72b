use Rattle.std.proofs.Common.{◌≡◌, Bool, false, sym, ap, ap₂, ◌∙◌, ℕ}
use Rattle.rv_hart.specs.private.Indexing.{state_at}
use Rattle.rv_hart.specs.Step.{branches, branch_test, is_taken}
use Rattle.rv_hart.proofs.execute.branch.Goals as goal

pub returns-then-not-is_taken-clause-ends : goal.returns-then-not-is_taken-clause-ends
returns-then-not-is_taken-clause-ends g c m =
    let no : branch_test c.args.op c.args.inst.now (state_at c.args.base c.args.index.now c.args.hart.now m) ≡ false =
    ap₂ (λ (a b : ℕ). is_taken c.args.op a b) (sym c.read.ensures) (sym c.read-2.ensures) ∙ sym c.is_taken.ensures ∙ c.if-not-is_taken.true in
    c.to_next.ensures.ends c.args.base c.args.hart.now.regs m ∙ ap (λ (taken : Bool). branches c.args.inst.now taken (state_at c.args.base c.args.index.now c.args.hart.now m)) (sym no)

pub returns-then-not-is_taken-clause-goes : goal.returns-then-not-is_taken-clause-goes
returns-then-not-is_taken-clause-goes g c = c.to_next.ensures.goes c.args.count
