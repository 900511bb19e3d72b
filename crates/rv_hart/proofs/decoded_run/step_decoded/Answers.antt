use Rattle.std.proofs.Common.{◌≡◌, ◌≢◌, ℕ, length, sym, ap, subst, ◌∙◌}
use Rattle.rv_table.specs.declared.inst.Inst.{Inst}
use Rattle.rv_table.specs.declared.inst.Op.TheVariants as ops
use Rattle.rv_hart.specs.Running.{Ran}
use Rattle.rv_hart.specs.Step.{State, state}
use Rattle.rv_hart.specs.Stepping.{state_of}
use Rattle.rv_hart.specs.private.Decoding.{IsWordAt}
use Rattle.rv_hart.specs.private.Indexing.{state_at}
use Rattle.rv_hart.proofs.Continuing.{one-ran, one-same}
use Rattle.rv_hart.proofs.Decoded.{word-here}
use Rattle.rv_hart.proofs.decoded_run.step_decoded.Goals as goal

pub carry_out-last-requires-clause-registers : goal.carry_out-last-requires-clause-registers
carry_out-last-requires-clause-registers c =
    (word-here c.args.memory.now c.args.base c.args.items.now c.args.first c.word_at-inst.result.now c.requires.first.0 c.word_at-inst.ensures).registers

module _ (c : goal.After-ended_retired) where
  abbrev from : State
  from = state_at c.args.base c.args.first c.args.hart.now c.args.memory.now

  abbrev to : State
  to = state_at c.args.base c.carry_out-last.new.index c.carry_out-last.new.hart c.carry_out-last.new.memory

  abbrev after : State
  after = state c.pc_of-hart.result c.carry_out-last.new.hart.regs c.carry_out-last.new.memory

  from-is : from ≡ state_of c.args.hart.now c.args.memory.now
  from-is = ap (λ (pc : ℕ). state pc c.args.hart.now.regs c.args.memory.now) c.requires.pc

  after-is : after ≡ to
  after-is = ap (λ (pc : ℕ). state pc c.carry_out-last.new.hart.regs c.carry_out-last.new.memory) c.pc_of-hart.ensures

  at : IsWordAt c.args.memory.now c.args.base c.args.items.now c.args.first c.word_at-inst.result.now
  at = word-here c.args.memory.now c.args.base c.args.items.now c.args.first c.word_at-inst.result.now c.requires.first.0 c.word_at-inst.ensures

  other : c.word_at-inst.result.now.op ≢ ops.Illegal
  other = subst (λ (i : Inst). i.op ≢ ops.Illegal) (sym (c.word_at-inst.ensures c.word_at-inst.result.now)) (c.requires.first.1 c.word_at-inst.result.now)

pub returns-clause-ran : goal.returns-clause-ran
returns-clause-ran c is =
    subst (λ (s : State). Ran 1 s (after c)) (from-is c)
    (subst (Ran 1 (from c)) (sym (after-is c)) (one-ran (from c) (to c) c.word_at-inst.result.now c.carry_out-last.result (sym c.ended_retired.ensures ∙ is) c.carry_out-last.ensures.ok ((at c).word (other c))))

pub returns-clause-same : goal.returns-clause-same
returns-clause-same c is =
    after-is c
    ∙ one-same (from c) (to c) c.word_at-inst.result.now (length c.args.items.now) c.args.first c.carry_out-last.new.index c.carry_out-last.result (sym c.ended_retired.ensures ∙ is) c.carry_out-last.ensures.ok c.carry_out-last.ensures.goes c.carry_out-last.ensures.err (other c)
    ((at c).word (other c))
    ∙ from-is c
