use Rattle.std.proofs.Common.{ℕ, Some, option_map, refl, sym, ap, ◌∙◌}
use Rattle.scope_types.specs.declared.event.Event.TheVariants.{Loads, Stores}
use Rattle.rv_table.specs.Fields.{sign_extended}
use Rattle.rv_table.specs.declared.inst.Op.{Op}
use Rattle.prof_bytes.specs.Number.{word_sum}
use Rattle.rv_hart.specs.private.Indexing.{word_address, state_at}
use Rattle.rv_hart.specs.Step.{state, computes, executed, branch_test}
use Rattle.rv_hart.specs.private.Counting.{event_by_taken}
use Rattle.rv_table.specs.declared.inst.Op.TheVariants as ops
use Rattle.rv_hart.proofs.Continuing.{going, going-not, going-some, going-store}
use Rattle.rv_hart.proofs.Spending.{none-counted, some-counted, some-full}
use Rattle.rv_hart.proofs.Loads.{load-ok}
use Rattle.rv_hart.proofs.Stores.{store-halts}
use Rattle.rv_hart.specs.declared.execute.Continuation.TheVariants as continuation
use Rattle.rv_hart.specs.declared.outcome.Stepped.TheVariants as stepped
use Rattle.rv_hart.proofs.execute.carry_out.Goals as goal

pub returns-in-Lui-clause-ok : goal.returns-in-Lui-clause-ok
returns-in-Lui-clause-ok g c =
    c.write_back.ensures.ends c.args.base c.args.memory.now ∙ ap (λ (op : Op). executed op c.args.inst.now (state (word_address c.args.base c.args.index.now) c.args.hart.now.regs c.args.memory.now)) (sym c.in-Lui.is)

pub returns-in-Auipc-clause-ok : goal.returns-in-Auipc-clause-ok
returns-in-Auipc-clause-ok g c =
    c.write_back-in-Auipc.ensures.ends c.args.base c.args.memory.now
    ∙ ap (λ (pc : ℕ). computes c.args.inst.now (word_sum pc c.args.inst.now.imm) (state (word_address c.args.base c.args.index.now) c.args.hart.now.regs c.args.memory.now)) c.pc_of.ensures
    ∙ ap (λ (op : Op). executed op c.args.inst.now (state (word_address c.args.base c.args.index.now) c.args.hart.now.regs c.args.memory.now)) (sym c.in-Auipc.is)

pub returns-in-Fence-clause-ok : goal.returns-in-Fence-clause-ok
returns-in-Fence-clause-ok g c =
    c.to_next.ensures.ends c.args.base c.args.hart.now.regs c.args.memory.now ∙ ap (λ (op : Op). executed op c.args.inst.now (state (word_address c.args.base c.args.index.now) c.args.hart.now.regs c.args.memory.now)) (sym c.in-Fence.is)

pub returns-in-Addi-clause-ok : goal.returns-in-Addi-clause-ok
returns-in-Addi-clause-ok g c =
    c.operate.ensures.ends c.args.base c.args.memory.now ∙ ap (λ (op : Op). executed op c.args.inst.now (state (word_address c.args.base c.args.index.now) c.args.hart.now.regs c.args.memory.now)) (sym c.in-Addi.is)

pub returns-in-Slti-clause-ok : goal.returns-in-Slti-clause-ok
returns-in-Slti-clause-ok g c =
    c.operate-in-Slti.ensures.ends c.args.base c.args.memory.now ∙ ap (λ (op : Op). executed op c.args.inst.now (state (word_address c.args.base c.args.index.now) c.args.hart.now.regs c.args.memory.now)) (sym c.in-Slti.is)

pub returns-in-Sltiu-clause-ok : goal.returns-in-Sltiu-clause-ok
returns-in-Sltiu-clause-ok g c =
    c.operate-in-Sltiu.ensures.ends c.args.base c.args.memory.now ∙ ap (λ (op : Op). executed op c.args.inst.now (state (word_address c.args.base c.args.index.now) c.args.hart.now.regs c.args.memory.now)) (sym c.in-Sltiu.is)

pub returns-in-Xori-clause-ok : goal.returns-in-Xori-clause-ok
returns-in-Xori-clause-ok g c =
    c.operate-in-Xori.ensures.ends c.args.base c.args.memory.now ∙ ap (λ (op : Op). executed op c.args.inst.now (state (word_address c.args.base c.args.index.now) c.args.hart.now.regs c.args.memory.now)) (sym c.in-Xori.is)

pub returns-in-Ori-clause-ok : goal.returns-in-Ori-clause-ok
returns-in-Ori-clause-ok g c =
    c.operate-in-Ori.ensures.ends c.args.base c.args.memory.now ∙ ap (λ (op : Op). executed op c.args.inst.now (state (word_address c.args.base c.args.index.now) c.args.hart.now.regs c.args.memory.now)) (sym c.in-Ori.is)

pub returns-in-Andi-clause-ok : goal.returns-in-Andi-clause-ok
returns-in-Andi-clause-ok g c =
    c.operate-in-Andi.ensures.ends c.args.base c.args.memory.now ∙ ap (λ (op : Op). executed op c.args.inst.now (state (word_address c.args.base c.args.index.now) c.args.hart.now.regs c.args.memory.now)) (sym c.in-Andi.is)

pub returns-in-Slli-clause-ok : goal.returns-in-Slli-clause-ok
returns-in-Slli-clause-ok g c =
    c.operate-in-Slli.ensures.ends c.args.base c.args.memory.now ∙ ap (λ (op : Op). executed op c.args.inst.now (state (word_address c.args.base c.args.index.now) c.args.hart.now.regs c.args.memory.now)) (sym c.in-Slli.is)

pub returns-in-Srli-clause-ok : goal.returns-in-Srli-clause-ok
returns-in-Srli-clause-ok g c =
    c.operate-in-Srli.ensures.ends c.args.base c.args.memory.now ∙ ap (λ (op : Op). executed op c.args.inst.now (state (word_address c.args.base c.args.index.now) c.args.hart.now.regs c.args.memory.now)) (sym c.in-Srli.is)

pub returns-in-Srai-clause-ok : goal.returns-in-Srai-clause-ok
returns-in-Srai-clause-ok g c =
    c.operate-in-Srai.ensures.ends c.args.base c.args.memory.now ∙ ap (λ (op : Op). executed op c.args.inst.now (state (word_address c.args.base c.args.index.now) c.args.hart.now.regs c.args.memory.now)) (sym c.in-Srai.is)

pub returns-in-Add-clause-ok : goal.returns-in-Add-clause-ok
returns-in-Add-clause-ok g c =
    c.operate-in-Add.ensures.ends c.args.base c.args.memory.now ∙ ap (λ (op : Op). executed op c.args.inst.now (state (word_address c.args.base c.args.index.now) c.args.hart.now.regs c.args.memory.now)) (sym c.in-Add.is)

pub returns-in-Sub-clause-ok : goal.returns-in-Sub-clause-ok
returns-in-Sub-clause-ok g c =
    c.operate-in-Sub.ensures.ends c.args.base c.args.memory.now ∙ ap (λ (op : Op). executed op c.args.inst.now (state (word_address c.args.base c.args.index.now) c.args.hart.now.regs c.args.memory.now)) (sym c.in-Sub.is)

pub returns-in-Sll-clause-ok : goal.returns-in-Sll-clause-ok
returns-in-Sll-clause-ok g c =
    c.operate-in-Sll.ensures.ends c.args.base c.args.memory.now ∙ ap (λ (op : Op). executed op c.args.inst.now (state (word_address c.args.base c.args.index.now) c.args.hart.now.regs c.args.memory.now)) (sym c.in-Sll.is)

pub returns-in-Slt-clause-ok : goal.returns-in-Slt-clause-ok
returns-in-Slt-clause-ok g c =
    c.operate-in-Slt.ensures.ends c.args.base c.args.memory.now ∙ ap (λ (op : Op). executed op c.args.inst.now (state (word_address c.args.base c.args.index.now) c.args.hart.now.regs c.args.memory.now)) (sym c.in-Slt.is)

pub returns-in-Sltu-clause-ok : goal.returns-in-Sltu-clause-ok
returns-in-Sltu-clause-ok g c =
    c.operate-in-Sltu.ensures.ends c.args.base c.args.memory.now ∙ ap (λ (op : Op). executed op c.args.inst.now (state (word_address c.args.base c.args.index.now) c.args.hart.now.regs c.args.memory.now)) (sym c.in-Sltu.is)

pub returns-in-Xor-clause-ok : goal.returns-in-Xor-clause-ok
returns-in-Xor-clause-ok g c =
    c.operate-in-Xor.ensures.ends c.args.base c.args.memory.now ∙ ap (λ (op : Op). executed op c.args.inst.now (state (word_address c.args.base c.args.index.now) c.args.hart.now.regs c.args.memory.now)) (sym c.in-Xor.is)

pub returns-in-Srl-clause-ok : goal.returns-in-Srl-clause-ok
returns-in-Srl-clause-ok g c =
    c.operate-in-Srl.ensures.ends c.args.base c.args.memory.now ∙ ap (λ (op : Op). executed op c.args.inst.now (state (word_address c.args.base c.args.index.now) c.args.hart.now.regs c.args.memory.now)) (sym c.in-Srl.is)

pub returns-in-Sra-clause-ok : goal.returns-in-Sra-clause-ok
returns-in-Sra-clause-ok g c =
    c.operate-in-Sra.ensures.ends c.args.base c.args.memory.now ∙ ap (λ (op : Op). executed op c.args.inst.now (state (word_address c.args.base c.args.index.now) c.args.hart.now.regs c.args.memory.now)) (sym c.in-Sra.is)

pub returns-in-Or-clause-ok : goal.returns-in-Or-clause-ok
returns-in-Or-clause-ok g c =
    c.operate-in-Or.ensures.ends c.args.base c.args.memory.now ∙ ap (λ (op : Op). executed op c.args.inst.now (state (word_address c.args.base c.args.index.now) c.args.hart.now.regs c.args.memory.now)) (sym c.in-Or.is)

pub returns-in-And-clause-ok : goal.returns-in-And-clause-ok
returns-in-And-clause-ok g c =
    c.operate-in-And.ensures.ends c.args.base c.args.memory.now ∙ ap (λ (op : Op). executed op c.args.inst.now (state (word_address c.args.base c.args.index.now) c.args.hart.now.regs c.args.memory.now)) (sym c.in-And.is)

pub returns-in-Mul-clause-ok : goal.returns-in-Mul-clause-ok
returns-in-Mul-clause-ok g c =
    c.operate-in-Mul.ensures.ends c.args.base c.args.memory.now ∙ ap (λ (op : Op). executed op c.args.inst.now (state (word_address c.args.base c.args.index.now) c.args.hart.now.regs c.args.memory.now)) (sym c.in-Mul.is)

pub returns-in-Mulh-clause-ok : goal.returns-in-Mulh-clause-ok
returns-in-Mulh-clause-ok g c =
    c.operate-in-Mulh.ensures.ends c.args.base c.args.memory.now ∙ ap (λ (op : Op). executed op c.args.inst.now (state (word_address c.args.base c.args.index.now) c.args.hart.now.regs c.args.memory.now)) (sym c.in-Mulh.is)

pub returns-in-Mulhsu-clause-ok : goal.returns-in-Mulhsu-clause-ok
returns-in-Mulhsu-clause-ok g c =
    c.operate-in-Mulhsu.ensures.ends c.args.base c.args.memory.now ∙ ap (λ (op : Op). executed op c.args.inst.now (state (word_address c.args.base c.args.index.now) c.args.hart.now.regs c.args.memory.now)) (sym c.in-Mulhsu.is)

pub returns-in-Mulhu-clause-ok : goal.returns-in-Mulhu-clause-ok
returns-in-Mulhu-clause-ok g c =
    c.operate-in-Mulhu.ensures.ends c.args.base c.args.memory.now ∙ ap (λ (op : Op). executed op c.args.inst.now (state (word_address c.args.base c.args.index.now) c.args.hart.now.regs c.args.memory.now)) (sym c.in-Mulhu.is)

pub returns-in-Div-clause-ok : goal.returns-in-Div-clause-ok
returns-in-Div-clause-ok g c =
    c.operate-in-Div.ensures.ends c.args.base c.args.memory.now ∙ ap (λ (op : Op). executed op c.args.inst.now (state (word_address c.args.base c.args.index.now) c.args.hart.now.regs c.args.memory.now)) (sym c.in-Div.is)

pub returns-in-Divu-clause-ok : goal.returns-in-Divu-clause-ok
returns-in-Divu-clause-ok g c =
    c.operate-in-Divu.ensures.ends c.args.base c.args.memory.now ∙ ap (λ (op : Op). executed op c.args.inst.now (state (word_address c.args.base c.args.index.now) c.args.hart.now.regs c.args.memory.now)) (sym c.in-Divu.is)

pub returns-in-Rem-clause-ok : goal.returns-in-Rem-clause-ok
returns-in-Rem-clause-ok g c =
    c.operate-in-Rem.ensures.ends c.args.base c.args.memory.now ∙ ap (λ (op : Op). executed op c.args.inst.now (state (word_address c.args.base c.args.index.now) c.args.hart.now.regs c.args.memory.now)) (sym c.in-Rem.is)

pub returns-in-Remu-clause-ok : goal.returns-in-Remu-clause-ok
returns-in-Remu-clause-ok g c =
    c.operate-in-Remu.ensures.ends c.args.base c.args.memory.now ∙ ap (λ (op : Op). executed op c.args.inst.now (state (word_address c.args.base c.args.index.now) c.args.hart.now.regs c.args.memory.now)) (sym c.in-Remu.is)

pub returns-in-Lb-clause-ok : goal.returns-in-Lb-clause-ok
returns-in-Lb-clause-ok g c =
    load-ok c.args.inst.now (state_at c.args.base c.args.index.now c.args.hart.now c.args.memory.now) (state_at c.args.base c.load.new.index c.load.new.hart c.loaded.new.memory) c.loaded.new.memory _ _ c.load.result c.in-Lb.is refl c.loaded.ensures.same (c.signed_byte.ensures ∙ ap (option_map (sign_extended 8)) (c.loaded.ensures.number (word_address c.args.base c.args.index.now))) (c.load.ensures.ends c.args.base c.loaded.new.memory)

pub returns-in-Lh-clause-ok : goal.returns-in-Lh-clause-ok
returns-in-Lh-clause-ok g c =
    load-ok c.args.inst.now (state_at c.args.base c.args.index.now c.args.hart.now c.args.memory.now) (state_at c.args.base c.load-in-Lh.new.index c.load-in-Lh.new.hart c.loaded-in-Lh.new.memory) c.loaded-in-Lh.new.memory _ _ c.load-in-Lh.result c.in-Lh.is refl c.loaded-in-Lh.ensures.same (c.signed_half.ensures ∙ ap (option_map (sign_extended 16)) (c.loaded-in-Lh.ensures.number (word_address c.args.base c.args.index.now))) (c.load-in-Lh.ensures.ends c.args.base c.loaded-in-Lh.new.memory)

pub returns-in-Lw-clause-ok : goal.returns-in-Lw-clause-ok
returns-in-Lw-clause-ok g c =
    load-ok c.args.inst.now (state_at c.args.base c.args.index.now c.args.hart.now c.args.memory.now) (state_at c.args.base c.load-in-Lw.new.index c.load-in-Lw.new.hart c.loaded-in-Lw.new.memory) c.loaded-in-Lw.new.memory _ _ c.load-in-Lw.result c.in-Lw.is refl c.loaded-in-Lw.ensures.same (c.loaded-in-Lw.ensures.number (word_address c.args.base c.args.index.now)) (c.load-in-Lw.ensures.ends c.args.base c.loaded-in-Lw.new.memory)

pub returns-in-Lbu-clause-ok : goal.returns-in-Lbu-clause-ok
returns-in-Lbu-clause-ok g c =
    load-ok c.args.inst.now (state_at c.args.base c.args.index.now c.args.hart.now c.args.memory.now) (state_at c.args.base c.load-in-Lbu.new.index c.load-in-Lbu.new.hart c.loaded-in-Lbu.new.memory) c.loaded-in-Lbu.new.memory _ _ c.load-in-Lbu.result c.in-Lbu.is refl c.loaded-in-Lbu.ensures.same (c.loaded-in-Lbu.ensures.number (word_address c.args.base c.args.index.now)) (c.load-in-Lbu.ensures.ends c.args.base c.loaded-in-Lbu.new.memory)

pub returns-in-Lhu-clause-ok : goal.returns-in-Lhu-clause-ok
returns-in-Lhu-clause-ok g c =
    load-ok c.args.inst.now (state_at c.args.base c.args.index.now c.args.hart.now c.args.memory.now) (state_at c.args.base c.load-in-Lhu.new.index c.load-in-Lhu.new.hart c.loaded-in-Lhu.new.memory) c.loaded-in-Lhu.new.memory _ _ c.load-in-Lhu.result c.in-Lhu.is refl c.loaded-in-Lhu.ensures.same (c.loaded-in-Lhu.ensures.number (word_address c.args.base c.args.index.now)) (c.load-in-Lhu.ensures.ends c.args.base c.loaded-in-Lhu.new.memory)

pub returns-in-Illegal-clause-goes : goal.returns-in-Illegal-clause-goes
returns-in-Illegal-clause-goes g c = going-not c.args.count c.args.index.now c.args.index.now c.in-Illegal.is

pub returns-in-Lui-clause-goes : goal.returns-in-Lui-clause-goes
returns-in-Lui-clause-goes g c = going c.args.count c.args.index.now c.write_back.new.index c.write_back.result c.in-Lui.is (λ e. absurd cc) (c.write_back.ensures.goes c.args.count)

pub returns-in-Auipc-clause-goes : goal.returns-in-Auipc-clause-goes
returns-in-Auipc-clause-goes g c = going c.args.count c.args.index.now c.write_back-in-Auipc.new.index c.write_back-in-Auipc.result c.in-Auipc.is (λ e. absurd cc) (c.write_back-in-Auipc.ensures.goes c.args.count)

pub returns-in-Jal-clause-goes : goal.returns-in-Jal-clause-goes
returns-in-Jal-clause-goes g c = going c.args.count c.args.index.now c.jump.new.index c.jump.result c.in-Jal.is (λ e. absurd cc) c.jump.ensures.goes

pub returns-in-Jalr-clause-goes : goal.returns-in-Jalr-clause-goes
returns-in-Jalr-clause-goes g c = going c.args.count c.args.index.now c.jump-in-Jalr.new.index c.jump-in-Jalr.result c.in-Jalr.is (λ e. absurd cc) c.jump-in-Jalr.ensures.goes

pub returns-in-Beq-clause-goes : goal.returns-in-Beq-clause-goes
returns-in-Beq-clause-goes g c = going-some c.args.count c.args.index.now c.branch-hart.new.index c.branch-hart.result c.in-Beq.is (λ e. absurd cc) c.branch-hart.ensures.goes

pub returns-in-Beq-clause-counts : goal.returns-in-Beq-clause-counts
returns-in-Beq-clause-counts g c =
    some-counted g.C.Counter.counts (g.C.Counter.left c.args.counter.now) (g.C.Counter.left c.branch-hart.new.counter) c.args.inst.now (state_at c.args.base c.args.index.now c.args.hart.now c.args.memory.now) (event_by_taken (branch_test ops.Beq c.args.inst.now (state_at c.args.base c.args.index.now c.args.hart.now c.args.memory.now))) c.branch-hart.result c.in-Beq.is refl
    (c.branch-hart.ensures.counts c.args.memory.now)

pub returns-in-Beq-clause-why : goal.returns-in-Beq-clause-why
returns-in-Beq-clause-why g c =
    some-full (g.C.Counter.left c.args.counter.now) c.args.inst.now (state_at c.args.base c.args.index.now c.args.hart.now c.args.memory.now) (event_by_taken (branch_test ops.Beq c.args.inst.now (state_at c.args.base c.args.index.now c.args.hart.now c.args.memory.now))) c.branch-hart.result c.in-Beq.is refl (c.branch-hart.ensures.full c.args.memory.now)

pub returns-in-Bne-clause-goes : goal.returns-in-Bne-clause-goes
returns-in-Bne-clause-goes g c = going-some c.args.count c.args.index.now c.branch-hart-in-Bne.new.index c.branch-hart-in-Bne.result c.in-Bne.is (λ e. absurd cc) c.branch-hart-in-Bne.ensures.goes

pub returns-in-Bne-clause-counts : goal.returns-in-Bne-clause-counts
returns-in-Bne-clause-counts g c =
    some-counted g.C.Counter.counts (g.C.Counter.left c.args.counter.now) (g.C.Counter.left c.branch-hart-in-Bne.new.counter) c.args.inst.now (state_at c.args.base c.args.index.now c.args.hart.now c.args.memory.now) (event_by_taken (branch_test ops.Bne c.args.inst.now (state_at c.args.base c.args.index.now c.args.hart.now c.args.memory.now))) c.branch-hart-in-Bne.result c.in-Bne.is refl
    (c.branch-hart-in-Bne.ensures.counts c.args.memory.now)

pub returns-in-Bne-clause-why : goal.returns-in-Bne-clause-why
returns-in-Bne-clause-why g c =
    some-full (g.C.Counter.left c.args.counter.now) c.args.inst.now (state_at c.args.base c.args.index.now c.args.hart.now c.args.memory.now) (event_by_taken (branch_test ops.Bne c.args.inst.now (state_at c.args.base c.args.index.now c.args.hart.now c.args.memory.now))) c.branch-hart-in-Bne.result c.in-Bne.is refl (c.branch-hart-in-Bne.ensures.full c.args.memory.now)

pub returns-in-Blt-clause-goes : goal.returns-in-Blt-clause-goes
returns-in-Blt-clause-goes g c = going-some c.args.count c.args.index.now c.branch-hart-in-Blt.new.index c.branch-hart-in-Blt.result c.in-Blt.is (λ e. absurd cc) c.branch-hart-in-Blt.ensures.goes

pub returns-in-Blt-clause-counts : goal.returns-in-Blt-clause-counts
returns-in-Blt-clause-counts g c =
    some-counted g.C.Counter.counts (g.C.Counter.left c.args.counter.now) (g.C.Counter.left c.branch-hart-in-Blt.new.counter) c.args.inst.now (state_at c.args.base c.args.index.now c.args.hart.now c.args.memory.now) (event_by_taken (branch_test ops.Blt c.args.inst.now (state_at c.args.base c.args.index.now c.args.hart.now c.args.memory.now))) c.branch-hart-in-Blt.result c.in-Blt.is refl
    (c.branch-hart-in-Blt.ensures.counts c.args.memory.now)

pub returns-in-Blt-clause-why : goal.returns-in-Blt-clause-why
returns-in-Blt-clause-why g c =
    some-full (g.C.Counter.left c.args.counter.now) c.args.inst.now (state_at c.args.base c.args.index.now c.args.hart.now c.args.memory.now) (event_by_taken (branch_test ops.Blt c.args.inst.now (state_at c.args.base c.args.index.now c.args.hart.now c.args.memory.now))) c.branch-hart-in-Blt.result c.in-Blt.is refl (c.branch-hart-in-Blt.ensures.full c.args.memory.now)

pub returns-in-Bge-clause-goes : goal.returns-in-Bge-clause-goes
returns-in-Bge-clause-goes g c = going-some c.args.count c.args.index.now c.branch-hart-in-Bge.new.index c.branch-hart-in-Bge.result c.in-Bge.is (λ e. absurd cc) c.branch-hart-in-Bge.ensures.goes

pub returns-in-Bge-clause-counts : goal.returns-in-Bge-clause-counts
returns-in-Bge-clause-counts g c =
    some-counted g.C.Counter.counts (g.C.Counter.left c.args.counter.now) (g.C.Counter.left c.branch-hart-in-Bge.new.counter) c.args.inst.now (state_at c.args.base c.args.index.now c.args.hart.now c.args.memory.now) (event_by_taken (branch_test ops.Bge c.args.inst.now (state_at c.args.base c.args.index.now c.args.hart.now c.args.memory.now))) c.branch-hart-in-Bge.result c.in-Bge.is refl
    (c.branch-hart-in-Bge.ensures.counts c.args.memory.now)

pub returns-in-Bge-clause-why : goal.returns-in-Bge-clause-why
returns-in-Bge-clause-why g c =
    some-full (g.C.Counter.left c.args.counter.now) c.args.inst.now (state_at c.args.base c.args.index.now c.args.hart.now c.args.memory.now) (event_by_taken (branch_test ops.Bge c.args.inst.now (state_at c.args.base c.args.index.now c.args.hart.now c.args.memory.now))) c.branch-hart-in-Bge.result c.in-Bge.is refl (c.branch-hart-in-Bge.ensures.full c.args.memory.now)

pub returns-in-Bltu-clause-goes : goal.returns-in-Bltu-clause-goes
returns-in-Bltu-clause-goes g c = going-some c.args.count c.args.index.now c.branch-hart-in-Bltu.new.index c.branch-hart-in-Bltu.result c.in-Bltu.is (λ e. absurd cc) c.branch-hart-in-Bltu.ensures.goes

pub returns-in-Bltu-clause-counts : goal.returns-in-Bltu-clause-counts
returns-in-Bltu-clause-counts g c =
    some-counted g.C.Counter.counts (g.C.Counter.left c.args.counter.now) (g.C.Counter.left c.branch-hart-in-Bltu.new.counter) c.args.inst.now (state_at c.args.base c.args.index.now c.args.hart.now c.args.memory.now) (event_by_taken (branch_test ops.Bltu c.args.inst.now (state_at c.args.base c.args.index.now c.args.hart.now c.args.memory.now))) c.branch-hart-in-Bltu.result c.in-Bltu.is refl
    (c.branch-hart-in-Bltu.ensures.counts c.args.memory.now)

pub returns-in-Bltu-clause-why : goal.returns-in-Bltu-clause-why
returns-in-Bltu-clause-why g c =
    some-full (g.C.Counter.left c.args.counter.now) c.args.inst.now (state_at c.args.base c.args.index.now c.args.hart.now c.args.memory.now) (event_by_taken (branch_test ops.Bltu c.args.inst.now (state_at c.args.base c.args.index.now c.args.hart.now c.args.memory.now))) c.branch-hart-in-Bltu.result c.in-Bltu.is refl (c.branch-hart-in-Bltu.ensures.full c.args.memory.now)

pub returns-in-Bgeu-clause-goes : goal.returns-in-Bgeu-clause-goes
returns-in-Bgeu-clause-goes g c = going-some c.args.count c.args.index.now c.branch-hart-in-Bgeu.new.index c.branch-hart-in-Bgeu.result c.in-Bgeu.is (λ e. absurd cc) c.branch-hart-in-Bgeu.ensures.goes

pub returns-in-Bgeu-clause-counts : goal.returns-in-Bgeu-clause-counts
returns-in-Bgeu-clause-counts g c =
    some-counted g.C.Counter.counts (g.C.Counter.left c.args.counter.now) (g.C.Counter.left c.branch-hart-in-Bgeu.new.counter) c.args.inst.now (state_at c.args.base c.args.index.now c.args.hart.now c.args.memory.now) (event_by_taken (branch_test ops.Bgeu c.args.inst.now (state_at c.args.base c.args.index.now c.args.hart.now c.args.memory.now))) c.branch-hart-in-Bgeu.result c.in-Bgeu.is refl
    (c.branch-hart-in-Bgeu.ensures.counts c.args.memory.now)

pub returns-in-Bgeu-clause-why : goal.returns-in-Bgeu-clause-why
returns-in-Bgeu-clause-why g c =
    some-full (g.C.Counter.left c.args.counter.now) c.args.inst.now (state_at c.args.base c.args.index.now c.args.hart.now c.args.memory.now) (event_by_taken (branch_test ops.Bgeu c.args.inst.now (state_at c.args.base c.args.index.now c.args.hart.now c.args.memory.now))) c.branch-hart-in-Bgeu.result c.in-Bgeu.is refl (c.branch-hart-in-Bgeu.ensures.full c.args.memory.now)

pub returns-in-Lb-clause-goes : goal.returns-in-Lb-clause-goes
returns-in-Lb-clause-goes g c = going-some c.args.count c.args.index.now c.load.new.index c.load.result c.in-Lb.is (λ e. absurd cc) (c.load.ensures.goes c.args.count)

pub returns-in-Lb-clause-counts : goal.returns-in-Lb-clause-counts
returns-in-Lb-clause-counts g c =
    some-counted g.C.Counter.counts (g.C.Counter.left c.args.counter.now) (g.C.Counter.left c.load.new.counter) c.args.inst.now (state_at c.args.base c.args.index.now c.args.hart.now c.args.memory.now) (Some Loads) c.load.result c.in-Lb.is refl c.load.ensures.counts

pub returns-in-Lb-clause-why : goal.returns-in-Lb-clause-why
returns-in-Lb-clause-why g c =
    some-full (g.C.Counter.left c.args.counter.now) c.args.inst.now (state_at c.args.base c.args.index.now c.args.hart.now c.args.memory.now) (Some Loads) c.load.result c.in-Lb.is refl c.load.ensures.full

pub returns-in-Lh-clause-goes : goal.returns-in-Lh-clause-goes
returns-in-Lh-clause-goes g c = going-some c.args.count c.args.index.now c.load-in-Lh.new.index c.load-in-Lh.result c.in-Lh.is (λ e. absurd cc) (c.load-in-Lh.ensures.goes c.args.count)

pub returns-in-Lh-clause-counts : goal.returns-in-Lh-clause-counts
returns-in-Lh-clause-counts g c =
    some-counted g.C.Counter.counts (g.C.Counter.left c.args.counter.now) (g.C.Counter.left c.load-in-Lh.new.counter) c.args.inst.now (state_at c.args.base c.args.index.now c.args.hart.now c.args.memory.now) (Some Loads) c.load-in-Lh.result c.in-Lh.is refl c.load-in-Lh.ensures.counts

pub returns-in-Lh-clause-why : goal.returns-in-Lh-clause-why
returns-in-Lh-clause-why g c =
    some-full (g.C.Counter.left c.args.counter.now) c.args.inst.now (state_at c.args.base c.args.index.now c.args.hart.now c.args.memory.now) (Some Loads) c.load-in-Lh.result c.in-Lh.is refl c.load-in-Lh.ensures.full

pub returns-in-Lw-clause-goes : goal.returns-in-Lw-clause-goes
returns-in-Lw-clause-goes g c = going-some c.args.count c.args.index.now c.load-in-Lw.new.index c.load-in-Lw.result c.in-Lw.is (λ e. absurd cc) (c.load-in-Lw.ensures.goes c.args.count)

pub returns-in-Lw-clause-counts : goal.returns-in-Lw-clause-counts
returns-in-Lw-clause-counts g c =
    some-counted g.C.Counter.counts (g.C.Counter.left c.args.counter.now) (g.C.Counter.left c.load-in-Lw.new.counter) c.args.inst.now (state_at c.args.base c.args.index.now c.args.hart.now c.args.memory.now) (Some Loads) c.load-in-Lw.result c.in-Lw.is refl c.load-in-Lw.ensures.counts

pub returns-in-Lw-clause-why : goal.returns-in-Lw-clause-why
returns-in-Lw-clause-why g c =
    some-full (g.C.Counter.left c.args.counter.now) c.args.inst.now (state_at c.args.base c.args.index.now c.args.hart.now c.args.memory.now) (Some Loads) c.load-in-Lw.result c.in-Lw.is refl c.load-in-Lw.ensures.full

pub returns-in-Lbu-clause-goes : goal.returns-in-Lbu-clause-goes
returns-in-Lbu-clause-goes g c = going-some c.args.count c.args.index.now c.load-in-Lbu.new.index c.load-in-Lbu.result c.in-Lbu.is (λ e. absurd cc) (c.load-in-Lbu.ensures.goes c.args.count)

pub returns-in-Lbu-clause-counts : goal.returns-in-Lbu-clause-counts
returns-in-Lbu-clause-counts g c =
    some-counted g.C.Counter.counts (g.C.Counter.left c.args.counter.now) (g.C.Counter.left c.load-in-Lbu.new.counter) c.args.inst.now (state_at c.args.base c.args.index.now c.args.hart.now c.args.memory.now) (Some Loads) c.load-in-Lbu.result c.in-Lbu.is refl c.load-in-Lbu.ensures.counts

pub returns-in-Lbu-clause-why : goal.returns-in-Lbu-clause-why
returns-in-Lbu-clause-why g c =
    some-full (g.C.Counter.left c.args.counter.now) c.args.inst.now (state_at c.args.base c.args.index.now c.args.hart.now c.args.memory.now) (Some Loads) c.load-in-Lbu.result c.in-Lbu.is refl c.load-in-Lbu.ensures.full

pub returns-in-Lhu-clause-goes : goal.returns-in-Lhu-clause-goes
returns-in-Lhu-clause-goes g c = going-some c.args.count c.args.index.now c.load-in-Lhu.new.index c.load-in-Lhu.result c.in-Lhu.is (λ e. absurd cc) (c.load-in-Lhu.ensures.goes c.args.count)

pub returns-in-Lhu-clause-counts : goal.returns-in-Lhu-clause-counts
returns-in-Lhu-clause-counts g c =
    some-counted g.C.Counter.counts (g.C.Counter.left c.args.counter.now) (g.C.Counter.left c.load-in-Lhu.new.counter) c.args.inst.now (state_at c.args.base c.args.index.now c.args.hart.now c.args.memory.now) (Some Loads) c.load-in-Lhu.result c.in-Lhu.is refl c.load-in-Lhu.ensures.counts

pub returns-in-Lhu-clause-why : goal.returns-in-Lhu-clause-why
returns-in-Lhu-clause-why g c =
    some-full (g.C.Counter.left c.args.counter.now) c.args.inst.now (state_at c.args.base c.args.index.now c.args.hart.now c.args.memory.now) (Some Loads) c.load-in-Lhu.result c.in-Lhu.is refl c.load-in-Lhu.ensures.full

pub returns-in-Sb-clause-goes : goal.returns-in-Sb-clause-goes
returns-in-Sb-clause-goes g c = going-store c.args.count c.args.index.now c.store.new.index c.store.result c.in-Sb.is (λ e. absurd cc) c.store.ensures.goes

pub returns-in-Sb-clause-counts : goal.returns-in-Sb-clause-counts
returns-in-Sb-clause-counts g c =
    some-counted g.C.Counter.counts (g.C.Counter.left c.args.counter.now) (g.C.Counter.left c.store.new.counter) c.args.inst.now (state_at c.args.base c.args.index.now c.args.hart.now c.args.memory.now) (Some Stores) c.store.result c.in-Sb.is refl c.store.ensures.counts

pub returns-in-Sb-clause-why : goal.returns-in-Sb-clause-why
returns-in-Sb-clause-why g c =
    store-halts (g.C.Counter.left c.args.counter.now) c.args.inst.now (state_at c.args.base c.args.index.now c.args.hart.now c.args.memory.now) 1 c.store.result c.in-Sb.is refl refl refl (c.store.ensures.why c.args.base)

pub returns-in-Sh-clause-goes : goal.returns-in-Sh-clause-goes
returns-in-Sh-clause-goes g c = going-store c.args.count c.args.index.now c.store-in-Sh.new.index c.store-in-Sh.result c.in-Sh.is (λ e. absurd cc) c.store-in-Sh.ensures.goes

pub returns-in-Sh-clause-counts : goal.returns-in-Sh-clause-counts
returns-in-Sh-clause-counts g c =
    some-counted g.C.Counter.counts (g.C.Counter.left c.args.counter.now) (g.C.Counter.left c.store-in-Sh.new.counter) c.args.inst.now (state_at c.args.base c.args.index.now c.args.hart.now c.args.memory.now) (Some Stores) c.store-in-Sh.result c.in-Sh.is refl c.store-in-Sh.ensures.counts

pub returns-in-Sh-clause-why : goal.returns-in-Sh-clause-why
returns-in-Sh-clause-why g c =
    store-halts (g.C.Counter.left c.args.counter.now) c.args.inst.now (state_at c.args.base c.args.index.now c.args.hart.now c.args.memory.now) 2 c.store-in-Sh.result c.in-Sh.is refl refl refl (c.store-in-Sh.ensures.why c.args.base)

pub returns-in-Sw-clause-goes : goal.returns-in-Sw-clause-goes
returns-in-Sw-clause-goes g c = going-store c.args.count c.args.index.now c.store-in-Sw.new.index c.store-in-Sw.result c.in-Sw.is (λ e. absurd cc) c.store-in-Sw.ensures.goes

pub returns-in-Sw-clause-counts : goal.returns-in-Sw-clause-counts
returns-in-Sw-clause-counts g c =
    some-counted g.C.Counter.counts (g.C.Counter.left c.args.counter.now) (g.C.Counter.left c.store-in-Sw.new.counter) c.args.inst.now (state_at c.args.base c.args.index.now c.args.hart.now c.args.memory.now) (Some Stores) c.store-in-Sw.result c.in-Sw.is refl c.store-in-Sw.ensures.counts

pub returns-in-Sw-clause-why : goal.returns-in-Sw-clause-why
returns-in-Sw-clause-why g c =
    store-halts (g.C.Counter.left c.args.counter.now) c.args.inst.now (state_at c.args.base c.args.index.now c.args.hart.now c.args.memory.now) 4 c.store-in-Sw.result c.in-Sw.is refl refl refl (c.store-in-Sw.ensures.why c.args.base)

pub returns-in-Fence-clause-goes : goal.returns-in-Fence-clause-goes
returns-in-Fence-clause-goes g c = going c.args.count c.args.index.now c.to_next.new.index c.to_next.result c.in-Fence.is (λ e. absurd cc) (c.to_next.ensures.goes c.args.count)

pub returns-in-Ecall-clause-goes : goal.returns-in-Ecall-clause-goes
returns-in-Ecall-clause-goes g c = going c.args.count c.args.index.now c.args.index.now (continuation.Stopped stepped.Ecall) c.in-Ecall.is (λ e. absurd cc) (λ e. absurd cc, λ e. absurd cc)

pub returns-in-Ebreak-clause-goes : goal.returns-in-Ebreak-clause-goes
returns-in-Ebreak-clause-goes g c = going c.args.count c.args.index.now c.args.index.now (continuation.Stopped stepped.Break) c.in-Ebreak.is (λ e. absurd cc) (λ e. absurd cc, λ e. absurd cc)

pub returns-in-Addi-clause-goes : goal.returns-in-Addi-clause-goes
returns-in-Addi-clause-goes g c = going c.args.count c.args.index.now c.operate.new.index c.operate.result c.in-Addi.is (λ e. absurd cc) (c.operate.ensures.goes c.args.count)

pub returns-in-Slti-clause-goes : goal.returns-in-Slti-clause-goes
returns-in-Slti-clause-goes g c = going c.args.count c.args.index.now c.operate-in-Slti.new.index c.operate-in-Slti.result c.in-Slti.is (λ e. absurd cc) (c.operate-in-Slti.ensures.goes c.args.count)

pub returns-in-Sltiu-clause-goes : goal.returns-in-Sltiu-clause-goes
returns-in-Sltiu-clause-goes g c = going c.args.count c.args.index.now c.operate-in-Sltiu.new.index c.operate-in-Sltiu.result c.in-Sltiu.is (λ e. absurd cc) (c.operate-in-Sltiu.ensures.goes c.args.count)

pub returns-in-Xori-clause-goes : goal.returns-in-Xori-clause-goes
returns-in-Xori-clause-goes g c = going c.args.count c.args.index.now c.operate-in-Xori.new.index c.operate-in-Xori.result c.in-Xori.is (λ e. absurd cc) (c.operate-in-Xori.ensures.goes c.args.count)

pub returns-in-Ori-clause-goes : goal.returns-in-Ori-clause-goes
returns-in-Ori-clause-goes g c = going c.args.count c.args.index.now c.operate-in-Ori.new.index c.operate-in-Ori.result c.in-Ori.is (λ e. absurd cc) (c.operate-in-Ori.ensures.goes c.args.count)

pub returns-in-Andi-clause-goes : goal.returns-in-Andi-clause-goes
returns-in-Andi-clause-goes g c = going c.args.count c.args.index.now c.operate-in-Andi.new.index c.operate-in-Andi.result c.in-Andi.is (λ e. absurd cc) (c.operate-in-Andi.ensures.goes c.args.count)

pub returns-in-Slli-clause-goes : goal.returns-in-Slli-clause-goes
returns-in-Slli-clause-goes g c = going c.args.count c.args.index.now c.operate-in-Slli.new.index c.operate-in-Slli.result c.in-Slli.is (λ e. absurd cc) (c.operate-in-Slli.ensures.goes c.args.count)

pub returns-in-Srli-clause-goes : goal.returns-in-Srli-clause-goes
returns-in-Srli-clause-goes g c = going c.args.count c.args.index.now c.operate-in-Srli.new.index c.operate-in-Srli.result c.in-Srli.is (λ e. absurd cc) (c.operate-in-Srli.ensures.goes c.args.count)

pub returns-in-Srai-clause-goes : goal.returns-in-Srai-clause-goes
returns-in-Srai-clause-goes g c = going c.args.count c.args.index.now c.operate-in-Srai.new.index c.operate-in-Srai.result c.in-Srai.is (λ e. absurd cc) (c.operate-in-Srai.ensures.goes c.args.count)

pub returns-in-Add-clause-goes : goal.returns-in-Add-clause-goes
returns-in-Add-clause-goes g c = going c.args.count c.args.index.now c.operate-in-Add.new.index c.operate-in-Add.result c.in-Add.is (λ e. absurd cc) (c.operate-in-Add.ensures.goes c.args.count)

pub returns-in-Sub-clause-goes : goal.returns-in-Sub-clause-goes
returns-in-Sub-clause-goes g c = going c.args.count c.args.index.now c.operate-in-Sub.new.index c.operate-in-Sub.result c.in-Sub.is (λ e. absurd cc) (c.operate-in-Sub.ensures.goes c.args.count)

pub returns-in-Sll-clause-goes : goal.returns-in-Sll-clause-goes
returns-in-Sll-clause-goes g c = going c.args.count c.args.index.now c.operate-in-Sll.new.index c.operate-in-Sll.result c.in-Sll.is (λ e. absurd cc) (c.operate-in-Sll.ensures.goes c.args.count)

pub returns-in-Slt-clause-goes : goal.returns-in-Slt-clause-goes
returns-in-Slt-clause-goes g c = going c.args.count c.args.index.now c.operate-in-Slt.new.index c.operate-in-Slt.result c.in-Slt.is (λ e. absurd cc) (c.operate-in-Slt.ensures.goes c.args.count)

pub returns-in-Sltu-clause-goes : goal.returns-in-Sltu-clause-goes
returns-in-Sltu-clause-goes g c = going c.args.count c.args.index.now c.operate-in-Sltu.new.index c.operate-in-Sltu.result c.in-Sltu.is (λ e. absurd cc) (c.operate-in-Sltu.ensures.goes c.args.count)

pub returns-in-Xor-clause-goes : goal.returns-in-Xor-clause-goes
returns-in-Xor-clause-goes g c = going c.args.count c.args.index.now c.operate-in-Xor.new.index c.operate-in-Xor.result c.in-Xor.is (λ e. absurd cc) (c.operate-in-Xor.ensures.goes c.args.count)

pub returns-in-Srl-clause-goes : goal.returns-in-Srl-clause-goes
returns-in-Srl-clause-goes g c = going c.args.count c.args.index.now c.operate-in-Srl.new.index c.operate-in-Srl.result c.in-Srl.is (λ e. absurd cc) (c.operate-in-Srl.ensures.goes c.args.count)

pub returns-in-Sra-clause-goes : goal.returns-in-Sra-clause-goes
returns-in-Sra-clause-goes g c = going c.args.count c.args.index.now c.operate-in-Sra.new.index c.operate-in-Sra.result c.in-Sra.is (λ e. absurd cc) (c.operate-in-Sra.ensures.goes c.args.count)

pub returns-in-Or-clause-goes : goal.returns-in-Or-clause-goes
returns-in-Or-clause-goes g c = going c.args.count c.args.index.now c.operate-in-Or.new.index c.operate-in-Or.result c.in-Or.is (λ e. absurd cc) (c.operate-in-Or.ensures.goes c.args.count)

pub returns-in-And-clause-goes : goal.returns-in-And-clause-goes
returns-in-And-clause-goes g c = going c.args.count c.args.index.now c.operate-in-And.new.index c.operate-in-And.result c.in-And.is (λ e. absurd cc) (c.operate-in-And.ensures.goes c.args.count)

pub returns-in-Mul-clause-goes : goal.returns-in-Mul-clause-goes
returns-in-Mul-clause-goes g c = going c.args.count c.args.index.now c.operate-in-Mul.new.index c.operate-in-Mul.result c.in-Mul.is (λ e. absurd cc) (c.operate-in-Mul.ensures.goes c.args.count)

pub returns-in-Mulh-clause-goes : goal.returns-in-Mulh-clause-goes
returns-in-Mulh-clause-goes g c = going c.args.count c.args.index.now c.operate-in-Mulh.new.index c.operate-in-Mulh.result c.in-Mulh.is (λ e. absurd cc) (c.operate-in-Mulh.ensures.goes c.args.count)

pub returns-in-Mulhsu-clause-goes : goal.returns-in-Mulhsu-clause-goes
returns-in-Mulhsu-clause-goes g c = going c.args.count c.args.index.now c.operate-in-Mulhsu.new.index c.operate-in-Mulhsu.result c.in-Mulhsu.is (λ e. absurd cc) (c.operate-in-Mulhsu.ensures.goes c.args.count)

pub returns-in-Mulhu-clause-goes : goal.returns-in-Mulhu-clause-goes
returns-in-Mulhu-clause-goes g c = going c.args.count c.args.index.now c.operate-in-Mulhu.new.index c.operate-in-Mulhu.result c.in-Mulhu.is (λ e. absurd cc) (c.operate-in-Mulhu.ensures.goes c.args.count)

pub returns-in-Div-clause-goes : goal.returns-in-Div-clause-goes
returns-in-Div-clause-goes g c = going c.args.count c.args.index.now c.operate-in-Div.new.index c.operate-in-Div.result c.in-Div.is (λ e. absurd cc) (c.operate-in-Div.ensures.goes c.args.count)

pub returns-in-Divu-clause-goes : goal.returns-in-Divu-clause-goes
returns-in-Divu-clause-goes g c = going c.args.count c.args.index.now c.operate-in-Divu.new.index c.operate-in-Divu.result c.in-Divu.is (λ e. absurd cc) (c.operate-in-Divu.ensures.goes c.args.count)

pub returns-in-Rem-clause-goes : goal.returns-in-Rem-clause-goes
returns-in-Rem-clause-goes g c = going c.args.count c.args.index.now c.operate-in-Rem.new.index c.operate-in-Rem.result c.in-Rem.is (λ e. absurd cc) (c.operate-in-Rem.ensures.goes c.args.count)

pub returns-in-Remu-clause-goes : goal.returns-in-Remu-clause-goes
returns-in-Remu-clause-goes g c = going c.args.count c.args.index.now c.operate-in-Remu.new.index c.operate-in-Remu.result c.in-Remu.is (λ e. absurd cc) (c.operate-in-Remu.ensures.goes c.args.count)

pub returns-in-Illegal-clause-counts : goal.returns-in-Illegal-clause-counts
returns-in-Illegal-clause-counts g c = none-counted g.C.Counter.counts (g.C.Counter.left c.args.counter.now) c.args.inst.now (state_at c.args.base c.args.index.now c.args.hart.now c.args.memory.now) _ c.in-Illegal.is refl

pub returns-in-Lui-clause-counts : goal.returns-in-Lui-clause-counts
returns-in-Lui-clause-counts g c = none-counted g.C.Counter.counts (g.C.Counter.left c.args.counter.now) c.args.inst.now (state_at c.args.base c.args.index.now c.args.hart.now c.args.memory.now) _ c.in-Lui.is refl

pub returns-in-Auipc-clause-counts : goal.returns-in-Auipc-clause-counts
returns-in-Auipc-clause-counts g c = none-counted g.C.Counter.counts (g.C.Counter.left c.args.counter.now) c.args.inst.now (state_at c.args.base c.args.index.now c.args.hart.now c.args.memory.now) _ c.in-Auipc.is refl

pub returns-in-Jal-clause-counts : goal.returns-in-Jal-clause-counts
returns-in-Jal-clause-counts g c = none-counted g.C.Counter.counts (g.C.Counter.left c.args.counter.now) c.args.inst.now (state_at c.args.base c.args.index.now c.args.hart.now c.args.memory.now) _ c.in-Jal.is refl

pub returns-in-Jalr-clause-counts : goal.returns-in-Jalr-clause-counts
returns-in-Jalr-clause-counts g c = none-counted g.C.Counter.counts (g.C.Counter.left c.args.counter.now) c.args.inst.now (state_at c.args.base c.args.index.now c.args.hart.now c.args.memory.now) _ c.in-Jalr.is refl

pub returns-in-Fence-clause-counts : goal.returns-in-Fence-clause-counts
returns-in-Fence-clause-counts g c = none-counted g.C.Counter.counts (g.C.Counter.left c.args.counter.now) c.args.inst.now (state_at c.args.base c.args.index.now c.args.hart.now c.args.memory.now) _ c.in-Fence.is refl

pub returns-in-Ecall-clause-counts : goal.returns-in-Ecall-clause-counts
returns-in-Ecall-clause-counts g c = none-counted g.C.Counter.counts (g.C.Counter.left c.args.counter.now) c.args.inst.now (state_at c.args.base c.args.index.now c.args.hart.now c.args.memory.now) _ c.in-Ecall.is refl

pub returns-in-Ebreak-clause-counts : goal.returns-in-Ebreak-clause-counts
returns-in-Ebreak-clause-counts g c = none-counted g.C.Counter.counts (g.C.Counter.left c.args.counter.now) c.args.inst.now (state_at c.args.base c.args.index.now c.args.hart.now c.args.memory.now) _ c.in-Ebreak.is refl

pub returns-in-Addi-clause-counts : goal.returns-in-Addi-clause-counts
returns-in-Addi-clause-counts g c = none-counted g.C.Counter.counts (g.C.Counter.left c.args.counter.now) c.args.inst.now (state_at c.args.base c.args.index.now c.args.hart.now c.args.memory.now) _ c.in-Addi.is refl

pub returns-in-Slti-clause-counts : goal.returns-in-Slti-clause-counts
returns-in-Slti-clause-counts g c = none-counted g.C.Counter.counts (g.C.Counter.left c.args.counter.now) c.args.inst.now (state_at c.args.base c.args.index.now c.args.hart.now c.args.memory.now) _ c.in-Slti.is refl

pub returns-in-Sltiu-clause-counts : goal.returns-in-Sltiu-clause-counts
returns-in-Sltiu-clause-counts g c = none-counted g.C.Counter.counts (g.C.Counter.left c.args.counter.now) c.args.inst.now (state_at c.args.base c.args.index.now c.args.hart.now c.args.memory.now) _ c.in-Sltiu.is refl

pub returns-in-Xori-clause-counts : goal.returns-in-Xori-clause-counts
returns-in-Xori-clause-counts g c = none-counted g.C.Counter.counts (g.C.Counter.left c.args.counter.now) c.args.inst.now (state_at c.args.base c.args.index.now c.args.hart.now c.args.memory.now) _ c.in-Xori.is refl

pub returns-in-Ori-clause-counts : goal.returns-in-Ori-clause-counts
returns-in-Ori-clause-counts g c = none-counted g.C.Counter.counts (g.C.Counter.left c.args.counter.now) c.args.inst.now (state_at c.args.base c.args.index.now c.args.hart.now c.args.memory.now) _ c.in-Ori.is refl

pub returns-in-Andi-clause-counts : goal.returns-in-Andi-clause-counts
returns-in-Andi-clause-counts g c = none-counted g.C.Counter.counts (g.C.Counter.left c.args.counter.now) c.args.inst.now (state_at c.args.base c.args.index.now c.args.hart.now c.args.memory.now) _ c.in-Andi.is refl

pub returns-in-Slli-clause-counts : goal.returns-in-Slli-clause-counts
returns-in-Slli-clause-counts g c = none-counted g.C.Counter.counts (g.C.Counter.left c.args.counter.now) c.args.inst.now (state_at c.args.base c.args.index.now c.args.hart.now c.args.memory.now) _ c.in-Slli.is refl

pub returns-in-Srli-clause-counts : goal.returns-in-Srli-clause-counts
returns-in-Srli-clause-counts g c = none-counted g.C.Counter.counts (g.C.Counter.left c.args.counter.now) c.args.inst.now (state_at c.args.base c.args.index.now c.args.hart.now c.args.memory.now) _ c.in-Srli.is refl

pub returns-in-Srai-clause-counts : goal.returns-in-Srai-clause-counts
returns-in-Srai-clause-counts g c = none-counted g.C.Counter.counts (g.C.Counter.left c.args.counter.now) c.args.inst.now (state_at c.args.base c.args.index.now c.args.hart.now c.args.memory.now) _ c.in-Srai.is refl

pub returns-in-Add-clause-counts : goal.returns-in-Add-clause-counts
returns-in-Add-clause-counts g c = none-counted g.C.Counter.counts (g.C.Counter.left c.args.counter.now) c.args.inst.now (state_at c.args.base c.args.index.now c.args.hart.now c.args.memory.now) _ c.in-Add.is refl

pub returns-in-Sub-clause-counts : goal.returns-in-Sub-clause-counts
returns-in-Sub-clause-counts g c = none-counted g.C.Counter.counts (g.C.Counter.left c.args.counter.now) c.args.inst.now (state_at c.args.base c.args.index.now c.args.hart.now c.args.memory.now) _ c.in-Sub.is refl

pub returns-in-Sll-clause-counts : goal.returns-in-Sll-clause-counts
returns-in-Sll-clause-counts g c = none-counted g.C.Counter.counts (g.C.Counter.left c.args.counter.now) c.args.inst.now (state_at c.args.base c.args.index.now c.args.hart.now c.args.memory.now) _ c.in-Sll.is refl

pub returns-in-Slt-clause-counts : goal.returns-in-Slt-clause-counts
returns-in-Slt-clause-counts g c = none-counted g.C.Counter.counts (g.C.Counter.left c.args.counter.now) c.args.inst.now (state_at c.args.base c.args.index.now c.args.hart.now c.args.memory.now) _ c.in-Slt.is refl

pub returns-in-Sltu-clause-counts : goal.returns-in-Sltu-clause-counts
returns-in-Sltu-clause-counts g c = none-counted g.C.Counter.counts (g.C.Counter.left c.args.counter.now) c.args.inst.now (state_at c.args.base c.args.index.now c.args.hart.now c.args.memory.now) _ c.in-Sltu.is refl

pub returns-in-Xor-clause-counts : goal.returns-in-Xor-clause-counts
returns-in-Xor-clause-counts g c = none-counted g.C.Counter.counts (g.C.Counter.left c.args.counter.now) c.args.inst.now (state_at c.args.base c.args.index.now c.args.hart.now c.args.memory.now) _ c.in-Xor.is refl

pub returns-in-Srl-clause-counts : goal.returns-in-Srl-clause-counts
returns-in-Srl-clause-counts g c = none-counted g.C.Counter.counts (g.C.Counter.left c.args.counter.now) c.args.inst.now (state_at c.args.base c.args.index.now c.args.hart.now c.args.memory.now) _ c.in-Srl.is refl

pub returns-in-Sra-clause-counts : goal.returns-in-Sra-clause-counts
returns-in-Sra-clause-counts g c = none-counted g.C.Counter.counts (g.C.Counter.left c.args.counter.now) c.args.inst.now (state_at c.args.base c.args.index.now c.args.hart.now c.args.memory.now) _ c.in-Sra.is refl

pub returns-in-Or-clause-counts : goal.returns-in-Or-clause-counts
returns-in-Or-clause-counts g c = none-counted g.C.Counter.counts (g.C.Counter.left c.args.counter.now) c.args.inst.now (state_at c.args.base c.args.index.now c.args.hart.now c.args.memory.now) _ c.in-Or.is refl

pub returns-in-And-clause-counts : goal.returns-in-And-clause-counts
returns-in-And-clause-counts g c = none-counted g.C.Counter.counts (g.C.Counter.left c.args.counter.now) c.args.inst.now (state_at c.args.base c.args.index.now c.args.hart.now c.args.memory.now) _ c.in-And.is refl

pub returns-in-Mul-clause-counts : goal.returns-in-Mul-clause-counts
returns-in-Mul-clause-counts g c = none-counted g.C.Counter.counts (g.C.Counter.left c.args.counter.now) c.args.inst.now (state_at c.args.base c.args.index.now c.args.hart.now c.args.memory.now) _ c.in-Mul.is refl

pub returns-in-Mulh-clause-counts : goal.returns-in-Mulh-clause-counts
returns-in-Mulh-clause-counts g c = none-counted g.C.Counter.counts (g.C.Counter.left c.args.counter.now) c.args.inst.now (state_at c.args.base c.args.index.now c.args.hart.now c.args.memory.now) _ c.in-Mulh.is refl

pub returns-in-Mulhsu-clause-counts : goal.returns-in-Mulhsu-clause-counts
returns-in-Mulhsu-clause-counts g c = none-counted g.C.Counter.counts (g.C.Counter.left c.args.counter.now) c.args.inst.now (state_at c.args.base c.args.index.now c.args.hart.now c.args.memory.now) _ c.in-Mulhsu.is refl

pub returns-in-Mulhu-clause-counts : goal.returns-in-Mulhu-clause-counts
returns-in-Mulhu-clause-counts g c = none-counted g.C.Counter.counts (g.C.Counter.left c.args.counter.now) c.args.inst.now (state_at c.args.base c.args.index.now c.args.hart.now c.args.memory.now) _ c.in-Mulhu.is refl

pub returns-in-Div-clause-counts : goal.returns-in-Div-clause-counts
returns-in-Div-clause-counts g c = none-counted g.C.Counter.counts (g.C.Counter.left c.args.counter.now) c.args.inst.now (state_at c.args.base c.args.index.now c.args.hart.now c.args.memory.now) _ c.in-Div.is refl

pub returns-in-Divu-clause-counts : goal.returns-in-Divu-clause-counts
returns-in-Divu-clause-counts g c = none-counted g.C.Counter.counts (g.C.Counter.left c.args.counter.now) c.args.inst.now (state_at c.args.base c.args.index.now c.args.hart.now c.args.memory.now) _ c.in-Divu.is refl

pub returns-in-Rem-clause-counts : goal.returns-in-Rem-clause-counts
returns-in-Rem-clause-counts g c = none-counted g.C.Counter.counts (g.C.Counter.left c.args.counter.now) c.args.inst.now (state_at c.args.base c.args.index.now c.args.hart.now c.args.memory.now) _ c.in-Rem.is refl

pub returns-in-Remu-clause-counts : goal.returns-in-Remu-clause-counts
returns-in-Remu-clause-counts g c = none-counted g.C.Counter.counts (g.C.Counter.left c.args.counter.now) c.args.inst.now (state_at c.args.base c.args.index.now c.args.hart.now c.args.memory.now) _ c.in-Remu.is refl
