use Rattle.std.proofs.Common.{◌≡◌, Some, option_map, sym, ap, subst, ◌∙◌, arith}
use Rattle.rv_memory.specs.AddressSpace.{AddressSpace, fetched_at}
use Rattle.rv_table.specs.declared.inst.Inst.{Inst}
use Rattle.rv_table.specs.Table.{decoded}
use Rattle.rv_hart.specs.Running.{Ran}
use Rattle.rv_hart.specs.Stepping.{state_of}
use Rattle.rv_hart.specs.private.Decoding.{AreCode}
use Rattle.rv_hart.proofs.Spending.{spent-none}
use Rattle.rv_hart.proofs.Decoded.{one-word}
use Rattle.rv_hart.proofs.Fixed.{ran-fixed, codes-kept}
use Rattle.rv_hart.proofs.Runs.{ran-none}
use Rattle.rv_hart.proofs.space.Space.run_fetched.Goals as goal

pub returns-in_default-clause-ran : goal.returns-in_default-clause-ran
returns-in_default-clause-ran g c =
    subst (λ (memory : AddressSpace). Ran 0 (state_of c.args.hart.now c.args.self.now) (state_of c.args.hart.now memory)) (sym (c.fetch.ensures.same ∙ c.self.view_is))
    (ran-none (state_of c.args.hart.now c.args.self.now))

pub invariant_of-self : goal.invariant_of-self
invariant_of-self g c = subst (λ (memory : AddressSpace). AreCode memory c.self.inside.decoded.codes.items) (sym c.fetch.ensures.same) c.self.invariant

pub invariant_of-self-2 : goal.invariant_of-self-2
invariant_of-self-2 g c =
    codes-kept c.fetch.new.self c.run_decoded.new.memory c.decode_about.new.kept.codes.items
    (ran-fixed c.run_decoded.result.0 (state_of c.args.hart.now c.fetch.new.self) (state_of c.run_decoded.new.hart c.run_decoded.new.memory) c.run_decoded.ensures.ran)
    c.decode_about.ensures

pub returns-then-is_illegal-clause-ran : goal.returns-then-is_illegal-clause-ran
returns-then-is_illegal-clause-ran g c =
    subst (λ (memory : AddressSpace). Ran 0 (state_of c.args.hart.now c.args.self.now) (state_of c.args.hart.now memory)) (sym (c.fetch.ensures.same ∙ c.self.view_is))
    (ran-none (state_of c.args.hart.now c.args.self.now))

pub run_decoded-requires-clause-first : goal.run_decoded-requires-clause-first
run_decoded-requires-clause-first g c =
    let memory : AddressSpace = c.fetch.new.self in
    let word : fetched_at memory c.args.hart.now.pc ≡ Some c.in-Some.word =
    ap (λ (m : AddressSpace). fetched_at m c.args.hart.now.pc) c.fetch.ensures.same ∙ sym c.fetch.ensures.word ∙ c.in-Some.is in
    one-word memory c.args.hart.now.pc c.decode-inst.result (omega arith) (ap (option_map decoded) word ∙ ap (λ (i : Inst). Some i) (sym c.decode-inst.ensures.row)) c.decode-inst.ensures.registers (c.is_illegal.ensures.no c.if-is_illegal.false)

pub returns-in_default-clause-spent : goal.returns-in_default-clause-spent
returns-in_default-clause-spent g c _ = spent-none (g.C.Counter.left c.args.counter.now) (state_of c.args.hart.now c.args.self.now)

pub returns-then-is_illegal-clause-spent : goal.returns-then-is_illegal-clause-spent
returns-then-is_illegal-clause-spent g c _ = spent-none (g.C.Counter.left c.args.counter.now) (state_of c.args.hart.now c.args.self.now)
