use Rattle.std.proofs.Common.{◌≡◌, ◌≢◌, ℕ, List, option_map, sym, ap, ap₂, subst, ◌∙◌}
use Rattle.std.specs.List.{slice_index_or}
use Rattle.rv_table.specs.declared.inst.Inst.{Inst}
use Rattle.rv_table.specs.declared.inst.Op.TheVariants as ops
use Rattle.rv_table.specs.Table.{decoded}
use Rattle.rv_memory.specs.AddressSpace.{AddressSpace, fetched_at}
use Rattle.rv_hart.specs.private.Decoding.{IsFoundAt, IsWordAt}
use Rattle.rv_hart.proofs.Decoded.{word-here}
use Rattle.rv_hart.proofs.space.Space.inst_at.Goals as goal

pub returns-clause-inst : goal.returns-clause-inst
returns-clause-inst c =
    let found : IsFoundAt c.self.inside.memory c.in-Some.code.now c.in-Some.index c.args.pc = c.in-Some.ensures in
    let inst : Inst = c.word_at.result.now in
    let is : (d : Inst) → c.word_at.result.now ≡ slice_index_or c.in-Some.code.now.items.items c.in-Some.index d =
    λ d. c.word_at.ensures d ∙ ap (λ (items : List Inst). slice_index_or items c.in-Some.index d) c.as_slice.ensures.value in
    let at : IsWordAt c.self.inside.memory c.in-Some.code.now.base c.in-Some.code.now.items.items c.in-Some.index c.word_at.result.now =
    word-here c.self.inside.memory c.in-Some.code.now.base c.in-Some.code.now.items.items c.in-Some.index c.word_at.result.now found.first.0 is in
    let other : inst.op ≢ ops.Illegal = subst (λ (i : Inst). i.op ≢ ops.Illegal) (sym (is inst)) (found.first.1 inst) in
    sym (at.word other) ∙ ap₂ (λ (m : AddressSpace) (pc : ℕ). option_map decoded (fetched_at m pc)) c.self.view_is found.address

pub returns-clause-registers : goal.returns-clause-registers
returns-clause-registers c =
    let found : IsFoundAt c.self.inside.memory c.in-Some.code.now c.in-Some.index c.args.pc = c.in-Some.ensures in
    let at : IsWordAt c.self.inside.memory c.in-Some.code.now.base c.in-Some.code.now.items.items c.in-Some.index c.word_at.result.now =
    word-here c.self.inside.memory c.in-Some.code.now.base c.in-Some.code.now.items.items c.in-Some.index c.word_at.result.now found.first.0
    (λ d. c.word_at.ensures d ∙ ap (λ (items : List Inst). slice_index_or items c.in-Some.index d) c.as_slice.ensures.value) in
    at.registers
