use Rattle.std.proofs.Common.{◌<◌, List, length, subst}
use Rattle.rv_table.specs.declared.inst.Inst.{Inst}
use Rattle.rv_hart.specs.private.Decoding.{IsInstruction}
use Rattle.rv_hart.proofs.Decoded.{words-at}
use Rattle.rv_hart.proofs.decoded_code.decoded_index.Goals as goal

pub returns-clause-first : goal.returns-clause-first
returns-clause-first c =
    let within = subst (λ (items : List Inst). c.index_of-index.result < length items) c.as_slice.ensures.value (c.is_instruction.ensures.within c.if-not-is_instruction.false) in
    let is = subst (λ (items : List Inst). IsInstruction items c.index_of-index.result) c.as_slice.ensures.value (c.is_instruction.ensures.instruction c.if-not-is_instruction.false) in
    ((within, words-at c.args.memory.now c.args.code.now.base c.args.code.now.items.items c.requires c.index_of-index.result within), is)
