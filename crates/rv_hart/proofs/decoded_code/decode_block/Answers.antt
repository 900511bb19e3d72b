use Rattle.std.proofs.Common.{◌+◌, ◌*◌, ◌≤◌, ◌<◌, ◌-◌, List, length, sym, ap, subst, ◌∙◌, ℕ, arith}
use Rattle.std.proofs.lemmas.Grind.{common_steps}
use Rattle.std.proofs.lemmas.List.{length-set}
use Rattle.rv_table.specs.declared.inst.Inst.{Inst}
use Rattle.rv_table.specs.Table.{decoded}
use Rattle.rv_hart.proofs.Decoded.{more-decoded, word-decoded}
use Rattle.rv_hart.proofs.decoded_code.decode_block.Goals as goal

pub loop-at-preserved : goal.loop-at-preserved
loop-at-preserved c =
    let items : List Inst = c.loop-at.items.items in
    let bytes : List ℕ = c.file_bytes-bytes.result.now in
    let within : 4 * c.loop-at.at + 4 ≤ length bytes = grind (arith, common_steps, c.loop-at-test.true, c.min-count.ensures) in
    let inside : c.loop-at.at + 1 < length items = grind (arith, common_steps, c.loop-at-test.true, c.loop-at.invariant.within) in
    record {
      within = subst (λ (n : ℕ). c.min-count.result ≤ n - 1) (sym (length-set items c.loop-at.at c.decode.result)) c.loop-at.invariant.within;
      code =
          more-decoded c.args.memory.now c.args.base c.loop-at.at items c.decode.result c.loop-at.invariant.code inside c.decode.ensures.registers
          (word-decoded c.args.memory.now c.args.region.now c.args.base c.loop-at.at bytes c.decode.result c.requires.own (c.has_fixed_code.ensures c.if-not-has_fixed_code.false)
          c.loop-at.invariant.code.aligned c.file_bytes-bytes.ensures.within c.file_bytes-bytes.ensures.bytes within (c.decode.ensures.row ∙ ap decoded c.word_in.ensures));
    }
