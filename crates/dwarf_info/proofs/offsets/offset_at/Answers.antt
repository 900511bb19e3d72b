use Rattle.std.proofs.Common.{◌∙◌, ◌<◌, ◌*◌, ◌-◌, Bool, List, get_or, ap, length, arith}
use Rattle.std.specs.Prelude.{slice_get}
use Rattle.std.proofs.lemmas.Option.{slice_get-get_or}
use Rattle.dwarf_info.specs.private.Starts.{set_from}
use Rattle.dwarf_info.proofs.SetFlags.{counts_rise, no_block, offset_of}
use Rattle.dwarf_info.proofs.offsets.offset_at.Goals as goal

pub count_up_to-blocks-requires : goal.count_up_to-blocks-requires
count_up_to-blocks-requires c = counts_rise c.args.flags.now c.args.counts.now c.requires

pub returns-then-blocks-eq0 : goal.returns-then-blocks-eq0
returns-then-blocks-eq0 c = no_block c.args.flags.now c.args.counts.now c.args.index c.count_up_to-blocks.result c.requires c.count_up_to-blocks.ensures c.if-blocks-eq0.true

pub returns : goal.returns
returns c =
    let block : c.count_up_to-blocks.result - 1 < length c.args.counts.now = (let w = c.count_up_to-blocks.ensures.within in let n = c.if-blocks-eq0.false in omega arith) in
    let before = slice_get-get_or c.args.counts.now (c.count_up_to-blocks.result - 1) 0 block in
    let small = c.count_up_to-blocks.ensures.below (c.count_up_to-blocks.result - 1) 0 (let n = c.if-blocks-eq0.false in omega arith) in
    let within = c.requires.starts (c.count_up_to-blocks.result - 1) block in
    offset_of c.args.flags.now c.args.counts.now (c.count_up_to-blocks.result - 1) (get_or c.args.counts.now (c.count_up_to-blocks.result - 1) 0) c.args.index c.nth_set.result c.requires before small (omega arith)
    (c.nth_set.ensures ∙ ap (λ (fs : List Bool). slice_get (set_from (32 * (c.count_up_to-blocks.result - 1)) fs) (c.args.index - get_or c.args.counts.now (c.count_up_to-blocks.result - 1) 0)) c.split_at.ensures.back)
