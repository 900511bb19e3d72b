use Rattle.std.proofs.Common.{refl, arith}
use Rattle.cfi_table.specs.Frames.{descriptions, rules_at}
use Rattle.cfi_unwind.specs.declared.index.Index.{Index}
use Rattle.cfi_unwind.proofs.Indexing.{keeps_after_fdes}
use Rattle.cfi_unwind.proofs.index.Index.add_after_fdes.Goals as goal

pub returns-then-is_after_fdes : goal.returns-then-is_after_fdes
returns-then-is_after_fdes c is =
    let after : Index = record { first = c.args.self.now.first; ids = c.fill.new.ids; unwind_rules = c.args.self.now.unwind_rules } in
    let low = c.if-low-count.true in
    let all = c.len-count.ensures in
    keeps_after_fdes (rules_at (descriptions c.args.table.now)) c.args.self.now after c.unset_from-low.result c.len-count.result refl refl c.fill.ensures (omega arith) (omega arith) (c.is_after_fdes.ensures c.if-is_after_fdes.true) is
