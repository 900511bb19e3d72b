use Rattle.std.proofs.Common.{refl, arith}
use Rattle.cfi_unwind.specs.declared.index.Index.{Index}
use Rattle.cfi_unwind.proofs.Indexing.{ends_in}
use Rattle.cfi_unwind.proofs.index.Index.end_in_region.Goals as goal

pub returns-in-Some : goal.returns-in-Some
returns-in-Some c = λ _ rules is.
    let after : Index = record { first = c.args.self.now.first; ids = c.fill.new.ids; unwind_rules = c.push_ending.new.unwind_rules } in
    let end = c.words_below.ensures in
    let start = c.words_below-2.ensures in
    let past = c.saturating_sub.ensures in
    let above = c.saturating_sub-2.ensures in
    let to = c.from.ensures in
    let from = c.from-2.ensures in
    let first = c.from-first.ensures in
    let high = c.min-high.ensures in
    let low = c.min-low.ensures in
    let count = c.len.ensures in
    ends_in (record { rules = rules; region = c.args.region }) c.args.self.now after c.words_below-2.result c.words_below.result c.min-low.result c.min-high.result c.in-Some.id refl c.fill.ensures c.push_ending.ensures.keeps
    (c.push_ending.ensures.few is.few) c.in-Some.ensures.ends (omega arith) (omega arith) (omega arith) (omega arith) (omega arith) (omega arith) is
