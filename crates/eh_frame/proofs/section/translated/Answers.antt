use Rattle.std.proofs.Common.{rules, arith}
use Rattle.prof_bytes.specs.Outcome.{FailsBy}
use Rattle.eh_frame.specs.Translation.{translated}
use Rattle.eh_frame.proofs.Entries.{section_read, section_broken, section_fails}
use Rattle.eh_frame.proofs.Adjoining.{adjoin}
use Rattle.eh_frame.proofs.Blocks.{few_bytes}
use Rattle.eh_frame.proofs.section.translated.Goals as goal

pub put_entries-requires-clause-order : goal.put_entries-requires-clause-order
put_entries-requires-clause-order c = rw c.deref.ensures.value (adjoin c.args.section.now (c.in_ok-extents.extents.items, c.in_ok-extents.broken) c.in_ok-extents.ensures.extents)

pub returns-in_err-bytes-clause-bytes : goal.returns-in_err-bytes-clause-bytes
returns-in_err-bytes-clause-bytes c =
    let failed : FailsBy c.in_err-bytes.field-0.0 (translated c.args.section.now c.args.address c.args.base) =
    section_fails c.args.section.now c.args.address c.args.base c.in_ok-extents.extents.items c.in_ok-extents.broken c.in_err-bytes.field-0.0 c.in_ok-extents.ensures.extents
    (rw c.deref.ensures.value at c.in_err-bytes.ensures) in
    search rules

pub returns-in-Some-clause-bytes : goal.returns-in-Some-clause-bytes
returns-in-Some-clause-bytes c =
    section_broken c.args.section.now c.args.address c.args.base c.in_ok-extents.extents.items c.in_ok-extents.broken c.in-Some.fault c.in_ok-bytes.bytes.items c.in_ok-extents.ensures.extents c.in-Some.is
    (rw c.deref.ensures.value at c.in_ok-bytes.ensures)

pub returns-clause-bytes : goal.returns-clause-bytes
returns-clause-bytes c =
    section_read c.args.section.now c.args.address c.args.base c.in_ok-extents.extents.items c.in_ok-extents.broken c.in_ok-bytes.bytes.items c.in_ok-extents.ensures.extents c.in-None.is
    (rw c.deref.ensures.value at c.in_ok-bytes.ensures)

pub returns-clause-few : goal.returns-clause-few
returns-clause-few c =
    few_bytes c.args.section.now c.args.address c.args.base c.in_ok-extents.extents.items c.in_ok-bytes.bytes.items
    (λ i. (let fits = c.type_inv.section i in omega arith)) (adjoin c.args.section.now (c.in_ok-extents.extents.items, c.in_ok-extents.broken) c.in_ok-extents.ensures.extents) c.in_ok-extents.ensures.within
    (rw c.deref.ensures.value at c.in_ok-bytes.ensures)
