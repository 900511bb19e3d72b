use Rattle.std.proofs.Common.{rules, Ok, sym, ap, ◌∙◌}
use Rattle.prof_bytes.specs.Outcome.{FailsBy}
use Rattle.cfi_table.specs.Frames.{Frames, frames_of}
use Rattle.cfi_table.specs.declared.extent.ZeroLength.TheVariants.{PassedOver}
use Rattle.cfi_table.proofs.Chains.{in_order}
use Rattle.cfi_table.proofs.Entries.{frames_read, frames_broken, frames_fail}
use Rattle.cfi_table.proofs.frames.read_frames.Goals as goal

pub known_cies-requires-clause-order : goal.known_cies-requires-clause-order
known_cies-requires-clause-order c = rw c.deref.ensures.value (in_order PassedOver c.args.bytes.now (c.in_ok-extents.extents.items, c.in_ok-extents.broken) c.in_ok-extents.ensures.extents)

pub counted_fdes-requires-clause-order : goal.counted_fdes-requires-clause-order
counted_fdes-requires-clause-order c = rw c.deref-2.ensures.value (in_order PassedOver c.args.bytes.now (c.in_ok-extents.extents.items, c.in_ok-extents.broken) c.in_ok-extents.ensures.extents)

pub returns-in_err-fdes : goal.returns-in_err-fdes
returns-in_err-fdes c =
    let failed : FailsBy c.in_err-fdes.field-0.0 (frames_of c.args.bytes.now c.args.image.now.segments) =
    frames_fail c.args.bytes.now c.in_ok-extents.extents.items c.in_ok-extents.broken c.in_err-fdes.field-0.0 c.args.image.now.segments c.in_ok-extents.ensures.extents
    (rw c.deref-2.ensures.value at c.in_err-fdes.ensures.fdes) in
    search rules

pub returns-in-Some : goal.returns-in-Some
returns-in-Some c =
    frames_broken c.args.bytes.now c.in_ok-extents.extents.items c.in_ok-extents.broken c.in-Some.fault c.args.image.now.segments c.in_ok-fdes.fdes.items c.in_ok-extents.ensures.extents c.in-Some.is
    (rw c.deref-2.ensures.value at c.in_ok-fdes.ensures.fdes)

pub returns : goal.returns
returns c =
    frames_read c.args.bytes.now c.in_ok-extents.extents.items c.in_ok-extents.broken c.args.image.now.segments c.in_ok-fdes.fdes.items c.in_ok-extents.ensures.extents c.in-None.is
    (rw c.deref-2.ensures.value at c.in_ok-fdes.ensures.fdes)
    ∙ ap (λ (t : Frames). Ok t) (sym c.in_ok-table_of-in-None.ensures)
