use Rattle.cfi_table.specs.Frames.{Frames}
use Rattle.cfi_table.proofs.Walking.{first_of, given_of}
use Rattle.cfi_table.proofs.frames.FrameTable.rows_of.Goals as goal

pub returns-clause-first : goal.returns-clause-first
returns-clause-first c =
    let frames : Frames = record { section = c.self.inside.section.items; fdes = c.self.inside.fdes } in
    rw (← c.self.view_is) (first_of frames c.deref.result.now c.items.result.now c.in-Some.fde _ c.range.result c.args.number c.of.result c.deref.ensures.value c.items.ensures c.fde_at_index.ensures c.in-Some.is c.range.ensures c.if-not-is_first.ensures c.of.ensures)

pub returns-clause-number : goal.returns-clause-number
returns-clause-number c =
    let frames : Frames = record { section = c.self.inside.section.items; fdes = c.self.inside.fdes } in
    rw (← c.self.view_is) (given_of frames c.deref.result.now c.items.result.now c.in-Some.fde _ c.args.number c.of.result c.deref.ensures.value c.items.ensures c.fde_at_index.ensures c.in-Some.is c.of.ensures)
