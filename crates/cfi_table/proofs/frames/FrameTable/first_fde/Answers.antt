use Rattle.address_ranges.specs.Ranges.{holds}
use Rattle.cfi_table.specs.Frames.{fde_range}
use Rattle.cfi_table.specs.private.Placed.{IsFdeIn}
use Rattle.cfi_table.proofs.Entries.{found_holds}
use Rattle.cfi_table.proofs.frames.FrameTable.first_fde.Goals as goal

pub returns-clause-placed : goal.returns-clause-placed
returns-clause-placed c =
    rw (← c.self.view_is, c.copied.ensures, c.first.ensures)
    (found_holds (IsFdeIn c.self.inside.section.items) (λ fde. holds c.args.pc (fde_range fde)) c.self.inside.fdes c.self.invariant.placed)
