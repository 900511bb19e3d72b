use Rattle.std.proofs.Common.{ap}
use Rattle.dwarf_inline.specs.private.ShortDetails.{wholes}
use Rattle.dwarf_inline.proofs.short_details.Details.new.Goals as goal

pub returns : goal.returns
unfolding wholes
returns c = ap (wholes 0) c.new.ensures.items
