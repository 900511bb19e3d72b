use Rattle.std.proofs.Common.{ap, length, arith}
use Rattle.dwarf_inline.proofs.ShortDetails.{wholes_long}
use Rattle.dwarf_inline.proofs.short_details.Details.len.Goals as goal

pub returns : goal.returns
returns c = let is = c.len.ensures in omega (arith, wholes_long 0 c.self.inside.list.items, ap length c.self.view_is)
