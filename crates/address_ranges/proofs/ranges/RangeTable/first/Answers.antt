use Rattle.std.proofs.Common.{◌∙◌, ap, map, sym}
use Rattle.std.specs.Option.{option_and_then}
use Rattle.std.specs.Prelude.{Option, ℕ, slice_get}
use Rattle.std.proofs.lemmas.Iterator.Adapters.{position_from-zero}
use Rattle.address_ranges.specs.Ranges.{holds}
use Rattle.address_ranges.proofs.Places.{find_by_table}
use Rattle.address_ranges.proofs.ranges.RangeTable.first.Goals as goal

pub returns : goal.returns
returns g c = rw (c.item_at.ensures, c.holder_at.ensures, c.from.ensures, c.deref.ensures.value, c.deref-2.ensures.value, c.self.invariant.holders c.args.address, ← c.self.view_is) (sym (find_by_table (holds c.args.address) g.T.HasRange.range_of c.self.inside.items.items ∙ ap (λ (o : Option ℕ). option_and_then (λ i. slice_get c.self.inside.items.items i) o) (position_from-zero (holds c.args.address) (map g.T.HasRange.range_of c.self.inside.items.items))))
