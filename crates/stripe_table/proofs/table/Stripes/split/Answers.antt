use Rattle.std.proofs.Common.{◌∙◌, ap, arith, rules}
use Rattle.stripe_table.specs.Values.{PassValue}
use Rattle.stripe_table.proofs.Allowed.{split_allowed}
use Rattle.stripe_table.proofs.table.Stripes.split.Goals as goal

pub split_seat-seat-requires : goal.split_seat-seat-requires
split_seat-seat-requires c = let words = c.self.invariant.words in (
  search rules,
  omega arith,
  split_allowed c.self.inside.table.shared.key.value _ _ c.pass.invariant.0.0 (ap (λ (s : PassValue). s.view.first) c.pass.view_is ∙ c.requires.first.0),
)
