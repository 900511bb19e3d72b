use Rattle.std.proofs.Common.{◌∙◌, ap, subst, arith, rules}
use Rattle.stripe_table.specs.Values.{PassValue}
use Rattle.stripe_table.specs.private.Seats.{CarriesAt}
use Rattle.stripe_table.specs.declared.view.Hold.{Hold}
use Rattle.stripe_table.proofs.Allowed.{join_allowed}
use Rattle.stripe_table.proofs.table.Stripes.join.Goals as goal

pub join_seat-requires : goal.join_seat-requires
join_seat-requires c = let words = c.self.invariant.words in let free = ap (λ (s : PassValue). s.view.hold) c.other.view_is ∙ c.requires.first.1 in (
  search rules,
  search rules,
  subst (λ (h : Hold). CarriesAt c.other.inside.seat.me.0.plan h c.other.inside.seat.me.0.taken c.other.inside.seat.me.1) free c.other.invariant.0.1,
  omega arith,
  join_allowed c.self.inside.table.shared.key.value _ _ _ _ c.pass.invariant.0.0 (ap (λ (s : PassValue). s.view.first) c.pass.view_is ∙ c.requires.first.0) c.other.invariant.0.0 free,
)
