use Rattle.std.proofs.Common.{rules, ◌∙◌, ℕ, List, [], slice_index, ap}
use Rattle.atomic_table.specs.Table.{Me}
use Rattle.stripe_table.specs.declared.view.PassView.{PassView}
use Rattle.stripe_table.specs.declared.stripe.Stripe.{Stripe}
use Rattle.stripe_table.specs.Views.{after_present}
use Rattle.stripe_table.specs.private.Plays.{carried}
use Rattle.stripe_table.proofs.Allowed.{meet_allowed}
use Rattle.stripe_table.proofs.steps.put_present.Goals as goal

pub store-requires : goal.store-requires
store-requires c = let r = c.requires.2 in (search rules, search rules, meet_allowed c.args.table.now.key.value _ _ _ _ _ r.0 r.1.0.3 r.1.1 r.1.2 r.2 r.3 r.4)

pub returns : goal.returns
returns c = let e = c.store.ensures in (
  (e.0, e.1),
  λ x at. e.2 c.args.stripe c.args.count c.requires.2.1.1
      ∙ ap (λ (cs : List (ℕ × Stripe)). let m : Me Stripe PassView = (after_present c.args.stripe (carried cs).index (slice_index (carried cs).names (carried cs).index) c.args.seat.now.me.0, []) in m) at,
)
