use Rattle.std.proofs.Common.{rules, ◌∙◌, ℕ, List, [], slice_index, ap}
use Rattle.atomic_table.specs.Table.{Me}
use Rattle.stripe_table.specs.declared.view.PassView.{PassView}
use Rattle.stripe_table.specs.declared.stripe.Stripe.{Stripe}
use Rattle.stripe_table.specs.Views.{after_put}
use Rattle.stripe_table.specs.private.Plays.{carried}
use Rattle.stripe_table.proofs.Allowed.{put_allowed}
use Rattle.stripe_table.proofs.steps.put_longer.Goals as goal

pub store-requires : goal.store-requires
store-requires c = let r = c.requires.2 in (search rules, search rules, put_allowed c.args.table.now.key.value _ _ _ _ _ r.0 r.1.0.3 r.1.1 r.1.2 r.2 r.3)

pub returns : goal.returns
returns c = let e = c.store.ensures in (
  (e.0, e.1),
  λ x at. e.2 c.args.stripe c.args.count c.requires.2.1.1
      ∙ ap (λ (cs : List (ℕ × Stripe)). let m : Me Stripe PassView = (after_put c.args.stripe c.args.count (slice_index (carried cs).names c.args.count) c.args.seat.now.me.0, []) in m) at,
)
