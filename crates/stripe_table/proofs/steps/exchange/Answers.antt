use Rattle.std.proofs.Common.{rules, List, ◌∷◌, ℕ, refl, ap, ◌∙◌}
use Rattle.stripe_table.proofs.Allowed.{take_allowed}
use Rattle.stripe_table.specs.Views.{after_take, after_busy}
use Rattle.stripe_table.specs.declared.stripe.Stripe.{Stripe}
use Rattle.stripe_table.specs.declared.view.PassView.{PassView}
use Rattle.atomic_table.specs.Table.{Me}
use Rattle.stripe_table.proofs.steps.exchange.Goals as goal

pub compare_exchange-word-requires : goal.compare_exchange-word-requires
compare_exchange-word-requires c = let r = c.requires in (search rules, search rules, take_allowed c.args.table.now.key.value _ _ _ _ _ r.0.0.3 r.0.1 r.2 r.3 r.1)

pub returns-then-word-seen : goal.returns-then-word-seen
returns-then-word-seen c = let e = c.compare_exchange-word.ensures in let t = (e.2 c.args.stripe refl).0 c.if-word-seen.true in
    ((e.0, e.1), (c.args.seen, t.0, t.1, t.2 ∙ ap (λ (cs : List (ℕ × Stripe)). let m : Me Stripe PassView = (after_take c.args.stripe c.args.seen t.0 c.args.seat.now.me.0, (c.args.stripe, t.0) ∷ cs) in m) c.requires.0.2))

pub returns-else-word-seen : goal.returns-else-word-seen
returns-else-word-seen c = let e = c.compare_exchange-word.ensures in let t = (e.2 c.args.stripe refl).1 c.if-word-seen.false in
    ((e.0, e.1), t ∙ ap (λ (cs : List (ℕ × Stripe)). let m : Me Stripe PassView = (after_busy c.args.stripe c.args.seen c.compare_exchange-word.result c.args.seat.now.me.0, cs) in m) c.requires.0.2)
