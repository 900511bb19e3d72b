use Rattle.std.proofs.Common.{◌≡◌, ◌∙◌, List, length, get_or, sym, ap, subst, arith}
use Rattle.stripe_table.specs.Fits.{Fits}
use Rattle.stripe_table.specs.Ends.{stripe_names}
use Rattle.stripe_table.proofs.Settling.{long_there, fits_there}
use Rattle.core.specs.Mem.Slots.{slots_counts}
use Rattle.stripe_table.specs.Limits.{Chunks, IsLimited}
use Rattle.stripe_table.specs.Stripe.{empty_stripe}
use Rattle.stripe_table.specs.declared.view.PassView.{PassView}
use Rattle.stripe_table.specs.declared.stripe.Stripe.{Stripe}
use Rattle.stripe_table.specs.Values.{PassValue, StripesValue}
use Rattle.stripe_table.proofs.Passes.{closes, IsLast}
use Rattle.stripe_table.proofs.Allowed.{last_ruled}
use Rattle.stripe_table.proofs.table.Stripes.close.Goals as goal

last : (c : goal.After-gather) → IsLast c.args.self.plan c.args.pass.view c.gather.result.items
last c = let k : c.pass.inside.seat.me.0 ≡ c.args.pass.view = ap (λ (s : PassValue). s.view) c.pass.view_is in let f = c.requires.first in
    subst (λ (z : Chunks × PassView × List Stripe). IsLast z.0 z.1 z.2) (λ i. (ap (λ o. o.plan) c.self.view_is i, k i, sym c.gather.ensures i))
    (closes c.self.inside.table.shared.key.value _ _ _ c.pass.inside.seat.me.0 c.pass.invariant.0.0 (ap (λ (v : PassView). v.first) k ∙ f.0) (ap (λ (v : PassView). v.hold) k ∙ f.1)
    (ap (λ (v : PassView). v.splits) k ∙ (f.2 ∙ sym (ap (λ (v : PassView). v.joins) k))) (last_ruled c.self.inside.table.shared.key.value _ _ _ _ c.close_with-closed.ensures.values.2))

pub returns-clause-fits : goal.returns-clause-fits
returns-clause-fits c = (last c).1

pub returns-clause-drawn : goal.returns-clause-drawn
returns-clause-drawn c = (last c).2

pub returns-clause-busy : goal.returns-clause-busy
returns-clause-busy c = (last c).3

pub returns-clause-sum : goal.returns-clause-sum
returns-clause-sum c = (last c).4

pub returns-clause-once : goal.returns-clause-once
returns-clause-once c = (last c).5

pub returns-clause-each : goal.returns-clause-each
returns-clause-each c = (last c).6

pub returns-clause-names : goal.returns-clause-names
returns-clause-names c = λ t lt. long_there c.args.self.plan c.gather.result.items t _ ((last c).1 t lt)

pub invariant_of-result : goal.invariant_of-result
invariant_of-result c = let kept : c.of-closer.result.value ≡ c.args.pass = c.of-closer.ensures in let plan : c.args.pass.view.plan ≡ c.args.self.plan = (last c).0 in
    let same : c.args.self.plan ≡ c.of-closer.result.value.view.plan = sym (ap (λ (s : PassValue). s.view.plan) kept ∙ plan) in let row = c.close_with-closed.result.slots in record {
      limited = subst IsLimited (ap (λ (o : StripesValue). o.plan) c.self.view_is ∙ same) c.self.invariant.limited;
      fit = (
        (let n = ap length c.gather.ensures in let a = (slots_counts row).0 in let b = c.close_with-closed.ensures.counts.1 in let d = c.self.invariant.slots in omega arith),
        λ t lt. subst (λ (p : Chunks). Fits p t (length (stripe_names c.gather.result.items t)) (get_or c.gather.result.items t empty_stripe)) same (fits_there c.args.self.plan c.gather.result.items t _ ((last c).1 t lt)),
      );
    }

pub returns-clause-all : goal.returns-clause-all
returns-clause-all c = (invariant_of-result c).fit
