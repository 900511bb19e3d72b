use Rattle.std.proofs.Common.{◌≡◌, List, [], ◌∷◌, map, replicate, sym, subst}
use mathlib.Core.Option.{some}
use Rattle.stripe_table.specs.declared.stripe.Stripe.{Stripe}
use Rattle.stripe_table.specs.Views.{first_view}
use Rattle.stripe_table.specs.Machine.{MergeState, Reached, begins}
use Rattle.stripe_table.proofs.Passes.{blank, vacant}
use Rattle.stripe_table.proofs.ends.open.Goals as goal

pub new-requires : goal.new-requires
new-requires c = let is : c.in_ok-all.all.items ≡ replicate 16 vacant = c.in_ok-all.ensures in
    subst (λ (l : List Stripe). let z : MergeState = record { words = blank 17; homes = map some l; views = first_view c.args.plan.now.value ∷ [] } in Reached c.args.plan.now.value z) (sym is) begins
