use Rattle.std.proofs.Common.{rules, ◌≡◌, ◌<◌, ℕ, ◌∙◌, subst, arith}
use Rattle.stripe_table.specs.Ends.{stripe_names}
use Rattle.stripe_table.specs.Views.{occurrences}
use Rattle.stripe_table.specs.declared.stripe.Stripe.{Stripe}
use Rattle.scope_types.specs.declared.path.Piece.{Piece}
use Rattle.std.proofs.Common.{List}
use Rattle.merge_crew.proofs.Settling.{others_after, named_after}
use Rattle.merge_crew.proofs.settle.settle_pieces.Goals as goal

pub loop-stripe-preserved : goal.loop-stripe-preserved
loop-stripe-preserved c = let e = c.settle_piece.ensures in let k = c.in_ok-settled.ensures in let i = c.loop-stripe.invariant in
    let q : Piece = c.piece.result.now in let s : ℕ = c.loop-stripe.stripe in
    let a : List Stripe = c.args.set.now.stripes in let b : List Stripe = c.loop-stripe.set.stripes in let d : List Stripe = c.settle_piece.new.set.stripes in
    let chunk : q.chunk ≡ c.args._chunk = search rules in
    let stripe : q.stripe ≡ s = search rules in
    let here : (f t : ℕ) → (f ≡ c.args._chunk → t ≡ s → ⊥) → occurrences f (stripe_names d t) ≡ occurrences f (stripe_names b t) = λ f t ne. e.others f t (λ x y. ne (x ∙ chunk) (y ∙ stripe)) in
    let named : 0 < occurrences c.args._chunk (stripe_names d s) = subst (λ (z : ℕ × ℕ). 0 < occurrences z.0 (stripe_names d z.1)) (λ j. (chunk j, stripe j)) k.named in
    let sum = k.count.0 in let one = k.count.1 in let before = i.4 in let few = i.5 in
    (e.view ∙ i.0, e.fits, named_after a b d c.args._chunk s i.3 here i.2 named, others_after a b d c.args._chunk s i.3 here, omega arith, omega arith, e.offered ∙ i.6)
