use Rattle.std.proofs.Common.{ℕ, Bool, List, [], ◌∷◌, ◌++◌, sym, ap, ◌∙◌, subst}
use Rattle.stripe_table.specs.private.Fields.{MarksNames}
use Rattle.stripe_table.proofs.Marks.{marked}
use Rattle.stripe_table.proofs.stripe.Stripe.add.Goals as goal

pub invariant_of-self-2 : goal.invariant_of-self-2
invariant_of-self-2 c = let names = c.push_reserved.ensures.items ∙ ap (λ (l : List ℕ). l ++ c.args.piece.now.chunk ∷ []) c.reserve.ensures.items in
    subst (λ (z : List Bool × List ℕ). MarksNames z.0 z.1) (λ i. (sym c.mark.ensures i, sym names i)) (marked c.self.inside.marks.items c.self.inside.names.items c.args.piece.now.chunk c.self.invariant)
