use Rattle.std.proofs.Common.{◌≡◌, set, sym, subst}
use Rattle.scope_types.specs.declared.path.Piece.{Piece}
use Rattle.stripe_table.specs.Limits.{IsPieceOf}
use Rattle.stripe_table.specs.Ends.{SetValue, AllFit, stripe_names}
use Rattle.stripe_table.specs.Views.{occurrences}
use Rattle.stripe_table.proofs.Settling.{settle_room, either_way}
use Rattle.stripe_table.proofs.ends.StripeSet.settle.Goals as goal

of : (q : Piece) (a b : SetValue) → a ≡ b → IsPieceOf b.view.plan q → IsPieceOf a.view.plan q
of q a b is h = subst (λ (z : SetValue). IsPieceOf z.view.plan q) (sym is) h

missing : (q : Piece) (a b : SetValue) → a ≡ b → occurrences q.chunk (stripe_names b.stripes q.stripe) ≡ 0 → occurrences q.chunk (stripe_names a.stripes q.stripe) ≡ 0
missing q a b is h = subst (λ (z : SetValue). occurrences q.chunk (stripe_names z.stripes q.stripe) ≡ 0) (sym is) h

pub add-requires : goal.add-requires
add-requires c = let q = c.args.piece.now in let is = c.self.view_is in record {
  room = settle_room _ c.self.inside.stripes.items q c.index_mut.result.now c.self.invariant.fit c.index_mut.ensures.value (of q _ _ is c.requires.piece) (missing q _ _ is c.requires.missing) c.self.invariant.limited;
}

fits : (c : goal.After-self-1) → AllFit c.self.inside.closer.value.view.plan (set c.self.inside.stripes.items c.args.piece.now.stripe c.add.new.self)
fits c = let q = c.args.piece.now in let is = c.self.view_is in
    either_way _ c.self.inside.stripes.items q c.index_mut.result.now c.self.invariant.fit c.index_mut.ensures.value (of q _ _ is c.requires.piece) (missing q _ _ is c.requires.missing) c.add.result c.add.new.self c.add.ensures.ok c.add.ensures.err

pub invariant_of-self : goal.invariant_of-self
invariant_of-self c = record { limited = c.self.invariant.limited; fit = fits c }

pub returns-clause-fits : goal.returns-clause-fits
returns-clause-fits c = fits c
