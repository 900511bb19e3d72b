use Rattle.std.proofs.Common.{◌∙◌, ℕ, sym, ap}
use Rattle.stripe_table.specs.declared.view.Hold.TheVariants.{Holds}
use Rattle.stripe_table.proofs.Tested.{keeps_laid}
use Rattle.stripe_table.proofs.tests.lay_sixth.Goals as goal

pub lay-requires-clause-held : goal.lay-requires-clause-held
lay-requires-clause-held c = let h = c.requires.held in (h.0, h.1 ∙ ap (λ (s : ℕ). Holds s h.0) (sym c.requires.piece.1))

pub returns-clause-free : goal.returns-clause-free
returns-clause-free c = let h = c.requires.held in let is = h.1 ∙ ap (λ (s : ℕ). Holds s h.0) (sym c.requires.piece.1) in
    (keeps_laid c.args.piece.now.stripe h.0 c.args.piece.now.chunk c.args.pass.now.view c.lay.new.pass.view c.lay.result (c.lay.ensures.laid h.0 is)).1

pub returns-clause-same : goal.returns-clause-same
returns-clause-same c = let h = c.requires.held in let is = h.1 ∙ ap (λ (s : ℕ). Holds s h.0) (sym c.requires.piece.1) in
    (keeps_laid c.args.piece.now.stripe h.0 c.args.piece.now.chunk c.args.pass.now.view c.lay.new.pass.view c.lay.result (c.lay.ensures.laid h.0 is)).0
