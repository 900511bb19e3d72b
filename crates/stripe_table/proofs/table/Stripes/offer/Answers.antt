use Rattle.std.proofs.Common.{◌≡◌, ◌∙◌, ap}
use Rattle.stripe_table.specs.Values.{PassValue}
use Rattle.stripe_table.specs.Views.{owes}
use Rattle.stripe_table.specs.declared.view.PassView.{PassView}
use Rattle.stripe_table.proofs.Owing.{others, still_free}
use Rattle.stripe_table.proofs.table.Stripes.offer.Goals as goal

pub returns-clause-free : goal.returns-clause-free
returns-clause-free c = let same : c.pass.inside.seat.me.0 ≡ c.args.pass.now.view = ap (λ (s : PassValue). s.view) c.pass.view_is in
    still_free c.args.piece.now.stripe c.args.piece.now.chunk c.pass.inside.seat.me.0 c.take_and_lay.new.pass.view c.take_and_lay.result c.take_and_lay.ensures.offered (ap (λ (v : PassView). v.hold) same ∙ c.requires.free)

pub returns-clause-others : goal.returns-clause-others
returns-clause-others c = let same : c.pass.inside.seat.me.0 ≡ c.args.pass.now.view = ap (λ (s : PassValue). s.view) c.pass.view_is in
    λ d t ne. others c.args.piece.now.stripe c.args.piece.now.chunk c.pass.inside.seat.me.0 c.take_and_lay.new.pass.view c.take_and_lay.result c.take_and_lay.ensures.offered d t ne ∙ ap (owes d t) same
