use Rattle.stripe_table.proofs.tests.let_go_sixth.Goals as goal

pub let_go-requires-clause-held : goal.let_go-requires-clause-held
let_go-requires-clause-held c = let h = c.requires.held in (6, h.0, h.1)
