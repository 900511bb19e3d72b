use Rattle.std.proofs.Common.{Some, refl, ◌∙◌}
use Rattle.cfi_unwind.proofs.Made.{follows_made}
use Rattle.cfi_unwind.proofs.prepare.push_saved.Goals as goal

pub returns-clause-id : goal.returns-clause-id
returns-clause-id c =
    follows_made c.args.unwind_rules.now.items c.push.new.self.items _ _ c.make_in_place.new.unwind_rule c.len-id.result (Some c.args.rules.now) c.in_ok-push.ensures.items (c.len-id.ensures ∙ c.args.unwind_rules.now.ok.0) refl c.in_ok-make_in_place.ensures
