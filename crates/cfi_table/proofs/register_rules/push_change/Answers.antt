use Rattle.cfi_table.proofs.Undone.{kept}
use Rattle.cfi_table.proofs.register_rules.push_change.Goals as goal

pub returns-clause-same : goal.returns-clause-same
returns-clause-same c rule = kept c.args.regs.now c.args.register c.rule-rule.result rule c.args.undo.now.items c.push.new.self.items c.requires c.rule-rule.ensures c.in_ok-push.ensures.items
