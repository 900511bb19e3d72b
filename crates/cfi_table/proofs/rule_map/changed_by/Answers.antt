use Rattle.cfi_table.proofs.Changed.{changes, changes_back}
use Rattle.cfi_table.proofs.rule_map.changed_by.Goals as goal

pub returns-in-Kept : goal.returns-in-Kept
returns-in-Kept c regs are = rw c.in-Kept.is (changes_back c.args.changed regs c.args.register c.requires are)

pub returns-in_default : goal.returns-in_default
returns-in_default c regs are = changes c.args.changed regs c.args.register c.args.rule c.requires are
