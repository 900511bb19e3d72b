use Rattle.std.proofs.Common.{◌∙◌}
use Rattle.eh_frame.proofs.Listed.{own_gives}
use Rattle.eh_frame.proofs.entry.put_fde_instructions.Goals as goal

pub returns-clause-put : goal.returns-clause-put
returns-clause-put c start initial same =
    own_gives c.args.address c.args.cie.now start c.args.reader.now initial _ c.translate_instructions.new.checker c.args.out.now.items c.translate_instructions.new.out.items c.translate_instructions.result
    (c.after-checker.ensures ∙ same) (rw c.addresses_of-addresses.ensures at c.translate_instructions.ensures.gives)
