use Rattle.elf_image.proofs.Ends.{text_is, text_is_not}
use Rattle.elf_image.proofs.string_table.StringTable.string_at.Goals as goal

pub returns-then-end-self : goal.returns-then-end-self
returns-then-end-self c = rw (← c.self.view_is) (text_is c.self.inside.bytes.now c.args.offset c.zero_from-end.result c.zero_from-end.ensures.zero c.if-start-self.false c.if-end-self.true)

pub returns-else-end-self : goal.returns-else-end-self
returns-else-end-self c = rw (← c.self.view_is) (text_is_not c.self.inside.bytes.now c.args.offset c.zero_from-end.result c.zero_from-end.ensures.zero c.if-start-self.false c.if-end-self.false)
