use Rattle.std.proofs.Common.{Some, None}
use Rattle.dwarf_forms.proofs.Texts.{cut_front}
use Rattle.dwarf_forms.proofs.text.SectionText.cut.Goals as goal

pub returns-in-Some : goal.returns-in-Some
returns-in-Some c = cut_front c.first_bytes-bytes.result.now c.args.self.now.bytes.now c.args.most (Some c.in-Some.text.now) c.first_bytes-bytes.ensures c.in-Some.ensures

pub returns-in-None : goal.returns-in-None
returns-in-None c = cut_front c.first_bytes-bytes.result.now c.args.self.now.bytes.now c.args.most None c.first_bytes-bytes.ensures c.in-None.ensures
