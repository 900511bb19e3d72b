use Rattle.std.proofs.Common.{◌∙◌, refl}
use Rattle.dwarf_info.specs.declared.tables.Tables.{Tables}
use Rattle.dwarf_info.proofs.Suffixes.{one_more, is_last, longer, same_front}
use Rattle.dwarf_info.proofs.tables.Tables.keep_read.Goals as goal

pub returns : goal.returns
returns c = λ section tables is.
    one_more section c.args.self.now (let new : Tables = record { read = c.push.new.self; suffixes = c.add_suffix.new.suffixes; room = c.args.self.now.room; lists = c.args.self.now.lists } in new) c.args.offset _ tables
    (longer c.args.self.now.read.items c.push.new.self.items c.args.table c.in_ok-push.ensures.items)
    (same_front c.args.self.now.read.items c.push.new.self.items c.args.table c.in_ok-push.ensures.items)
    c.in_ok-add_suffix.ensures refl
    (is_last section c.args.self.now.read.items c.push.new.self.items c.args.table _ c.args.offset c.in_ok-push.ensures.items (c.len.ensures ∙ c.args.self.now.read.ok.0) refl is)
