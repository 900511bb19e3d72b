use Rattle.std.proofs.Common.{◌≡◌, Ok}
use Rattle.dwarf_forms.specs.Abbreviations.{table_at}
use Rattle.dwarf_info.proofs.tables.Tables.keep.Goals as goal

pub returns-in_ok-keep_read-in-Read-clause-are : goal.returns-in_ok-keep_read-in-Read-clause-are
returns-in_ok-keep_read-in-Read-clause-are c = λ section are found.
    let read : table_at section c.args.offset ≡ Ok c.in-Read.table = rw c.in-Read.is at found in
    (c.in_ok-keep_read-in-Read.ensures section (c.make_room.ensures section are) read).are

pub returns-in_ok-keep_read-in-Read-clause-known : goal.returns-in_ok-keep_read-in-Read-clause-known
returns-in_ok-keep_read-in-Read-clause-known c = λ section are found.
    let read : table_at section c.args.offset ≡ Ok c.in-Read.table = rw c.in-Read.is at found in
    (c.in_ok-keep_read-in-Read.ensures section (c.make_room.ensures section are) read).has
