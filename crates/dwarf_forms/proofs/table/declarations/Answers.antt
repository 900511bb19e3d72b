use Rattle.std.proofs.Common.{rules}
use Rattle.dwarf_forms.specs.Lists.{list_from}
use Rattle.dwarf_forms.specs.Abbreviations.{declaration_from, table_from}
use Rattle.prof_bytes.specs.Outcome.{FailsBy}
use Rattle.dwarf_forms.proofs.Items.{goes_on, closes, fails_by, runs_out}
use Rattle.dwarf_forms.proofs.table.declarations.Goals as goal

pub returns-in_err-declaration : goal.returns-in_err-declaration
returns-in_err-declaration c =
    let failed : FailsBy c.in_err-declaration.field-0.0 (table_from c.args.reader.now) = rw (← c.left-room.ensures) (fails_by c.in_err-declaration.field-0.0 declaration_from c.loop.items.items c.left-room.result c.loop.counter c.loop.reader
    (list_from declaration_from c.left-room.result c.args.reader.now) c.loop-test.true c.in_err-declaration.ensures c.loop.invariant) in
    search rules

pub returns-in-None : goal.returns-in-None
returns-in-None c =
    rw (← c.left-room.ensures) (closes declaration_from c.loop.items.items c.left-room.result c.loop.counter c.loop.reader c.declaration.new.reader
    (list_from declaration_from c.left-room.result c.args.reader.now) c.loop-test.true (rw c.in-None.is at c.in_ok-declaration.ensures) c.loop.invariant)

pub loop-preserved : goal.loop-preserved
loop-preserved c =
    rw (c.in_ok-push-in-Some.ensures.items) (goes_on declaration_from c.loop.items.items c.left-room.result c.loop.counter c.loop.reader c.declaration.new.reader c.in-Some.declared
    (list_from declaration_from c.left-room.result c.args.reader.now) c.loop-test.true (rw c.in-Some.is at c.in_ok-declaration.ensures) c.loop.invariant)

pub returns : goal.returns
returns c =
    rw (← c.left-room.ensures, c.missing.ensures) (runs_out declaration_from c.loop.items.items c.left-room.result c.loop.counter c.loop.reader
    (list_from declaration_from c.left-room.result c.args.reader.now) c.loop-test.false c.loop.invariant)
