use Rattle.std.proofs.Common.{rules, ◌≡◌, Err}
use Rattle.dwarf_forms.specs.Lists.{list_from}
use Rattle.dwarf_forms.specs.Abbreviations.{attribute_from, attributes_from}
use Rattle.dwarf_forms.proofs.Items.{goes_on, closes, fails_at, runs_out}
use Rattle.dwarf_forms.proofs.table.attributes.Goals as goal

pub returns-in_err-attribute : goal.returns-in_err-attribute
returns-in_err-attribute c =
    let failed : attributes_from c.args.reader.now ≡ Err c.in_err-attribute.field-0.0 = rw (← c.left-room.ensures) (fails_at c.in_err-attribute.field-0.0 attribute_from c.loop.items.items c.left-room.result c.loop.counter c.loop.reader
    (list_from attribute_from c.left-room.result c.args.reader.now) c.loop-test.true c.in_err-attribute.ensures c.loop.invariant) in
    search rules

pub returns-in-None : goal.returns-in-None
returns-in-None c =
    rw (← c.left-room.ensures, c.in_ok-from_vec-in-None.ensures) (closes attribute_from c.loop.items.items c.left-room.result c.loop.counter c.loop.reader c.attribute.new.reader
    (list_from attribute_from c.left-room.result c.args.reader.now) c.loop-test.true (rw c.in-None.is at c.in_ok-attribute.ensures) c.loop.invariant)

pub loop-preserved : goal.loop-preserved
loop-preserved c =
    rw (c.in_ok-push-in-Some.ensures.items) (goes_on attribute_from c.loop.items.items c.left-room.result c.loop.counter c.loop.reader c.attribute.new.reader c.in-Some.spec
    (list_from attribute_from c.left-room.result c.args.reader.now) c.loop-test.true (rw c.in-Some.is at c.in_ok-attribute.ensures) c.loop.invariant)

pub returns : goal.returns
returns c =
    rw (← c.left-room.ensures, c.missing.ensures) (runs_out attribute_from c.loop.items.items c.left-room.result c.loop.counter c.loop.reader
    (list_from attribute_from c.left-room.result c.args.reader.now) c.loop-test.false c.loop.invariant)
