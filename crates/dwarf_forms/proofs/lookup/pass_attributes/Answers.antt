use Rattle.std.proofs.Common.{rules, ◌≡◌, ◌++◌, ◌∷◌, [], Err, ap}
use Rattle.dwarf_forms.specs.Lists.{list_from}
use Rattle.dwarf_forms.specs.Abbreviations.{attribute_from, attributes_from}
use Rattle.dwarf_forms.specs.private.Passed.{after_of}
use Rattle.dwarf_forms.proofs.Items.{goes_on, closes, fails_at, runs_out}
use Rattle.dwarf_forms.proofs.lookup.pass_attributes.Goals as goal

pub returns-in_err-attribute : goal.returns-in_err-attribute
returns-in_err-attribute c =
    let failed : attributes_from c.args.reader.now ≡ Err c.in_err-attribute.field-0.0 = rw (← c.left-room.ensures) (fails_at c.in_err-attribute.field-0.0 attribute_from c.loop.invariant.0 c.left-room.result c.loop.counter c.loop.reader
    (list_from attribute_from c.left-room.result c.args.reader.now) c.loop-test.true c.in_err-attribute.ensures c.loop.invariant.1) in
    let all : after_of (attributes_from c.args.reader.now) ≡ Err c.in_err-attribute.field-0.0 = ap after_of failed in
    search rules

pub returns-in-None : goal.returns-in-None
returns-in-None c =
    rw (← c.left-room.ensures) (ap after_of (closes attribute_from c.loop.invariant.0 c.left-room.result c.loop.counter c.loop.reader c.attribute.new.reader
    (list_from attribute_from c.left-room.result c.args.reader.now) c.loop-test.true (rw c.in-None.is at c.in_ok-attribute.ensures) c.loop.invariant.1))

pub loop-preserved : goal.loop-preserved
loop-preserved c = (
  c.loop.invariant.0 ++ c.in-Some.field-0 ∷ [],
  goes_on attribute_from c.loop.invariant.0 c.left-room.result c.loop.counter c.loop.reader c.attribute.new.reader c.in-Some.field-0
      (list_from attribute_from c.left-room.result c.args.reader.now) c.loop-test.true (rw c.in-Some.is at c.in_ok-attribute.ensures) c.loop.invariant.1,
)

pub returns : goal.returns
returns c =
    rw (← c.left-room.ensures, c.missing.ensures) (ap after_of (runs_out attribute_from c.loop.invariant.0 c.left-room.result c.loop.counter c.loop.reader
    (list_from attribute_from c.left-room.result c.args.reader.now) c.loop-test.false c.loop.invariant.1))
