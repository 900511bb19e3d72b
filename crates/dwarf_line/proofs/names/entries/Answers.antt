use Rattle.std.proofs.Common.{◌≡◌, ◌∙◌, ◌-◌, ◌+◌, List, map, Err, ap, rules}
use Rattle.dwarf_line.specs.declared.names.NameEntry.{NameEntry}
use Rattle.dwarf_forms.proofs.Items.{with_front}
use Rattle.dwarf_line.specs.Names.{NamedPath, repeated_from, name_entry_from}
use Rattle.dwarf_line.specs.private.NameEntries.{named_entry}
use Rattle.dwarf_line.proofs.CountedItems.{goes_on, is_done, fails_at}
use Rattle.dwarf_line.proofs.NameEntries.{kept_more}
use Rattle.dwarf_line.proofs.names.entries.Goals as goal

pub returns-in_err-entry : goal.returns-in_err-entry
returns-in_err-entry c =
    let item = name_entry_from c.args.texts.now c.args.formats.now in
    let failed : repeated_from (name_entry_from c.args.texts.now c.args.formats.now) c.args.count c.args.reader.now ≡ Err c.in_err-entry.field-0.0 =
    fails_at c.in_err-entry.field-0.0 item (map (named_entry c.has_index-indexed.result) c.loop.entries.items) c.args.count c.loop.counter c.loop.reader (repeated_from item c.args.count c.args.reader.now) c.loop-test.true c.in_err-entry.ensures c.loop.invariant in
    search rules

pub loop-preserved : goal.loop-preserved
loop-preserved c =
    let item = name_entry_from c.args.texts.now c.args.formats.now in
    let named : List NameEntry → List NamedPath = map (named_entry c.has_index-indexed.result) in
    ap (λ (front : List NamedPath). with_front front (repeated_from item (c.args.count - (c.loop.counter + 1)) c.read_entry.new.reader))
    (ap named c.in_ok-push.ensures.items
    ∙ kept_more c.args.texts.now c.args.formats.now c.loop.reader c.read_entry.new.reader c.in_ok-entry.entry c.has_index-indexed.result c.loop.entries.items c.kept_entry.result
    c.in_ok-entry.ensures c.has_index-indexed.ensures c.kept_entry.ensures.path c.kept_entry.ensures.index)
    ∙ goes_on item (map (named_entry c.has_index-indexed.result) c.loop.entries.items) c.args.count c.loop.counter c.loop.reader c.read_entry.new.reader c.in_ok-entry.entry (repeated_from item c.args.count c.args.reader.now) c.loop-test.true c.in_ok-entry.ensures c.loop.invariant

pub returns : goal.returns
returns c =
    let item = name_entry_from c.args.texts.now c.args.formats.now in
    is_done item (map (named_entry c.has_index-indexed.result) c.loop.entries.items) c.args.count c.loop.counter c.loop.reader (repeated_from item c.args.count c.args.reader.now) c.loop-test.false c.loop.invariant
