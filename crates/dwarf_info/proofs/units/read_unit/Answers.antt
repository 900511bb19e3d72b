use Rattle.std.proofs.Common.{◌∙◌, ap, arith}
use Rattle.prof_bytes.specs.Fields.{Input}
use Rattle.dwarf_info.specs.declared.fault.InfoFault.{InfoFault}
use Rattle.dwarf_info.specs.Sections.{sections_of}
use Rattle.dwarf_info.proofs.CodedEntries.{was_read}
use Rattle.dwarf_info.proofs.Marks.{part_lies, first_lies}
use Rattle.dwarf_info.proofs.UnitMoves.{unit_passed}
use Rattle.dwarf_info.proofs.units.read_unit.Goals as goal

pub returns-in-None-clause-read : goal.returns-in-None-clause-read
returns-in-None-clause-read c =
    unit_passed (sections_of c.args.sections.now) c.args.index c.offset_of-offset.result c.offset_of-end.result c.args.reader.now c.set_missing.new.self c.in_ok-body.body c.part.new.self c.read_header.new.reader
    c.offset_of-offset.ensures c.set_missing.ensures (was_read c.in_ok-body.body c.set_missing.new.self c.part.new.self _ c.in_ok-body.ensures) c.offset_of-end.ensures (rw c.in-None.is at c.in_ok-read_header.ensures.header)

pub returns-in-None-clause-behind : goal.returns-in-None-clause-behind
returns-in-None-clause-behind c =
    let lies = part_lies c.set_missing.new.self c.in_ok-body.body c.part.new.self (was_read c.in_ok-body.body c.set_missing.new.self c.part.new.self _ c.in_ok-body.ensures) in
    let on = lies.2 in
    let same = ap (λ (i : Input InfoFault). i.at.offset) c.set_missing.ensures in
    let behind = c.requires.behind in
    omega arith

pub read_headed-requires-clause-behind : goal.read_headed-requires-clause-behind
read_headed-requires-clause-behind c =
    let lies = part_lies c.set_missing.new.self c.in_ok-body.body c.part.new.self (was_read c.in_ok-body.body c.set_missing.new.self c.part.new.self _ c.in_ok-body.ensures) in
    let on = lies.0 in
    let same = ap (λ (i : Input InfoFault). i.at.offset) c.set_missing.ensures in
    let behind = c.requires.behind in
    let first = first_lies c.offset_of-offset.result c.offset_of-end.result c.in_ok-body.body c.read_header.new.reader c.in-Some.header (rw c.in-Some.is at c.in_ok-read_header.ensures.header) (rw c.in-Some.is at c.in_ok-read_header.ensures.stands) in
    omega arith

pub returns-in_ok-unit-in-Some-clause-behind : goal.returns-in_ok-unit-in-Some-clause-behind
returns-in_ok-unit-in-Some-clause-behind c =
    let lies = part_lies c.set_missing.new.self c.in_ok-body.body c.part.new.self (was_read c.in_ok-body.body c.set_missing.new.self c.part.new.self _ c.in_ok-body.ensures) in
    let on = lies.2 in
    let same = ap (λ (i : Input InfoFault). i.at.offset) c.set_missing.ensures in
    let behind = c.requires.behind in
    let stands = rw c.in-Some.is at c.in_ok-read_header.ensures.stands in
    let ends = stands.end_is ∙ c.offset_of-end.ensures in
    c.in_ok-unit-in-Some.ensures.end c.part.new.self.at.offset (omega arith) (omega arith)
