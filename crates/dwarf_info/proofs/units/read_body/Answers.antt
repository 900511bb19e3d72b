use Rattle.std.proofs.Common.{◌∙◌, length, ap, arith}
use Rattle.std.proofs.lemmas.List.{length-take}
use Rattle.prof_bytes.specs.Fields.{Input}
use Rattle.dwarf_info.specs.declared.fault.InfoFault.{InfoFault}
use Rattle.dwarf_info.specs.Sections.{sections_of}
use Rattle.dwarf_info.proofs.Marks.{body_is}
use Rattle.dwarf_info.proofs.units.read_body.Goals as goal

pub returns-clause-read : goal.returns-clause-read
returns-clause-read c =
    (body_is (sections_of c.args.sections.now) c.args.«unit».0 c.args.«unit».1 c.args.table.now c.args.body.now c.in_ok-offset.offset c.args.starts.now.offsets c.mark_entries.new.starts.offsets c.unit_context.result
    c.requires.stands c.requires.known c.in_ok-offset.ensures.entries c.unit_context.ensures).0

pub returns-clause-marked : goal.returns-clause-marked
returns-clause-marked c =
    (body_is (sections_of c.args.sections.now) c.args.«unit».0 c.args.«unit».1 c.args.table.now c.args.body.now c.in_ok-offset.offset c.args.starts.now.offsets c.mark_entries.new.starts.offsets c.unit_context.result
    c.requires.stands c.requires.known c.in_ok-offset.ensures.entries c.unit_context.ensures).1

pub returns-clause-end : goal.returns-clause-end
returns-clause-end c = λ bound old new.
    let long = ap (λ (i : Input InfoFault). length i.at.whole) c.requires.stands ∙ length-take c.args.«unit».1.end c.args.sections.now.info.now in
    c.in_ok-offset.ensures.end bound old (omega arith)
