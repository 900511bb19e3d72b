use Rattle.std.proofs.Common.{◌≡◌, ◌<◌, ◌∙◌, sym, ap, length, arith}
use Rattle.std.specs.Prelude.{slice_get}
use Rattle.dwarf_inline.specs.Structure.{ProgramStructure}
use Rattle.dwarf_info.specs.Sections.{sections_of}
use Rattle.dwarf_inline.specs.private.Kept.{Lists}
use Rattle.dwarf_inline.proofs.KeptLists.{item_told, items_long}
use Rattle.dwarf_inline.proofs.structure.Structure.subroutine.Goals as goal

pub returns : goal.returns
returns c =
    let l : Lists = record { entries = c.self.inside.entries.items; afters = c.self.inside.afters.items; identities = c.self.inside.identities.items; places = c.self.inside.places.items; details = c.self.inside.details; names = c.self.inside.names.items; ranges = c.self.inside.ranges.items; sources = c.self.inside.sources.items; sections = sections_of c.self.inside.sections; segments = c.self.inside.segments } in
    let long : length l.entries ≡ length c.args.self.now.items = sym (items_long l) ∙ ap (λ (s : ProgramStructure). length s.items) c.self.view_is in
    let lt : c.args.number < length l.entries = (let r = c.requires in omega arith) in
    rw (c.line_id.ensures, c.offset.ensures, c.is_inlined.ensures) (
    ap (λ (s : ProgramStructure). slice_get s.items c.args.number) (sym c.self.view_is)
    ∙ item_told l c.args.number c.index-entry.result.now c.index.result.now c.get-detail.result c.index-2.result.now c.index-3.result.now c.self.invariant lt
    c.index-entry.ensures c.index.ensures c.get-detail.ensures c.index-2.ensures c.index-3.ensures)
