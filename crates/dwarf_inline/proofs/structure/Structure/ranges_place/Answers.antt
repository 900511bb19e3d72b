use Rattle.std.proofs.Common.{◌≡◌, ◌-◌, ◌<◌, ◌∙◌, refl, sym, ap, length, take, drop, Some, arith}
use Rattle.std.specs.Prelude.{slice_get}
use Rattle.dwarf_info.specs.Sections.{sections_of}
use Rattle.dwarf_inline.specs.Structure.{ProgramStructure}
use Rattle.dwarf_inline.specs.private.Found.{IsThere, first_source}
use Rattle.dwarf_inline.specs.private.Kept.{Lists, store_in, structure_in}
use Rattle.dwarf_inline.proofs.KeptLists.{again_part, detail_there, items_long, kept_part, sliced}
use Rattle.dwarf_inline.proofs.structure.Structure.ranges_place.Goals as goal

pub returns-then-detail-lt-FIRST_SOURCE : goal.returns-then-detail-lt-FIRST_SOURCE
returns-then-detail-lt-FIRST_SOURCE c = λ item is.
    let l : Lists = record { entries = c.self.inside.entries.items; afters = c.self.inside.afters.items; identities = c.self.inside.identities.items; places = c.self.inside.places.items; details = c.self.inside.details; names = c.self.inside.names.items; ranges = c.self.inside.ranges.items; sources = c.self.inside.sources.items; sections = sections_of c.self.inside.sections; segments = c.self.inside.segments } in
    let long : length l.entries ≡ length c.args.self.now.items = sym (items_long l) ∙ ap (λ (s : ProgramStructure). length s.items) c.self.view_is in
    let lt : c.args.number < length l.entries = (let r = c.requires in omega arith) in
    let there : slice_get (structure_in l).items c.args.number ≡ Some item = ap (λ (s : ProgramStructure). slice_get s.items c.args.number) c.self.view_is ∙ is in
    sliced c.deref.result.now c.self.inside.ranges.items c.get-detail.result.at c.get-detail.result.range_count c.deref.ensures.value
    ∙ kept_part l c.args.number c.index.result.now item c.get-detail.result c.self.invariant lt there c.index.ensures c.get-detail.ensures c.if-detail-lt-FIRST_SOURCE.true
    ∙ ap (λ (s : ProgramStructure). take item.range_count (drop item.first_range s.ranges)) c.self.view_is

pub index-source-requires : goal.index-source-requires
index-source-requires c =
    let l : Lists = record { entries = c.self.inside.entries.items; afters = c.self.inside.afters.items; identities = c.self.inside.identities.items; places = c.self.inside.places.items; details = c.self.inside.details; names = c.self.inside.names.items; ranges = c.self.inside.ranges.items; sources = c.self.inside.sources.items; sections = sections_of c.self.inside.sections; segments = c.self.inside.segments } in
    let long : length l.entries ≡ length c.args.self.now.items = sym (items_long l) ∙ ap (λ (s : ProgramStructure). length s.items) c.self.view_is in
    let lt : c.args.number < length l.entries = (let r = c.requires in omega arith) in
    let there : IsThere (store_in l) c.get-detail.result.at c.get-detail.result.range_count = detail_there l c.args.number c.index.result.now c.get-detail.result c.self.invariant lt c.index.ensures c.get-detail.ensures in
    let again = there.again c.if-detail-lt-FIRST_SOURCE.false in
    let long = c.self.inside.sources.ok.0 in
    omega arith

pub returns : goal.returns
returns c = λ item is.
    let l : Lists = record { entries = c.self.inside.entries.items; afters = c.self.inside.afters.items; identities = c.self.inside.identities.items; places = c.self.inside.places.items; details = c.self.inside.details; names = c.self.inside.names.items; ranges = c.self.inside.ranges.items; sources = c.self.inside.sources.items; sections = sections_of c.self.inside.sections; segments = c.self.inside.segments } in
    let long : length l.entries ≡ length c.args.self.now.items = sym (items_long l) ∙ ap (λ (s : ProgramStructure). length s.items) c.self.view_is in
    let lt : c.args.number < length l.entries = (let r = c.requires in omega arith) in
    let there : slice_get (structure_in l).items c.args.number ≡ Some item = ap (λ (s : ProgramStructure). slice_get s.items c.args.number) c.self.view_is ∙ is in
    again_part l c.args.number c.index.result.now (c.get-detail.result.at - first_source) item c.get-detail.result c.index-source.result.now c.self.invariant lt there c.index.ensures c.get-detail.ensures c.if-detail-lt-FIRST_SOURCE.false refl c.index-source.ensures
    ∙ ap (λ (s : ProgramStructure). take item.range_count (drop item.first_range s.ranges)) c.self.view_is
