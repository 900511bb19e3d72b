use Rattle.std.proofs.Common.{◌∙◌, sym, ap, map, Some, None, List, refl}
use Rattle.std.specs.Prelude.{find}
use Rattle.dwarf_inline.specs.Structure.{ProgramStructure, proc_name}
use Rattle.dwarf_info.specs.Sections.{sections_of}
use Rattle.dwarf_inline.specs.private.Kept.{Lists}
use Rattle.dwarf_inline.specs.declared.identities.ProcName.{ProcName}
use Rattle.dwarf_inline.specs.private.Names.{name_by, pair_of}
use Rattle.dwarf_inline.proofs.KeptLists.{proc_named}
use Rattle.dwarf_inline.proofs.NameLists.{test}
use Rattle.dwarf_inline.proofs.Named.{told_name}
use Rattle.dwarf_inline.proofs.structure.Structure.proc_name.Goals as goal

pub returns-in-Some : goal.returns-in-Some
returns-in-Some c =
    let l : Lists = record { entries = c.self.inside.entries.items; afters = c.self.inside.afters.items; identities = c.self.inside.identities.items; places = c.self.inside.places.items; details = c.self.inside.details; names = c.self.inside.names.items; ranges = c.self.inside.ranges.items; sources = c.self.inside.sources.items; sections = sections_of c.self.inside.sections; segments = c.self.inside.segments } in
    told_name (Some c.in-Some.name.now) (find (test c.args.offset) (map pair_of c.as_slice.result.now)) c.in-Some.name.now c.in-Some.ensures refl
    ∙ ap (λ (ns : List ProcName). name_by (map pair_of ns) c.args.offset) c.as_slice.ensures.value
    ∙ sym (proc_named l c.args.offset c.self.invariant) ∙ ap (λ (s : ProgramStructure). proc_name s c.args.offset) c.self.view_is

pub returns-in-None : goal.returns-in-None
returns-in-None c =
    let l : Lists = record { entries = c.self.inside.entries.items; afters = c.self.inside.afters.items; identities = c.self.inside.identities.items; places = c.self.inside.places.items; details = c.self.inside.details; names = c.self.inside.names.items; ranges = c.self.inside.ranges.items; sources = c.self.inside.sources.items; sections = sections_of c.self.inside.sections; segments = c.self.inside.segments } in
    told_name None (find (test c.args.offset) (map pair_of c.as_slice.result.now)) _ c.in-None.ensures refl
    ∙ ap (λ (ns : List ProcName). name_by (map pair_of ns) c.args.offset) c.as_slice.ensures.value
    ∙ sym (proc_named l c.args.offset c.self.invariant) ∙ ap (λ (s : ProgramStructure). proc_name s c.args.offset) c.self.view_is
