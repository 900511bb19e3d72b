use Rattle.std.proofs.Common.{◌∙◌, subst}
use Rattle.dwarf_inline.specs.Structure.{ProgramStructure}
use Rattle.scope_find.specs.private.KnownPlaces.{HasLevelsAt}
use Rattle.scope_find.specs.private.Scopes.{subprogram_in}
use Rattle.scope_find.proofs.Scopes.{right_at, interval_procedure, interval_count}
use Rattle.scope_find.proofs.intervals.AddressIntervals.levels_of.Goals as goal

pub returns : goal.returns
returns c =
    let s = c.self.inside.structure.now in
    let calls = c.self.inside.calls.items in
    let right = right_at s c.self.inside.intervals.items c.as_slice.result.now calls c.args.address c.interval_at.result c.self.invariant c.interval_at.ensures c.as_slice.ensures.value in
    subst (λ (z : ProgramStructure). HasLevelsAt z c.args.address c.levels_in.result) c.self.view_is (record {
      number = subprogram_in c.interval_at.result;
      procedure = interval_procedure s c.args.address calls c.interval_at.result right;
      count = c.levels_in.ensures ∙ interval_count s c.args.address calls c.interval_at.result right;
    })
