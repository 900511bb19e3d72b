use Rattle.std.proofs.Common.{ℕ, Option, sym, subst}
use Rattle.dwarf_inline.specs.Structure.{ProgramStructure}
use Rattle.scope_find.specs.private.Spans.{IsProcedureAt}
use Rattle.scope_find.proofs.Scopes.{right_at, interval_procedure}
use Rattle.scope_find.proofs.intervals.AddressIntervals.subprogram_of.Goals as goal

pub returns : goal.returns
returns c =
    let s = c.self.inside.structure.now in
    let calls = c.self.inside.calls.items in
    let right = right_at s c.self.inside.intervals.items c.as_slice.result.now calls c.args.address c.interval_at.result c.self.invariant c.interval_at.ensures c.as_slice.ensures.value in
    subst (λ (z : ProgramStructure). IsProcedureAt z c.args.address c.subprogram_in.result) c.self.view_is
    (subst (λ (o : Option ℕ). IsProcedureAt s c.args.address o) (sym c.subprogram_in.ensures) (interval_procedure s c.args.address calls c.interval_at.result right))
