use Rattle.std.proofs.Common.{◌≡◌, ◌∙◌, ℕ, List, Option, length, map, ap, sym, subst}
use Rattle.std.proofs.lemmas.Result.{IfOk-weaker}
use Rattle.dwarf_inline.specs.Structure.{ProgramStructure}
use Rattle.scope_find.specs.declared.calls.NextCall.{NextCall}
use Rattle.scope_find.specs.Found.{inline_scope}
use Rattle.scope_find.specs.Views.{inline_view}
use Rattle.scope_find.specs.private.Calls.{AreInOrder, HasCallsAt}
use Rattle.scope_find.specs.private.KnownPlaces.{HasInlinesAt}
use Rattle.scope_find.specs.private.Scopes.{subprogram_in}
use Rattle.scope_find.specs.private.Spans.{calls_at}
use Rattle.scope_find.proofs.Scopes.{right_at, interval_procedure, interval_has, interval_count}
use Rattle.scope_find.proofs.intervals.AddressIntervals.inlines_of.Goals as goal

pub inlines_in-requires : goal.inlines_in-requires
inlines_in-requires c =
    let s = c.self.inside.structure.now in
    let calls = c.self.inside.calls.items in
    let right = right_at s c.self.inside.intervals.items c.as_slice.result.now calls c.args.address c.interval_at-interval.result c.self.invariant c.interval_at-interval.ensures c.as_slice.ensures.value in
    record {
      order = subst (λ (ns : List NextCall). AreInOrder ns) (sym c.as_slice-2.ensures.value) c.self.invariant.in_order;
      has =
          subst (λ (ns : List NextCall). HasCallsAt s ns c.args.address c.subprogram_in.result) (sym c.as_slice-2.ensures.value)
          (subst (λ (o : Option ℕ). HasCallsAt s calls c.args.address o) (sym c.subprogram_in.ensures) (interval_has s c.args.address calls c.interval_at-interval.result right));
      levels = c.levels_in.ensures ∙ interval_count s c.args.address calls c.interval_at-interval.result right ∙ ap (λ (o : Option ℕ). length (calls_at s c.args.address o)) (sym c.subprogram_in.ensures);
    }

pub returns : goal.returns
returns c =
    let s = c.self.inside.structure.now in
    let calls = c.self.inside.calls.items in
    let right = right_at s c.self.inside.intervals.items c.as_slice.result.now calls c.args.address c.interval_at-interval.result c.self.invariant c.interval_at-interval.ensures c.as_slice.ensures.value in
    IfOk-weaker c.inlines_in.result (λ inlines. map inline_view inlines.items ≡ map inline_scope (calls_at s c.args.address c.subprogram_in.result))
    (λ inlines. HasInlinesAt c.args.self.now c.args.address inlines.items)
    (λ inlines told. subst (λ (z : ProgramStructure). HasInlinesAt z c.args.address inlines.items) c.self.view_is (record {
      number = subprogram_in c.interval_at-interval.result;
      procedure = interval_procedure s c.args.address calls c.interval_at-interval.result right;
      told = told ∙ ap (λ (o : Option ℕ). map inline_scope (calls_at s c.args.address o)) c.subprogram_in.ensures;
    }))
    c.inlines_in.ensures
