use Rattle.std.proofs.Common.{◌≡◌, ◌∙◌, ◌++◌, List, Option, ℕ, length, map, sym, subst, ap, arith}
use Rattle.std.proofs.lemmas.List.{nil_from_length}
use Rattle.scope_find.specs.declared.found.InlineAt.{InlineAt}
use Rattle.scope_find.specs.Found.{inline_scope}
use Rattle.scope_find.specs.Views.{inline_view}
use Rattle.scope_find.specs.private.Calls.{HasCallsAt}
use Rattle.scope_find.specs.private.Spans.{into_number, calls_at}
use Rattle.scope_find.proofs.CallsFound.{found_next}
use Rattle.scope_find.proofs.Scopes.{scopes_more, scopes_all, levels_less}
use Rattle.scope_find.proofs.intervals.inlines_in.Goals as goal

pub loop-left-init : goal.loop-left-init
loop-left-init c = record {
  has = subst (λ (o : Option ℕ). HasCallsAt c.args.structure.now c.args.calls.now c.args.address o) c.in-Some.is c.requires.has;
  told =
      ap (λ (o : Option ℕ). map inline_scope (calls_at c.args.structure.now c.args.address o)) c.in-Some.is
      ∙ ap (λ (is : List InlineAt). map inline_view is ++ map inline_scope (into_number c.args.structure.now c.args.address c.in-Some.number)) (sym c.new-inlines.ensures.items);
  few = c.requires.levels ∙ ap (λ (o : Option ℕ). length (calls_at c.args.structure.now c.args.address o)) c.in-Some.is;
}

pub subroutine-requires : goal.subroutine-requires
subroutine-requires c =
    let few = c.loop-left.invariant.few in
    let some = c.loop-left-test.true in
    (found_next c.args.structure.now c.args.calls.now c.args.address c.loop-left.item c.number_at-next.result c.number_at-next.ensures (omega arith) c.loop-left.invariant.has).0.within

pub loop-left-preserved : goal.loop-left-preserved
loop-left-preserved c =
    let few = c.loop-left.invariant.few in
    let some = c.loop-left-test.true in
    let f = found_next c.args.structure.now c.args.calls.now c.args.address c.loop-left.item c.number_at-next.result c.number_at-next.ensures (omega arith) c.loop-left.invariant.has in
    record {
      has = f.1;
      told =
          scopes_more c.args.structure.now c.args.address c.loop-left.item c.number_at-next.result c.subroutine.result c.loop-left.inlines.items c.push.new.self.items c.inline_of.result _
          c.subroutine.ensures c.inline_of.ensures c.in_ok-push.ensures.items f.0.calls_are c.loop-left.invariant.told;
      few = levels_less c.loop-left.left _ _ _ f.0.calls_are c.loop-left.invariant.few;
    }

pub returns : goal.returns
returns c =
    let few = c.loop-left.invariant.few in
    let past = c.loop-left-test.false in
    let none : length (into_number c.args.structure.now c.args.address c.loop-left.item) ≡ 0 = omega arith in
    scopes_all c.loop-left.inlines.items _ _ (nil_from_length (into_number c.args.structure.now c.args.address c.loop-left.item) none) c.loop-left.invariant.told
