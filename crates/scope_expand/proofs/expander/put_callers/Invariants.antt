use Rattle.std.proofs.Common.{◌≡◌, ◌++◌, map, Bor}
use Rattle.scope_expand.specs.Kept.{FoundFits, CallersFit}
use Rattle.scope_types.specs.declared.frame.Frame.{Frame}
use Rattle.scope_expand.specs.private.Frames.{caller_scopes}
use Rattle.scope_expand.proofs.expander.put_callers.Given as goal

abbrev pub invariant-loop-caller : goal.invariant-loop-caller
invariant-loop-caller l = record {
  found : FoundFits l.fn.finder l.cache.kept.items;
  callers : CallersFit l.fn.finder l.last.callers.items l.last.scopes.items;
  scopes : l.scopes.items ≡ l.fn.scopes.items ++ caller_scopes l.fn.finder (map (λ (b : Bor Frame). b.now) l.yielded);
  next : (goal.iterator-loop-caller).can_next l.caller-iterator;
  finite : (goal.iterator-loop-caller).is_finite l.caller-iterator;
}
