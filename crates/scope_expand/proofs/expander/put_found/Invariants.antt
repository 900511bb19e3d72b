use Rattle.std.proofs.Common.{◌≡◌, ◌∷◌, ◌++◌, map, take}
use Rattle.scope_find.specs.declared.found.InlineAt.{InlineAt}
use Rattle.scope_types.specs.declared.scope.ProcId.{ProcId}
use Rattle.scope_types.specs.declared.scope.LineId.{LineId}
use Rattle.scope_types.specs.declared.scope.Scope.TheVariants.{Proc, Inline}
use Rattle.scope_expand.proofs.expander.put_found.Given as goal

abbrev pub invariant-loop-inline : goal.invariant-loop-inline
invariant-loop-inline l = l.scopes.items ≡ l.fn.scopes.items
    ++ (Proc l.found.procedure ∷ map (λ (i : ProcId × LineId). Inline i.0 i.1) (map (λ (i : InlineAt). (i.callee, i.call)) (take l.inline-index l.found.inlines)))
