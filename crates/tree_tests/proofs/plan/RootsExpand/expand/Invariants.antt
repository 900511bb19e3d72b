use Rattle.std.proofs.Common.{◌≡◌, replicate}
use Rattle.scope_types.specs.declared.scope.RootKind.TheVariants.{Thread}
use Rattle.scope_types.specs.declared.scope.Scope.TheVariants.{Root}
use Rattle.tree_tests.proofs.plan.RootsExpand.expand.Given as goal

abbrev pub invariant-loop : goal.invariant-loop
invariant-loop l = l.scopes.items ≡ replicate l.counter (Root Thread)
