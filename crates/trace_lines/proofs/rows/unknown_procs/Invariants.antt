use Rattle.std.proofs.Common.{◌≡◌, length, All}
use Rattle.std.specs.Prelude.{Option, None}
use Rattle.scope_types.specs.declared.scope.ProcId.{ProcId}
use Rattle.trace_lines.proofs.rows.unknown_procs.Given as goal

abbrev pub invariant-loop : goal.invariant-loop
invariant-loop l = (length l.known.items ≡ l.counter) × All (λ (proc : Option ProcId). proc ≡ None) l.known.items
