use Rattle.std.proofs.Common.{Result, sym, subst}
use Rattle.command_line.specs.declared.product.Product.{Product}
use Rattle.command_line.specs.declared.status.InputFault.{InputFault}
use Rattle.dwarf_line.specs.Lines.{Lines}
use Rattle.prof_bytes.specs.Outcome.{Gives, ◌>>=◌}
use Rattle.run_profile.specs.Attribution.{attributed, attribution_or}
use Rattle.scope_find.specs.Found.{ProgramScopes}
use Rattle.scope_types.specs.Distinct.{each_sample}
use Rattle.hpc_top.proofs.attribution.attribute_code.Goals as goal

pub returns : goal.returns
returns g c =
    let by : ProgramScopes → Result Product InputFault = λ s. attribution_or (attributed s c.args.merge.now.events.now c.args.merge.now.runs.now (each_sample c.args.ccts)) in
    let scopes : Lines → ProgramScopes = λ l. record { structure = c.in_ok-lines.structure; lines = l; image = c.args.image.now } in
    subst (λ (r : Result ProgramScopes InputFault). Gives (λ (p : Product). p) c.attribute_scopes.result (r >>= by)) (sym c.in_ok-lines.ensures)
    (subst (λ (l : Lines). Gives (λ (p : Product). p) c.attribute_scopes.result (by (scopes l))) c.in_ok-lines-2.ensures c.attribute_scopes.ensures)
