use Rattle.std.proofs.Common.{Result, subst, sym}
use Rattle.std.proofs.lemmas.Result.{err_from_is_err_and}
use Rattle.prof_bytes.specs.Outcome.{Gives}
use Rattle.command_line.specs.declared.status.InputFault.{InputFault}
use Rattle.command_line.specs.declared.product.Product.{Product}
use Rattle.hpc_top.specs.private.Profiling.{files_in}
use Rattle.hpc_top.proofs.JobFiles.{no_product_here, product_here}
use Rattle.hpc_top.proofs.live_runs.live_product.Goals as goal

pub returns-in_err-read : goal.returns-in_err-read
returns-in_err-read g c =
    let p = err_from_is_err_and c.from_residual.result c.from_residual.ensures.1 in
    rw (p.1, p.2) (no_product_here c.args.job.now.input.now c.args.job.now.periods.now c.args.job.now.elf.now c.args.job.now.schedule.now _ c.in_err-read.ensures)

pub returns : goal.returns
returns g c =
    subst (λ (r : Result Product InputFault). Gives (λ p. p) c.live_scopes.result r)
    (sym (product_here c.args.job.now.input.now c.args.job.now.periods.now c.args.job.now.elf.now c.args.job.now.schedule.now (files_in c.in_ok-read.read) c.in_ok-read.ensures)) c.live_scopes.ensures
