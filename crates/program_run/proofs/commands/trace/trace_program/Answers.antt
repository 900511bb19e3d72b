use Rattle.std.proofs.Common.{Ok, Result, ap, sym, ◌∙◌}
use Rattle.std.proofs.lemmas.Result.{err_from_is_err_and}
use Rattle.cfi_table.specs.Frames.{descriptions}
use Rattle.prof_bytes.specs.Outcome.{◌>>=◌}
use Rattle.scope_types.specs.Events.{retired_every}
use Rattle.command_line.specs.declared.status.InputFault.{InputFault}
use Rattle.program_run.specs.Measured.{Measured, measured}
use Rattle.program_run.specs.commands.Trace.{traced_of}
use Rattle.command_line.proofs.Faults.{fails_next}
use Rattle.program_run.proofs.commands.trace.trace_program.Goals as goal

pub returns-in_err-run : goal.returns-in_err-run
returns-in_err-run c =
    let p = err_from_is_err_and c.from_residual.result c.from_residual.ensures.1 in
    rw (p.1, p.2)
    (fails_next (λ m. Ok (traced_of c.args.image.now c.args.period m)) _ (measured c.args.image.now (descriptions c.args.table.now) c.args.schedule c.args.input.now (retired_every c.args.period)) c.in_err-run.ensures)

pub traced_of-requires : goal.traced_of-requires
traced_of-requires c = record { traced = (c.args.image.now, c.args.period, c.in_ok-run.ensures.0, c.in_ok-run.ensures.2) }

pub returns : goal.returns
returns c =
    let run = c.in_ok-run.ensures in
    ap (λ (r : Result Measured InputFault). r >>= λ m. Ok (traced_of c.args.image.now c.args.period m)) run.1
    ∙ ap Ok (sym (c.in_ok-traced_of.ensures c.args.image.now c.args.period run.0 run.2))
