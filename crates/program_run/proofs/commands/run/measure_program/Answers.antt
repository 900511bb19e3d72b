use Rattle.std.proofs.Common.{Ok, Result, ap, sym, ◌∙◌}
use Rattle.std.proofs.lemmas.Result.{err_from_is_err_and}
use Rattle.cfi_table.specs.Frames.{descriptions}
use Rattle.prof_bytes.specs.Outcome.{◌>>=◌}
use Rattle.command_line.specs.declared.status.InputFault.{InputFault}
use Rattle.program_run.specs.Measured.{Measured, measured}
use Rattle.program_run.specs.commands.Run.{measurement_of}
use Rattle.command_line.proofs.Faults.{fails_next}
use Rattle.program_run.proofs.commands.run.measure_program.Goals as goal

pub returns-in_err-counted : goal.returns-in_err-counted
returns-in_err-counted c =
    let p = err_from_is_err_and c.from_residual.result c.from_residual.ensures.1 in
    rw (p.1, p.2) (fails_next (λ m. Ok (measurement_of c.args.image.now m)) _ (measured c.args.image.now (descriptions c.args.table.now) c.args.schedule c.args.input.now c.args.events.now) c.in_err-counted.ensures)

pub measurement_of-requires-clause-counted : goal.measurement_of-requires-clause-counted
measurement_of-requires-clause-counted c = (c.in_ok-counted.ensures.0, c.in_ok-counted.ensures.2)

pub returns : goal.returns
returns c =
    let counted = c.in_ok-counted.ensures in
    ap (λ (r : Result Measured InputFault). r >>= λ m. Ok (measurement_of c.args.image.now m)) counted.1
    ∙ ap Ok (sym (c.in_ok-measurement_of.ensures counted.0 counted.2))
