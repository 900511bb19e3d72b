use Rattle.std.proofs.Common.{◌≡◌, Ok, arith, rules}
use Rattle.prof_bytes.specs.Number.{IsBytes}
use Rattle.measure_file.specs.Reading.{event_measurement_in}
use Rattle.measure_file.proofs.BackFile.{event_read_measurable}
use Rattle.measure_file.proofs.read.read_any.Goals as goal

pub returns-clause-measured : goal.returns-clause-measured
unfolding event_measurement_in
returns-clause-measured c =
    let bytes : IsBytes c.args.bytes.now = λ i. (let fits = c.type_inv.bytes i in omega (arith, fits)) in
    let is : event_measurement_in c.args.bytes.now ≡ Ok (c.in_ok-head.head, c.in_ok-ccts.ccts) = search rules in
    event_read_measurable c.args.bytes.now _ bytes is
