use Rattle.std.proofs.Common.{◌≡◌, Ok, arith, rules}
use Rattle.prof_bytes.specs.Number.{IsBytes}
use Rattle.measure_file.specs.Reading.{measurement_in}
use Rattle.measure_file.proofs.BackFile.{read_measurable}
use Rattle.measure_file.proofs.read.read_measure.Goals as goal

pub returns-clause-measured : goal.returns-clause-measured
unfolding measurement_in
returns-clause-measured c =
    let bytes : IsBytes c.args.bytes.now = λ i. (let fits = c.type_inv.bytes i in omega (arith, fits)) in
    let is : measurement_in c.args.bytes.now ≡ Ok (c.single_head.result, c.in_ok-head.ccts) = search rules in
    read_measurable c.args.bytes.now _ bytes is
