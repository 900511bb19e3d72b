use Rattle.std.proofs.Common.{◌≡◌, Ok, arith, rules}
use Rattle.prof_bytes.specs.Number.{IsBytes}
use Rattle.trace_lines.specs.Reading.{trace_in}
use Rattle.trace_lines.proofs.BackFile.{read_storable}
use Rattle.trace_lines.proofs.read.read_trace.Goals as goal

pub returns-clause-storable : goal.returns-clause-storable
unfolding trace_in
returns-clause-storable c =
    let bytes : IsBytes c.args.bytes.now = λ i. (let fits = c.type_inv.bytes i in omega (arith, fits)) in
    let is : trace_in c.args.bytes.now ≡ Ok c.of.result = search rules in
    read_storable c.args.bytes.now _ bytes is

pub returns-clause-finished : goal.returns-clause-finished
returns-clause-finished c = λ i d less. ((returns-clause-storable c).harts i d less).finished
