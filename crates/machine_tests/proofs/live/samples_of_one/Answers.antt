use Rattle.std.proofs.Common.{◌≡◌, length, rules}
use Rattle.rv_run.specs.Progress.{to_come}
use Rattle.machine_tests.proofs.OneColumn.{own_of_one}
use Rattle.machine_tests.proofs.live.samples_of_one.Goals as goal

pub returns-clause-own : goal.returns-clause-own
returns-clause-own c path_of =
    let one : length c.in_ok-vec.field-0.items ≡ 1 = search rules in
    own_of_one c.samples_are_of_instructions.ensures path_of c.in_ok-vec.field-0.items (to_come c.args.machine).instants c.start.result one c.start.ensures.events (c.start.ensures.samples path_of) c.requires.instants
