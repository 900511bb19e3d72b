use Rattle.std.proofs.Common.{◌≤◌, length, ap, arith}
use Rattle.std.proofs.lemmas.Nat.{mul-le}
use Rattle.scope_types.specs.Limits.{most_events, most_harts}
use Rattle.measure_file.proofs.read.read_head.Goals as goal

pub returns-clause-columns : goal.returns-clause-columns
returns-clause-columns c =
    let same = ap length c.of.ensures in
    let events = c.in_ok-events.ensures.few in
    let few : length c.of.result ≤ most_events = omega (arith, same, events) in
    let most = mul-le c.in_ok-harts.harts (length c.of.result) most_harts most_events c.in_ok-harts.ensures.few few in
    omega (arith, most)
