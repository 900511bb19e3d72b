use Rattle.std.proofs.Common.{length, ap, arith}
use Rattle.trace_lines.specs.Traces.{HartTrace}
use Rattle.trace_lines.proofs.Kept.{few_paths, samples_long}
use Rattle.trace_lines.proofs.paths.HartPaths.paths.Goals as goal

pub overflow_cast-result : goal.overflow_cast-result
overflow_cast-result c =
    let few = few_paths c.self.inside.paths.keys c.self.inside.places.items c.self.invariant in
    let room = c.self.invariant.few in
    let long = c.len.ensures.len in
    omega (arith, few, room, long)

pub returns-clause-few : goal.returns-clause-few
returns-clause-few c =
    let few = few_paths c.self.inside.paths.keys c.self.inside.places.items c.self.invariant in
    let room = c.self.invariant.few in
    let long = c.len.ensures.len in
    omega (arith, few, room, long)

pub returns-clause-samples : goal.returns-clause-samples
returns-clause-samples c =
    let long = samples_long c.self.inside.paths.keys c.self.inside.places.items in
    let same = ap (λ (h : HartTrace). length h.samples) c.self.view_is in
    let room = c.self.invariant.few in
    omega (arith, long, same, room)
