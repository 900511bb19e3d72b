use Rattle.std.proofs.Common.{◌<◌, length, sym, ap, ◌∙◌, arith}
use Rattle.scope_types.specs.Limits.{most_samples}
use Rattle.trace_lines.specs.Traces.{HartTrace, has_raw}
use Rattle.trace_lines.proofs.Kept.{again_of, again_samples, again_there, few_paths, grown, is_there, room_in}
use Rattle.trace_lines.proofs.paths.HartPaths.add_again.Goals as goal

pub find_place-requires : goal.find_place-requires
find_place-requires c =
    let few = few_paths c.self.inside.paths.keys c.self.inside.places.items c.self.invariant in
    let room = c.self.invariant.few in
    omega (arith, few, room)

pub returns-in_default-clause-found : goal.returns-in_default-clause-found
returns-in_default-clause-found c =
    sym c.in_default.ensures ∙ is_there c.self.inside.paths.keys c.self.inside.places.items c.args.raw.now c.self.invariant ∙ ap (λ (h : HartTrace). has_raw c.args.raw.now h.samples) c.self.view_is

pub invariant_of-self-2 : goal.invariant_of-self-2
invariant_of-self-2 c =
    let room : length c.self.inside.places.items < most_samples = room_in c.self.inside.paths.keys c.self.inside.places.items c.self.inside.retired c.args.self.now c.self.view_is c.requires in
    again_of c.self.inside.paths.keys c.self.inside.places.items _ c.args.raw.now c.in-Some.place c.self.invariant room c.in-Some.ensures c.in_ok-push.ensures.items

pub returns-clause-found : goal.returns-clause-found
returns-clause-found c =
    sym (again_there c.self.inside.paths.keys c.self.inside.places.items c.args.raw.now c.in-Some.place c.self.invariant c.in-Some.ensures) ∙ ap (λ (h : HartTrace). has_raw c.args.raw.now h.samples) c.self.view_is

pub returns-clause-added : goal.returns-clause-added
returns-clause-added c = λ e.
    grown c.self.inside.retired _ _ c.args.self.now c.args.raw.now c.self.view_is
    (again_samples c.self.inside.paths.keys c.self.inside.places.items c.push.new.self.items c.args.raw.now c.in-Some.place c.in-Some.ensures c.in_ok-push.ensures.items)
