use Rattle.std.proofs.Common.{◌+◌, ◌<◌, ◌≤◌, List, length, sym, ap, ◌∙◌, arith}
use Rattle.scope_types.specs.declared.frame.Frame.{Frame}
use Rattle.scope_types.specs.Limits.{most_frames_in_all, most_samples}
use Rattle.trace_lines.specs.Traces.{HartTrace}
use Rattle.trace_lines.proofs.Sums.{harts_known, harts_new, own_in, put_is, room_in, sampled_is, stays}
use Rattle.trace_lines.proofs.harts.Harts.add.Goals as goal

pub invariant_of-self-then-found : goal.invariant_of-self-then-found
invariant_of-self-then-found c =
    let harts : List HartTrace = c.self.inside.harts.items in
    let own : c.args.hart < length harts = own_in harts c.args.self.now c.args.hart c.self.view_is c.requires.hart in
    let room : c.self.inside.samples < most_samples = room_in harts c.args.self.now c.self.inside.samples c.self.inside.frames c.self.view_is c.self.invariant c.requires.few in
    harts_known harts _ c.args.hart _ _ c.args.raw.now own c.self.invariant room (sym c.in_ok-found.ensures.found ∙ c.if-found.true)
    (sampled_is harts _ c.args.hart c.args.raw.now _ c.in_ok-found.ensures.added c.if-found.true)

pub invariant_of-self-2 : goal.invariant_of-self-2
invariant_of-self-2 c =
    let harts : List HartTrace = c.self.inside.harts.items in
    let own : c.args.hart < length harts = own_in harts c.args.self.now c.args.hart c.self.view_is c.requires.hart in
    let room : c.self.inside.samples < most_samples = room_in harts c.args.self.now c.self.inside.samples c.self.inside.frames c.self.view_is c.self.invariant c.requires.few in
    let fits : c.self.inside.frames + length c.frames.result.now ≤ most_frames_in_all = (let test = c.if-frames-gt-MOST_FRAMES_IN_ALL.false in omega (arith, test)) in
    let same = stays harts _ c.args.hart c.args.raw.now _ c.in_ok-found.ensures.added c.if-found.false in
    harts_new harts _ c.args.hart _ _ _ c.args.raw.now own c.self.invariant room c.frames.ensures.count (sym c.in_ok-found.ensures.found ∙ c.if-found.false)
    (ap (λ (l : List Frame). c.self.inside.frames + length l) c.frames.ensures.frames) fits
    (put_is harts _ _ c.args.hart c.args.raw.now _ same c.in_ok-path.ensures c.in_ok-add_new.ensures.ok)
