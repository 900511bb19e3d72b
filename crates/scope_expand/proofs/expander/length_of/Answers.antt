use Rattle.std.proofs.Common.{◌≤◌, List, length, subst}
use Rattle.scope_types.specs.declared.frame.Frame.{Frame}
use Rattle.scope_expand.proofs.Lengths.{all_counted}
use Rattle.scope_expand.proofs.expander.length_of.Goals as goal

pub returns : goal.returns
returns c = all_counted c.args.finder.now c.args.raw.now c.loop-frame.total c.loop-frame.frame-index c.frames-frame-items.ensures.count
    (subst (λ (frames : List Frame). length frames ≤ c.loop-frame.frame-index) c.frames-frame-items.ensures.frames c.loop-frame-test.false)
    c.loop-frame.invariant.so_far
