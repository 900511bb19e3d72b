use Rattle.trace_lines.proofs.Sums.{pushed_are}
use Rattle.trace_lines.proofs.harts.Harts.push.Goals as goal

pub invariant_of-self-2 : goal.invariant_of-self-2
invariant_of-self-2 c =
    pushed_are c.self.inside.harts.items c.args.self.now _ c.args.hart _ _ _ c.args.frames c.self.view_is c.self.invariant c.requires.few c.requires.paths c.samples.ensures.samples c.requires.samples c.requires.frames
    c.requires.few_frames c.in_ok-push.ensures.items
