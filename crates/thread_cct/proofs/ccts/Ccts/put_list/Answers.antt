use Rattle.thread_cct.proofs.Putting.{put_within}
use Rattle.thread_cct.proofs.ccts.Ccts.put_list.Goals as goal

pub invariant_of-self : goal.invariant_of-self
invariant_of-self c =
    put_within c.self.inside.tables.items c.args.self.now _ c.args.column c.args.list c.self.inside.frames _ c.self.view_is c.self.invariant c.requires.column c.requires.empty c.requires.counted c.frames.ensures.some c.requires.few c.requires.frames c.frames.ensures.sum c.put_list.ensures
