use Rattle.tree_join.proofs.Walks.{fewer_left}
use Rattle.tree_join.proofs.walk.walk.Goals as goal

pub loop-first-smaller : goal.loop-first-smaller
loop-first-smaller c = fewer_left _ _ _ _ _ _ c.in_ok-first.ensures.walking c.in_ok-put_first.ensures.order c.in_ok-first.ensures.longer
