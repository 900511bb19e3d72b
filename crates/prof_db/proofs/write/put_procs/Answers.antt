use Rattle.prof_db.specs.Spelling.{procedure_bytes}
use Rattle.prof_bytes.proofs.Appending.{append_more}
use Rattle.prof_db.proofs.write.put_procs.Goals as goal

pub loop-p-preserved : goal.loop-p-preserved
loop-p-preserved c = append_more procedure_bytes _ _ _ _ _ _ c.loop-p-test.true c.p-item.is c.loop-p.invariant c.in_ok-put_proc.ensures
