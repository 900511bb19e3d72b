use Rattle.prof_db.specs.Spelling.{file_name_bytes}
use Rattle.prof_bytes.proofs.Appending.{append_more}
use Rattle.prof_db.proofs.write.put_files.Goals as goal

pub loop-f-preserved : goal.loop-f-preserved
loop-f-preserved c = append_more file_name_bytes _ _ _ _ _ _ c.loop-f-test.true c.f-item.is c.loop-f.invariant c.in_ok-put_file.ensures
