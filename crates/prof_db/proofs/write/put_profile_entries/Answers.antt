use Rattle.std.proofs.lemmas.List.{get_or_default}
use Rattle.prof_db.specs.Spelling.{profile_entry_bytes}
use Rattle.prof_bytes.proofs.Appending.{append_more}
use Rattle.prof_db.proofs.write.put_profile_entries.Goals as goal

pub loop-e-preserved : goal.loop-e-preserved
loop-e-preserved c = append_more profile_entry_bytes _ _ _ _ _ _ c.loop-e-test.true (get_or_default _ _ _ _ c.loop-e-test.true) c.loop-e.invariant c.in_ok-put_profile_entry.ensures
