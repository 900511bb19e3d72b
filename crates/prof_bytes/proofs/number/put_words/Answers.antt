use Rattle.std.proofs.lemmas.List.{get_or_default}
use Rattle.prof_bytes.proofs.Appending.{append_more}
use Rattle.prof_bytes.specs.Number.{word}
use Rattle.prof_bytes.proofs.number.put_words.Goals as goal

pub loop-number-preserved : goal.loop-number-preserved
loop-number-preserved c = append_more word _ _ _ _ _ _ c.loop-number-test.true (get_or_default _ _ _ _ c.loop-number-test.true) c.loop-number.invariant c.in_ok-put_u32.ensures.ok
