use Rattle.prof_devices.proofs.ShownByStreams.{line_taken}
use Rattle.prof_devices.proofs.streams.ErrSinkSink.put.Goals as goal

pub returns-clause-answer : goal.returns-clause-answer
returns-clause-answer g c = rw (← c.self.view_is) (line_taken c.self.inside.stream.1 c.put_text.new.self.1 _ _ c.put_text.ensures.unknown c.put_text.ensures.counts c.put_text.ensures.exact)
