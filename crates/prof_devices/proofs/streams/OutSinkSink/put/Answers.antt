use Rattle.prof_devices.proofs.ShownByStreams.{stream_taken}
use Rattle.prof_devices.proofs.streams.OutSinkSink.put.Goals as goal

pub returns-clause-answer : goal.returns-clause-answer
returns-clause-answer g c = rw (← c.self.view_is) (stream_taken c.self.inside.stream.1 c.put.new.self.1 _ _ c.put.ensures.unknown c.put.ensures.counts c.put.ensures.exact)
