use Rattle.prof_devices.proofs.ShownInMemory.{memory_taken}
use Rattle.prof_devices.proofs.memory_sink.MemSinkSink.put.Goals as goal

pub returns-clause-answer : goal.returns-clause-answer
returns-clause-answer c = memory_taken c.args.self.now c.put_next.new.self _ _ c.put_next.ensures.faults c.put_next.ensures.shortages c.put_next.ensures.exact
