use Rattle.cfi_unwind.specs.Path.{unwinding_by}
use Rattle.cfi_unwind.proofs.Walking.{one_frame}
use Rattle.cfi_unwind.proofs.unwinder.UnwinderUnwind.path_in.Goals as goal

pub returns-in_ok-push-in-Some : goal.returns-in_ok-push-in-Some
returns-in_ok-push-in-Some g c =
    one_frame (unwinding_by c.args.self.now) (g.L.Look.words c.args.memory.now) (record { pc = c.args.pc; registers = c.args.regs.now }) c.clear.new.self.items c.push.new.self.items c.in-Some.end c.of.result c.in-Some.ensures c.told-regs
    c.clear.ensures.items c.in_ok-push-in-Some.ensures.items c.of.ensures
