use Rattle.std.proofs.Common.{sym, ap, ◌∙◌}
use Rattle.cfi_unwind.specs.Path.{unwinding_by}
use Rattle.cfi_unwind.specs.private.UnwindRules.{unwound_to}
use Rattle.cfi_unwind.proofs.Walking.{walks, ends_here, is_full, has_room, has_none}
use Rattle.cfi_unwind.proofs.unwinder.Unwinder.walk.Goals as goal

pub loop-slice-preserved : goal.loop-slice-preserved
loop-slice-preserved g c =
    let low = has_room c.loop-slice.frames.items c.has_room.result c.has_room.ensures c.loop-slice-test.true in
    record {
      few = c.in_ok-to-in-Ok.ensures.few;
      so_far =
          c.loop-slice.invariant.so_far
          ∙ walks (unwinding_by c.args.self.now) (g.L.Look.words c.args.memory.now) (record { pc = c.loop-slice.here; registers = c.loop-slice.registers }) (record { pc = c.in-Ok.caller; registers = c.step.new.registers }) c.loop-slice.frames.items c.push.new.self.items low c.in_ok-push.ensures.items
          (ap (λ r. unwound_to r c.step.new.registers) (sym c.in-Ok.is) ∙ c.in_ok-caller.ensures.caller)
          ∙ c.in_ok-to-in-Ok.ensures.walks (g.L.Look.words c.args.memory.now) c.in_ok-caller.ensures.slice;
      slice = c.in_ok-caller.ensures.slice;
      ready = c.in_ok-to-in-Ok.ensures.ready;
    }

pub returns-in-Err : goal.returns-in-Err
returns-in-Err g c =
    let low = has_room c.loop-slice.frames.items c.has_room.result c.has_room.ensures c.loop-slice-test.true in
    ends_here (unwinding_by c.args.self.now) (g.L.Look.words c.args.memory.now) (record { pc = c.loop-slice.here; registers = c.loop-slice.registers }) c.loop-slice.frames.items c.push.new.self.items c.in-Err.end c.of.result c.of.ensures low c.in_ok-push.ensures.items
    (ap (λ r. unwound_to r c.step.new.registers) (sym c.in-Err.is) ∙ c.in_ok-caller.ensures.caller)
    ∙ sym c.loop-slice.invariant.so_far

pub returns : goal.returns
returns g c =
    c.of-2.ensures
    ∙ is_full (unwinding_by c.args.self.now) (g.L.Look.words c.args.memory.now) (record { pc = c.loop-slice.here; registers = c.loop-slice.registers }) c.loop-slice.frames.items (has_none c.loop-slice.frames.items c.has_room.result c.has_room.ensures c.loop-slice-test.false)
    ∙ sym c.loop-slice.invariant.so_far
