use Rattle.std.proofs.Common.{◌≡◌, ◌+◌, ◌<◌, [], ◌∷◌, length, ap, ◌∙◌, arith}
use Rattle.std.proofs.lemmas.List.{length-append}
use Rattle.cfi_unwind.specs.Path.{unwinding_by}
use Rattle.cfi_unwind.proofs.Walking.{walks, usual_finds, has_room}
use Rattle.cfi_unwind.proofs.unwinder.Unwinder.walk_usual.Goals as goal

pub loop-unwind_rule-preserved : goal.loop-unwind_rule-preserved
loop-unwind_rule-preserved c =
    let u = (unwinding_by c.args.self.now) in
    let before = c.loop-unwind_rule.invariant in
    let low : length c.loop-unwind_rule.frames.items < 512 = has_room c.loop-unwind_rule.frames.items c.has_room.result c.has_room.ensures (c.loop-unwind_rule-test.true) in
    let longer : length c.push.new.self.items ≡ length c.loop-unwind_rule.frames.items + 1 = ap length c.in_ok-push.ensures.items ∙ length-append c.loop-unwind_rule.frames.items (record { pc = c.loop-unwind_rule.here } ∷ []) in
    let more = before.more in
    let finds = usual_finds u c.loop-unwind_rule.here c.loop-unwind_rule.ready c.in-Some.unwind_rule c.in-ReturnSaved.cfa_offset c.in-ReturnSaved.offset c.in-Some.is (c.in-ReturnSaved.is) before.ready in
    record {
      all = (c.step_in_slice.array_long);
      more = omega arith;
      few = omega arith;
      walks = λ words slice.
          before.walks words slice
          ∙ walks u words (record { pc = c.loop-unwind_rule.here; registers = c.loop-unwind_rule.registers }) (record { pc = c.in-Some-step_in_slice.caller; registers = c.step_in_slice.new.registers }) c.loop-unwind_rule.frames.items c.push.new.self.items low c.in_ok-push.ensures.items
          ((c.in-Some-step_in_slice.ensures.some words slice) ∙ finds words c.loop-unwind_rule.registers before.all);
      ready = c.ready_after-ready.ensures;
    }
