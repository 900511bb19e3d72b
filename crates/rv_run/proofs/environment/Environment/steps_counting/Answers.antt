use Rattle.std.proofs.Common.{◌≡◌, ◌+◌, ◌<◌, true, drop, length, set, sym, ap, subst, ◌∙◌}
use Rattle.std.proofs.lemmas.List.{get_or_default}
use Rattle.rv_hart.specs.Events.{SpentBy, left_of}
use Rattle.rv_hart.specs.Running.{Ran}
use Rattle.rv_run.specs.State.{HartState, MachineState, hart_of, is_running, no_hart, step_state}
use Rattle.rv_run.specs.private.Queue.{Passing}
use Rattle.rv_run.proofs.Running.{with_memory, passing-run, counted-stops}
use Rattle.rv_run.proofs.environment.Environment.steps_counting.Goals as goal

pub returns-clause-passed : goal.returns-clause-passed
returns-clause-passed c =
    let s : MachineState = record {
      memory = c.self.inside.space;
      harts = c.self.inside.harts.items;
      input = drop c.self.inside.consumed c.self.inside.input.items;
      output = c.self.inside.output.items;
    } in
    let within : c.args.hart < length s.harts = subst (λ (t : MachineState). c.args.hart < length t.harts) (sym c.self.view_is) c.requires.hart in
    let core : c.index_mut-core.result.now ≡ hart_of s c.args.hart = c.index_mut-core.ensures.value ∙ get_or_default s.harts c.args.hart c.index_mut-core.result.now no_hart within in
    subst (λ (t : MachineState). is_running (hart_of t c.args.hart) ≡ true → Passing c.args.hart c.run_counting.result.0 t (with_memory s c.run_counting.new.space (set s.harts c.args.hart c.run_counting.new.self))) c.self.view_is
    (passing-run c.args.hart c.run_counting.result.0 c.run_counting.new.self c.run_counting.new.space s within
    (c.run_counting.ensures.retired ∙ ap (λ (h : HartState). h.retired + c.run_counting.result.0) core)
    (c.run_counting.ensures.end ∙ ap (λ (h : HartState). h.end) core)
    (subst (λ (h : HartState). Ran c.run_counting.result.0 (step_state h s.memory) (step_state c.run_counting.new.self c.run_counting.new.space)) core c.run_counting.ensures.ran))

pub returns-clause-stops : goal.returns-clause-stops
returns-clause-stops c =
    let s : MachineState = record {
      memory = c.self.inside.space;
      harts = c.self.inside.harts.items;
      input = drop c.self.inside.consumed c.self.inside.input.items;
      output = c.self.inside.output.items;
    } in
    let within : c.args.hart < length s.harts = subst (λ (t : MachineState). c.args.hart < length t.harts) (sym c.self.view_is) c.requires.hart in
    counted-stops c.run_counting.new.self c.run_counting.new.space c.run_counting.result.0 c.args.most c.args.hart (left_of c.run_counting.new.left) s c.run_counting.result.1 within
    c.run_counting.ensures.all c.run_counting.ensures.ends c.run_counting.ensures.memory c.run_counting.ensures.short

pub returns-clause-spent : goal.returns-clause-spent
returns-clause-spent c =
    let s : MachineState = record {
      memory = c.self.inside.space;
      harts = c.self.inside.harts.items;
      input = drop c.self.inside.consumed c.self.inside.input.items;
      output = c.self.inside.output.items;
    } in
    let within : c.args.hart < length s.harts = subst (λ (t : MachineState). c.args.hart < length t.harts) (sym c.self.view_is) c.requires.hart in
    let core : c.index_mut-core.result.now ≡ hart_of s c.args.hart = c.index_mut-core.ensures.value ∙ get_or_default s.harts c.args.hart c.index_mut-core.result.now no_hart within in
    subst (λ (t : MachineState). SpentBy (left_of c.args.left.now) (left_of c.run_counting.new.left) c.run_counting.result.0 (step_state (hart_of t c.args.hart) t.memory)) c.self.view_is
    (subst (λ (h : HartState). SpentBy (left_of c.args.left.now) (left_of c.run_counting.new.left) c.run_counting.result.0 (step_state h s.memory)) core c.run_counting.ensures.spent)
