use Rattle.std.proofs.Common.{◌≡◌, Bool, sym, ap, subst, ◌∙◌}
use Rattle.std.specs.Prelude.{option_to_list}
use Rattle.rv_run.specs.State.{hart_of}
use Rattle.sample_clock.specs.Samples.{words_of}
use Rattle.sample_clock.specs.Clock.{Sampling}
use Rattle.sample_clock.specs.private.Advance.{CarriedOut, Quiet, with_pending}
use Rattle.sample_clock.proofs.Advancing.{broke-next, quiet-none}
use Rattle.sample_clock.proofs.Carrying.{sampling}
use Rattle.sample_clock.proofs.Sampled.{kept-dropped, kept-sampled, kept-unretired}
use Rattle.sample_clock.proofs.clock.Samples.sample.Goals as goal

pub returns-in_err-path : goal.returns-in_err-path
returns-in_err-path g c =
    broke-next (g.U.Unwind.path_of c.args.unwinder.now) c.args.coming.now c.from_residual.result c.args.self.now (sampling c.self.inside.machine c.self.inside.events.items c.self.inside.full c.self.inside.left (option_to_list c.self.inside.pending) c.self.inside.met) c.from_residual.ensures.0
    (subst (λ (s : Sampling). Quiet (g.U.Unwind.path_of c.args.unwinder.now) s (sampling c.self.inside.machine c.self.inside.events.items c.self.inside.full c.self.inside.left (option_to_list c.self.inside.pending) c.self.inside.met)) c.self.view_is (quiet-none (g.U.Unwind.path_of c.args.unwinder.now) (sampling c.self.inside.machine c.self.inside.events.items c.self.inside.full c.self.inside.left (option_to_list c.self.inside.pending) c.self.inside.met)))

pub returns-in_err-second : goal.returns-in_err-second
returns-in_err-second g c =
    broke-next (g.U.Unwind.path_of c.args.unwinder.now) c.args.coming.now c.from_residual-in_err-second.result c.args.self.now c.second_sample.new.self c.from_residual-in_err-second.ensures.0
    (subst (Quiet (g.U.Unwind.path_of c.args.unwinder.now) c.args.self.now) (sym (c.in_err-second.ensures.same ∙ c.self.view_is)) (quiet-none (g.U.Unwind.path_of c.args.unwinder.now) c.args.self.now))

pub keep-requires : goal.keep-requires
keep-requires g c = ap (λ (s : Sampling). s.pending) (c.in_ok-second.ensures.same ∙ c.self.view_is) ∙ c.requires.pending

pub returns-in-Ok-true : goal.returns-in-Ok-true
returns-in-Ok-true g c =
    kept-sampled (g.U.Unwind.path_of c.args.unwinder.now) c.args.coming.now c.in_ok-path.path c.in_ok-second.second c.args.self.now c.keep.new.self c.carry_out-carried.new.self c.requires.coming c.requires.pending
    (subst (λ (s : Sampling). c.in_ok-path.path ≡ g.U.Unwind.path_of c.args.unwinder.now c.args.coming.now.pc (hart_of s.machine.state c.args.coming.now.hart).registers (words_of s.machine.state.memory)) c.self.view_is c.in_ok-path.ensures)
    c.requires.sampled c.in_ok-second.ensures.second
    (c.keep.ensures ∙ ap (with_pending (option_to_list c.in_ok-second.second)) (c.in_ok-second.ensures.same ∙ c.self.view_is))
    (subst (λ (b : Bool). CarriedOut c.args.coming.now b c.keep.new.self c.carry_out-carried.new.self) c.in-Ok-true.field-0-test c.in-Ok-true.ensures.ok)

pub returns-in-Ok-false : goal.returns-in-Ok-false
returns-in-Ok-false g c =
    kept-unretired (g.U.Unwind.path_of c.args.unwinder.now) c.args.coming.now (option_to_list c.in_ok-second.second) c.args.self.now c.keep.new.self c.carry_out-carried.new.self c.drop_pending.new.self c.requires.pending
    (c.keep.ensures ∙ ap (with_pending (option_to_list c.in_ok-second.second)) (c.in_ok-second.ensures.same ∙ c.self.view_is))
    (subst (λ (b : Bool). CarriedOut c.args.coming.now b c.keep.new.self c.carry_out-carried.new.self) c.in-Ok-false.field-0-test c.in-Ok-false.ensures.ok)
    c.drop_pending.ensures

pub returns-in-Err : goal.returns-in-Err
returns-in-Err g c =
    kept-dropped (g.U.Unwind.path_of c.args.unwinder.now) (option_to_list c.in_ok-second.second) c.args.self.now c.keep.new.self c.carry_out-carried.new.self c.drop_pending-in-Err.new.self c.requires.pending
    (c.keep.ensures ∙ ap (with_pending (option_to_list c.in_ok-second.second)) (c.in_ok-second.ensures.same ∙ c.self.view_is))
    c.in-Err.ensures.err c.drop_pending-in-Err.ensures
