use Rattle.std.proofs.Common.{[], Option, sym, ap, ◌∙◌}
use Rattle.std.specs.Prelude.{option_to_list}
use Rattle.sample_clock.specs.declared.clock.Sample.{Sample}
use Rattle.sample_clock.specs.Clock.{Sampling}
use Rattle.sample_clock.specs.private.Advance.{with_one_met, with_pending}
use Rattle.sample_clock.proofs.Advancing.{pending-given, pending-over}
use Rattle.sample_clock.proofs.Carrying.{sampling}
use Rattle.sample_clock.proofs.clock.Samples.give_pending.Goals as goal

pub returns-then-not-count_met-clause-answer : goal.returns-then-not-count_met-clause-answer
returns-then-not-count_met-clause-answer c path_of =
    pending-over path_of c.take-sample.result (record {}) c.args.self.now c.count_met.new.self
    (sym (ap (λ (s : Sampling). s.pending) c.self.view_is) ∙ ap option_to_list (sym c.take-sample.ensures.value))
    c.requires.some
    (c.count_met.ensures.new ∙ ap with_one_met (ap (λ (o : Option Sample). sampling c.self.inside.machine c.self.inside.events.items c.self.inside.full c.self.inside.left (option_to_list o) c.self.inside.met) c.take-sample.ensures.after ∙ ap (with_pending []) c.self.view_is))
    (c.count_met.ensures.over c.if-not-count_met.true)

pub returns-clause-answer : goal.returns-clause-answer
returns-clause-answer c path_of =
    pending-given path_of c.take-sample.result c.args.self.now c.count_met.new.self
    (sym (ap (λ (s : Sampling). s.pending) c.self.view_is) ∙ ap option_to_list (sym c.take-sample.ensures.value))
    c.requires.some
    (c.count_met.ensures.new ∙ ap with_one_met (ap (λ (o : Option Sample). sampling c.self.inside.machine c.self.inside.events.items c.self.inside.full c.self.inside.left (option_to_list o) c.self.inside.met) c.take-sample.ensures.after ∙ ap (with_pending []) c.self.view_is))
    (c.count_met.ensures.few c.if-not-count_met.false)
