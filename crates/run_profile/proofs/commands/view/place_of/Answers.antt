use Rattle.std.proofs.Common.{arith}
use Rattle.run_report.proofs.FewEvents.{few_events}
use Rattle.run_profile.proofs.FewRuns.{word_fits}
use Rattle.run_profile.proofs.commands.view.place_of.Goals as goal

pub overflow_cast-result : goal.overflow_cast-result
overflow_cast-result c =
    (let few = few_events c.args.events.now c.requires in let within = c.in-Some-index_of.ensures.within in word_fits c.in-Some-index_of.place (omega (arith, few, within)))
