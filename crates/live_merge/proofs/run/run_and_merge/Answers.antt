use Rattle.std.proofs.Common.{rules, length, Ok}
use Rattle.std.proofs.lemmas.Result.{err_from_is_err_and}
use Rattle.live_merge.specs.Live.{StandsWithin}
use Rattle.live_merge.specs.private.Epochs.{GivesEpoch}
use Rattle.live_merge.proofs.Running.{epoch_within}
use Rattle.live_merge.proofs.run.run_and_merge.Goals as goal

pub returns-in_err-merged-clause-run : goal.returns-in_err-merged-clause-run
returns-in_err-merged-clause-run g c done is long =
    let gives : GivesEpoch (g.U.Unwind.path_of c.args.unwinder.now) (length c.args.all.now) c.args.epoch done (Ok c.in_ok-next.next) c.all-1.given.0 c.args.samples.now c.samples-1.given.0 = search rules in
    let within : StandsWithin (g.U.Unwind.path_of c.args.unwinder.now) c.args.samples.now c.samples-1.given.0 = epoch_within (g.U.Unwind.path_of c.args.unwinder.now) (length c.args.all.now) c.args.epoch done c.in_ok-next.next c.all-1.given.0 c.args.samples.now c.samples-1.given.0 gives in
    let p = err_from_is_err_and c.from_residual-in_err-merged.result c.from_residual-in_err-merged.ensures.1 in
    rw (p.1, p.2) within
