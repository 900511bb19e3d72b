use Rattle.std.proofs.Common.{◌+◌, [], length, refl, sym, subst}
use Rattle.std.proofs.lemmas.Result.{err_from_is_err_and}
use Rattle.sample_clock.specs.Clock.{Sampling}
use Rattle.live_merge.proofs.Epochs.{all_column, given_by, so_far_refused, so_far_stops}
use Rattle.live_merge.proofs.EpochSoFar.{SoFar, own_column, so_far_first, so_far_more, so_far_own}
use Rattle.live_merge.proofs.epoch.next_epoch.Goals as goal

pub loop-taken-init : goal.loop-taken-init
loop-taken-init g c =
    so_far_first (g.U.Unwind.path_of c.args.unwinder.now) (length c.args.all.now) c.args.events c.columns.result c.args.all.now c.in_ok-ccts.ccts c.args.samples.now refl c.columns.ensures.columns c.requires.events c.requires.own c.requires.met
    c.columns.ensures.samples c.columns.ensures.frames c.in_ok-ccts.ensures.distinct c.in_ok-ccts.ensures.samples (c.samples_are_counted.ensures.columns (length c.args.all.now) [])

pub count-requires-clause-column : goal.count-requires-clause-column
count-requires-clause-column g c =
    all_column (g.U.Unwind.path_of c.args.unwinder.now) (length c.args.all.now) c.args.events c.args.all.now c.args.samples.now c.loop-taken.samples c.next_sample.new.samples c.loop-taken.taken c.loop-taken.all c.loop-taken.invariant.run c.in-Ok-Some.sample
    (given_by (g.U.Unwind.path_of c.args.unwinder.now) c.in-Ok-Some.field-0 c.in-Ok-Some.sample c.loop-taken.samples c.next_sample.new.samples c.in-Ok-Some.field-0-is c.in-Ok-Some.ensures.answer)

pub count-requires-in-Ok-Some-clause-column : goal.count-requires-in-Ok-Some-clause-column
count-requires-in-Ok-Some-clause-column g c =
    own_column (g.U.Unwind.path_of c.args.unwinder.now) (length c.args.all.now) c.args.events c.args.all.now c.args.samples.now c.loop-taken.samples c.next_sample.new.samples c.loop-taken.taken c.loop-taken.all c.loop-taken.ccts c.loop-taken.invariant c.in-Ok-Some.sample
    (given_by (g.U.Unwind.path_of c.args.unwinder.now) c.in-Ok-Some.field-0 c.in-Ok-Some.sample c.loop-taken.samples c.next_sample.new.samples c.in-Ok-Some.field-0-is c.in-Ok-Some.ensures.answer)

pub returns-in_err-count-in-Ok-Some-clause-epoch : goal.returns-in_err-count-in-Ok-Some-clause-epoch
returns-in_err-count-in-Ok-Some-clause-epoch g c done is long =
    let p = err_from_is_err_and c.from_residual-in_err-count-in-Ok-Some.result c.from_residual-in_err-count-in-Ok-Some.ensures.1 in
    rw (p.1, p.2)
    (so_far_refused (g.U.Unwind.path_of c.args.unwinder.now) (length c.args.all.now) c.args.events c.args.all.now c.args.samples.now c.loop-taken.samples c.next_sample.new.samples c.loop-taken.taken c.loop-taken.all c.loop-taken.invariant.run c.in-Ok-Some.sample
    (given_by (g.U.Unwind.path_of c.args.unwinder.now) c.in-Ok-Some.field-0 c.in-Ok-Some.sample c.loop-taken.samples c.next_sample.new.samples c.in-Ok-Some.field-0-is c.in-Ok-Some.ensures.answer)
    _ c.in_err-count-in-Ok-Some.ensures.counts done is long)

pub returns-in_err-count-in-Ok-Some-2-clause-epoch : goal.returns-in_err-count-in-Ok-Some-2-clause-epoch
returns-in_err-count-in-Ok-Some-2-clause-epoch g c done is long =
    let p = err_from_is_err_and c.from_residual-in_err-count-in-Ok-Some-2.result c.from_residual-in_err-count-in-Ok-Some-2.ensures.1 in
    rw (p.1, p.2)
    (so_far_own (g.U.Unwind.path_of c.args.unwinder.now) (length c.args.all.now) c.args.events c.args.all.now c.args.samples.now c.loop-taken.samples c.next_sample.new.samples c.loop-taken.taken c.loop-taken.all c.loop-taken.ccts c.loop-taken.invariant c.in-Ok-Some.sample
    (given_by (g.U.Unwind.path_of c.args.unwinder.now) c.in-Ok-Some.field-0 c.in-Ok-Some.sample c.loop-taken.samples c.next_sample.new.samples c.in-Ok-Some.field-0-is c.in-Ok-Some.ensures.answer)
    c.args.epoch _ c.count.new.ccts c.in_ok-count-in-Ok-Some.ensures.counts c.in_err-count-in-Ok-Some-2.ensures.counts done is long)

pub returns-in-Err-clause-epoch : goal.returns-in-Err-clause-epoch
returns-in-Err-clause-epoch g c done is long =
    so_far_stops (g.U.Unwind.path_of c.args.unwinder.now) (length c.args.all.now) c.args.events c.args.all.now c.args.samples.now c.loop-taken.samples c.next_sample.new.samples c.loop-taken.taken c.loop-taken.all c.loop-taken.invariant.run c.in-Err.fail c.in-Err.ensures.answer done is long

pub loop-taken-preserved : goal.loop-taken-preserved
loop-taken-preserved g c =
    subst (λ (s : Sampling). SoFar (g.U.Unwind.path_of c.args.unwinder.now) (length c.args.all.now) c.args.events c.args.all.now c.args.samples.now s (c.loop-taken.taken + 1) c.count.new.ccts c.count-in-Ok-Some.new.ccts) (sym c.take_back.ensures)
    (so_far_more (g.U.Unwind.path_of c.args.unwinder.now) (length c.args.all.now) c.args.events c.args.all.now c.args.samples.now c.loop-taken.samples c.next_sample.new.samples c.loop-taken.taken c.loop-taken.all c.loop-taken.ccts c.loop-taken.invariant c.in-Ok-Some.sample
    (given_by (g.U.Unwind.path_of c.args.unwinder.now) c.in-Ok-Some.field-0 c.in-Ok-Some.sample c.loop-taken.samples c.next_sample.new.samples c.in-Ok-Some.field-0-is c.in-Ok-Some.ensures.answer)
    c.count.new.ccts c.count-in-Ok-Some.new.ccts c.in-Ok-Some.ensures.last c.in_ok-count-in-Ok-Some.ensures.counts c.in_ok-count-in-Ok-Some.ensures.samples c.in_ok-count-in-Ok-Some.ensures.columns
    c.in_ok-count-in-Ok-Some-2.ensures.counts c.in_ok-count-in-Ok-Some-2.ensures.samples c.in_ok-count-in-Ok-Some-2.ensures.columns)
