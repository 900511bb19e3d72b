use Rattle.std.proofs.Common.{◌+◌, length, refl, subst, sym}
use Rattle.std.proofs.lemmas.Result.{err_from_is_err_and}
use Rattle.sample_clock.specs.Clock.{Sampling}
use Rattle.live_merge.proofs.Epochs.{AllSoFar, all_column, all_first, all_so_far_more, given_by, so_far_refused, so_far_stops}
use Rattle.live_merge.proofs.epoch.count_rest.Goals as goal

pub loop-sample-init : goal.loop-sample-init
loop-sample-init g c =
    all_first (g.U.Unwind.path_of c.args.unwinder.now) (length c.args.all.now) c.args.events c.args.all.now c.args.samples.now refl c.requires.events c.requires.own c.requires.met c.requires.few c.requires.frames

pub count-requires-clause-column : goal.count-requires-clause-column
count-requires-clause-column g c =
    all_column (g.U.Unwind.path_of c.args.unwinder.now) (length c.args.all.now) c.args.events c.args.all.now c.args.samples.now c.loop-sample.samples c.next_sample.new.samples c.loop-sample.taken c.loop-sample.all c.loop-sample.invariant c.in-Ok-Some.sample
    (given_by (g.U.Unwind.path_of c.args.unwinder.now) c.in-Ok-Some.field-0 c.in-Ok-Some.sample c.loop-sample.samples c.next_sample.new.samples c.in-Ok-Some.field-0-is c.in-Ok-Some.ensures.answer)

pub returns-in_err-count-in-Ok-Some-clause-rest : goal.returns-in_err-count-in-Ok-Some-clause-rest
returns-in_err-count-in-Ok-Some-clause-rest g c done is long =
    let p = err_from_is_err_and c.from_residual.result c.from_residual.ensures.1 in
    rw (p.1, p.2)
    (so_far_refused (g.U.Unwind.path_of c.args.unwinder.now) (length c.args.all.now) c.args.events c.args.all.now c.args.samples.now c.loop-sample.samples c.next_sample.new.samples c.loop-sample.taken c.loop-sample.all c.loop-sample.invariant c.in-Ok-Some.sample
    (given_by (g.U.Unwind.path_of c.args.unwinder.now) c.in-Ok-Some.field-0 c.in-Ok-Some.sample c.loop-sample.samples c.next_sample.new.samples c.in-Ok-Some.field-0-is c.in-Ok-Some.ensures.answer)
    _ c.in_err-count-in-Ok-Some.ensures.counts done is long)

pub returns-in-Err-clause-rest : goal.returns-in-Err-clause-rest
returns-in-Err-clause-rest g c done is long =
    so_far_stops (g.U.Unwind.path_of c.args.unwinder.now) (length c.args.all.now) c.args.events c.args.all.now c.args.samples.now c.loop-sample.samples c.next_sample.new.samples c.loop-sample.taken c.loop-sample.all c.loop-sample.invariant c.in-Err.fail c.in-Err.ensures.answer done is long

pub loop-sample-preserved : goal.loop-sample-preserved
loop-sample-preserved g c =
    subst (λ (s : Sampling). AllSoFar (g.U.Unwind.path_of c.args.unwinder.now) (length c.args.all.now) c.args.events c.args.all.now c.args.samples.now s (c.loop-sample.taken + 1) c.count.new.ccts) (sym c.take_back.ensures)
    (all_so_far_more (g.U.Unwind.path_of c.args.unwinder.now) (length c.args.all.now) c.args.events c.args.all.now c.args.samples.now c.loop-sample.samples c.next_sample.new.samples c.loop-sample.taken c.loop-sample.all c.loop-sample.invariant c.in-Ok-Some.sample
    (given_by (g.U.Unwind.path_of c.args.unwinder.now) c.in-Ok-Some.field-0 c.in-Ok-Some.sample c.loop-sample.samples c.next_sample.new.samples c.in-Ok-Some.field-0-is c.in-Ok-Some.ensures.answer)
    c.count.new.ccts c.in-Ok-Some.ensures.last c.in_ok-count-in-Ok-Some.ensures.counts c.in_ok-count-in-Ok-Some.ensures.samples c.in_ok-count-in-Ok-Some.ensures.columns)
