use Rattle.std.proofs.Common.{◌≡◌, ◌∷◌, [], ◌++◌, length, subst, sym}
use Rattle.std.proofs.lemmas.Result.{err_from_is_err_and}
use Rattle.sample_clock.specs.Clock.{Sampling}
use Rattle.scope_types.specs.Distinct.{distinct}
use Rattle.program_run.specs.Samples.{column_raw}
use Rattle.program_run.specs.Collecting.{GivesOne}
use Rattle.program_run.proofs.Collecting.{given_by, over_by, so_far_stops}
use Rattle.program_run.proofs.TracedSoFar.{TracedSoFar, traced_first, traced_fits, traced_harts, traced_more, traced_over, traced_own, traced_refused, traced_room}
use Rattle.program_run.proofs.tracing.trace_samples.Goals as goal

pub loop-sample-init : goal.loop-sample-init
loop-sample-init g c = traced_first (g.U.Unwind.path_of c.args.unwinder.now) c.args.trace.now c.args.samples.now c.requires.start c.requires.events c.requires.idle c.requires.none c.requires.own

pub add_sample-requires-clause-own : goal.add_sample-requires-clause-own
add_sample-requires-clause-own g c =
    traced_own (g.U.Unwind.path_of c.args.unwinder.now) c.args.trace.now c.loop-sample.trace c.args.samples.now c.loop-sample.samples c.next_sample.new.samples c.loop-sample.invariant c.in-Ok-Some.sample
    (given_by (g.U.Unwind.path_of c.args.unwinder.now) c.in-Ok-Some.field-0 c.in-Ok-Some.sample c.loop-sample.samples c.next_sample.new.samples c.in-Ok-Some.field-0-is c.in-Ok-Some.ensures.answer)

pub add_sample-requires-clause-few : goal.add_sample-requires-clause-few
add_sample-requires-clause-few g c =
    traced_room (g.U.Unwind.path_of c.args.unwinder.now) c.args.trace.now c.loop-sample.trace c.args.samples.now c.loop-sample.samples c.next_sample.new.samples c.loop-sample.invariant c.in-Ok-Some.sample
    (given_by (g.U.Unwind.path_of c.args.unwinder.now) c.in-Ok-Some.field-0 c.in-Ok-Some.sample c.loop-sample.samples c.next_sample.new.samples c.in-Ok-Some.field-0-is c.in-Ok-Some.ensures.answer)

pub returns-in-Ok-None : goal.returns-in-Ok-None
returns-in-Ok-None g c =
    traced_over (g.U.Unwind.path_of c.args.unwinder.now) c.args.trace.now c.loop-sample.trace c.args.samples.now c.loop-sample.samples c.next_sample.new.samples c.loop-sample.invariant
    (over_by (g.U.Unwind.path_of c.args.unwinder.now) c.in-Ok-None.field-0 c.loop-sample.samples c.next_sample.new.samples c.in-Ok-None.field-0-is c.in-Ok-None.ensures.answer) c.in-Ok-None.ensures.last

pub returns-in-Err : goal.returns-in-Err
returns-in-Err g c =
    so_far_stops (g.U.Unwind.path_of c.args.unwinder.now) (length c.args.trace.now.harts) 1 c.args.samples.now c.loop-sample.samples c.next_sample.new.samples c.loop-sample.invariant.ccts c.loop-sample.invariant.sofar c.in-Err.fail c.in-Err.ensures.answer

pub loop-sample-preserved : goal.loop-sample-preserved
loop-sample-preserved g c =
    let given : GivesOne (g.U.Unwind.path_of c.args.unwinder.now) c.in-Ok-Some.sample c.loop-sample.samples c.next_sample.new.samples =
    given_by (g.U.Unwind.path_of c.args.unwinder.now) c.in-Ok-Some.field-0 c.in-Ok-Some.sample c.loop-sample.samples c.next_sample.new.samples c.in-Ok-Some.field-0-is c.in-Ok-Some.ensures.answer in
    let so : TracedSoFar (g.U.Unwind.path_of c.args.unwinder.now) c.args.trace.now c.loop-sample.trace c.args.samples.now c.loop-sample.samples = c.loop-sample.invariant in
    let many : length (distinct (length c.args.trace.now.harts) so.sofar.done) ≡ length c.args.trace.now.harts = c.samples_are_counted.ensures.columns (length c.args.trace.now.harts) so.sofar.done in
    let are = traced_harts (g.U.Unwind.path_of c.args.unwinder.now) c.args.trace.now c.loop-sample.trace c.args.samples.now c.loop-sample.samples c.next_sample.new.samples so in
    let fits = traced_fits (g.U.Unwind.path_of c.args.unwinder.now) c.args.trace.now c.loop-sample.trace c.args.samples.now c.loop-sample.samples c.next_sample.new.samples so in
    subst (λ (s : Sampling). TracedSoFar (g.U.Unwind.path_of c.args.unwinder.now) c.args.trace.now c.add_sample.new.trace c.args.samples.now s) (sym c.take_back.ensures)
    (traced_more (g.U.Unwind.path_of c.args.unwinder.now) c.args.trace.now c.loop-sample.trace c.args.samples.now c.loop-sample.samples c.next_sample.new.samples so c.in-Ok-Some.sample given c.add_sample.new.trace many c.in-Ok-Some.ensures.last
    (c.in_ok-add_sample-in-Ok-Some.ensures.traced so.sofar.done are fits)
    (c.in_ok-add_sample-in-Ok-Some.ensures.harts so.sofar.done are fits)
    c.in_ok-add_sample-in-Ok-Some.ensures.samples)

pub returns-in_err-add_sample-in-Ok-Some : goal.returns-in_err-add_sample-in-Ok-Some
returns-in_err-add_sample-in-Ok-Some g c =
    let p = err_from_is_err_and c.from_residual.result c.from_residual.ensures.1 in
    let given : GivesOne (g.U.Unwind.path_of c.args.unwinder.now) c.in-Ok-Some.sample c.loop-sample.samples c.next_sample.new.samples =
    given_by (g.U.Unwind.path_of c.args.unwinder.now) c.in-Ok-Some.field-0 c.in-Ok-Some.sample c.loop-sample.samples c.next_sample.new.samples c.in-Ok-Some.field-0-is c.in-Ok-Some.ensures.answer in
    let so : TracedSoFar (g.U.Unwind.path_of c.args.unwinder.now) c.args.trace.now c.loop-sample.trace c.args.samples.now c.loop-sample.samples = c.loop-sample.invariant in
    let many : length (distinct (length c.args.trace.now.harts) so.sofar.done) ≡ length c.args.trace.now.harts = c.samples_are_counted.ensures.columns (length c.args.trace.now.harts) so.sofar.done in
    let are = traced_harts (g.U.Unwind.path_of c.args.unwinder.now) c.args.trace.now c.loop-sample.trace c.args.samples.now c.loop-sample.samples c.next_sample.new.samples so in
    let fits = traced_fits (g.U.Unwind.path_of c.args.unwinder.now) c.args.trace.now c.loop-sample.trace c.args.samples.now c.loop-sample.samples c.next_sample.new.samples so in
    rw (p.1, p.2)
    (traced_refused (g.U.Unwind.path_of c.args.unwinder.now) c.args.trace.now c.loop-sample.trace c.args.samples.now c.loop-sample.samples c.next_sample.new.samples so c.in-Ok-Some.sample given _ many
    (c.in_err-add_sample-in-Ok-Some.ensures.traced so.sofar.done are fits)
    (c.samples_are_counted.ensures.grow (length c.args.trace.now.harts) (so.sofar.done ++ column_raw 1 c.in-Ok-Some.sample ∷ [])))
