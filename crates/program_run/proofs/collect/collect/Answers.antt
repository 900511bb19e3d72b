use Rattle.std.proofs.Common.{◌≡◌, ◌*◌, ◌++◌, ◌∷◌, [], length, sym, subst}
use Rattle.std.proofs.lemmas.Result.{err_from_is_err_and}
use Rattle.sample_clock.specs.Clock.{Sampling}
use Rattle.scope_types.specs.Distinct.{distinct}
use Rattle.program_run.specs.Samples.{column_raw}
use Rattle.program_run.specs.Collecting.{GivesOne}
use Rattle.program_run.proofs.Collecting.{SoFar, so_far_first, so_far_column, so_far_columns, so_far_room, so_far_counts, so_far_more, so_far_refused, so_far_over, so_far_stops, given_by, over_by}
use Rattle.program_run.proofs.collect.collect.Goals as goal

pub loop-sample-init : goal.loop-sample-init
loop-sample-init g c = so_far_first _ (c.args.harts * c.args.events) c.args.events c.args.samples.now _ c.requires.start c.requires.events c.requires.own c.in_ok-ccts.ensures.distinct c.in_ok-ccts.ensures.samples

pub count_sample-requires-clause-column : goal.count_sample-requires-clause-column
count_sample-requires-clause-column g c =
    so_far_column (g.U.Unwind.path_of c.args.unwinder.now) (c.args.harts * c.args.events) c.args.events c.args.samples.now c.loop-sample.samples c.next_sample.new.samples c.loop-sample.ccts c.loop-sample.invariant c.in-Ok-Some.sample
    (given_by (g.U.Unwind.path_of c.args.unwinder.now) c.in-Ok-Some.field-0 c.in-Ok-Some.sample c.loop-sample.samples c.next_sample.new.samples c.in-Ok-Some.field-0-is c.in-Ok-Some.ensures.answer) (c.samples_are_counted.ensures.columns (c.args.harts * c.args.events) c.loop-sample.invariant.done)

pub count_sample-requires-clause-columns : goal.count_sample-requires-clause-columns
count_sample-requires-clause-columns g c =
    so_far_columns (g.U.Unwind.path_of c.args.unwinder.now) (c.args.harts * c.args.events) c.args.events c.args.samples.now c.loop-sample.samples c.next_sample.new.samples c.loop-sample.ccts c.loop-sample.invariant
    (c.samples_are_counted.ensures.columns (c.args.harts * c.args.events) c.loop-sample.invariant.done) c.requires.few

pub count_sample-requires-clause-few : goal.count_sample-requires-clause-few
count_sample-requires-clause-few g c =
    so_far_room (g.U.Unwind.path_of c.args.unwinder.now) (c.args.harts * c.args.events) c.args.events c.args.samples.now c.loop-sample.samples c.next_sample.new.samples c.loop-sample.ccts c.loop-sample.invariant c.in-Ok-Some.sample
    (given_by (g.U.Unwind.path_of c.args.unwinder.now) c.in-Ok-Some.field-0 c.in-Ok-Some.sample c.loop-sample.samples c.next_sample.new.samples c.in-Ok-Some.field-0-is c.in-Ok-Some.ensures.answer)

pub returns-in-Ok-None : goal.returns-in-Ok-None
returns-in-Ok-None g c =
    so_far_over (g.U.Unwind.path_of c.args.unwinder.now) (c.args.harts * c.args.events) c.args.events c.args.samples.now c.loop-sample.samples c.next_sample.new.samples c.loop-sample.ccts c.loop-sample.invariant
    (over_by (g.U.Unwind.path_of c.args.unwinder.now) c.in-Ok-None.field-0 c.loop-sample.samples c.next_sample.new.samples c.in-Ok-None.field-0-is c.in-Ok-None.ensures.answer) c.in-Ok-None.ensures.last

pub returns-in-Err : goal.returns-in-Err
returns-in-Err g c =
    so_far_stops (g.U.Unwind.path_of c.args.unwinder.now) (c.args.harts * c.args.events) c.args.events c.args.samples.now c.loop-sample.samples c.next_sample.new.samples c.loop-sample.ccts c.loop-sample.invariant c.in-Err.fail c.in-Err.ensures.answer

pub loop-sample-preserved : goal.loop-sample-preserved
loop-sample-preserved g c =
    let given : GivesOne (g.U.Unwind.path_of c.args.unwinder.now) c.in-Ok-Some.sample c.loop-sample.samples c.next_sample.new.samples =
    given_by (g.U.Unwind.path_of c.args.unwinder.now) c.in-Ok-Some.field-0 c.in-Ok-Some.sample c.loop-sample.samples c.next_sample.new.samples c.in-Ok-Some.field-0-is c.in-Ok-Some.ensures.answer in
    let many : length (distinct (c.args.harts * c.args.events) c.loop-sample.invariant.done) ≡ c.args.harts * c.args.events = c.samples_are_counted.ensures.columns (c.args.harts * c.args.events) c.loop-sample.invariant.done in
    subst (λ (s : Sampling). SoFar (g.U.Unwind.path_of c.args.unwinder.now) (c.args.harts * c.args.events) c.args.events c.args.samples.now s c.count_sample.new.ccts) (sym c.take_back.ensures)
    (so_far_more (g.U.Unwind.path_of c.args.unwinder.now) (c.args.harts * c.args.events) c.args.events c.args.samples.now c.loop-sample.samples c.next_sample.new.samples c.loop-sample.ccts c.loop-sample.invariant c.in-Ok-Some.sample given many c.count_sample.new.ccts c.in-Ok-Some.ensures.last
    (c.in_ok-count_sample-in-Ok-Some.ensures.counts c.loop-sample.invariant.done (so_far_counts (g.U.Unwind.path_of c.args.unwinder.now) (c.args.harts * c.args.events) c.args.events c.args.samples.now c.loop-sample.samples c.next_sample.new.samples c.loop-sample.ccts c.loop-sample.invariant c.in-Ok-Some.sample given many))
    c.in_ok-count_sample-in-Ok-Some.ensures.samples)

pub returns-in_err-count_sample-in-Ok-Some : goal.returns-in_err-count_sample-in-Ok-Some
returns-in_err-count_sample-in-Ok-Some g c =
    let p = err_from_is_err_and c.from_residual-in_err-count_sample-in-Ok-Some.result c.from_residual-in_err-count_sample-in-Ok-Some.ensures.1 in
    let given : GivesOne (g.U.Unwind.path_of c.args.unwinder.now) c.in-Ok-Some.sample c.loop-sample.samples c.next_sample.new.samples =
    given_by (g.U.Unwind.path_of c.args.unwinder.now) c.in-Ok-Some.field-0 c.in-Ok-Some.sample c.loop-sample.samples c.next_sample.new.samples c.in-Ok-Some.field-0-is c.in-Ok-Some.ensures.answer in
    let many : length (distinct (c.args.harts * c.args.events) c.loop-sample.invariant.done) ≡ c.args.harts * c.args.events = c.samples_are_counted.ensures.columns (c.args.harts * c.args.events) c.loop-sample.invariant.done in
    rw (p.1, p.2)
    (so_far_refused (g.U.Unwind.path_of c.args.unwinder.now) (c.args.harts * c.args.events) c.args.events c.args.samples.now c.loop-sample.samples c.next_sample.new.samples c.loop-sample.ccts c.loop-sample.invariant c.in-Ok-Some.sample given many _
    (c.in_err-count_sample-in-Ok-Some.ensures.counts c.loop-sample.invariant.done (so_far_counts (g.U.Unwind.path_of c.args.unwinder.now) (c.args.harts * c.args.events) c.args.events c.args.samples.now c.loop-sample.samples c.next_sample.new.samples c.loop-sample.ccts c.loop-sample.invariant c.in-Ok-Some.sample given many))
    (c.samples_are_counted.ensures.grow (c.args.harts * c.args.events) (c.loop-sample.invariant.done ++ column_raw c.args.events c.in-Ok-Some.sample ∷ [])))
