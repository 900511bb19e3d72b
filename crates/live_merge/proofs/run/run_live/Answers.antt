use Rattle.std.proofs.Common.{◌*◌, ◌+◌, ◌<◌, ◌≤◌, ◌++◌, [], length, Ok, Err, refl, ◌∙◌, arith}
use Rattle.std.proofs.lemmas.Result.{err_from_is_err_and}
use Rattle.scope_types.specs.Limits.{most_samples}
use Rattle.live_merge.proofs.Epochs.{no_samples}
use Rattle.live_merge.proofs.Running.{all_long, as_long, coming_own, count_fits, epoch_stands, fewer_left, first_epoch, first_step, give_whole, has_ended, next_answer, next_gives, next_stands, next_step, own_first, whole_answer, whole_fails, whole_stands}
use Rattle.live_merge.specs.private.Epochs.{IsRest, raws}
use Rattle.live_merge.proofs.Rest.{rest_answer, rest_ended, rest_fails, rest_fits, rest_gives, rest_merged, rest_stands, rest_stops}
use Rattle.live_merge.proofs.run.run_live.Goals as goal

pub next_epoch-requires-clause-own : goal.next_epoch-requires-clause-own
next_epoch-requires-clause-own g c = own_first (g.U.Unwind.path_of c.args.unwinder.now) (c.args.harts * c.args.events) c.args.samples.now c.in_ok-all.all (c.samples_are_counted.ensures.columns (c.args.harts * c.args.events)) c.in_ok-all.ensures.distinct c.requires.own

pub returns-in_err-last-clause-stands : goal.returns-in_err-last-clause-stands
returns-in_err-last-clause-stands g c =
    let p = err_from_is_err_and c.from_residual-in_err-last.result c.from_residual-in_err-last.ensures.1 in
    rw (p.1, p.2)
    (epoch_stands (g.U.Unwind.path_of c.args.unwinder.now) (g.E.Expand.call_path c.args.expand.now) (c.args.harts * c.args.events) c.args.samples.now c.args.samples.now c.next_epoch.new.samples [] (no_samples (g.U.Unwind.path_of c.args.unwinder.now) c.args.samples.now) refl c.args.epoch c.in_err-last.field-0.0 c.next_epoch.new.all
    (first_epoch (g.U.Unwind.path_of c.args.unwinder.now) (c.args.harts * c.args.events) c.args.epoch c.args.samples.now c.next_epoch.new.samples c.in_ok-all.all c.next_epoch.new.all (Err c.in_err-last.field-0.0) (c.samples_are_counted.ensures.columns (c.args.harts * c.args.events)) c.in_ok-all.ensures.distinct c.requires.start c.in_err-last.ensures.epoch))

pub loop-last-init : goal.loop-last-init
loop-last-init g c =
    first_step (g.U.Unwind.path_of c.args.unwinder.now) (g.E.Expand.call_path c.args.expand.now) (c.args.harts * c.args.events) c.args.epoch c.args.samples.now c.next_epoch.new.samples c.next_epoch.new.all c.new-trees.result c.in_ok-last.last c.requires.start c.requires.own
    (first_epoch (g.U.Unwind.path_of c.args.unwinder.now) (c.args.harts * c.args.events) c.args.epoch c.args.samples.now c.next_epoch.new.samples c.in_ok-all.all c.next_epoch.new.all (Ok c.in_ok-last.last) (c.samples_are_counted.ensures.columns (c.args.harts * c.args.events)) c.in_ok-all.ensures.distinct c.requires.start c.in_ok-last.ensures.epoch)
    (c.new-trees.ensures.merged (g.E.Expand.call_path c.args.expand.now) (c.args.harts * c.args.events)) (c.new-trees.ensures.small (c.args.harts * c.args.events)) c.new-trees.ensures.counted

pub run_and_merge-requires-clause-own : goal.run_and_merge-requires-clause-own
run_and_merge-requires-clause-own g c κs within =
    coming_own (g.U.Unwind.path_of c.args.unwinder.now) (g.E.Expand.call_path c.args.expand.now) (c.args.harts * c.args.events) c.args.epoch c.args.samples.now c.loop-last.samples c.loop-last.all c.loop-last.trees c.loop-last.last c.loop-last.count c.loop-last.invariant (c.samples_are_counted.ensures.columns (c.args.harts * c.args.events)) c.loop-last-test.true

pub returns-in_err-next-clause-answer : goal.returns-in_err-next-clause-answer
returns-in_err-next-clause-answer g c =
    let p = err_from_is_err_and c.from_residual-in_err-next.result c.from_residual-in_err-next.ensures.1 in
    rw (p.1, p.2)
    (next_answer (g.U.Unwind.path_of c.args.unwinder.now) (g.E.Expand.call_path c.args.expand.now) (c.args.harts * c.args.events) c.args.epoch c.args.samples.now c.loop-last.samples c.loop-last.all c.loop-last.trees c.loop-last.last c.loop-last.count c.loop-last.invariant (c.samples_are_counted.ensures.columns (c.args.harts * c.args.events)) c.loop-last-test.true c.in_err-next.field-0.0 c.run_and_merge.new.all c.run_and_merge.new.samples
    (next_gives (g.U.Unwind.path_of c.args.unwinder.now) (g.E.Expand.call_path c.args.expand.now) (c.args.harts * c.args.events) c.args.epoch c.args.samples.now c.loop-last.samples c.loop-last.all c.loop-last.trees c.loop-last.last c.loop-last.count c.loop-last.invariant (c.samples_are_counted.ensures.columns (c.args.harts * c.args.events)) (Err c.in_err-next.field-0.0) c.run_and_merge.new.all c.run_and_merge.new.samples c.in_err-next.ensures.run))

pub returns-in_err-next-clause-stands : goal.returns-in_err-next-clause-stands
returns-in_err-next-clause-stands g c =
    let p = err_from_is_err_and c.from_residual-in_err-next.result c.from_residual-in_err-next.ensures.1 in
    rw (p.1, p.2)
    (next_stands (g.U.Unwind.path_of c.args.unwinder.now) (g.E.Expand.call_path c.args.expand.now) (c.args.harts * c.args.events) c.args.epoch c.args.samples.now c.loop-last.samples c.loop-last.all c.loop-last.trees c.loop-last.last c.loop-last.count c.loop-last.invariant (c.samples_are_counted.ensures.columns (c.args.harts * c.args.events)) c.loop-last-test.true c.in_err-next.field-0.0 c.run_and_merge.new.all c.run_and_merge.new.samples
    (next_gives (g.U.Unwind.path_of c.args.unwinder.now) (g.E.Expand.call_path c.args.expand.now) (c.args.harts * c.args.events) c.args.epoch c.args.samples.now c.loop-last.samples c.loop-last.all c.loop-last.trees c.loop-last.last c.loop-last.count c.loop-last.invariant (c.samples_are_counted.ensures.columns (c.args.harts * c.args.events)) (Err c.in_err-next.field-0.0) c.run_and_merge.new.all c.run_and_merge.new.samples c.in_err-next.ensures.run))

pub overflow_add-count : goal.overflow_add-count
overflow_add-count g c =
    let few : c.loop-last.count + c.in_ok-next.next.samples ≤ most_samples =
    count_fits (g.U.Unwind.path_of c.args.unwinder.now) (g.E.Expand.call_path c.args.expand.now) (c.args.harts * c.args.events) c.args.epoch c.args.samples.now c.loop-last.samples c.loop-last.all c.loop-last.trees c.loop-last.last c.loop-last.count c.loop-last.invariant (c.samples_are_counted.ensures.columns (c.args.harts * c.args.events)) c.in_ok-next.next c.run_and_merge.new.all c.run_and_merge.new.samples
    (next_gives (g.U.Unwind.path_of c.args.unwinder.now) (g.E.Expand.call_path c.args.expand.now) (c.args.harts * c.args.events) c.args.epoch c.args.samples.now c.loop-last.samples c.loop-last.all c.loop-last.trees c.loop-last.last c.loop-last.count c.loop-last.invariant (c.samples_are_counted.ensures.columns (c.args.harts * c.args.events)) (Ok c.in_ok-next.next) c.run_and_merge.new.all c.run_and_merge.new.samples c.in_ok-next.ensures.run) in
    omega arith

pub loop-last-smaller : goal.loop-last-smaller
loop-last-smaller g c =
    let some : 0 < c.args.epoch = (let least = c.requires.epoch.0 in omega (arith, least)) in
    fewer_left (g.U.Unwind.path_of c.args.unwinder.now) (length c.loop-last.all) c.args.epoch _ c.loop-last.last c.in_ok-next.next c.run_and_merge.new.all c.loop-last.samples c.run_and_merge.new.samples
    (next_gives (g.U.Unwind.path_of c.args.unwinder.now) (g.E.Expand.call_path c.args.expand.now) (c.args.harts * c.args.events) c.args.epoch c.args.samples.now c.loop-last.samples c.loop-last.all c.loop-last.trees c.loop-last.last c.loop-last.count c.loop-last.invariant (c.samples_are_counted.ensures.columns (c.args.harts * c.args.events)) (Ok c.in_ok-next.next) c.run_and_merge.new.all c.run_and_merge.new.samples c.in_ok-next.ensures.run) some c.loop-last-test.true

pub loop-last-preserved : goal.loop-last-preserved
loop-last-preserved g c =
    next_step (g.U.Unwind.path_of c.args.unwinder.now) (g.E.Expand.call_path c.args.expand.now) (c.args.harts * c.args.events) c.args.epoch c.args.samples.now c.loop-last.samples c.loop-last.all c.loop-last.trees c.loop-last.last c.loop-last.count c.loop-last.invariant (c.samples_are_counted.ensures.columns (c.args.harts * c.args.events)) c.loop-last-test.true c.requires.own c.in_ok-next.next c.run_and_merge.new.all c.run_and_merge.new.samples c.run_and_merge.new.trees
    (next_gives (g.U.Unwind.path_of c.args.unwinder.now) (g.E.Expand.call_path c.args.expand.now) (c.args.harts * c.args.events) c.args.epoch c.args.samples.now c.loop-last.samples c.loop-last.all c.loop-last.trees c.loop-last.last c.loop-last.count c.loop-last.invariant (c.samples_are_counted.ensures.columns (c.args.harts * c.args.events)) (Ok c.in_ok-next.next) c.run_and_merge.new.all c.run_and_merge.new.samples c.in_ok-next.ensures.run) c.in_ok-next.ensures.merged

pub whole-requires-clause-columns : goal.whole-requires-clause-columns
whole-requires-clause-columns g c κs within = as_long (g.U.Unwind.path_of c.args.unwinder.now) (g.E.Expand.call_path c.args.expand.now) (c.args.harts * c.args.events) c.args.epoch c.args.samples.now c.loop-last.samples c.loop-last.all c.loop-last.trees c.loop-last.last c.loop-last.count c.loop-last.invariant (c.samples_are_counted.ensures.columns (c.args.harts * c.args.events))

pub returns-in_err-tree-clause-answer : goal.returns-in_err-tree-clause-answer
returns-in_err-tree-clause-answer g c =
    let p = err_from_is_err_and c.from_residual-in_err-tree.result c.from_residual-in_err-tree.ensures.1 in
    rw (p.1, p.2)
    (whole_fails (g.U.Unwind.path_of c.args.unwinder.now) (g.E.Expand.call_path c.args.expand.now) (c.args.harts * c.args.events) c.args.samples.now c.loop-last.samples (c.loop-last.invariant.before ++ c.loop-last.invariant.own) c.loop-last.all c.loop-last.count (has_ended (g.U.Unwind.path_of c.args.unwinder.now) (g.E.Expand.call_path c.args.expand.now) (c.args.harts * c.args.events) c.args.epoch c.args.samples.now c.loop-last.samples c.loop-last.all c.loop-last.trees c.loop-last.last c.loop-last.count c.loop-last.invariant c.loop-last-test.false) c.in_err-tree.field-0.0
    (give_whole (g.U.Unwind.path_of c.args.unwinder.now) (g.E.Expand.call_path c.args.expand.now) (c.args.harts * c.args.events) c.args.epoch c.args.samples.now c.loop-last.samples c.loop-last.all c.loop-last.trees c.loop-last.last c.loop-last.count c.loop-last.invariant (c.samples_are_counted.ensures.columns (c.args.harts * c.args.events)) (Err c.in_err-tree.field-0.0) c.in_err-tree.ensures.whole))

pub returns-in_err-tree-clause-stands : goal.returns-in_err-tree-clause-stands
returns-in_err-tree-clause-stands g c =
    let p = err_from_is_err_and c.from_residual-in_err-tree.result c.from_residual-in_err-tree.ensures.1 in
    rw (p.1, p.2)
    (whole_stands (g.U.Unwind.path_of c.args.unwinder.now) (g.E.Expand.call_path c.args.expand.now) (c.args.harts * c.args.events) c.args.samples.now c.loop-last.samples (c.loop-last.invariant.before ++ c.loop-last.invariant.own) c.loop-last.all c.loop-last.count (has_ended (g.U.Unwind.path_of c.args.unwinder.now) (g.E.Expand.call_path c.args.expand.now) (c.args.harts * c.args.events) c.args.epoch c.args.samples.now c.loop-last.samples c.loop-last.all c.loop-last.trees c.loop-last.last c.loop-last.count c.loop-last.invariant c.loop-last-test.false) c.in_err-tree.field-0.0
    (give_whole (g.U.Unwind.path_of c.args.unwinder.now) (g.E.Expand.call_path c.args.expand.now) (c.args.harts * c.args.events) c.args.epoch c.args.samples.now c.loop-last.samples c.loop-last.all c.loop-last.trees c.loop-last.last c.loop-last.count c.loop-last.invariant (c.samples_are_counted.ensures.columns (c.args.harts * c.args.events)) (Err c.in_err-tree.field-0.0) c.in_err-tree.ensures.whole))

pub returns-clause-answer : goal.returns-clause-answer
returns-clause-answer g c =
    whole_answer (g.U.Unwind.path_of c.args.unwinder.now) (g.E.Expand.call_path c.args.expand.now) (c.args.harts * c.args.events) c.args.samples.now c.loop-last.samples (c.loop-last.invariant.before ++ c.loop-last.invariant.own) c.loop-last.all c.loop-last.count (has_ended (g.U.Unwind.path_of c.args.unwinder.now) (g.E.Expand.call_path c.args.expand.now) (c.args.harts * c.args.events) c.args.epoch c.args.samples.now c.loop-last.samples c.loop-last.all c.loop-last.trees c.loop-last.last c.loop-last.count c.loop-last.invariant c.loop-last-test.false) c.in_ok-tree.tree (c.in_ok-tree.ensures.columns ∙ all_long (g.U.Unwind.path_of c.args.unwinder.now) (g.E.Expand.call_path c.args.expand.now) (c.args.harts * c.args.events) c.args.epoch c.args.samples.now c.loop-last.samples c.loop-last.all c.loop-last.trees c.loop-last.last c.loop-last.count c.loop-last.invariant (c.samples_are_counted.ensures.columns (c.args.harts * c.args.events)))
    (give_whole (g.U.Unwind.path_of c.args.unwinder.now) (g.E.Expand.call_path c.args.expand.now) (c.args.harts * c.args.events) c.args.epoch c.args.samples.now c.loop-last.samples c.loop-last.all c.loop-last.trees c.loop-last.last c.loop-last.count c.loop-last.invariant (c.samples_are_counted.ensures.columns (c.args.harts * c.args.events)) (Ok c.in_ok-tree.tree) c.in_ok-tree.ensures.whole)

pub count_rest-requires-clause-own : goal.count_rest-requires-clause-own
count_rest-requires-clause-own g c = coming_own (g.U.Unwind.path_of c.args.unwinder.now) (g.E.Expand.call_path c.args.expand.now) (c.args.harts * c.args.events) c.args.epoch c.args.samples.now c.loop-last.samples c.loop-last.all c.loop-last.trees c.loop-last.last c.loop-last.count c.loop-last.invariant (c.samples_are_counted.ensures.columns (c.args.harts * c.args.events)) c.loop-last-test.true

pub returns-in_err-rest-clause-answer : goal.returns-in_err-rest-clause-answer
returns-in_err-rest-clause-answer g c =
    let p = err_from_is_err_and c.from_residual-in_err-rest.result c.from_residual-in_err-rest.ensures.1 in
    rw (p.1, p.2)
    (rest_answer (g.U.Unwind.path_of c.args.unwinder.now) (g.E.Expand.call_path c.args.expand.now) (c.args.harts * c.args.events) c.args.epoch c.args.samples.now c.loop-last.samples c.loop-last.all c.loop-last.trees c.loop-last.last c.loop-last.count c.loop-last.invariant (c.samples_are_counted.ensures.columns (c.args.harts * c.args.events)) c.loop-last-test.true c.in_err-rest.field-0.0 c.count_rest.new.all c.count_rest.new.samples
    (rest_gives (g.U.Unwind.path_of c.args.unwinder.now) (g.E.Expand.call_path c.args.expand.now) (c.args.harts * c.args.events) c.args.epoch c.args.samples.now c.loop-last.samples c.loop-last.all c.loop-last.trees c.loop-last.last c.loop-last.count c.loop-last.invariant (c.samples_are_counted.ensures.columns (c.args.harts * c.args.events)) (Err c.in_err-rest.field-0.0) c.count_rest.new.all c.count_rest.new.samples c.in_err-rest.ensures.rest))

pub returns-in_err-rest-clause-stands : goal.returns-in_err-rest-clause-stands
returns-in_err-rest-clause-stands g c =
    let p = err_from_is_err_and c.from_residual-in_err-rest.result c.from_residual-in_err-rest.ensures.1 in
    rw (p.1, p.2)
    (rest_stands (g.U.Unwind.path_of c.args.unwinder.now) (g.E.Expand.call_path c.args.expand.now) (c.args.harts * c.args.events) c.args.epoch c.args.samples.now c.loop-last.samples c.loop-last.all c.loop-last.trees c.loop-last.last c.loop-last.count c.loop-last.invariant (c.samples_are_counted.ensures.columns (c.args.harts * c.args.events)) c.loop-last-test.true c.in_err-rest.field-0.0 c.count_rest.new.all c.count_rest.new.samples
    (rest_gives (g.U.Unwind.path_of c.args.unwinder.now) (g.E.Expand.call_path c.args.expand.now) (c.args.harts * c.args.events) c.args.epoch c.args.samples.now c.loop-last.samples c.loop-last.all c.loop-last.trees c.loop-last.last c.loop-last.count c.loop-last.invariant (c.samples_are_counted.ensures.columns (c.args.harts * c.args.events)) (Err c.in_err-rest.field-0.0) c.count_rest.new.all c.count_rest.new.samples c.in_err-rest.ensures.rest))

pub returns-in_err-merged-clause-answer : goal.returns-in_err-merged-clause-answer
returns-in_err-merged-clause-answer g c =
    let p = err_from_is_err_and c.from_residual-in_err-merged.result c.from_residual-in_err-merged.ensures.1 in
    let rest : IsRest (g.U.Unwind.path_of c.args.unwinder.now) (c.args.harts * c.args.events) (raws c.args.samples.now (c.loop-last.invariant.before ++ c.loop-last.invariant.own)) c.in_ok-rest.rest c.count_rest.new.all c.loop-last.samples c.count_rest.new.samples =
    (rest_gives (g.U.Unwind.path_of c.args.unwinder.now) (g.E.Expand.call_path c.args.expand.now) (c.args.harts * c.args.events) c.args.epoch c.args.samples.now c.loop-last.samples c.loop-last.all c.loop-last.trees c.loop-last.last c.loop-last.count c.loop-last.invariant (c.samples_are_counted.ensures.columns (c.args.harts * c.args.events)) (Ok c.in_ok-rest.rest) c.count_rest.new.all c.count_rest.new.samples c.in_ok-rest.ensures.rest) in
    rw (p.1, p.2)
    (rest_fails (g.U.Unwind.path_of c.args.unwinder.now) (g.E.Expand.call_path c.args.expand.now) (c.args.harts * c.args.events) c.args.epoch c.args.samples.now c.loop-last.samples c.loop-last.all c.loop-last.trees c.loop-last.last c.loop-last.count c.loop-last.invariant (c.samples_are_counted.ensures.columns (c.args.harts * c.args.events)) c.loop-last-test.true c.in_ok-rest.rest c.count_rest.new.all c.count_rest.new.samples rest c.requires.own c.in_err-merged.field-0.0 c.in_err-merged.ensures.whole)

pub returns-in_err-merged-clause-stands : goal.returns-in_err-merged-clause-stands
returns-in_err-merged-clause-stands g c =
    let p = err_from_is_err_and c.from_residual-in_err-merged.result c.from_residual-in_err-merged.ensures.1 in
    let rest : IsRest (g.U.Unwind.path_of c.args.unwinder.now) (c.args.harts * c.args.events) (raws c.args.samples.now (c.loop-last.invariant.before ++ c.loop-last.invariant.own)) c.in_ok-rest.rest c.count_rest.new.all c.loop-last.samples c.count_rest.new.samples =
    (rest_gives (g.U.Unwind.path_of c.args.unwinder.now) (g.E.Expand.call_path c.args.expand.now) (c.args.harts * c.args.events) c.args.epoch c.args.samples.now c.loop-last.samples c.loop-last.all c.loop-last.trees c.loop-last.last c.loop-last.count c.loop-last.invariant (c.samples_are_counted.ensures.columns (c.args.harts * c.args.events)) (Ok c.in_ok-rest.rest) c.count_rest.new.all c.count_rest.new.samples c.in_ok-rest.ensures.rest) in
    rw (p.1, p.2)
    (rest_stops (g.U.Unwind.path_of c.args.unwinder.now) (g.E.Expand.call_path c.args.expand.now) (c.args.harts * c.args.events) c.args.epoch c.args.samples.now c.loop-last.samples c.loop-last.all c.loop-last.trees c.loop-last.last c.loop-last.count c.loop-last.invariant (c.samples_are_counted.ensures.columns (c.args.harts * c.args.events)) c.loop-last-test.true c.in_ok-rest.rest c.count_rest.new.all c.count_rest.new.samples rest c.requires.own c.in_err-merged.field-0.0 c.in_err-merged.ensures.whole)

pub overflow_add-result : goal.overflow_add-result
overflow_add-result g c =
    let rest : IsRest (g.U.Unwind.path_of c.args.unwinder.now) (c.args.harts * c.args.events) (raws c.args.samples.now (c.loop-last.invariant.before ++ c.loop-last.invariant.own)) c.in_ok-rest.rest c.count_rest.new.all c.loop-last.samples c.count_rest.new.samples =
    (rest_gives (g.U.Unwind.path_of c.args.unwinder.now) (g.E.Expand.call_path c.args.expand.now) (c.args.harts * c.args.events) c.args.epoch c.args.samples.now c.loop-last.samples c.loop-last.all c.loop-last.trees c.loop-last.last c.loop-last.count c.loop-last.invariant (c.samples_are_counted.ensures.columns (c.args.harts * c.args.events)) (Ok c.in_ok-rest.rest) c.count_rest.new.all c.count_rest.new.samples c.in_ok-rest.ensures.rest) in
    let few : c.loop-last.count + c.in_ok-rest.rest ≤ most_samples = rest_fits (g.U.Unwind.path_of c.args.unwinder.now) (g.E.Expand.call_path c.args.expand.now) (c.args.harts * c.args.events) c.args.epoch c.args.samples.now c.loop-last.samples c.loop-last.all c.loop-last.trees c.loop-last.last c.loop-last.count c.loop-last.invariant (c.samples_are_counted.ensures.columns (c.args.harts * c.args.events)) c.loop-last-test.true c.in_ok-rest.rest c.count_rest.new.all c.count_rest.new.samples rest in
    omega arith

pub returns-then-paths_come_again-clause-answer : goal.returns-then-paths_come_again-clause-answer
returns-then-paths_come_again-clause-answer g c =
    let rest : IsRest (g.U.Unwind.path_of c.args.unwinder.now) (c.args.harts * c.args.events) (raws c.args.samples.now (c.loop-last.invariant.before ++ c.loop-last.invariant.own)) c.in_ok-rest.rest c.count_rest.new.all c.loop-last.samples c.count_rest.new.samples =
    (rest_gives (g.U.Unwind.path_of c.args.unwinder.now) (g.E.Expand.call_path c.args.expand.now) (c.args.harts * c.args.events) c.args.epoch c.args.samples.now c.loop-last.samples c.loop-last.all c.loop-last.trees c.loop-last.last c.loop-last.count c.loop-last.invariant (c.samples_are_counted.ensures.columns (c.args.harts * c.args.events)) (Ok c.in_ok-rest.rest) c.count_rest.new.all c.count_rest.new.samples c.in_ok-rest.ensures.rest) in
    rest_merged (g.U.Unwind.path_of c.args.unwinder.now) (g.E.Expand.call_path c.args.expand.now) (c.args.harts * c.args.events) c.args.epoch c.args.samples.now c.loop-last.samples c.loop-last.all c.loop-last.trees c.loop-last.last c.loop-last.count c.loop-last.invariant (c.samples_are_counted.ensures.columns (c.args.harts * c.args.events)) c.loop-last-test.true c.in_ok-rest.rest c.count_rest.new.all c.count_rest.new.samples rest c.requires.own c.in_ok-merged.merged c.in_ok-merged.ensures.columns c.in_ok-merged.ensures.whole

pub returns-then-paths_come_again-clause-stands : goal.returns-then-paths_come_again-clause-stands
returns-then-paths_come_again-clause-stands g c =
    let rest : IsRest (g.U.Unwind.path_of c.args.unwinder.now) (c.args.harts * c.args.events) (raws c.args.samples.now (c.loop-last.invariant.before ++ c.loop-last.invariant.own)) c.in_ok-rest.rest c.count_rest.new.all c.loop-last.samples c.count_rest.new.samples =
    (rest_gives (g.U.Unwind.path_of c.args.unwinder.now) (g.E.Expand.call_path c.args.expand.now) (c.args.harts * c.args.events) c.args.epoch c.args.samples.now c.loop-last.samples c.loop-last.all c.loop-last.trees c.loop-last.last c.loop-last.count c.loop-last.invariant (c.samples_are_counted.ensures.columns (c.args.harts * c.args.events)) (Ok c.in_ok-rest.rest) c.count_rest.new.all c.count_rest.new.samples c.in_ok-rest.ensures.rest) in
    (rest_ended (g.U.Unwind.path_of c.args.unwinder.now) (g.E.Expand.call_path c.args.expand.now) (c.args.harts * c.args.events) c.args.epoch c.args.samples.now c.loop-last.samples c.loop-last.all c.loop-last.trees c.loop-last.last c.loop-last.count c.loop-last.invariant (c.samples_are_counted.ensures.columns (c.args.harts * c.args.events)) c.loop-last-test.true c.in_ok-rest.rest c.count_rest.new.all c.count_rest.new.samples rest).ended
