use Rattle.std.proofs.Common.{rules, ◌≡◌, Err}
use Rattle.prof_bytes.specs.Repeated.{times}
use Rattle.prof_db.specs.Layout.{past_list}
use Rattle.prof_bytes.proofs.Repeated.{goes_on, fails_at, ends}
use Rattle.prof_db.proofs.layout.pass_lists.Goals as goal

pub returns-in_err-pass_list : goal.returns-in_err-pass_list
unfolding past_list
returns-in_err-pass_list c =
    let failed : times past_list c.args.nodes 0 tt c.args.cursor.now ≡ Err c.in_err-pass_list.field-0.0 =
    fails_at c.in_err-pass_list.field-0.0 past_list c.args.nodes c.loop.counter tt c.loop.cursor (times past_list c.args.nodes 0 tt c.args.cursor.now) c.loop-test.true c.in_err-pass_list.ensures c.loop.invariant in
    search rules

pub loop-preserved : goal.loop-preserved
unfolding past_list
loop-preserved c = goes_on past_list c.args.nodes c.loop.counter tt tt c.loop.cursor c.pass_list.new.cursor (times past_list c.args.nodes 0 tt c.args.cursor.now) c.loop-test.true c.in_ok-pass_list.ensures c.loop.invariant

pub returns : goal.returns
returns c = ends past_list c.args.nodes c.loop.counter tt c.loop.cursor (times past_list c.args.nodes 0 tt c.args.cursor.now) c.loop-test.false c.loop.invariant
