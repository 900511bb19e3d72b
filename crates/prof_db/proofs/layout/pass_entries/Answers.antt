use Rattle.std.proofs.Common.{rules, ◌≡◌, Err}
use Rattle.prof_bytes.specs.Repeated.{times}
use Rattle.prof_db.specs.Layout.{past_entry}
use Rattle.prof_bytes.proofs.Repeated.{goes_on, fails_at, ends}
use Rattle.prof_db.proofs.layout.pass_entries.Goals as goal

pub returns-in_err-pass_entry : goal.returns-in_err-pass_entry
unfolding past_entry
returns-in_err-pass_entry c =
    let failed : times past_entry c.args.count 0 tt c.args.cursor.now ≡ Err c.in_err-pass_entry.field-0.0 =
    fails_at c.in_err-pass_entry.field-0.0 past_entry c.args.count c.loop.counter tt c.loop.cursor (times past_entry c.args.count 0 tt c.args.cursor.now) c.loop-test.true c.in_err-pass_entry.ensures c.loop.invariant in
    search rules

pub loop-preserved : goal.loop-preserved
unfolding past_entry
loop-preserved c = goes_on past_entry c.args.count c.loop.counter tt tt c.loop.cursor c.pass_entry.new.cursor (times past_entry c.args.count 0 tt c.args.cursor.now) c.loop-test.true c.in_ok-pass_entry.ensures c.loop.invariant

pub returns : goal.returns
returns c = ends past_entry c.args.count c.loop.counter tt c.loop.cursor (times past_entry c.args.count 0 tt c.args.cursor.now) c.loop-test.false c.loop.invariant
