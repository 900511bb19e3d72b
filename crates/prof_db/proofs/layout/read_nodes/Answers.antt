use Rattle.std.proofs.Common.{rules, ◌≡◌, Err, []}
use Rattle.prof_bytes.specs.Repeated.{adding, times}
use Rattle.prof_db.specs.Layout.{node_from}
use Rattle.prof_bytes.proofs.Repeated.{goes_on, fails_at, ends, added, not_added}
use Rattle.prof_db.proofs.layout.read_nodes.Goals as goal

pub returns-in_err-n : goal.returns-in_err-n
returns-in_err-n c =
    let failed : times (adding node_from) c.args.count 0 [] c.args.cursor.now ≡ Err c.in_err-n.field-0.0 =
    fails_at c.in_err-n.field-0.0 (adding node_from) c.args.count c.loop.counter c.loop.nodes.items c.loop.cursor (times (adding node_from) c.args.count 0 [] c.args.cursor.now) c.loop-test.true
    (not_added node_from c.loop.counter c.loop.nodes.items c.loop.cursor c.in_err-n.field-0.0 c.in_err-n.ensures) c.loop.invariant in
    search rules

pub loop-preserved : goal.loop-preserved
loop-preserved c =
    goes_on (adding node_from) c.args.count c.loop.counter c.loop.nodes.items c.push.new.self.items c.loop.cursor c.read_node.new.cursor (times (adding node_from) c.args.count 0 [] c.args.cursor.now) c.loop-test.true
    (added node_from c.loop.counter c.loop.nodes.items c.push.new.self.items c.loop.cursor c.read_node.new.cursor c.in_ok-n.n c.in_ok-push.ensures.items c.in_ok-n.ensures) c.loop.invariant

pub returns : goal.returns
returns c = ends (adding node_from) c.args.count c.loop.counter c.loop.nodes.items c.loop.cursor (times (adding node_from) c.args.count 0 [] c.args.cursor.now) c.loop-test.false c.loop.invariant
