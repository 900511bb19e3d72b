use Rattle.std.proofs.Common.{arith}
use Rattle.rv_hart.specs.Stepping.{state_of}
use Rattle.rv_hart.proofs.Spending.{spent-none, spent-twice}
use Rattle.rv_hart.proofs.Runs.{ran-none, ran-twice}
use Rattle.rv_hart.proofs.stepping.run_with.Goals as goal

pub loop-count-init : goal.loop-count-init
loop-count-init g c = record {
  few = omega arith;
  ran = ran-none (state_of c.args.hart.now c.args.space.now);
  spent = λ _. spent-none (g.C.Counter.left c.args.counter.now) (state_of c.args.hart.now c.args.space.now);
}

pub returns-then-not-has_retired-clause-ran : goal.returns-then-not-has_retired-clause-ran
returns-then-not-has_retired-clause-ran g c =
    ran-twice c.loop-count.count c.run_some-more.result.0 (state_of c.args.hart.now c.args.space.now) (state_of c.loop-count.hart c.loop-count.space) (state_of c.run_some-more.new.hart c.run_some-more.new.self)
    c.loop-count.invariant.ran c.run_some-more.ensures.ran

pub returns-then-not-has_retired-clause-spent : goal.returns-then-not-has_retired-clause-spent
returns-then-not-has_retired-clause-spent g c is =
    spent-twice (g.C.Counter.left c.args.counter.now) (g.C.Counter.left c.loop-count.counter) (g.C.Counter.left c.run_some-more.new.counter) c.loop-count.count c.run_some-more.result.0 (state_of c.args.hart.now c.args.space.now)
    (state_of c.loop-count.hart c.loop-count.space) c.loop-count.invariant.ran (c.loop-count.invariant.spent is) (c.run_some-more.ensures.spent is)

pub loop-count-preserved : goal.loop-count-preserved
loop-count-preserved g c = record {
  few = omega (arith, c.loop-count-test.true, c.run_some-more.ensures.few);
  ran =
      ran-twice c.loop-count.count c.run_some-more.result.0 (state_of c.args.hart.now c.args.space.now) (state_of c.loop-count.hart c.loop-count.space) (state_of c.run_some-more.new.hart c.run_some-more.new.self)
      c.loop-count.invariant.ran c.run_some-more.ensures.ran;
  spent = λ is.
      spent-twice (g.C.Counter.left c.args.counter.now) (g.C.Counter.left c.loop-count.counter) (g.C.Counter.left c.run_some-more.new.counter) c.loop-count.count c.run_some-more.result.0 (state_of c.args.hart.now c.args.space.now)
      (state_of c.loop-count.hart c.loop-count.space) c.loop-count.invariant.ran (c.loop-count.invariant.spent is) (c.run_some-more.ensures.spent is);
}

pub returns-in-Err-clause-ran : goal.returns-in-Err-clause-ran
returns-in-Err-clause-ran g c =
    ran-twice c.loop-count.count c.run_some-more.result.0 (state_of c.args.hart.now c.args.space.now) (state_of c.loop-count.hart c.loop-count.space) (state_of c.run_some-more.new.hart c.run_some-more.new.self)
    c.loop-count.invariant.ran c.run_some-more.ensures.ran

pub returns-in-Err-clause-spent : goal.returns-in-Err-clause-spent
returns-in-Err-clause-spent g c is =
    spent-twice (g.C.Counter.left c.args.counter.now) (g.C.Counter.left c.loop-count.counter) (g.C.Counter.left c.run_some-more.new.counter) c.loop-count.count c.run_some-more.result.0 (state_of c.args.hart.now c.args.space.now)
    (state_of c.loop-count.hart c.loop-count.space) c.loop-count.invariant.ran (c.loop-count.invariant.spent is) (c.run_some-more.ensures.spent is)
