use Rattle.std.proofs.Common.{Ok, sym, subst, ◌<◌, length}
use Rattle.sample_clock.specs.declared.clock.Advance.{Advance}
use Rattle.scope_types.specs.Events.{is_retired_alone}
use Rattle.std.specs.Prelude.{◌≡◌, true}
use Rattle.scope_types.specs.declared.event.EventPeriod.{EventPeriod}
use Rattle.std.specs.Prelude.{List, Option}
use Rattle.scope_types.specs.Raw.{Raw}
use Rattle.rv_run.specs.Progress.{to_come}
use Rattle.sample_clock.specs.Clock.{Sampling}
use Rattle.sample_clock.specs.private.Advance.{Advances, SamplesNext, first_sample}
use Rattle.sample_clock.proofs.Advancing.{broken-last, broken-lost, broken-reached, coming-at, end-reached, ended-last, lost-answer, lost-reached, none-met-at, none-met-more, none-pending, over-met, quiet-none, quiet-shorter, sampled-answer, sampled-few, sampled-last, sampled-reached}
use Rattle.sample_clock.proofs.clock.Samples.next_sampled.Goals as goal

pub loop-coming-init : goal.loop-coming-init
loop-coming-init g c = record { quiet = quiet-none (g.U.Unwind.path_of c.args.unwinder.now) c.args.self.now; pending = c.requires.pending; few = c.requires.few }

pub returns-in_err-go_on-clause-answer : goal.returns-in_err-go_on-clause-answer
returns-in_err-go_on-clause-answer g c =
    lost-answer (g.U.Unwind.path_of c.args.unwinder.now) c.from_residual.result c.in_err-go_on.field-0.0 c.args.self.now c.go_on.new.self c.from_residual.ensures.1
    (broken-lost (g.U.Unwind.path_of c.args.unwinder.now) c.args.self.now c.loop-coming.self c.go_on.new.self c.loop-coming.invariant (c.in_err-go_on.ensures (g.U.Unwind.path_of c.args.unwinder.now)))

pub returns-in_err-go_on-clause-reached : goal.returns-in_err-go_on-clause-reached
returns-in_err-go_on-clause-reached g c =
    lost-reached (g.U.Unwind.path_of c.args.unwinder.now) c.from_residual.result c.in_err-go_on.field-0.0 c.args.self.now c.go_on.new.self c.from_residual.ensures.1
    (broken-reached (g.U.Unwind.path_of c.args.unwinder.now) c.args.self.now c.loop-coming.self c.go_on.new.self c.loop-coming.invariant (c.in_err-go_on.ensures (g.U.Unwind.path_of c.args.unwinder.now)))

pub returns-in_err-go_on-clause-last : goal.returns-in_err-go_on-clause-last
returns-in_err-go_on-clause-last g c = broken-last (g.U.Unwind.path_of c.args.unwinder.now) c.args.self.now c.loop-coming.self c.go_on.new.self c.loop-coming.invariant (c.in_err-go_on.ensures (g.U.Unwind.path_of c.args.unwinder.now))

pub returns-in-End-clause-answer : goal.returns-in-End-clause-answer
returns-in-End-clause-answer g c = over-met (g.U.Unwind.path_of c.args.unwinder.now) c.args.self.now c.loop-coming.self c.go_on.new.self c.loop-coming.invariant (subst (λ (x : Advance). Advances (g.U.Unwind.path_of c.args.unwinder.now) (Ok x) c.loop-coming.self c.go_on.new.self) c.in-End.is (c.in_ok-go_on.ensures (g.U.Unwind.path_of c.args.unwinder.now)))

pub returns-in-End-clause-reached : goal.returns-in-End-clause-reached
returns-in-End-clause-reached g c = end-reached (g.U.Unwind.path_of c.args.unwinder.now) c.args.self.now c.loop-coming.self c.go_on.new.self c.loop-coming.invariant (subst (λ (x : Advance). Advances (g.U.Unwind.path_of c.args.unwinder.now) (Ok x) c.loop-coming.self c.go_on.new.self) c.in-End.is (c.in_ok-go_on.ensures (g.U.Unwind.path_of c.args.unwinder.now)))

pub returns-in-End-clause-last : goal.returns-in-End-clause-last
returns-in-End-clause-last g c = ended-last (g.U.Unwind.path_of c.args.unwinder.now) c.args.self.now c.loop-coming.self c.go_on.new.self c.loop-coming.invariant (subst (λ (x : Advance). Advances (g.U.Unwind.path_of c.args.unwinder.now) (Ok x) c.loop-coming.self c.go_on.new.self) c.in-End.is (c.in_ok-go_on.ensures (g.U.Unwind.path_of c.args.unwinder.now)))

pub loop-coming-preserved-in-Unsampled : goal.loop-coming-preserved-in-Unsampled
loop-coming-preserved-in-Unsampled g c = none-met-more (g.U.Unwind.path_of c.args.unwinder.now) c.args.self.now c.loop-coming.self c.go_on.new.self c.loop-coming.invariant (subst (λ (x : Advance). Advances (g.U.Unwind.path_of c.args.unwinder.now) (Ok x) c.loop-coming.self c.go_on.new.self) c.in-Unsampled.is (c.in_ok-go_on.ensures (g.U.Unwind.path_of c.args.unwinder.now))).0

pub sample-requires-clause-coming : goal.sample-requires-clause-coming
sample-requires-clause-coming g c = coming-at (g.U.Unwind.path_of c.args.unwinder.now) c.in-Due.coming c.loop-coming.self c.go_on.new.self (subst (λ (x : Advance). Advances (g.U.Unwind.path_of c.args.unwinder.now) (Ok x) c.loop-coming.self c.go_on.new.self) c.in-Due.is (c.in_ok-go_on.ensures (g.U.Unwind.path_of c.args.unwinder.now)))

pub sample-requires-clause-sampled : goal.sample-requires-clause-sampled
sample-requires-clause-sampled g c = (subst (λ (x : Advance). Advances (g.U.Unwind.path_of c.args.unwinder.now) (Ok x) c.loop-coming.self c.go_on.new.self) c.in-Due.is (c.in_ok-go_on.ensures (g.U.Unwind.path_of c.args.unwinder.now))).sampled

pub sample-requires-clause-pending : goal.sample-requires-clause-pending
sample-requires-clause-pending g c = none-pending (g.U.Unwind.path_of c.args.unwinder.now) c.args.self.now c.go_on.new.self (none-met-at (g.U.Unwind.path_of c.args.unwinder.now) c.in-Due.coming c.args.self.now c.loop-coming.self c.go_on.new.self c.loop-coming.invariant (subst (λ (x : Advance). Advances (g.U.Unwind.path_of c.args.unwinder.now) (Ok x) c.loop-coming.self c.go_on.new.self) c.in-Due.is (c.in_ok-go_on.ensures (g.U.Unwind.path_of c.args.unwinder.now))))

pub returns-in_err-path-in-Due-clause-answer : goal.returns-in_err-path-in-Due-clause-answer
returns-in_err-path-in-Due-clause-answer g c =
    lost-answer (g.U.Unwind.path_of c.args.unwinder.now) c.from_residual-in_err-path-in-Due.result c.in_err-path-in-Due.field-0.0 c.args.self.now c.sample.new.self c.from_residual-in_err-path-in-Due.ensures.1
    (broken-lost (g.U.Unwind.path_of c.args.unwinder.now) c.args.self.now c.go_on.new.self c.sample.new.self (none-met-at (g.U.Unwind.path_of c.args.unwinder.now) c.in-Due.coming c.args.self.now c.loop-coming.self c.go_on.new.self c.loop-coming.invariant (subst (λ (x : Advance). Advances (g.U.Unwind.path_of c.args.unwinder.now) (Ok x) c.loop-coming.self c.go_on.new.self) c.in-Due.is (c.in_ok-go_on.ensures (g.U.Unwind.path_of c.args.unwinder.now)))) c.in_err-path-in-Due.ensures)

pub returns-in_err-path-in-Due-clause-reached : goal.returns-in_err-path-in-Due-clause-reached
returns-in_err-path-in-Due-clause-reached g c =
    lost-reached (g.U.Unwind.path_of c.args.unwinder.now) c.from_residual-in_err-path-in-Due.result c.in_err-path-in-Due.field-0.0 c.args.self.now c.sample.new.self c.from_residual-in_err-path-in-Due.ensures.1
    (broken-reached (g.U.Unwind.path_of c.args.unwinder.now) c.args.self.now c.go_on.new.self c.sample.new.self (none-met-at (g.U.Unwind.path_of c.args.unwinder.now) c.in-Due.coming c.args.self.now c.loop-coming.self c.go_on.new.self c.loop-coming.invariant (subst (λ (x : Advance). Advances (g.U.Unwind.path_of c.args.unwinder.now) (Ok x) c.loop-coming.self c.go_on.new.self) c.in-Due.is (c.in_ok-go_on.ensures (g.U.Unwind.path_of c.args.unwinder.now)))) c.in_err-path-in-Due.ensures)

pub returns-in_err-path-in-Due-clause-last : goal.returns-in_err-path-in-Due-clause-last
returns-in_err-path-in-Due-clause-last g c = broken-last (g.U.Unwind.path_of c.args.unwinder.now) c.args.self.now c.go_on.new.self c.sample.new.self (none-met-at (g.U.Unwind.path_of c.args.unwinder.now) c.in-Due.coming c.args.self.now c.loop-coming.self c.go_on.new.self c.loop-coming.invariant (subst (λ (x : Advance). Advances (g.U.Unwind.path_of c.args.unwinder.now) (Ok x) c.loop-coming.self c.go_on.new.self) c.in-Due.is (c.in_ok-go_on.ensures (g.U.Unwind.path_of c.args.unwinder.now)))) c.in_err-path-in-Due.ensures

pub give_first-requires : goal.give_first-requires
give_first-requires g c = sampled-few (g.U.Unwind.path_of c.args.unwinder.now) (first_sample c.in-Due.coming c.in-Some.path) c.args.self.now c.go_on.new.self c.sample.new.self (none-met-at (g.U.Unwind.path_of c.args.unwinder.now) c.in-Due.coming c.args.self.now c.loop-coming.self c.go_on.new.self c.loop-coming.invariant (subst (λ (x : Advance). Advances (g.U.Unwind.path_of c.args.unwinder.now) (Ok x) c.loop-coming.self c.go_on.new.self) c.in-Due.is (c.in_ok-go_on.ensures (g.U.Unwind.path_of c.args.unwinder.now)))) (subst (λ (x : Option Raw). SamplesNext (g.U.Unwind.path_of c.args.unwinder.now) c.in-Due.coming (Ok x) c.go_on.new.self c.sample.new.self) c.in-Some.is c.in_ok-path-in-Due.ensures)

pub returns-in-Some-clause-answer : goal.returns-in-Some-clause-answer
returns-in-Some-clause-answer g c =
    sampled-answer (g.U.Unwind.path_of c.args.unwinder.now) (first_sample c.in-Due.coming c.in-Some.path) c.give_first.result c.args.self.now c.go_on.new.self c.sample.new.self c.give_first.new.self (none-met-at (g.U.Unwind.path_of c.args.unwinder.now) c.in-Due.coming c.args.self.now c.loop-coming.self c.go_on.new.self c.loop-coming.invariant (subst (λ (x : Advance). Advances (g.U.Unwind.path_of c.args.unwinder.now) (Ok x) c.loop-coming.self c.go_on.new.self) c.in-Due.is (c.in_ok-go_on.ensures (g.U.Unwind.path_of c.args.unwinder.now)))) (subst (λ (x : Option Raw). SamplesNext (g.U.Unwind.path_of c.args.unwinder.now) c.in-Due.coming (Ok x) c.go_on.new.self c.sample.new.self) c.in-Some.is c.in_ok-path-in-Due.ensures) c.give_first.ensures.met c.give_first.ensures.new

pub returns-in-Some-clause-reached : goal.returns-in-Some-clause-reached
returns-in-Some-clause-reached g c =
    sampled-reached (g.U.Unwind.path_of c.args.unwinder.now) (first_sample c.in-Due.coming c.in-Some.path) c.give_first.result c.args.self.now c.go_on.new.self c.sample.new.self c.give_first.new.self (none-met-at (g.U.Unwind.path_of c.args.unwinder.now) c.in-Due.coming c.args.self.now c.loop-coming.self c.go_on.new.self c.loop-coming.invariant (subst (λ (x : Advance). Advances (g.U.Unwind.path_of c.args.unwinder.now) (Ok x) c.loop-coming.self c.go_on.new.self) c.in-Due.is (c.in_ok-go_on.ensures (g.U.Unwind.path_of c.args.unwinder.now)))) (subst (λ (x : Option Raw). SamplesNext (g.U.Unwind.path_of c.args.unwinder.now) c.in-Due.coming (Ok x) c.go_on.new.self c.sample.new.self) c.in-Some.is c.in_ok-path-in-Due.ensures) c.give_first.ensures.met c.give_first.ensures.new

pub returns-in-Some-clause-last : goal.returns-in-Some-clause-last
returns-in-Some-clause-last g c = sampled-last (g.U.Unwind.path_of c.args.unwinder.now) (first_sample c.in-Due.coming c.in-Some.path) c.args.self.now c.go_on.new.self c.sample.new.self c.give_first.new.self (none-met-at (g.U.Unwind.path_of c.args.unwinder.now) c.in-Due.coming c.args.self.now c.loop-coming.self c.go_on.new.self c.loop-coming.invariant (subst (λ (x : Advance). Advances (g.U.Unwind.path_of c.args.unwinder.now) (Ok x) c.loop-coming.self c.go_on.new.self) c.in-Due.is (c.in_ok-go_on.ensures (g.U.Unwind.path_of c.args.unwinder.now)))) (subst (λ (x : Option Raw). SamplesNext (g.U.Unwind.path_of c.args.unwinder.now) c.in-Due.coming (Ok x) c.go_on.new.self c.sample.new.self) c.in-Some.is c.in_ok-path-in-Due.ensures) c.give_first.ensures.new

pub loop-coming-preserved : goal.loop-coming-preserved
loop-coming-preserved g c = none-met-more (g.U.Unwind.path_of c.args.unwinder.now) c.args.self.now c.go_on.new.self c.sample.new.self (none-met-at (g.U.Unwind.path_of c.args.unwinder.now) c.in-Due.coming c.args.self.now c.loop-coming.self c.go_on.new.self c.loop-coming.invariant (subst (λ (x : Advance). Advances (g.U.Unwind.path_of c.args.unwinder.now) (Ok x) c.loop-coming.self c.go_on.new.self) c.in-Due.is (c.in_ok-go_on.ensures (g.U.Unwind.path_of c.args.unwinder.now)))) (subst (λ (x : Option Raw). SamplesNext (g.U.Unwind.path_of c.args.unwinder.now) c.in-Due.coming (Ok x) c.go_on.new.self c.sample.new.self) c.in_default.is c.in_ok-path-in-Due.ensures).0

pub loop-coming-smaller-in-Unsampled : goal.loop-coming-smaller-in-Unsampled
loop-coming-smaller-in-Unsampled g c = quiet-shorter (g.U.Unwind.path_of c.args.unwinder.now) c.loop-coming.self c.go_on.new.self (subst (λ (x : Advance). Advances (g.U.Unwind.path_of c.args.unwinder.now) (Ok x) c.loop-coming.self c.go_on.new.self) c.in-Unsampled.is (c.in_ok-go_on.ensures (g.U.Unwind.path_of c.args.unwinder.now))).0 (subst (λ (x : Advance). Advances (g.U.Unwind.path_of c.args.unwinder.now) (Ok x) c.loop-coming.self c.go_on.new.self) c.in-Unsampled.is (c.in_ok-go_on.ensures (g.U.Unwind.path_of c.args.unwinder.now))).1

pub loop-coming-smaller : goal.loop-coming-smaller
loop-coming-smaller g c =
    subst (λ (s : Sampling). length (to_come c.sample.new.self.machine).instants < length (to_come s.machine).instants) (subst (λ (x : Advance). Advances (g.U.Unwind.path_of c.args.unwinder.now) (Ok x) c.loop-coming.self c.go_on.new.self) c.in-Due.is (c.in_ok-go_on.ensures (g.U.Unwind.path_of c.args.unwinder.now))).same
    (quiet-shorter (g.U.Unwind.path_of c.args.unwinder.now) c.go_on.new.self c.sample.new.self (subst (λ (x : Option Raw). SamplesNext (g.U.Unwind.path_of c.args.unwinder.now) c.in-Due.coming (Ok x) c.go_on.new.self c.sample.new.self) c.in_default.is c.in_ok-path-in-Due.ensures).0 (subst (λ (x : Option Raw). SamplesNext (g.U.Unwind.path_of c.args.unwinder.now) c.in-Due.coming (Ok x) c.go_on.new.self c.sample.new.self) c.in_default.is c.in_ok-path-in-Due.ensures).1)
