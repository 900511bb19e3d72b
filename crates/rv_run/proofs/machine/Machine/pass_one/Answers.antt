use Rattle.std.proofs.Common.{Option, sym, ap, subst}
use Rattle.rv_run.specs.declared.machine.Moment.{Moment}
use Rattle.rv_run.specs.Progress.{CountsRetired, Went, CountsBy, WentOn}
use Rattle.rv_hart.specs.Events.{left_of}
use Rattle.rv_run.specs.declared.machine.Due.{Due}
use Rattle.rv_run.proofs.CountedPassing.{due-went, spent-one}
use Rattle.rv_run.proofs.machine.Machine.pass_one.Goals as goal

pub returns-clause-ok : goal.returns-clause-ok
returns-clause-ok c =
    let went : WentOn c.in-Some.moment c.args.self.now c.next.new.self = subst (λ (m : Option Moment). Went m c.args.self.now c.next.new.self) c.in-Some.is c.in_ok-moment.ensures.ok in
    let counts : CountsRetired c.in-Some.moment.hart c.in-Some.moment.retired c.args.self.now.state c.next.new.self.state = subst (λ (m : Option Moment). CountsBy m c.args.self.now.state c.next.new.self.state) c.in-Some.is c.in_ok-moment.ensures.counts in
    record {
      moment = c.in-Some.moment;
      went = went;
      counts = counts;
      own = sym (ap (λ (d : Due). d.hart) (due-went c.args.due.now c.in-Some.moment c.args.self.now c.next.new.self c.requires.due went));
      spent = spent-one c.args.due.now c.in-Some.moment (left_of c.args.left.now) (left_of c.count_off.new.left) c.args.self.now c.next.new.self c.requires.due went c.count_off.ensures;
    }
