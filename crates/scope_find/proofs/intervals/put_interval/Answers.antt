use Rattle.std.proofs.Common.{refl}
use Rattle.scope_find.specs.declared.intervals.AddressInterval.{AddressInterval}
use Rattle.scope_find.proofs.intervals.put_interval.Goals as goal

pub returns : goal.returns
returns c =
    let interval : AddressInterval = record { start = c.args.start; subprogram = c.subprogram_held-subprogram.result; levels = c.in_ok-levels.levels } in
    record {
      interval = interval;
      pushed = c.in_ok-push.ensures.items;
      starts = refl;
      procedure = λ address held. c.subprogram_held-subprogram.ensures.procedure address held;
      put = c.in_ok-levels.ensures;
    }
