use Rattle.scope_find.proofs.CallsKept.{none_latest}
use Rattle.scope_find.proofs.calls.no_calls.Goals as goal

pub returns-clause-latest : goal.returns-clause-latest
returns-clause-latest c = none_latest _ c.new.result.items c.in_ok-latest.latest.items c.new.ensures.items (c.in_ok-latest.ensures.items_if_clones_equal (λ y h. h))
