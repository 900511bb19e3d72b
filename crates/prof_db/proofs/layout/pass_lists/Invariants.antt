use Rattle.std.proofs.Common.{◌≡◌, ◌-◌}
use Rattle.prof_bytes.specs.Repeated.{times}
use Rattle.prof_db.specs.Layout.{past_list}
use Rattle.prof_db.proofs.layout.pass_lists.Given as goal

abbrev pub invariant-loop : goal.invariant-loop
invariant-loop l = times past_list (l.nodes - l.counter) l.counter tt l.cursor ≡ times past_list l.nodes 0 tt l.initial.cursor
