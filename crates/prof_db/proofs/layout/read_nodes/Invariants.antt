use Rattle.std.proofs.Common.{◌≡◌, ◌-◌, []}
use Rattle.prof_bytes.specs.Repeated.{adding, times}
use Rattle.prof_db.specs.Layout.{node_from}
use Rattle.prof_db.proofs.layout.read_nodes.Given as goal

abbrev pub invariant-loop : goal.invariant-loop
invariant-loop l = times (adding node_from) (l.count - l.counter) l.counter l.nodes.items l.cursor ≡ times (adding node_from) l.count 0 [] l.initial.cursor
