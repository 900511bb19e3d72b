use Rattle.std.proofs.Common.{◌≡◌, ◌++◌, take}
use Rattle.std.specs.List.{flat_map}
use Rattle.prof_bytes.specs.Number.{words}
use Rattle.scope_types.specs.Events.{event_words}
use Rattle.prof_db.proofs.write_head.put_events.Given as goal

abbrev pub invariant-loop-e : goal.invariant-loop-e
invariant-loop-e l = l.out.items ≡ l.fn.out.items ++ flat_map (λ e. words (event_words e)) (take l.e-index l.events)
