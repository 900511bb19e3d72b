use Rattle.std.proofs.Common.{◌≡◌, get_or, Some, refl}
use Rattle.std.specs.Prelude.{slice_get}
use Rattle.std.proofs.lemmas.Option.{slice_get-get_or}
use Rattle.scope_find.proofs.CallsKept.{ok_then}
use Rattle.scope_find.proofs.IntervalsMade.{no_event, spans_taken, calls_behind, swept_on, swept_put}
use Rattle.scope_find.proofs.intervals.sweep.Goals as goal

pub returns-then-is_followed : goal.returns-then-is_followed
returns-then-is_followed c =
    let at : slice_get c.args.events.now c.args.index ≡ Some (get_or c.args.events.now c.args.index no_event) = slice_get-get_or c.args.events.now c.args.index no_event c.requires.there in
    swept_on c.args.structure.now c.args.events.now c.args.index (get_or c.args.events.now c.args.index no_event) c.args.held.now.keys c.take_event.new.held.keys c.args.intervals.now.items c.args.calls.now.all.items c.args.calls.now.latest.items
    c.requires.events c.requires.sorted at c.in_ok-take_event.ensures (c.if-is_followed.ensures.followed refl) c.requires.swept

pub put_interval-requires-clause-spans : goal.put_interval-requires-clause-spans
put_interval-requires-clause-spans c =
    let at : slice_get c.args.events.now c.args.index ≡ Some (get_or c.args.events.now c.args.index no_event) = slice_get-get_or c.args.events.now c.args.index no_event c.requires.there in
    spans_taken c.args.structure.now c.args.events.now c.args.index (get_or c.args.events.now c.args.index no_event) c.args.held.now.keys c.take_event.new.held.keys
    c.requires.events c.requires.sorted at c.in_ok-take_event.ensures c.requires.swept.after

pub put_interval-requires-clause-before : goal.put_interval-requires-clause-before
put_interval-requires-clause-before c =
    let at : slice_get c.args.events.now c.args.index ≡ Some (get_or c.args.events.now c.args.index no_event) = slice_get-get_or c.args.events.now c.args.index no_event c.requires.there in
    calls_behind c.args.structure.now c.args.events.now c.args.index (get_or c.args.events.now c.args.index no_event) c.args.held.now.keys c.args.intervals.now.items c.args.calls.now.all.items c.args.calls.now.latest.items at c.requires.swept

pub returns : goal.returns
returns c =
    let at : slice_get c.args.events.now c.args.index ≡ Some (get_or c.args.events.now c.args.index no_event) = slice_get-get_or c.args.events.now c.args.index no_event c.requires.there in
    ok_then c.put_interval.result _ _ c.put_interval.ensures
    (λ put.
    swept_put c.args.structure.now c.args.events.now c.args.index (get_or c.args.events.now c.args.index no_event) c.args.held.now.keys c.take_event.new.held.keys c.args.intervals.now.items c.put_interval.new.intervals.items c.args.calls.now.all.items c.put_interval.new.calls.all.items c.args.calls.now.latest.items c.put_interval.new.calls.latest.items
    c.requires.events c.requires.sorted at c.in_ok-take_event.ensures (c.if-is_followed.ensures.last refl) put c.requires.swept)
