use Rattle.std.proofs.Common.{ℕ, ◌++◌, List, ap, sym, ◌∙◌, take_all}
use Rattle.std.specs.List.{flat_map}
use Rattle.std.proofs.lemmas.List.{get_or_default}
use Rattle.prof_bytes.specs.Number.{word, words}
use Rattle.prof_bytes.proofs.Appending.{append_more}
use Rattle.scope_types.specs.declared.event.EventPeriod.{EventPeriod}
use Rattle.scope_types.specs.Events.{event_words}
use Rattle.measure_file.proofs.Writing.{flat_again}
use Rattle.measure_file.proofs.write.put_numbered.Goals as goal

pub loop-e-preserved : goal.loop-e-preserved
loop-e-preserved c = append_more (λ (e : EventPeriod). words (event_words e)) _ _ _ _ _ _ c.loop-e-test.true (get_or_default _ _ _ _ c.loop-e-test.true) c.loop-e.invariant c.in_ok-put_event.ensures

pub returns : goal.returns
returns c =
    c.loop-e.invariant
    ∙ ap (λ (l : List ℕ). c.args.out.now.items ++ l)
    (ap (flat_map (λ (e : EventPeriod). words (event_words e))) (take_all c.loop-e.e-index c.args.events.now c.loop-e-test.false) ∙ sym (flat_again word event_words c.args.events.now))
