use Rattle.std.proofs.Common.{ℕ, List, [], ◌∷◌, ◌++◌, ap, ◌∙◌}
use Rattle.prof_db.proofs.EventLists.{begun}
use Rattle.prof_db.proofs.event_planes.event_contexts.Goals as goal

pub loop-node-init : goal.loop-node-init
loop-node-init c =
    begun c.args.columns.events c.args.columns.place c.args.contexts.now c.push.new.self.items c.push-2.new.self.items c.in_ok-with_capacity.field-0.items
    (c.in_ok-push.ensures.items ∙ ap (λ (l : List ℕ). l ++ 0 ∷ []) c.new.ensures.items) c.in_ok-with_capacity.ensures.items
    (c.in_ok-push-2.ensures.items ∙ ap (λ (l : List ℕ). l ++ 0 ∷ []) c.in_ok-with_capacity-2.ensures.items)
