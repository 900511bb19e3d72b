use Rattle.std.proofs.Common.{ℕ, List, [], ◌∷◌, ◌++◌, map, ap, ◌∙◌}
use Rattle.tree_types.specs.declared.content.ProfileEntry.{ProfileEntry}
use Rattle.prof_db.specs.private.EventParts.{renumbered_entry}
use Rattle.prof_db.proofs.HartLists.{hart_more, no_hart}
use Rattle.prof_db.proofs.event_planes.event_profiles.Goals as goal

pub loop-hart-init : goal.loop-hart-init
loop-hart-init c =
    no_hart c.args.columns.events c.args.columns.place c.args.numbers.now c.args.profiles.now c.push.new.self.items c.in_ok-out.out.items
    (c.in_ok-push.ensures.items ∙ ap (λ (l : List ℕ). l ++ 0 ∷ []) c.in_ok-starts.ensures.items) c.in_ok-out.ensures.items

pub loop-hart-preserved : goal.loop-hart-preserved
loop-hart-preserved c =
    hart_more c.args.columns.events c.args.columns.place c.args.numbers.now c.args.profiles.now c.loop-hart.hart c.loop-hart.starts.items c.push-in-loop-hart.new.self.items
    c.loop-hart.out.items c.put_column.new.out.items c.loop-hart.invariant
    (c.in_ok-put_column.ensures ∙ ap (λ (l : List ProfileEntry). c.loop-hart.out.items ++ map (renumbered_entry c.args.numbers.now) l) c.column.ensures)
    (c.in_ok-push-2.ensures.items ∙ ap (λ (n : ℕ). c.loop-hart.starts.items ++ n ∷ []) (c.len.ensures ∙ c.put_column.new.out.ok.0))
