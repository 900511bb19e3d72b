use Rattle.std.proofs.Common.{ℕ, ◌+◌, ◌<◌, List, length, map, All, sym, ap, subst, ◌∙◌, arith}
use Rattle.std.specs.Prelude.{◌≢◌}
use Rattle.std.specs.List.{range_with_len}
use Rattle.tree_types.specs.Nodes.{no_parent}
use Rattle.tree_types.specs.declared.content.Node.{Node}
use Rattle.prof_db.specs.private.EventNames.{names_of_nodes}
use Rattle.prof_db.specs.private.EventParts.{hart_list, kept_nodes}
use Rattle.prof_db.proofs.EventWhole.{columns_few, columns_long, entries_inside, event_lists_few, lists_few, names_up, numbers_long, parents_inside, whole}
use Rattle.prof_db.proofs.one_event.content_of_columns.Goals as goal

pub entry_count-count-requires-clause-columns : goal.entry_count-count-requires-clause-columns
entry_count-count-requires-clause-columns c =
    columns_long c.args.all.now c.requires.profile c.args.columns.harts c.args.columns.events c.args.columns.place c.requires.harts c.requires.events c.requires.place

pub entry_count-count-requires-clause-few : goal.entry_count-count-requires-clause-few
entry_count-count-requires-clause-few c = columns_few c.args.all.now c.requires.profile

pub event_contexts-requires-clause-few : goal.event_contexts-requires-clause-few
event_contexts-requires-clause-few c = lists_few c.args.all.now c.requires.profile

pub nodes-kept-requires : goal.nodes-kept-requires
nodes-kept-requires c =
    let long = ap length c.in_ok-contexts.ensures.0 in
    let few = event_lists_few c.args.all.now c.requires.profile c.args.columns.harts c.args.columns.events c.args.columns.place c.requires.harts c.requires.events c.requires.place in
    omega (arith, long, few)

pub kept_nodes-requires-clause-numbers : goal.kept_nodes-requires-clause-numbers
kept_nodes-requires-clause-numbers c =
    ap length (c.as_slice.ensures.value ∙ c.in_ok-contexts.ensures.1)
    ∙ numbers_long c.args.all.now c.requires.profile c.args.columns.harts c.args.columns.events c.args.columns.place c.requires.harts c.requires.events c.requires.place
    ∙ ap (λ (ns : List Node). length ns + 1) (sym c.items.ensures)

pub kept_nodes-requires-clause-parents : goal.kept_nodes-requires-clause-parents
kept_nodes-requires-clause-parents c =
    subst (λ (ns : List Node). All (λ n. n.parent ≢ no_parent → n.parent < length ns) ns) (sym c.items.ensures) (parents_inside c.args.all.now c.requires.profile)

pub event_profiles-requires-clause-columns : goal.event_profiles-requires-clause-columns
event_profiles-requires-clause-columns c =
    columns_long c.args.all.now c.requires.profile c.args.columns.harts c.args.columns.events c.args.columns.place c.requires.harts c.requires.events c.requires.place

pub event_profiles-requires-clause-few : goal.event_profiles-requires-clause-few
event_profiles-requires-clause-few c = columns_few c.args.all.now c.requires.profile

pub event_profiles-requires-clause-nodes : goal.event_profiles-requires-clause-nodes
event_profiles-requires-clause-nodes c =
    subst (λ (numbers : List ℕ). All (λ list. All (λ e. e.node < length numbers) list) c.args.all.now.profiles) (sym (c.as_slice-2.ensures.value ∙ c.in_ok-contexts.ensures.1))
    (entries_inside c.args.all.now c.requires.profile c.args.columns.harts c.args.columns.events c.args.columns.place c.requires.harts c.requires.events c.requires.place)

pub names_of_nodes-requires : goal.names_of_nodes-requires
names_of_nodes-requires c = names_up c.args.all.now c.requires.profile

pub returns : goal.returns
returns c =
    let all = c.args.all.now in
    let columns = c.args.columns in
    let numbers = c.as_slice.ensures.value ∙ c.in_ok-contexts.ensures.1 in
    let numbers-2 = c.as_slice-2.ensures.value ∙ c.in_ok-contexts.ensures.1 in
    whole all c.requires.profile columns.harts columns.events columns.place c.requires.harts c.requires.events c.requires.place
    c.args.period c.in_ok-names_of_nodes.field-0 c.of.result c.in_ok-profiles.profiles c.in_ok-contexts.contexts
    c.requires.period
    (c.in_ok-names_of_nodes.ensures ∙ ap (names_of_nodes all.names) (c.as_slice-3.ensures.value ∙ sym c.of.ensures))
    (c.of.ensures ∙ c.in_ok-nodes.ensures ∙ (λ i. kept_nodes (numbers i) (c.items.ensures i) (length (c.items.ensures i))))
    (c.in_ok-profiles.ensures ∙ (λ i. map (hart_list columns.events columns.place (numbers-2 i) all.profiles) (range_with_len 0 columns.harts)))
    c.in_ok-contexts.ensures.0
