use Rattle.std.proofs.Common.{◌<◌, ◌++◌, List, [], length, ap, ◌∙◌, arith, take_all}
use Rattle.std.specs.List.{flat_map}
use Rattle.std.proofs.lemmas.List.{get_or_default}
use Rattle.tree_types.specs.declared.content.ProfileEntry.{ProfileEntry}
use Rattle.prof_db.specs.Spelling.{with_count, profile_entry_bytes}
use Rattle.prof_bytes.proofs.Appending.{append_more}
use Rattle.prof_db.proofs.write.put_profiles.Goals as goal

pub loop-column-preserved : goal.loop-column-preserved
loop-column-preserved c =
    let many = c.requires in
    let before = c.loop-column-test.true in
    let lt : c.loop-column.column < length c.args.plane.now = omega (arith, many, before) in
    append_more (with_count profile_entry_bytes) _ _ _ c.args.plane.now c.loop-column.column c.column.result.now lt
    (c.column.ensures ∙ get_or_default c.args.plane.now c.loop-column.column [] c.column.result.now lt) c.loop-column.invariant c.in_ok-put_profile_list.ensures

pub returns : goal.returns
returns c =
    let many = c.requires in
    let past = c.loop-column-test.false in
    c.loop-column.invariant ∙ ap (λ (lists : List (List ProfileEntry)). c.args.out.now.items ++ flat_map (with_count profile_entry_bytes) lists) (take_all c.loop-column.column c.args.plane.now (omega (arith, many, past)))
