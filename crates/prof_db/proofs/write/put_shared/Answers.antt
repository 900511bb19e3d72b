use Rattle.std.proofs.Common.{ℕ, List, [], ◌∷◌, ◌++◌, length, ap, ◌∙◌}
use Rattle.std.specs.List.{flat_map}
use Rattle.tree_types.specs.declared.content.FileName.{FileName}
use Rattle.tree_types.specs.declared.content.ProcName.{ProcName}
use Rattle.prof_bytes.specs.Number.{words}
use Rattle.prof_db.specs.Spelling.{context_entry_bytes, file_name_bytes, node_bytes, procedure_bytes, profile_entry_bytes, with_count}
use Rattle.prof_db.proofs.Writing.{six_parts}
use Rattle.prof_db.proofs.write.put_shared.Goals as goal

pub returns : goal.returns
returns c =
    let names = c.args.names.now in
    let procs = c.in_ok-put_procs.ensures ∙ ap (λ (ps : List ProcName). c.put_counts.new.out.items ++ flat_map procedure_bytes ps) c.items.ensures in
    let files = c.in_ok-put_files.ensures ∙ ap (λ (fs : List FileName). c.put_procs.new.out.items ++ flat_map file_name_bytes fs) c.items-2.ensures in
    let nodes = c.in_ok-put_nodes.ensures ∙ ap (λ (l : List ℕ). l ++ flat_map (node_bytes names) c.args.nodes.now) c.in_ok-reserve.ensures.items in
    six_parts c.args.out.now.items (words (length names.procs ∷ length names.files ∷ length c.args.nodes.now ∷ [])) (flat_map procedure_bytes names.procs) (flat_map file_name_bytes names.files) (flat_map (node_bytes names) c.args.nodes.now)
    (flat_map (with_count profile_entry_bytes) c.args.profiles.now) (flat_map (with_count context_entry_bytes) c.args.contexts.now) _ _ _ _ _ _
    c.in_ok-put_counts.ensures procs files nodes c.in_ok-put_profiles.ensures c.in_ok-put_contexts.ensures
