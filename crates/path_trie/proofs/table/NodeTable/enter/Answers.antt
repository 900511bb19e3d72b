use Rattle.std.proofs.Common.{◌∙◌}
use Rattle.path_trie.proofs.Places.{there_paths, pushed, entered_linked, entered_paths, entered_path, entered_extends}
use Rattle.path_trie.proofs.table.NodeTable.enter.Goals as goal

pub returns-in-Some-clause-paths : goal.returns-in-Some-clause-paths
returns-in-Some-clause-paths c =
    there_paths c.args.self.now.nodes.items c.args.self.now.branches.entries c.args.parent c.args.scope c.in-Some.child c.requires.linked c.requires.few c.in-Some.ensures.0 c.in-Some.ensures.1

pub returns-clause-linked : goal.returns-clause-linked
returns-clause-linked c =
    entered_linked _ _ _ _ _ _ _ c.requires.linked c.requires.few c.requires.index c.in_default.ensures (c.len-index.ensures ∙ c.args.self.now.nodes.ok.0) (pushed _ _ _ _ _ c.push.ensures.items c.unwrap.ensures) c.put_branch.ensures.branches

pub returns-clause-paths : goal.returns-clause-paths
returns-clause-paths c =
    entered_paths _ _ _ _ _ _ _ c.requires.linked c.requires.few c.requires.index c.in_default.ensures (c.len-index.ensures ∙ c.args.self.now.nodes.ok.0) (pushed _ _ _ _ _ c.push.ensures.items c.unwrap.ensures) c.put_branch.ensures.branches

pub returns-clause-path : goal.returns-clause-path
returns-clause-path c =
    entered_path _ _ _ _ _ _ _ c.requires.linked c.requires.few c.requires.index c.in_default.ensures (c.len-index.ensures ∙ c.args.self.now.nodes.ok.0) (pushed _ _ _ _ _ c.push.ensures.items c.unwrap.ensures) c.put_branch.ensures.branches

pub returns-clause-extends : goal.returns-clause-extends
returns-clause-extends c =
    entered_extends _ _ _ _ _ _ _ c.requires.linked c.requires.few c.requires.index c.in_default.ensures (c.len-index.ensures ∙ c.args.self.now.nodes.ok.0) (pushed _ _ _ _ _ c.push.ensures.items c.unwrap.ensures) c.put_branch.ensures.branches
