use Rattle.std.proofs.Common.{◌≡◌, rules}
use Rattle.std.specs.Prelude.{IfOk}
use Rattle.scope_find.specs.Found.{naming_of}
use Rattle.scope_expand.specs.TreeNames.{node_names}
use Rattle.scope_expand.proofs.NodeNames.{names_of_tree}
use Rattle.scope_expand.proofs.expander.Expander.names.Goals as goal

pub returns-clause-paths : goal.returns-clause-paths
returns-clause-paths c = λ paths same.
    let named : IfOk c.node_names.result (λ names. names ≡ node_names (naming_of c.args.self.now) c.args.tree.now.nodes) = search rules in
    names_of_tree (naming_of c.args.self.now) c.args.tree.now.nodes paths c.node_names.result named same
