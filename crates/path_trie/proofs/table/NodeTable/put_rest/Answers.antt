use Rattle.std.proofs.Common.{ℕ, ◌∷◌, ◌++◌, [], List, rules, refl, ap, ◌∙◌}
use Rattle.path_trie.proofs.KeptNodes.{kept_push}
use Rattle.path_trie.proofs.Places.{pushed}
use Rattle.path_trie.proofs.Walking.{path_more, prefix_more, prefix_all, extends_again}
use Rattle.path_trie.proofs.table.NodeTable.put_rest.Goals as goal

pub loop-depth-preserved : goal.loop-depth-preserved
loop-depth-preserved c =
    let l = c.loop-depth.invariant in
    let e = c.enter-node.ensures in
    let next = e.path ∙ path_more _ _ _ _ _ c.loop-depth-test.true refl l.path in
    record {
      linked = e.linked;
      paths = prefix_more _ _ _ _ _ _ _ _ c.loop-depth-test.true refl l.path l.paths e.paths;
      path = next;
      index = λ apart. e.index;
      extends = extends_again _ _ _ l.extends e.extends;
      len = search rules;
      capacity = search rules;
      branch_room = search rules;
      kept = kept_push _ _ _ _ _ _ _ _ l.kept l.linked e.extends e.linked.rooted.long l.kept_len c.loop-depth-test.true e.index next
          (pushed _ _ _ _ _ c.push.ensures.items c.unwrap.ensures ∙ ap (λ (k : List ℕ). k ++ c.enter-node.result ∷ []) e.kept);
      kept_len = search rules;
      kept_capacity = search rules;
    }

pub returns-clause-paths : goal.returns-clause-paths
returns-clause-paths c = prefix_all _ _ _ _ c.loop-depth-test.false c.loop-depth.invariant.paths
