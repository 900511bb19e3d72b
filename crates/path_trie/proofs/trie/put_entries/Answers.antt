use Rattle.std.proofs.Common.{rules, []}
use Rattle.path_trie.proofs.Places.{pushed}
use Rattle.path_trie.proofs.Merging.{places_more, entries_more, paths_more, scopes_more, fits_all}
use Rattle.path_trie.proofs.trie.put_entries.Goals as goal

pub loop-entry-preserved : goal.loop-entry-preserved
loop-entry-preserved c =
    let all = pushed _ _ _ _ _ c.push.ensures.items c.unwrap.ensures in
    let l = c.loop-entry.invariant in
    let p = c.put_path-node.ensures in
    record {
      linked = p.linked;
      indices = places_more _ _ _ _ _ [] _ _ [] _ _ _ _ l.linked p.linked l.indices p.extends c.loop-entry-test.true c.entry-item.is c.scopes.ensures all p.index;
      entries = entries_more _ _ _ _ _ [] _ _ _ _ _ _ _ l.linked p.linked l.indices p.extends c.loop-entry-test.true c.entry-item.is c.scopes.ensures all l.entries p.path;
      paths = paths_more _ _ _ _ _ _ _ _ [] _ _ _ _ l.linked p.linked l.indices p.extends c.loop-entry-test.true c.entry-item.is c.scopes.ensures all l.paths p.paths;
      len = scopes_more _ _ _ _ _ _ _ c.loop-entry-test.true c.entry-item.is c.scopes.ensures l.len p.len;
      capacity = search rules;
      branch_room = search rules;
      kept = (_, p.kept);
      kept_room = search rules;
      end_len = search rules;
      end_room = search rules;
    }

pub returns-clause-fits : goal.returns-clause-fits
returns-clause-fits c =
    fits_all _ _ _ _ _ _ _ _ c.loop-entry-test.false c.requires.fits c.loop-entry.invariant.linked c.loop-entry.invariant.indices c.loop-entry.invariant.entries c.loop-entry.invariant.paths
    c.loop-entry.invariant.len c.requires.nodes c.requires.samples
