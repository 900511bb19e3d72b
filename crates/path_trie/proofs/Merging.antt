-- The entries that a trie stands for, and one more.
use Rattle.std.proofs.Common.{◌≡◌, ℕ, ◌+◌, ◌<◌, ◌≤◌, List, [], ◌∷◌, ◌++◌, length, map, take, get_or, fold, All, refl, sym, ap, ap₂, subst, ◌∙◌, arith, append-nil, append_assoc, take_all}
use Rattle.std.specs.List.{flat_map}
use Rattle.std.proofs.lemmas.List.{take_more, map-append}
use Rattle.std.proofs.lemmas.List.Concat.{flat_map-append}
use Rattle.std.proofs.lemmas.List.Elements.{All-nil, All-head, All-tail, All-push, All-weaker}
use Rattle.std.proofs.lemmas.List.Sums.{fold-append, sum_by_more, sum_by-append}
use Rattle.scope_types.specs.declared.path.Entry.{Entry}
use Rattle.scope_types.specs.Limits.{most_samples, most_scopes_in_all}
use Rattle.tree_types.specs.declared.content.Node.{Node}
use Rattle.tree_types.specs.Paths.{Path, prefixes}
use Rattle.tree_types.specs.PathsOf.{tree_paths}
use Rattle.path_trie.specs.declared.trie.PathEnd.{PathEnd}
use Rattle.path_trie.specs.Trie.{IsIndex, path_at, counted_entry, with_node, all_prefixes, trie_nodes, entry_scopes, samples_of}
use Rattle.path_trie.specs.private.Linked.{Branches, Linked, Extends, IsTrie, entries_at}
use Rattle.path_trie.proofs.Places.{none_linked}

abbrev pub entry_with : ℕ → ℕ → Path → Entry
entry_with column count path = record { column = column; count = count; path = path }

no_fields : IsTrie [] [] []
unfolding tree_paths trie_nodes
no_fields = record {
  linked = none_linked;
  indices = All-nil (λ e. IsIndex e.node 0);
  nodes_are = refl;
  few_nodes = omega arith;
  few_samples = omega arith;
}

pub none_fits : (nodes : List Node) (bs : Branches) (ends : List PathEnd) → nodes ≡ [] → bs ≡ [] → ends ≡ [] → IsTrie nodes bs ends
none_fits nodes bs ends n b e = subst (λ (x : List Node). IsTrie x bs ends) (sym n) (subst (λ (x : Branches). IsTrie [] x ends) (sym b) (subst (IsTrie [] []) (sym e) no_fields))

pub no_nodes : (entries : List Entry) → entries ≡ [] → trie_nodes entries ≡ []
unfolding trie_nodes
no_nodes entries none = ap (λ (es : List Entry). fold with_node [] (all_prefixes es)) none

-- ---- one entry more

pub map_same : (ps qs : List Path) (n : ℕ) (ends : List PathEnd) → ((p : ℕ) → IsIndex p n → path_at qs p ≡ path_at ps p) → All (λ e. IsIndex e.node n) ends → map (counted_entry qs) ends ≡ map (counted_entry ps) ends
map_same ps qs n [] same indices = refl
map_same ps qs n (e ∷ ends) same indices =
    let P : PathEnd → Type 0 = λ e. IsIndex e.node n in
    ap₂ (λ (x : Path) (rest : List Entry). entry_with e.column e.count x ∷ rest) (same e.node (All-head P e ends indices)) (map_same ps qs n ends same (All-tail P e ends indices))

module _ (old nodes : List Node) (bs more : Branches) (ends : List PathEnd) (start : List Path) (after : List PathEnd) (entries from : List Entry) (e : Entry) (k node : ℕ) (path : Path)
    (l : Linked old bs) (m : Linked nodes more) (indices : All (λ e. IsIndex e.node (length old)) ends)
    (wide : Extends (tree_paths old) (tree_paths nodes)) (lt : k < length entries) (is : e ≡ get_or entries k e)
    (given : path ≡ e.path) (pushed : after ≡ ends ++ record { node = node; column = e.column; count = e.count } ∷ []) where
  abbrev end_new : PathEnd
  end_new = record { node = node; column = e.column; count = e.count }

  all_places : IsIndex node (length nodes) → All (λ e. IsIndex e.node (length nodes)) (ends ++ end_new ∷ [])
  all_places index =
      All-push (λ e. IsIndex e.node (length nodes)) ends end_new
      (All-weaker (λ e. IsIndex e.node (length old)) (λ e. IsIndex e.node (length nodes)) (λ e fits apart. (let less = fits apart in let a = l.rooted.long in let b = m.rooted.long in let c = wide.longer in omega arith)) ends indices)
      index

  all_entries : entries_at old ends ≡ from ++ take k entries → path_at (tree_paths nodes) node ≡ e.path → entries_at nodes (ends ++ end_new ∷ []) ≡ from ++ take (k + 1) entries
  all_entries so_far path_is =
      map-append (counted_entry (tree_paths nodes)) ends (end_new ∷ [])
      ∙ ap₂ (λ (x : List Entry) (p : Path). x ++ entry_with e.column e.count p ∷ [])
      (map_same (tree_paths old) (tree_paths nodes) (length old) ends (λ p index. wide.same p (subst (IsIndex p) (sym l.rooted.long) index)) indices ∙ so_far) path_is
      ∙ append_assoc from (take k entries) (e ∷ [])
      ∙ ap (λ (x : List Entry). from ++ x) (ap (λ (x : Entry). take k entries ++ x ∷ []) is ∙ sym (take_more entries k e lt))

  pub paths_more : tree_paths old ≡ fold with_node start (all_prefixes (take k entries)) → tree_paths nodes ≡ fold with_node (tree_paths old) (prefixes path) → tree_paths nodes ≡ fold with_node start (all_prefixes (take (k + 1) entries))
  paths_more so_far step =
      let f : Entry → List Path = λ x. prefixes x.path in
      step ∙ ap (λ (p : Path). fold with_node (tree_paths old) (prefixes p)) given ∙ ap (λ (x : List Path). fold with_node x (prefixes e.path)) so_far
      ∙ sym (fold-append with_node start (all_prefixes (take k entries)) (prefixes e.path))
      ∙ ap (fold with_node start) (ap (λ (x : List Path). all_prefixes (take k entries) ++ x) (sym (append-nil (prefixes e.path)))
      ∙ sym (flat_map-append f (take k entries) (e ∷ [])) ∙ ap (flat_map f) (ap (λ (x : Entry). take k entries ++ x ∷ []) is ∙ sym (take_more entries k e lt)))

  pub places_more : IsIndex node (length nodes) → All (λ e. IsIndex e.node (length nodes)) after
  places_more index = subst (All (λ e. IsIndex e.node (length nodes))) (sym pushed) (all_places index)

  pub entries_more : entries_at old ends ≡ from ++ take k entries → path_at (tree_paths nodes) node ≡ path → entries_at nodes after ≡ from ++ take (k + 1) entries
  entries_more so_far path_is = ap (entries_at nodes) pushed ∙ all_entries so_far (path_is ∙ given)

abbrev length_of : Entry → ℕ
length_of e = length e.path

pub scopes_more : (entries : List Entry) (k old now after : ℕ) (e : Entry) (path : Path) → k < length entries → e ≡ get_or entries k e → path ≡ e.path
    → now ≤ old + entry_scopes (take k entries) → after ≤ now + length path → after ≤ old + entry_scopes (take (k + 1) entries)
scopes_more entries k old now after e path lt is given so_far step =
    let one = sum_by_more length_of entries k e lt in
    let same : length path ≡ length (get_or entries k e).path = ap (λ (p : Path). length p) given ∙ ap length_of is in
    omega arith

-- ---- all entries

module _ (old nodes : List Node) (bs more : Branches) (ends all : List PathEnd) (entries : List Entry) (k : ℕ) (le : length entries ≤ k) (fits : IsTrie old bs ends) where
  pub entries_all : entries_at nodes all ≡ entries_at old ends ++ take k entries → entries_at nodes all ≡ entries_at old ends ++ entries
  entries_all is = is ∙ ap (λ (x : List Entry). entries_at old ends ++ x) (take_all k entries le)

  nodes_all : entries_at nodes all ≡ entries_at old ends ++ entries → tree_paths nodes ≡ fold with_node (tree_paths old) (all_prefixes (take k entries)) → tree_paths nodes ≡ trie_nodes (entries_at nodes all)
  unfolding trie_nodes
  nodes_all are paths =
      let f : Entry → List Path = λ x. prefixes x.path in
      paths ∙ ap (λ (x : List Entry). fold with_node (tree_paths old) (all_prefixes x)) (take_all k entries le)
      ∙ ap (λ (x : List Path). fold with_node x (all_prefixes entries)) fits.nodes_are
      ∙ sym (fold-append with_node [] (all_prefixes (entries_at old ends)) (all_prefixes entries))
      ∙ ap (fold with_node []) (sym (flat_map-append f (entries_at old ends) entries))
      ∙ ap (λ (x : List Entry). fold with_node [] (all_prefixes x)) (sym are)

  pub fits_all : Linked nodes more → All (λ e. IsIndex e.node (length nodes)) all → entries_at nodes all ≡ entries_at old ends ++ take k entries
      → tree_paths nodes ≡ fold with_node (tree_paths old) (all_prefixes (take k entries))
      → length nodes ≤ length old + entry_scopes (take k entries) → length old + entry_scopes entries ≤ most_scopes_in_all
      → samples_of (entries_at old ends) + samples_of entries ≤ most_samples → IsTrie nodes more all
  fits_all linked indices is paths len few samples = record {
    linked = linked;
    indices = indices;
    nodes_are = nodes_all (entries_all is) paths;
    few_nodes = (let same = ap entry_scopes (take_all k entries le) in omega arith);
    few_samples = (let same = ap samples_of (entries_all is) in let parts = sum_by-append (λ (e : Entry). e.count) (entries_at old ends) entries in omega arith);
  }
