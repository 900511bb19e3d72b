-- What the tries of the stripes stand for, in the words of the plan.
use Rattle.std.proofs.Common.{◌≡◌, ℕ, ◌+◌, ◌<◌, ◌≤◌, ◌==◌, inl, inr, List, [], ◌∷◌, ◌++◌, length, get_or, map, replicate, sum_by, All, Bor, Result, Ok, Err, IfOk, refl, sym, ap, subst, ◌∙◌, arith}
use Rattle.std.specs.List.{flat_map, range_with_len}
use Rattle.std.proofs.lemmas.Bool.{cases_lt}
use Rattle.std.proofs.lemmas.List.{get_or_past, length-replicate, map-append}
use Rattle.std.proofs.lemmas.List.Concat.{flat_map-append, length-flat_map}
use Rattle.std.proofs.lemmas.List.Elements.{All-nil, All-cons, All-append, All-filter, All-head, All-map, All-tail, All-weaker}
use Rattle.std.proofs.lemmas.List.Folds.{flat_map-map}
use Rattle.std.proofs.lemmas.List.FromFn.{get_or-range_with_len, length-range_with_len, map-range_with_len_more}
use Rattle.prof_bytes.specs.declared.fail.Memory.{Memory}
use Rattle.scope_types.specs.declared.path.Entry.{Entry}
use Rattle.scope_types.specs.Alike.{Alike}
use Rattle.scope_types.specs.CallPaths.{ColumnPath, entry_path, each_path}
use Rattle.scope_types.specs.Key.{stripe}
use Rattle.scope_types.specs.Limits.{most_samples, most_scopes_in_all}
use Rattle.thread_cct.specs.Plan.{CountsSamples}
use Rattle.tree_types.specs.Database.{node_list}
use Rattle.tree_types.specs.Nodes.{nodes, no_parent}
use Rattle.tree_types.specs.Tree.{CountedTree, paths_in}
use Rattle.tree_types.proofs.TreeLaws.{nodes_listed}
use Rattle.path_trie.specs.Trie.{samples_of, trie_nodes}
use Rattle.stripe_table.specs.Ends.{SetValue, AllFit, named_paths, stripe_names, paths_named_by, trie_of}
use Rattle.stripe_table.specs.Limits.{Chunks, IsLimited, dealt}
use Rattle.stripe_table.specs.declared.stripe.Stripe.{Stripe}
use Rattle.tree_join.specs.Join.{AreJoinable, stripe_parts}
use Rattle.tree_join.proofs.Named.{named_sum, named_within, range_flat, range_le, range_same}
use Rattle.tree_join.proofs.Paths.{HasPaths, IsOwn, each_own}
use Rattle.tree_join.proofs.Several.{entries_in, parts_of, sum_parts}

-- ---- lists

each_flat : {X : Type 0} (f : X → List Entry) (xs : List X) → each_path (flat_map f xs) ≡ flat_map (λ x. each_path (f x)) xs
unfolding each_path
each_flat f [] = refl
each_flat f (x ∷ xs) = flat_map-append (λ (e : Entry). replicate e.count (entry_path e)) (f x) (flat_map f xs) ∙ ap (λ (ps : List ColumnPath). each_path (f x) ++ ps) (each_flat f xs)

flat_all : {X Y : Type 0} (P : Y → Type 0) (f : X → List Y) → ((x : X) → All P (f x)) → (xs : List X) → All P (flat_map f xs)
flat_all P f each [] = All-nil P
flat_all P f each (x ∷ xs) = All-append P (f x) (flat_map f xs) (each x) (flat_all P f each xs)

pub flat_parts_all : (P : Entry → Type 0) (parts : List (List Entry)) → All (All P) parts → All P (flat_map (λ es. es) parts)
flat_parts_all P [] all = All-nil P
flat_parts_all P (es ∷ parts) all = All-append P es (flat_map (λ es. es) parts) (All-head (All P) es parts all) (flat_parts_all P parts (All-tail (All P) es parts all))

-- one trie more
pub next_trie : (all : List Stripe) (k : ℕ) (ts more : List (Bor (List Entry))) (t : Bor (List Entry)) → parts_of ts ≡ map (trie_of all) (range_with_len 0 k) → more ≡ ts ++ t ∷ [] → t.now ≡ trie_of all k
    → parts_of more ≡ map (trie_of all) (range_with_len 0 (k + 1))
next_trie all k ts more t before is at =
    ap parts_of is ∙ map-append entries_in ts (t ∷ []) ∙ (λ i. before i ++ at i ∷ [])
    ∙ sym (map-range_with_len_more (trie_of all) 0 k k (let e : 0 + k ≡ k = omega arith in e))

pub all_tries : (set : SetValue) (k : ℕ) (ts : List (Bor (List Entry))) → parts_of ts ≡ map (trie_of set.stripes) (range_with_len 0 k) → k ≡ 16 → parts_of ts ≡ stripe_parts set
unfolding stripe_parts
all_tries set k ts are last = are ∙ ap (λ (n : ℕ). map (trie_of set.stripes) (range_with_len 0 n)) last

-- ---- the pieces

module _ (plan : Chunks) (P : Entry → Type 0) (all : All (All P) plan) where
  at_chunk : (c : ℕ) → All P (get_or plan c [])
  at_chunk c = elim (cases_lt c (length plan)) [
    | inl lt ↦ all c [] lt
    | inr le ↦ subst (All P) (sym (get_or_past plan c [] le)) (All-nil P)
  ]

  dealt_all : (s c : ℕ) → All P (dealt plan c s)
  dealt_all s c = All-filter (λ e. stripe e.path == s) P (get_or plan c []) (at_chunk c)

each_long : (es : List Entry) → length (each_path es) ≡ sum_by (λ e. e.count) es
unfolding each_path
each_long es = length-flat_map (λ (e : Entry). replicate e.count (entry_path e)) es ∙ (λ i. sum_by (λ (e : Entry). length-replicate e.count (entry_path e) i) es)

-- ---- the tries

module _ (set : SetValue) (fit : AllFit set.view.plan set.stripes) where
  merged : (s : ℕ) → s < 16 → trie_of set.stripes s ≡ flat_map (λ c. dealt set.view.plan c s) (stripe_names set.stripes s)
  merged s lt = (fit.1 s lt).merged

  stripe_paths : (s : ℕ) → s < 16 → each_path (trie_of set.stripes s) ≡ paths_named_by set s
  stripe_paths s lt = ap each_path (merged s lt) ∙ each_flat (λ c. dealt set.view.plan c s) (stripe_names set.stripes s)

  pub parts_paths : each_path (flat_map (λ es. es) (stripe_parts set)) ≡ named_paths set
  unfolding stripe_parts named_paths
  parts_paths =
      ap each_path (flat_map-map (λ (es : List Entry). es) (trie_of set.stripes) (range_with_len 0 16))
      ∙ each_flat (trie_of set.stripes) (range_with_len 0 16)
      ∙ range_flat (λ s. each_path (trie_of set.stripes s)) (paths_named_by set) 0 16 stripe_paths

  module _ (P : Entry → Type 0) (all : All (All P) set.view.plan) where
    trie_all : (s : ℕ) → s < 16 → All P (trie_of set.stripes s)
    trie_all s lt = subst (All P) (sym (merged s lt)) (flat_all P (λ c. dealt set.view.plan c s) (dealt_all set.view.plan P all s) (stripe_names set.stripes s))

    in_range : (i d : ℕ) → i < length (range_with_len 0 16) → get_or (range_with_len 0 16) i d < 16
    in_range i d lt =
        let long = length-range_with_len 0 16 in
        let is = get_or-range_with_len 0 16 i d (omega arith) in
        subst (λ (n : ℕ). n < 16) (sym is) (omega arith)

    pub parts_all : All (All P) (stripe_parts set)
    unfolding stripe_parts
    parts_all = All-map (All P) (trie_of set.stripes) (range_with_len 0 16) (λ i d lt. trie_all (get_or (range_with_len 0 16) i d) (in_range i d lt))

  -- what the stripes hold has paths of their columns
  module _ (columns : ℕ) (held : AreJoinable set columns) where
    pub all_held : All (CountsSamples columns) (flat_map (λ es. es) (stripe_parts set))
    all_held = flat_parts_all (CountsSamples columns) (stripe_parts set) held

    all_own : All (IsOwn columns) (named_paths set)
    all_own = subst (All (IsOwn columns)) parts_paths (each_own columns (flat_map (λ es. es) (stripe_parts set)) all_held)

    -- the paths that the stripes name have scopes, and columns that there are
    abbrev Own : Type 0
    Own = All (λ p. 0 < length p.path) (named_paths set) × All (λ p. p.column < columns) (named_paths set)

    named_own : Own
    named_own =
        (All-weaker (IsOwn columns) (λ p. 0 < length p.path) (λ p own. own.1) (named_paths set) all_own, All-weaker (IsOwn columns) (λ p. p.column < columns) (λ p own. own.0) (named_paths set) all_own)

    pub named_kept : (r : Result CountedTree Memory) → IfOk r (λ tree. Own)
    named_kept (Ok tree) = named_own
    named_kept (Err e) = tt

  stripe_long : (s : ℕ) → length (paths_named_by set s) ≡ named_sum set fit (λ e. e.count) s
  stripe_long s =
      length-flat_map (λ c. each_path (dealt set.view.plan c s)) (stripe_names set.stripes s) ∙ (λ i. sum_by (λ c. each_long (dealt set.view.plan c s) i) (stripe_names set.stripes s))

  named_long : length (named_paths set) ≡ sum_by (named_sum set fit (λ e. e.count)) (range_with_len 0 16)
  unfolding named_paths
  named_long = length-flat_map (paths_named_by set) (range_with_len 0 16) ∙ (λ i. sum_by (λ s. stripe_long s i) (range_with_len 0 16))

  module _ (limited : IsLimited set.view.plan) where
    pub named_samples : (r : Result CountedTree Memory) → IfOk r (λ tree. length (named_paths set) ≤ most_samples)
    named_samples (Ok tree) = at_most _ _ _ _ named_long (named_within set fit (λ e. e.count)) limited.samples
      where
        at_most : (a b c d : ℕ) → a ≡ b → b ≤ c → c ≤ d → a ≤ d
        at_most a b c d is le few = omega arith
    named_samples (Err e) = tt

    pub parts_samples : sum_by samples_of (stripe_parts set) ≤ most_samples
    unfolding stripe_parts
    parts_samples =
        at_most _ _ _ _ (sum_parts samples_of (trie_of set.stripes) (range_with_len 0 16) ∙ range_same (λ s. samples_of (trie_of set.stripes s)) (named_sum set fit (λ e. e.count)) 0 16 (λ s lt. (fit.1 s lt).samples))
        (named_within set fit (λ e. e.count)) limited.samples
      where
        at_most : (a b c d : ℕ) → a ≡ b → b ≤ c → c ≤ d → a ≤ d
        at_most a b c d is le few = omega arith

    pub parts_nodes : sum_by (λ es. length (trie_nodes es)) (stripe_parts set) ≤ most_scopes_in_all
    unfolding stripe_parts
    parts_nodes =
        at_most _ _ _ _ _ (sum_parts (λ es. length (trie_nodes es)) (trie_of set.stripes) (range_with_len 0 16))
        (range_le (λ s. length (trie_nodes (trie_of set.stripes s))) (named_sum set fit (λ e. length e.path)) 0 16 (λ s lt. (fit.1 s lt).scopes))
        (named_within set fit (λ e. length e.path)) limited.scopes
      where
        at_most : (a b c d e : ℕ) → a ≡ b → b ≤ c → c ≤ d → d ≤ e → a ≤ e
        at_most a b c d e is one two few = omega arith

-- ---- the join of the tries

module _ (set : SetValue) (ts : List (Bor (List Entry))) (tries : parts_of ts ≡ stripe_parts set) (fit : AllFit set.view.plan set.stripes) (limited : IsLimited set.view.plan) where
  pub tries_samples : sum_by (λ t. samples_of t.now) ts ≤ most_samples
  tries_samples = subst (λ (n : ℕ). n ≤ most_samples) (ap (sum_by samples_of) (sym tries) ∙ sum_parts samples_of entries_in ts) (parts_samples set fit limited)

  pub tries_nodes : sum_by (λ t. length (trie_nodes t.now)) ts ≤ most_scopes_in_all
  tries_nodes =
      subst (λ (n : ℕ). n ≤ most_scopes_in_all) (ap (sum_by (λ (es : List Entry). length (trie_nodes es))) (sym tries) ∙ sum_parts (λ es. length (trie_nodes es)) entries_in ts)
      (parts_nodes set fit limited)

  module _ (columns : ℕ) (held : AreJoinable set columns) where
    tries_all : (us : List (Bor (List Entry))) → All (All (CountsSamples columns)) (parts_of us) → All (λ t. All (λ e. 0 < e.count → e.column < columns) t.now) us
    tries_all [] all = All-nil (λ t. All (λ e. 0 < e.count → e.column < columns) t.now)
    tries_all (u ∷ us) all =
        let P : List Entry → Type 0 = All (CountsSamples columns) in
        All-cons (λ t. All (λ e. 0 < e.count → e.column < columns) t.now) u us
        (All-weaker (CountsSamples columns) (λ e. 0 < e.count → e.column < columns) (λ e own more. own.column) (entries_in u) (All-head P (entries_in u) (parts_of us) all))
        (tries_all us (All-tail P (entries_in u) (parts_of us) all))

    own : All (All (CountsSamples columns)) (parts_of ts)
    own = subst (All (All (CountsSamples columns))) (sym tries) held

    pub tries_columns : All (λ t. All (λ e. 0 < e.count → e.column < columns) t.now) ts
    tries_columns = tries_all ts own

    module _ (r : Result CountedTree Memory) (few : IfOk r (λ tree. length tree.nodes < no_parent)) (joined : All (CountsSamples columns) (flat_map (λ es. es) (parts_of ts)) → IfOk r (HasPaths (flat_map (λ es. es) (parts_of ts)))) where
      -- the tree has these paths
      abbrev Has : List ColumnPath → CountedTree → Type 0
      Has ps tree = Alike (paths_in tree) ps × (tree.nodes ≡ node_list ps)

      has_named : IfOk r (Has (named_paths set))
      has_named =
          subst (λ (ps : List ColumnPath). IfOk r (Has ps)) (ap (λ (parts : List (List Entry)). each_path (flat_map (λ es. es) parts)) tries ∙ parts_paths set fit)
          (joined (flat_parts_all (CountsSamples columns) (parts_of ts) own))

      pub named_alike : IfOk r (λ tree. Alike (paths_in tree) (named_paths set))
      named_alike = first r has_named
        where
          first : (r : Result CountedTree Memory) → IfOk r (Has (named_paths set)) → IfOk r (λ tree. Alike (paths_in tree) (named_paths set))
          first (Ok tree) has = has.0
          first (Err e) has = has

      pub named_nodes : IfOk r (λ tree. tree.nodes ≡ node_list (named_paths set))
      named_nodes = second r has_named
        where
          second : (r : Result CountedTree Memory) → IfOk r (Has (named_paths set)) → IfOk r (λ tree. tree.nodes ≡ node_list (named_paths set))
          second (Ok tree) has = has.1
          second (Err e) has = has

      pub named_few : IfOk r (λ tree. length (nodes (named_paths set)) ≤ no_parent)
      named_few = both r few named_nodes
        where
          both : (r : Result CountedTree Memory) → IfOk r (λ tree. length tree.nodes < no_parent) → IfOk r (λ tree. tree.nodes ≡ node_list (named_paths set)) → IfOk r (λ tree. length (nodes (named_paths set)) ≤ no_parent)
          both (Ok tree) small is = (let long = nodes_listed (named_paths set) in let same = ap length is in omega arith)
          both (Err e) small is = small
