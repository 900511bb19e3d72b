-- The nodes by index: which node is where, and one node more.
use Rattle.std.proofs.Common.{◌≡◌, ℕ, zero, suc, ◌+◌, ◌<◌, ◌≤◌, ◌≢◌, ◌==◌, ◌&&◌, ◌||◌, ◌⊎◌, inl, inr, Bool, true, false, cond, List, [], ◌∷◌, ◌++◌, length, get_or, Option, Some, None, MatchOption, Result, Ok, is_ok, slice_get, refl, sym, ap, ap₂, subst, ◌∙◌, arith, rules, true≢false}
use Rattle.std.specs.Bool.{Decides}
use Rattle.std.proofs.Math.Nat.{mod-eq_of_lt}
use Rattle.std.proofs.Math.ListN.{get_or-append}
use Rattle.std.proofs.Math.Seq.{get_or-append_seam}
use Rattle.std.proofs.lemmas.Bool.{cases_eq, cases_lt, eq-eqb, ne_eqb, or_right}
use Rattle.std.proofs.lemmas.Bool.Decides.{eqb_tells}
use Rattle.std.proofs.lemmas.Cmp.{tied_itself}
use Rattle.std.proofs.lemmas.List.{length-append}
use Rattle.std.proofs.lemmas.Option.{get_or_from_slice_get, slice_get_read}
use Rattle.std.proofs.lemmas.List.Sums.{fold-append}
use Rattle.scope_types.specs.declared.scope.Scope.{Scope}
use Rattle.scope_types.specs.Limits.{most_scopes_in_all}
use Rattle.scope_types.specs.Order.{path_order}
use Rattle.scope_types.proofs.Orders.{path_order_total, path_order_tells}
use Rattle.tree_types.specs.declared.content.Node.{Node}
use Rattle.tree_types.specs.Paths.{Path}
use Rattle.tree_types.specs.Nodes.{no_parent}
use Rattle.tree_types.specs.PathsOf.{tree_paths, path_below}
use Rattle.tree_types.proofs.Sorting.{equal_from_is}
use Rattle.scope_types.specs.contracts.scope.ScopePartialEq.TheImpl.{ghosts as scopes}
use Rattle.tree_types.specs.contracts.content.NodePartialEq.TheImpl.{ghosts as node_test}
use Rattle.path_trie.specs.Trie.{IsIndex, path_at, same_path, has_node, with_node}
use Rattle.path_trie.specs.private.Linked.{Key, Branches, same_key, branch_at, linked_node, node_with, no_node, next_index, IsAbsent, with_branch, Rooted, Linked, Extends}

-- ---- keys

pub scope_decides : (a b : Scope) → Decides (scopes.eq a b) (a ≡ b)
scope_decides a b = search rules

both_true : (s t : Bool) → (s && t) ≡ true → (s ≡ true) × (t ≡ true)
both_true true t e = (refl, e)
both_true false t e = absurd cc

key_is : (a b : Key) → same_key a b ≡ true → a ≡ b
key_is a b e =
    let parts = both_true (a.0 == b.0) (scopes.eq a.1 b.1) e in
    elim (eqb_tells a.0 b.0) as (λ _. a ≡ b) [
      | inl same ↦ ap₂ (λ (p : ℕ) (s : Scope). (let k : Key = (p, s) in k)) same.1 ((scope_decides a.1 b.1).0 parts.1)
      | inr apart ↦ absurd (true≢false (sym parts.0 ∙ apart.0))
    ]

key_itself : (a : Key) → same_key a a ≡ true
key_itself a = ap₂ (λ (s t : Bool). s && t) (eq-eqb a.0 a.0 refl) ((scope_decides a.1 a.1).1 refl)

-- ---- indices

pub place_cases : (p n : ℕ) → IsIndex p n → (p ≡ no_parent) ⊎ (p < n)
place_cases p n is = elim (cases_eq p no_parent) [ inl e ↦ inl e | inr apart ↦ inr (is apart) ]

pub next_of : (p : ℕ) → p < most_scopes_in_all → next_index p ≡ p + 1
next_of p lt = mod-eq_of_lt (omega arith)

pub none_listed : (nodes : List Node) (bs : Branches) (parent : ℕ) (scope : Scope) → Linked nodes bs → (linked_node nodes (next_index parent) ≡ node_with parent scope → ⊥) → branch_at bs (parent, scope) ≡ None → IsAbsent nodes parent scope
none_listed nodes bs parent scope l apart none i lt is =
    elim (cases_eq i (next_index parent)) [
      | inl e ↦ apart (ap (linked_node nodes) (sym e) ∙ is)
      | inr other ↦
          let there : branch_at bs ((linked_node nodes i).parent, (linked_node nodes i).scope) ≡ Some i = l.listed i lt (λ e. other (e ∙ ap (λ (n : Node). next_index n.parent) is)) in
          let same : branch_at bs ((linked_node nodes i).parent, (linked_node nodes i).scope) ≡ branch_at bs (parent, scope) = ap (λ (n : Node). branch_at bs (n.parent, n.scope)) is in
          let some_none : Some i ≡ None = sym there ∙ same ∙ none in
          absurd cc
    ]

-- ---- paths

pub path_none : (paths : List Path) (p : ℕ) → p ≡ no_parent → path_at paths p ≡ []
path_none paths p e = ap (λ b. cond b [] (get_or paths p [])) (eq-eqb p no_parent e)

pub path_some : (paths : List Path) (p : ℕ) → p < most_scopes_in_all → path_at paths p ≡ get_or paths p []
path_some paths p lt = ap (λ b. cond b [] (get_or paths p [])) (ne_eqb p no_parent (λ e. absurd (omega arith)))

pub not_empty : (a : Path) (s : Scope) → a ++ s ∷ [] ≡ [] → ⊥
not_empty [] s e = cc
not_empty (t ∷ a) s e = cc

pub snoc_same : (a b : Path) (s t : Scope) → a ++ s ∷ [] ≡ b ++ t ∷ [] → (a ≡ b) × (s ≡ t)
snoc_same [] [] s t e = (refl, cc)
snoc_same [] (y ∷ b) s t e = (let rest : b ++ t ∷ [] ≡ [] = cc in absurd (not_empty b t rest))
snoc_same (x ∷ a) [] s t e = (let rest : a ++ s ∷ [] ≡ [] = cc in absurd (not_empty a s rest))
snoc_same (x ∷ a) (y ∷ b) s t e =
    let first : x ≡ y = cc in
    let rest = snoc_same a b s t (cc) in
    (ap₂ (λ (z : Scope) (c : Path). z ∷ c) first rest.0, rest.1)

module _ (nodes : List Node) (l : Rooted nodes) (few : length nodes ≤ most_scopes_in_all) where
  pub place_once : (p q : ℕ) → IsIndex p (length nodes) → IsIndex q (length nodes) → path_at (tree_paths nodes) p ≡ path_at (tree_paths nodes) q → p ≡ q
  place_once p q p_place q_place e =
      let paths : List Path = tree_paths nodes in
      elim (place_cases p (length nodes) p_place) [
        | inl p_none ↦ elim (place_cases q (length nodes) q_place) [
          | inl q_none ↦ p_none ∙ sym q_none
          | inr q_less ↦ absurd (not_empty (path_at paths (linked_node nodes q).parent) (linked_node nodes q).scope
              (sym (l.below q q_less) ∙ sym (path_some paths q (omega arith)) ∙ sym e ∙ path_none paths p p_none))
        ]
        | inr p_less ↦ elim (place_cases q (length nodes) q_place) [
          | inl q_none ↦ absurd (not_empty (path_at paths (linked_node nodes p).parent) (linked_node nodes p).scope
              (sym (l.below p p_less) ∙ sym (path_some paths p (omega arith)) ∙ e ∙ path_none paths q q_none))
          | inr q_less ↦ l.once p q p_less q_less (sym (path_some paths p (omega arith)) ∙ e ∙ path_some paths q (omega arith))
        ]
      ]

-- ---- whether a path is there

pub path_itself : (n : Path) → same_path n n ≡ true
path_itself n = ap Rattle.std.specs.Ordering.is_eq (tied_itself path_order_total n)

pub path_is : (a b : Path) → same_path a b ≡ true → a ≡ b
path_is a b e = path_order_tells a b (equal_from_is (path_order a b) e)

pub path_false : (a b : Path) → (a ≡ b → ⊥) → same_path a b ≡ false
path_false a b apart =
    elim (same_path a b) as (λ t. same_path a b ≡ t → same_path a b ≡ false) [ true ↦ λ e. absurd (apart (path_is a b e)) | false ↦ λ e. e ] refl

pub has_at : (ns : List Path) (i : ℕ) (n : Path) → i < length ns → get_or ns i [] ≡ n → has_node ns n ≡ true
has_at [] i n lt is = absurd (omega arith)
has_at (m ∷ ns) zero n lt is = ap (λ b. b || has_node ns n) (ap (same_path n) is ∙ path_itself n)
has_at (m ∷ ns) (suc i) n lt is = or_right (same_path n m) (has_node ns n) (has_at ns i n (omega arith) is)

pub has_not : (ns : List Path) (n : Path) → ((i : ℕ) → i < length ns → get_or ns i [] ≡ n → ⊥) → has_node ns n ≡ false
has_not [] n apart = refl
has_not (m ∷ ns) n apart =
    elim (same_path n m) as (λ b. same_path n m ≡ b → (b || has_node ns n) ≡ false) [
      | true ↦ λ e. absurd (apart 0 (omega arith) (sym (path_is n m e)))
      | false ↦ λ e. has_not ns n (λ i lt is. apart (suc i) (omega arith) is)
    ] refl

-- ---- a child

node_decides : (a b : Node) → Decides (node_test.eq a b) (a ≡ b)
node_decides a b = (λ e. (let k = key_is (a.parent, a.scope) (b.parent, b.scope) e in ap (λ (q : Key). node_with q.0 q.1) k), λ e. subst (λ (n : Node). node_test.eq a n ≡ true) e (key_itself (a.parent, a.scope)))

-- the node right after its parent is another
pub node_apart : (nodes : List Node) (i : ℕ) (node other : Node) (test : Bool) (xs : List Node) → xs ≡ nodes → i < length xs → node ≡ get_or xs i node → test ≡ node_test.eq node other → test ≡ false → linked_node nodes i ≡ other → ⊥
node_apart nodes i node other test xs same lt there told apart is =
    let found : slice_get xs i ≡ Some node = slice_get_read xs (length xs) i node refl lt there in
    let at : linked_node nodes i ≡ node = ap (λ (l : List Node). get_or l i no_node) (sym same) ∙ get_or_from_slice_get xs i node no_node found in
    true≢false (sym ((node_decides node other).1 (sym at ∙ is)) ∙ sym told ∙ apart)

-- what lies right after its parent, or is listed
pub branch_given : (nodes : List Node) (bs : Branches) (parent : ℕ) (scope : Scope) (o : Option ℕ) → Linked nodes bs → branch_at bs (parent, scope) ≡ o
    → (linked_node nodes (next_index parent) ≡ node_with parent scope → ⊥)
    → MatchOption o (IsAbsent nodes parent scope) (λ i. (i < length nodes) × (linked_node nodes i ≡ node_with parent scope))
branch_given nodes bs parent scope None l is apart = none_listed nodes bs parent scope l apart is
branch_given nodes bs parent scope (Some i) l is apart = l.found parent scope i is

-- ---- one node more

pub tree_paths_push : (nodes : List Node) (n : Node) → tree_paths (nodes ++ n ∷ []) ≡ tree_paths nodes ++ path_below (tree_paths nodes) n ∷ []
unfolding tree_paths
tree_paths_push nodes n = fold-append (λ paths n. paths ++ path_below paths n ∷ []) [] nodes (n ∷ [])

pub last_cases : (i n : ℕ) → i < n + 1 → (i < n) ⊎ (i ≡ n)
last_cases i n lt = elim (cases_lt i n) [ inl less ↦ inl less | inr least ↦ inr (omega arith) ]

module _ (nodes : List Node) (bs more : Branches) (parent : ℕ) (scope : Scope) (l : Linked nodes bs) (few : length nodes < most_scopes_in_all) (index : IsIndex parent (length nodes)) (absent : IsAbsent nodes parent scope)
    (lookups : (q : Key) → branch_at more q ≡ with_branch (next_index parent == length nodes) (parent, scope) (length nodes) (branch_at bs q) q) where
  abbrev node_new : Node
  node_new = node_with parent scope

  abbrev all : List Node
  all = nodes ++ node_new ∷ []

  abbrev old_paths : List Path
  old_paths = tree_paths nodes

  abbrev new_path : Path
  new_path = path_at old_paths parent ++ scope ∷ []

  abbrev all_paths : List Path
  all_paths = old_paths ++ new_path ∷ []

  paths_are : tree_paths all ≡ all_paths
  paths_are = tree_paths_push nodes node_new

  count : length all ≡ length nodes + 1
  count = length-append nodes (node_new ∷ [])

  old_at : (i : ℕ) → i < length nodes → get_or all_paths i [] ≡ get_or old_paths i []
  old_at i lt = get_or-append old_paths (new_path ∷ []) [] i (let long = l.rooted.long in omega arith)

  new_at : (i : ℕ) → i ≡ length nodes → get_or all_paths i [] ≡ new_path
  new_at i is = ap (λ (k : ℕ). get_or all_paths k []) (is ∙ sym l.rooted.long) ∙ get_or-append_seam old_paths new_path [] []

  old_node : (i : ℕ) → i < length nodes → linked_node all i ≡ linked_node nodes i
  old_node i lt = get_or-append nodes (node_new ∷ []) no_node i lt

  last_node : (i : ℕ) → i ≡ length nodes → linked_node all i ≡ node_new
  last_node i is = ap (linked_node all) is ∙ get_or-append_seam nodes node_new [] no_node

  path_stays : (p : ℕ) → IsIndex p (length nodes) → path_at all_paths p ≡ path_at old_paths p
  path_stays p p_place =
      elim (place_cases p (length nodes) p_place) [
        | inl e ↦ path_none all_paths p e ∙ sym (path_none old_paths p e)
        | inr less ↦ ap (λ (x : Path). cond (p == no_parent) [] x) (old_at p less)
      ]

  wider : (p i : ℕ) → i < length nodes → IsIndex p i → IsIndex p (length nodes)
  wider p i lt p_place apart = (let less = p_place apart in omega arith)

  new_apart : (i : ℕ) → i < length nodes → get_or old_paths i [] ≡ new_path → ⊥
  new_apart i lt e =
      let n : Node = linked_node nodes i in
      let parts = snoc_same (path_at old_paths n.parent) (path_at old_paths parent) n.scope scope (sym (l.rooted.below i lt) ∙ e) in
      let same : n.parent ≡ parent = place_once nodes l.rooted (omega arith) n.parent parent (wider n.parent i lt (l.rooted.before i lt)) index parts.0 in
      absent i lt (ap₂ node_with same parts.1)

  before_all : (i : ℕ) → i < length all → IsIndex (linked_node all i).parent i
  before_all i lt =
      elim (last_cases i (length nodes) (let c = count in omega arith)) [
        | inl less ↦ subst (λ (n : Node). IsIndex n.parent i) (sym (old_node i less)) (l.rooted.before i less)
        | inr is ↦ subst (λ (n : Node). IsIndex n.parent i) (sym (last_node i is)) (subst (λ (k : ℕ). IsIndex parent k) (sym is) index)
      ]

  below_all : (i : ℕ) → i < length all → get_or all_paths i [] ≡ path_below all_paths (linked_node all i)
  below_all i lt =
      elim (last_cases i (length nodes) (let c = count in omega arith)) [
        | inl less ↦
            old_at i less ∙ l.rooted.below i less
            ∙ ap (λ (x : Path). x ++ (linked_node nodes i).scope ∷ []) (sym (path_stays (linked_node nodes i).parent (wider (linked_node nodes i).parent i less (l.rooted.before i less))))
            ∙ ap (path_below all_paths) (sym (old_node i less))
        | inr is ↦ new_at i is ∙ ap (λ (x : Path). x ++ scope ∷ []) (sym (path_stays parent index)) ∙ ap (path_below all_paths) (sym (last_node i is))
      ]

  once_all : (i j : ℕ) → i < length all → j < length all → get_or all_paths i [] ≡ get_or all_paths j [] → i ≡ j
  once_all i j i_lt j_lt e =
      elim (last_cases i (length nodes) (let c = count in omega arith)) [
        | inl i_less ↦ elim (last_cases j (length nodes) (let c = count in omega arith)) [
          | inl j_less ↦ l.rooted.once i j i_less j_less (sym (old_at i i_less) ∙ e ∙ old_at j j_less)
          | inr j_is ↦ absurd (new_apart i i_less (sym (old_at i i_less) ∙ e ∙ new_at j j_is))
        ]
        | inr i_is ↦ elim (last_cases j (length nodes) (let c = count in omega arith)) [
          | inl j_less ↦ absurd (new_apart j j_less (sym (old_at j j_less) ∙ sym e ∙ new_at i i_is))
          | inr j_is ↦ i_is ∙ sym j_is
        ]
      ]

  abbrev own_key : Key
  own_key = (parent, scope)

  stays_listed : (b : Bool) (q : Key) (i : ℕ) → (own_key ≡ q → ⊥) → with_branch b own_key (length nodes) (Some i) q ≡ Some i
  stays_listed true q i apart = refl
  stays_listed false q i apart =
      elim (same_key own_key q) as (λ s. same_key own_key q ≡ s → cond s (Some (length nodes)) (Some i) ≡ Some i) [
        | true ↦ λ e. absurd (apart (key_is own_key q e))
        | false ↦ λ e. refl
      ] refl

  listed_all : (i : ℕ) → i < length all → i ≢ next_index (linked_node all i).parent → branch_at more ((linked_node all i).parent, (linked_node all i).scope) ≡ Some i
  listed_all i lt apart =
      elim (last_cases i (length nodes) (let c = count in omega arith)) [
        | inl less ↦
            let n : Node = linked_node nodes i in
            let is : linked_node all i ≡ n = old_node i less in
            let q : Key = (n.parent, n.scope) in
            let old : branch_at bs q ≡ Some i = l.listed i less (λ e. apart (e ∙ ap (λ (m : Node). next_index m.parent) (sym is))) in
            ap (λ (m : Node). branch_at more (m.parent, m.scope)) is ∙ lookups q
            ∙ ap (λ (o : Option ℕ). with_branch (next_index parent == length nodes) own_key (length nodes) o q) old
            ∙ stays_listed (next_index parent == length nodes) q i (λ e. absent i less (ap (λ (k : Key). node_with k.0 k.1) (sym e)))
        | inr is ↦
            let last : linked_node all i ≡ node_new = last_node i is in
            let far : (next_index parent == length nodes) ≡ false = ne_eqb (next_index parent) (length nodes) (λ e. apart (is ∙ sym e ∙ ap (λ (m : Node). next_index m.parent) (sym last))) in
            ap (λ (m : Node). branch_at more (m.parent, m.scope)) last ∙ lookups own_key
            ∙ ap (λ (b : Bool). with_branch b own_key (length nodes) (branch_at bs own_key) own_key) far
            ∙ ap (λ (b : Bool). cond b (Some (length nodes)) (branch_at bs own_key)) (key_itself own_key) ∙ ap Some (sym is)
      ]

  known : (p : ℕ) (s : Scope) (i : ℕ) → branch_at bs (p, s) ≡ Some i → (i < length all) × (linked_node all i ≡ node_with p s)
  known p s i there =
      let old = l.found p s i there in
      let c = count in
      (omega (arith, old.0), old_node i old.0 ∙ old.1)

  found_in : (b : Bool) (p : ℕ) (s : Scope) (i : ℕ) → with_branch b own_key (length nodes) (branch_at bs (p, s)) (p, s) ≡ Some i → (i < length all) × (linked_node all i ≡ node_with p s)
  found_in true p s i is = known p s i is
  found_in false p s i is =
      elim (same_key own_key (p, s)) as (λ t. same_key own_key (p, s) ≡ t → cond t (Some (length nodes)) (branch_at bs (p, s)) ≡ Some i → (i < length all) × (linked_node all i ≡ node_with p s)) [
        | true ↦ λ same there.
            let at : length nodes ≡ i = cc in
            let c = count in
            (omega arith, last_node i (sym at) ∙ ap (λ (k : Key). node_with k.0 k.1) (key_is own_key (p, s) same))
        | false ↦ λ same there. known p s i there
      ] refl is

  found_all : (p : ℕ) (s : Scope) (i : ℕ) → branch_at more (p, s) ≡ Some i → (i < length all) × (linked_node all i ≡ node_with p s)
  found_all p s i is = found_in (next_index parent == length nodes) p s i (sym (lookups (p, s)) ∙ is)

  long_all : length all_paths ≡ length all
  long_all = (let c = count in let d = length-append old_paths (new_path ∷ []) in let long = l.rooted.long in omega arith)

  rooted_push : Rooted all
  rooted_push = record {
    long = ap (λ (ps : List Path). length ps) paths_are ∙ long_all;
    before = before_all;
    below = λ i lt. subst (λ (ps : List Path). get_or ps i [] ≡ path_below ps (linked_node all i)) (sym paths_are) (below_all i lt);
    once = λ i j i_lt j_lt. subst (λ (ps : List Path). get_or ps i [] ≡ get_or ps j [] → i ≡ j) (sym paths_are) (once_all i j i_lt j_lt);
  }

  pub linked_push : Linked all more
  linked_push = record { rooted = rooted_push; listed = listed_all; found = found_all }

  pub push_paths : tree_paths all ≡ with_node old_paths new_path
  push_paths = paths_are ∙ sym (ap (λ (b : Bool). cond b old_paths all_paths) (has_not old_paths new_path (λ i lt. new_apart i (let long = l.rooted.long in omega arith))))

  pub push_path : path_at (tree_paths all) (length nodes) ≡ new_path
  push_path = ap (λ (ps : List Path). path_at ps (length nodes)) paths_are ∙ path_some all_paths (length nodes) few ∙ new_at (length nodes) refl

  pub push_extends : Extends old_paths (tree_paths all)
  push_extends = record {
    longer = (let c = ap (λ (ps : List Path). length ps) paths_are in let d = length-append old_paths (new_path ∷ []) in omega arith);
    same = λ p p_place. ap (λ (ps : List Path). path_at ps p) paths_are ∙ path_stays p (subst (IsIndex p) l.rooted.long p_place);
  }

pub there_paths : (nodes : List Node) (bs : Branches) (parent : ℕ) (scope : Scope) (i : ℕ) → Linked nodes bs → length nodes < most_scopes_in_all → i < length nodes → linked_node nodes i ≡ node_with parent scope
    → tree_paths nodes ≡ with_node (tree_paths nodes) (path_at (tree_paths nodes) parent ++ scope ∷ [])
there_paths nodes bs parent scope i l few lt is =
    let paths : List Path = tree_paths nodes in
    let path : Path = path_at paths parent ++ scope ∷ [] in
    let at : get_or paths i [] ≡ path = l.rooted.below i lt ∙ ap (path_below paths) is in
    sym (ap (λ (b : Bool). cond b paths (paths ++ path ∷ [])) (has_at paths i path (let long = l.rooted.long in omega arith) at))

-- ---- no nodes

pub none_linked : Linked [] []
unfolding tree_paths
none_linked = record {
  rooted = record {
    long = refl;
    before = λ i lt. absurd (omega arith);
    below = λ i lt. absurd (omega arith);
    once = λ i j lt. absurd (omega arith);
  };
  listed = λ i lt. absurd (omega arith);
  found = λ p s i e. absurd cc;
}

-- ---- what `enter` leaves

pub pushed : {X E : Type 0} (after old more : List X) (r : Result (Unit {0}) E) (u : Unit {0}) → after ≡ cond (is_ok r) more old → r ≡ Ok u → after ≡ more
pushed after old more r u is ok = is ∙ ap (λ r. cond (is_ok r) more old) ok

module _ (nodes after : List Node) (bs more : Branches) (parent : ℕ) (scope : Scope) (at : ℕ) (l : Linked nodes bs) (few : length nodes < most_scopes_in_all) (index : IsIndex parent (length nodes)) (absent : IsAbsent nodes parent scope)
    (at_is : at ≡ length nodes) (is : after ≡ nodes ++ node_with parent scope ∷ [])
    (lookups : (q : Key) → branch_at more q ≡ with_branch (next_index parent == at) (parent, scope) at (branch_at bs q) q) where
  lookups_at : (q : Key) → branch_at more q ≡ with_branch (next_index parent == length nodes) (parent, scope) (length nodes) (branch_at bs q) q
  lookups_at q = lookups q ∙ ap (λ (k : ℕ). with_branch (next_index parent == k) (parent, scope) k (branch_at bs q) q) at_is

  pub entered_linked : Linked after more
  entered_linked = subst (λ (ns : List Node). Linked ns more) (sym is) (linked_push nodes bs more parent scope l few index absent lookups_at)

  pub entered_paths : tree_paths after ≡ with_node (tree_paths nodes) (path_at (tree_paths nodes) parent ++ scope ∷ [])
  entered_paths = ap tree_paths is ∙ push_paths nodes bs more parent scope l few index absent lookups_at

  pub entered_path : path_at (tree_paths after) at ≡ path_at (tree_paths nodes) parent ++ scope ∷ []
  entered_path = ap (λ (ns : List Node). path_at (tree_paths ns) at) is ∙ ap (path_at (tree_paths (nodes ++ node_with parent scope ∷ []))) at_is
      ∙ push_path nodes bs more parent scope l few index absent lookups_at

  pub entered_extends : Extends (tree_paths nodes) (tree_paths after)
  entered_extends = subst (λ (ns : List Node). Extends (tree_paths nodes) (tree_paths ns)) (sym is) (push_extends nodes bs more parent scope l few index absent lookups_at)
