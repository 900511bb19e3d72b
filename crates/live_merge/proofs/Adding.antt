-- Walks over the nodes of two trees, which are put in one order.
use Rattle.std.proofs.Common.{◌≡◌, ℕ, ◌+◌, ◌-◌, ◌<◌, ◌≤◌, ◌≢◌, ◌⊎◌, inl, inr, true, false, cond, List, [], ◌∷◌, ◌++◌, length, get_or, slice_get, Option, Some, None, IfSome, AllPairs, Contains, Less, refl, sym, ap, subst, ◌∙◌, arith, length-append}
use Rattle.std.proofs.Math.ListN.{get_or-append}
use Rattle.std.proofs.Math.Seq.{get_or-append_seam}
use Rattle.std.proofs.lemmas.Bool.{cases_eq, cases_lt, eq-eqb, ne_eqb}
use Rattle.std.proofs.lemmas.List.{get_or_default, get_or-append_right}
use Rattle.std.proofs.lemmas.List.Quantifiers.{all_pairs_push}
use Rattle.std.proofs.lemmas.Option.{get_or_from_slice_get, slice_get_within, slice_get-get_or}
use Rattle.scope_types.specs.Order.{path_order}
use Rattle.scope_types.proofs.Orders.{path_order_total}
use Rattle.tree_types.specs.declared.content.Node.{Node}
use Rattle.tree_types.specs.Nodes.{no_parent}
use Rattle.tree_types.specs.Paths.{Path}
use Rattle.tree_types.specs.PathsOf.{tree_paths, path_below}
use Rattle.tree_types.specs.Tree.{IsPreorder}
use Rattle.tree_types.proofs.PathSteps.{as_many_paths}
use Rattle.path_trie.specs.Trie.{IsIndex, path_at}
use Rattle.path_trie.specs.private.Linked.{linked_node, no_node}
use Rattle.path_trie.proofs.Places.{path_none, not_empty, tree_paths_push, last_cases}
use Rattle.tree_join.specs.private.Walk.{number_given, parent_number_at, path_or_none, node_before}
use Rattle.tree_join.proofs.Heads.{Next, before_itself, none_earlier, leads, first_of_two}
use Rattle.tree_join.proofs.Rooted.{below_from}
use Rattle.tree_join.proofs.Walking.{inner_at}
use Rattle.live_merge.specs.private.Adding.{Follows, Passes, Walking, first_next, next_of, numbered, with_number}

pub parents_before : (nodes : List Node) → IsPreorder nodes → (i : ℕ) → i < length nodes → IsIndex (linked_node nodes i).parent i
parents_before nodes pre i lt inner = pre.parents i no_node lt inner

-- ---- the node that is next of one tree

module _ (nodes : List Node) (numbers : List ℕ) where
  abbrev count : ℕ
  count = length numbers

  pub next_some : count < length nodes → next_of nodes numbers ≡ Some (with_number numbers (linked_node nodes count))
  next_some lt = ap (numbered numbers) (slice_get-get_or nodes count no_node lt)

  pub next_is_node : (n : Node) → next_of nodes numbers ≡ Some n → (count < length nodes) × (n ≡ with_number numbers (linked_node nodes count))
  next_is_node n e =
      elim (slice_get nodes count) as (λ o. slice_get nodes count ≡ o → numbered numbers o ≡ Some n → (count < length nodes) × (n ≡ with_number numbers (linked_node nodes count))) [
        | None ↦ λ at h. absurd cc
        | Some p ↦ λ at h.
            let own : with_number numbers p ≡ n = cc in
            (slice_get_within nodes count p at, sym (ap (with_number numbers) (get_or_from_slice_get nodes count p no_node at) ∙ own))
      ] refl e

  pub all_numbered : next_of nodes numbers ≡ None → length nodes ≤ count
  all_numbered e =
      elim (cases_lt count (length nodes)) [
        | inl lt ↦ (let both = sym (next_some lt) ∙ e in absurd cc)
        | inr le ↦ le
      ]

module _ (nodes : List Node) (numbers : List ℕ) (order : List Node) (pre : IsPreorder nodes) (f : Follows nodes numbers order) (few : length order < no_parent) where
  abbrev paths : List Path
  paths = tree_paths nodes

  abbrev done : List Path
  done = tree_paths order

  abbrev k : ℕ
  k = length numbers

  abbrev node : Node
  node = linked_node nodes k

  abbrev own : Path
  own = path_or_none paths k

  module _ (lt : k < length nodes) where
    parent_in : node.parent ≢ no_parent → node.parent < k
    parent_in inner = parents_before nodes pre k lt inner

    parent_is : node.parent ≢ no_parent → parent_number_at numbers node.parent ≡ number_given numbers node.parent
    parent_is inner = ap (λ b. cond b no_parent (number_given numbers node.parent)) (ne_eqb node.parent no_parent inner)

    parent_none : node.parent ≡ no_parent → parent_number_at numbers node.parent ≡ no_parent
    parent_none e = ap (λ b. cond b no_parent (number_given numbers node.parent)) (eq-eqb node.parent no_parent e)

    number_some : node.parent ≢ no_parent → number_given numbers node.parent ≢ no_parent
    number_some inner e = (let less = (f.numbers_are node.parent (parent_in inner)).0 in omega arith)

    parent_place : IsIndex (parent_number_at numbers node.parent) (length order)
    parent_place apart =
        elim (cases_eq node.parent no_parent) [
          | inl e ↦ absurd (apart (parent_none e))
          | inr inner ↦ subst (λ (n : ℕ). n < length order) (sym (parent_is inner)) (f.numbers_are node.parent (parent_in inner)).0
        ]

    parent_path : path_at done (parent_number_at numbers node.parent) ≡ path_at paths node.parent
    parent_path =
        elim (cases_eq node.parent no_parent) [
          | inl e ↦ path_none done (parent_number_at numbers node.parent) (parent_none e) ∙ sym (path_none paths node.parent e)
          | inr inner ↦
              ap (path_at done) (parent_is inner) ∙ inner_at done (number_given numbers node.parent) (number_some inner)
              ∙ (f.numbers_are node.parent (parent_in inner)).1 ∙ sym (inner_at paths node.parent inner)
        ]

    pub next_is : Next order (with_number numbers node) own
    next_is = record {
      index = parent_place;
      path = ap (λ (x : Path). x ++ node.scope ∷ []) parent_path ∙ sym (below_from nodes (parents_before nodes pre) k lt);
      ahead = λ i i_lt. f.ahead i i_lt lt;
    }

  pub next_at : (n : Node) → next_of nodes numbers ≡ Some n → Next order n own
  next_at n e = (let at = next_is_node nodes numbers n e in subst (λ (x : Node). Next order x own) (sym at.1) (next_is at.0))

  -- ---- one node more in order

  module _ (n : Node) (path : Path) (below : path_below done n ≡ path) where
    abbrev more : List Node
    more = order ++ n ∷ []

    done_more : tree_paths more ≡ done ++ path ∷ []
    done_more = tree_paths_push order n ∙ ap (λ (x : Path). done ++ x ∷ []) below

    more_long : length more ≡ length order + 1
    more_long = length-append order (n ∷ [])

    done_long : length done ≡ length order
    done_long = as_many_paths order

    old_path : (i : ℕ) → i < length order → path_or_none (tree_paths more) i ≡ path_or_none done i
    old_path i i_lt = ap (λ (ps : List Path). path_or_none ps i) done_more ∙ get_or-append done (path ∷ []) [] i (let long = done_long in omega arith)

    last_path : path_or_none (tree_paths more) (length order) ≡ path
    last_path = ap (λ (ps : List Path). path_or_none ps (length order)) done_more ∙ ap (λ (j : ℕ). path_or_none (done ++ path ∷ []) j) (sym done_long) ∙ get_or-append_seam done path [] []

    pub goes_on : path ≡ own → k < length nodes → Follows nodes (numbers ++ length order ∷ []) more
    goes_on is lt =
        let long : length (numbers ++ length order ∷ []) ≡ k + 1 = length-append numbers (length order ∷ []) in
        record {
          few = omega arith;
          numbers_are = λ i i_lt.
              let size = more_long in
              elim (last_cases i k (omega arith)) [
                | inl less ↦
                    let same : number_given (numbers ++ length order ∷ []) i ≡ number_given numbers i = get_or-append numbers (length order ∷ []) no_parent i less in
                    let old = f.numbers_are i less in
                    let inside = old.0 in
                    (subst (λ (x : ℕ). x < length more) (sym same) (omega arith), ap (path_or_none (tree_paths more)) same ∙ old_path (number_given numbers i) inside ∙ old.1)
                | inr at ↦
                    let same : number_given (numbers ++ length order ∷ []) i ≡ length order = ap (number_given (numbers ++ length order ∷ [])) at ∙ get_or-append_seam numbers (length order) [] no_parent in
                    (subst (λ (x : ℕ). x < length more) (sym same) (omega arith), ap (path_or_none (tree_paths more)) same ∙ last_path ∙ is ∙ ap (path_or_none paths) (sym at))
              ];
          ahead = λ i i_lt next_lt.
              let size = more_long in let all = as_many_paths nodes in
              let after : path_order own (path_or_none paths (k + 1)) ≡ Less = pre.ascend k (k + 1) [] (omega arith) (omega arith) in
              let here : path_order (path_or_none (tree_paths more) i) (path_or_none paths (k + 1)) ≡ Less =
              elim (last_cases i (length order) (omega arith)) [
                | inl less ↦
                    ap (λ (x : Path). path_order x (path_or_none paths (k + 1))) (old_path i less)
                    ∙ path_order_total.trans (path_or_none done i) own (path_or_none paths (k + 1)) (f.ahead i less lt) after
                | inr at ↦ ap (λ (x : Path). path_order x (path_or_none paths (k + 1))) (ap (path_or_none (tree_paths more)) at ∙ last_path ∙ is) ∙ after
              ] in
              ap (λ (j : ℕ). path_order (path_or_none (tree_paths more) i) (path_or_none paths j)) long ∙ here;
        }

    pub stays : (k < length nodes → path_order path own ≡ Less) → Follows nodes numbers more
    stays first =
        record {
          few = f.few;
          numbers_are = λ i i_lt.
              let size = more_long in
              let old = f.numbers_are i i_lt in
              let inside = old.0 in
              (omega arith, old_path (number_given numbers i) inside ∙ old.1);
          ahead = λ i i_lt lt.
              let size = more_long in
              elim (last_cases i (length order) (omega arith)) [
                | inl less ↦ ap (λ (x : Path). path_order x own) (old_path i less) ∙ f.ahead i less lt
                | inr at ↦ ap (λ (x : Path). path_order x own) (ap (path_or_none (tree_paths more)) at ∙ last_path) ∙ first lt
              ];
        }

-- ---- the first of two

-- no node that is next comes before this one
abbrev pub NotAfter : Node → Option Node → Type 0
NotAfter n o = IfSome o (λ h. node_before h n ≡ false)

pub record First (x y : Option Node) (n : Node) : Type 0 where
  pub own : (x ≡ Some n) ⊎ (y ≡ Some n)
  pub left : NotAfter n x
  pub right : NotAfter n y

pub first_cases : (x y : Option Node) (n : Node) → first_next x y ≡ Some n → First x y n
first_cases None None n e = absurd cc
first_cases None (Some q) n e =
    let same : n ≡ q = cc in
    record { own = inr e; left = tt; right = subst (λ (m : Node). node_before q m ≡ false) (sym same) (before_itself q) }
first_cases (Some p) None n e =
    let same : n ≡ p = cc in
    record { own = inl e; left = subst (λ (m : Node). node_before p m ≡ false) (sym same) (before_itself p); right = tt }
first_cases (Some p) (Some q) n e =
    elim (node_before q p) as (λ b. node_before q p ≡ b → cond b (Some q) (Some p) ≡ Some n → First (Some p) (Some q) n) [
      | true ↦ λ b h.
          let same : n ≡ q = cc in
          record {
            own = inr h;
            left = subst (λ (m : Node). node_before p m ≡ false) (sym same) (none_earlier p q p b (before_itself p));
            right = subst (λ (m : Node). node_before q m ≡ false) (sym same) (before_itself q);
          }
      | false ↦ λ b h.
          let same : n ≡ p = cc in
          record {
            own = inl h;
            left = subst (λ (m : Node). node_before p m ≡ false) (sym same) (before_itself p);
            right = subst (λ (m : Node). node_before q m ≡ false) (sym same) b;
          }
    ] refl e

pub first_none : (x y : Option Node) → first_next x y ≡ None → (x ≡ None) × (y ≡ None)
first_none None None e = (refl, refl)
first_none None (Some q) e = absurd cc
first_none (Some p) None e = absurd cc
first_none (Some p) (Some q) e =
    elim (node_before q p) as (λ b. cond b (Some q) (Some p) ≡ None → (Some p ≡ None) × (Some q ≡ None)) [
      | true ↦ λ h. absurd cc
      | false ↦ λ h. absurd cc
    ] e

-- ---- both walks

module _ (a b : List Node) (left right : List ℕ) (order : List Node) (is : Walking a b left right order) where
  abbrev all : List Path
  all = tree_paths order

  pub order_few : length order < no_parent
  order_few = (let few = is.few in let nodes = is.nodes in let l = is.left_follows.few in let r = is.right_follows.few in omega arith)

  some_path : (i : ℕ) → i < length order → path_or_none all i ≡ [] → ⊥
  some_path i lt e = not_empty (path_at all (linked_node order i).parent) (linked_node order i).scope (sym (below_from order is.before i lt) ∙ e)

  -- one walk, where a node is put in order that is the first
  walk_on : (nodes : List Node) (numbers new : List ℕ) (n : Node) (path : Path) → IsPreorder nodes → Follows nodes numbers order → Next order n path → NotAfter n (next_of nodes numbers) → Passes nodes n (length order) numbers new → Follows nodes new (order ++ n ∷ [])
  walk_on nodes numbers new n path pre f next last (inl on) =
      let at = next_is_node nodes numbers n on.0 in
      let same : path ≡ path_or_none (tree_paths nodes) (length numbers) = sym next.path ∙ (next_at nodes numbers order pre f order_few n on.0).path in
      subst (λ (x : List ℕ). Follows nodes x (order ++ n ∷ [])) (sym on.1) (goes_on nodes numbers order pre f order_few n path next.path same at.0)
  walk_on nodes numbers new n path pre f next last (inr off) =
      subst (λ (x : List ℕ). Follows nodes x (order ++ n ∷ [])) (sym off.1)
      (stays nodes numbers order pre f order_few n path next.path (λ lt.
      let h : Node = with_number numbers (linked_node nodes (length numbers)) in
      let head : next_of nodes numbers ≡ Some h = next_some nodes numbers lt in
      let head_next : Next order h (path_or_none (tree_paths nodes) (length numbers)) = next_at nodes numbers order pre f order_few h head in
      let later : node_before h n ≡ false = subst (NotAfter n) head last in
      leads order is.ascend some_path order_few n h path (path_or_none (tree_paths nodes) (length numbers)) next head_next
      (first_of_two order is.ascend some_path order_few n h path (path_or_none (tree_paths nodes) (length numbers)) next head_next later (λ same. off.0 (head ∙ ap Some same)))))

  module _ (n : Node) (first : First (next_of a left) (next_of b right) n) (left_new right_new : List ℕ) (left_on : Passes a n (length order) left left_new) (right_on : Passes b n (length order) right right_new) where
    more_nodes : List Node
    more_nodes = order ++ n ∷ []

    -- the node's path is one of either tree's
    pub record Own : Type 0 where
      pub path : Path
      pub next : Next order n path
      pub among : Contains (tree_paths a ++ tree_paths b) path

    own_path : (next_of a left ≡ Some n) ⊎ (next_of b right ≡ Some n) → Own
    own_path (inl e) =
        let at = next_is_node a left n e in
        let lt = at.0 in
        let long = as_many_paths a in
        let all_long = length-append (tree_paths a) (tree_paths b) in
        record {
          path = path_or_none (tree_paths a) (length left);
          next = next_at a left order is.left_in_order is.left_follows order_few n e;
          among = (length left, omega arith, get_or-append (tree_paths a) (tree_paths b) (path_or_none (tree_paths a) (length left)) (length left) (omega arith) ∙ get_or_default (tree_paths a) (length left) (path_or_none (tree_paths a) (length left)) [] (omega arith));
        }
    own_path (inr e) =
        let at = next_is_node b right n e in
        let lt = at.0 in
        let long = as_many_paths b in
        let all_long = length-append (tree_paths a) (tree_paths b) in
        let own : Path = path_or_none (tree_paths b) (length right) in
        record {
          path = own;
          next = next_at b right order is.right_in_order is.right_follows order_few n e;
          among = (length (tree_paths a) + length right, omega arith, get_or-append_right (tree_paths a) (tree_paths b) (length (tree_paths a)) (length (tree_paths a) + length right) own refl (omega arith) ∙ ap (λ (j : ℕ). get_or (tree_paths b) j own) (omega arith) ∙ get_or_default (tree_paths b) (length right) own [] (omega arith));
        }

    one_more : (next_of a left ≡ Some n) ⊎ (next_of b right ≡ Some n) → length left + length right + 1 ≤ length left_new + length right_new
    one_more own = by_cases own left_on right_on
      where
        by_cases : (next_of a left ≡ Some n) ⊎ (next_of b right ≡ Some n) → Passes a n (length order) left left_new → Passes b n (length order) right right_new → length left + length right + 1 ≤ length left_new + length right_new
        by_cases own (inl x) (inl y) =
            let l = ap length x.1 ∙ length-append left (length order ∷ []) in let r = ap length y.1 ∙ length-append right (length order ∷ []) in omega arith
        by_cases own (inl x) (inr y) = (let l = ap length x.1 ∙ length-append left (length order ∷ []) in let r = ap length y.1 in omega arith)
        by_cases own (inr x) (inl y) = (let l = ap length x.1 in let r = ap length y.1 ∙ length-append right (length order ∷ []) in omega arith)
        by_cases (inl e) (inr x) (inr y) = absurd (x.0 e)
        by_cases (inr e) (inr x) (inr y) = absurd (y.0 e)

    pub put_next : Walking a b left_new right_new (order ++ n ∷ [])
    put_next =
        let own = own_path first.own in
        let path : Path = own.path in
        let next = own.next in
        let done_new : tree_paths (order ++ n ∷ []) ≡ all ++ path ∷ [] = tree_paths_push order n ∙ ap (λ (x : Path). all ++ x ∷ []) next.path in
        let size : length (order ++ n ∷ []) ≡ length order + 1 = length-append order (n ∷ []) in
        let same : length all ≡ length order = as_many_paths order in
        record {
          left_in_order = is.left_in_order;
          right_in_order = is.right_in_order;
          left_follows = walk_on a left left_new n path is.left_in_order is.left_follows next first.left left_on;
          right_follows = walk_on b right right_new n path is.right_in_order is.right_follows next first.right right_on;
          ascend = subst (AllPairs (λ x y. path_order x y ≡ Less)) (sym done_new)
              (all_pairs_push (λ x y. path_order x y ≡ Less) all path is.ascend
              (λ i e i_lt. ap (λ (x : Path). path_order x path) (get_or_default all i e [] i_lt) ∙ next.ahead i (omega arith)));
          before = λ i i_lt.
              elim (last_cases i (length order) (omega arith)) [
                | inl less ↦ subst (λ (x : Node). IsIndex x.parent i) (sym (get_or-append order (n ∷ []) no_node i less)) (is.before i less)
                | inr at ↦ subst (λ (x : Node). IsIndex x.parent i) (sym (ap (linked_node (order ++ n ∷ [])) at ∙ get_or-append_seam order n [] no_node)) (subst (IsIndex n.parent) (sym at) next.index)
              ];
          among = λ i i_lt.
              elim (last_cases i (length order) (omega arith)) [
                | inl less ↦ subst (Contains (tree_paths a ++ tree_paths b)) (sym (ap (λ (ps : List Path). get_or ps i []) done_new ∙ get_or-append all (path ∷ []) [] i (omega arith))) (is.among i less)
                | inr at ↦ subst (Contains (tree_paths a ++ tree_paths b)) (sym (ap (λ (ps : List Path). get_or ps i []) done_new ∙ ap (λ (j : ℕ). get_or (all ++ path ∷ []) j []) (at ∙ sym same) ∙ get_or-append_seam all path [] [])) own.among
              ];
          few = (let old = is.few in let one = one_more first.own in omega arith);
          nodes = is.nodes;
        }

-- where the walks begin
pub begin : (a b : List Node) → IsPreorder a → IsPreorder b → length a + length b < no_parent → Walking a b [] [] []
begin a b pre_a pre_b few = record {
  left_in_order = pre_a;
  right_in_order = pre_b;
  left_follows = follows a;
  right_follows = follows b;
  ascend = λ i j d below lt. (let none = as_many_paths [] in absurd (omega arith));
  before = λ i lt. absurd (omega arith);
  among = λ i lt. absurd (omega arith);
  few = omega arith;
  nodes = few;
}
  where
    follows : (nodes : List Node) → Follows nodes [] []
    follows nodes = record { few = omega arith; numbers_are = λ i lt. absurd (omega arith); ahead = λ i lt. absurd (omega arith) }

pub put_at : (a b : List Node) (left right : List ℕ) (order order_new : List Node) (n : Node) (number : ℕ) (left_new right_new : List ℕ) → Walking a b left right order → first_next (next_of a left) (next_of b right) ≡ Some n → number ≡ length order
    → Passes a n number left left_new → Passes b n number right right_new → order_new ≡ order ++ n ∷ [] → Walking a b left_new right_new order_new
put_at a b left right order order_new n number left_new right_new is first number_is left_on right_on more_is =
    subst (Walking a b left_new right_new) (sym more_is)
    (put_next a b left right order is n (first_cases (next_of a left) (next_of b right) n first) left_new right_new
    (subst (λ (k : ℕ). Passes a n k left left_new) number_is left_on) (subst (λ (k : ℕ). Passes b n k right right_new) number_is right_on))

-- fewer numbers are left
pub fewer : (a b : List Node) (left right : List ℕ) (order order_new : List Node) (n : Node) → Walking a b left right order → order_new ≡ order ++ n ∷ [] → no_parent - length order_new < no_parent - length order
fewer a b left right order order_new n is more_is =
    (let few = order_few a b left right order is in let size = ap (λ (x : List Node). length x) more_is ∙ length-append order (n ∷ []) in omega arith)

-- where nothing is next all nodes have numbers
pub ended : (a b : List Node) (left right : List ℕ) (order : List Node) → Walking a b left right order → first_next (next_of a left) (next_of b right) ≡ None → (length left ≡ length a) × (length right ≡ length b)
ended a b left right order is none =
    let both = first_none (next_of a left) (next_of b right) none in
    let l = all_numbered a left both.0 in let r = all_numbered b right both.1 in
    let few_left = is.left_follows.few in let few_right = is.right_follows.few in (omega arith, omega arith)
