-- One node more in order, of walks over several tries.
use Rattle.std.proofs.Common.{◌≡◌, ℕ, suc, ◌+◌, ◌-◌, ◌<◌, ◌≤◌, ◌≢◌, ◌⊎◌, inl, inr, true, false, List, [], ◌∷◌, ◌++◌, length, get_or, map, take, set, slice_get, Option, Some, None, IfSome, AllPairs, Contains, Less, refl, sym, ap, ap₂, subst, ◌∙◌, arith, length-append}
use Rattle.std.specs.List.{flat_map}
use Rattle.std.proofs.Math.ListN.{get_or-append}
use Rattle.std.proofs.Math.Seq.{get_or-append_seam}
use Rattle.std.proofs.lemmas.Bool.{cases_lt}
use Rattle.std.proofs.lemmas.List.{get_or_default, take_all, take_more, get_or-map, length-map}
use Rattle.std.proofs.lemmas.List.Concat.{get_or-flat_map}
use Rattle.std.proofs.lemmas.List.Elements.{Contains-get_or}
use Rattle.std.proofs.lemmas.List.Folds.{length-flat_map-take}
use Rattle.std.proofs.lemmas.List.Quantifiers.{all_pairs_push}
use Rattle.std.proofs.lemmas.Option.{get_or_from_slice_get, slice_get_within, slice_get-get_or}
use Rattle.scope_types.specs.declared.path.Entry.{Entry}
use Rattle.scope_types.specs.Limits.{most_scopes_in_all}
use Rattle.scope_types.specs.Order.{path_order}
use Rattle.scope_types.proofs.Orders.{path_order_total}
use Rattle.tree_types.specs.declared.content.Node.{Node}
use Rattle.tree_types.specs.Paths.{Path}
use Rattle.tree_types.specs.PathsOf.{tree_paths, path_below}
use Rattle.tree_types.proofs.PathSteps.{as_many_paths}
use Rattle.path_trie.specs.Trie.{IsIndex, path_at, counted_entry, trie_nodes}
use Rattle.path_trie.specs.private.Linked.{linked_node, no_node}
use Rattle.path_trie.proofs.Places.{last_cases, not_empty, tree_paths_push}
use Rattle.tree_join.specs.declared.children.Children.{Children}
use Rattle.tree_join.specs.declared.walker.Walker.{Walker}
use Rattle.tree_join.specs.private.Walk.{path_or_none, renumbered, next_node, nodes_in, walked_entries, head_node, node_before, Advances, IsWalker, Leads, NotAfter, Walks, WalksTrie, Walking}
use Rattle.tree_join.proofs.Groups.{children_are}
use Rattle.tree_join.proofs.Heads.{Next, leads, first_of_two}
use Rattle.tree_join.proofs.Parting.{parts_less}
use Rattle.tree_join.proofs.Rooted.{below_from}
use Rattle.tree_join.proofs.Walking.{count_among, new_path, parent_place, stay, step, top_ahead, top_place}

-- ---- lists

map_same : {X Y : Type 0} (f : X → Y) (xs ys : List X) → length ys ≡ length xs → ((i : ℕ) (d : X) → i < length xs → f (get_or ys i d) ≡ f (get_or xs i d)) → map f ys ≡ map f xs
map_same f [] [] long same = refl
map_same f [] (y ∷ ys) long same = absurd (omega arith)
map_same f (x ∷ xs) [] long same = absurd (omega arith)
map_same f (x ∷ xs) (y ∷ ys) long same = ap₂ (λ a l. a ∷ l) (same 0 x (omega arith)) (map_same f xs ys (omega arith) (λ i d lt. same (suc i) d (omega arith)))

pub in_flat : {X Y : Type 0} (f : X → List Y) (xs : List X) (i : ℕ) (d : X) (y : Y) → i < length xs → Contains (f (get_or xs i d)) y → Contains (flat_map f xs) y
in_flat f xs i d y lt has =
    let all = length-flat_map-take f xs i d lt in
    let within = has.1 in
    (length (flat_map f (take i xs)) + has.0, omega arith, get_or-flat_map f xs i has.0 d y lt within ∙ has.2)

-- ---- the node that is next in one walk

module _ (order : List Node) (w : Walker) (is : IsWalker order w) where
  abbrev stack : List ℕ
  stack = w.stack.items

  abbrev nodes : List Node
  nodes = nodes_in w

  abbrev paths : List Path
  paths = tree_paths nodes

  -- the index on top
  pub record Top (n : Node) : Type 0 where
    pub index : ℕ
    pub some : 0 < length stack
    pub at : get_or stack (length stack - 1) 0 ≡ index
    pub popped : stack ≡ take (length stack - 1) stack ++ index ∷ []
    pub node : n ≡ renumbered nodes w.numbers.items index

  pub top_of : (n : Node) → head_node w ≡ Some n → Top n
  top_of n e =
      elim (slice_get stack (length stack - 1)) as (λ o. slice_get stack (length stack - 1) ≡ o → next_node nodes w.numbers.items o ≡ Some n → Top n) [
        | None ↦ λ at h. absurd cc
        | Some p ↦ λ at h.
            let k : ℕ = length stack - 1 in
            let lt : k < length stack = slice_get_within stack k p at in
            let last : get_or stack k p ≡ p = get_or_from_slice_get stack k p p at in
            record {
              index = p;
              some = omega arith;
              at = get_or_from_slice_get stack k p 0 at;
              popped = sym (take_all (k + 1) stack (omega arith)) ∙ take_more stack k p lt ∙ ap (λ (x : ℕ). take k stack ++ x ∷ []) last;
              node = cc;
            }
      ] refl e

  pub none_left : head_node w ≡ None → length stack ≡ 0
  none_left e =
      elim (cases_lt 0 (length stack)) [
        | inl some ↦ absurd (never (slice_get-get_or stack (length stack - 1) 0 (omega arith)))
        | inr le ↦ omega arith
      ]
    where
      never : slice_get stack (length stack - 1) ≡ Some (get_or stack (length stack - 1) 0) → ⊥
      never at = (let both : next_node nodes w.numbers.items (Some (get_or stack (length stack - 1) 0)) ≡ None = ap (next_node nodes w.numbers.items) (sym at) ∙ e in cc)

  module _ (n : Node) (head : head_node w ≡ Some n) where
    abbrev top : Top n
    top = top_of n head

    walks_on : Walks nodes w.numbers.items (take (length stack - 1) stack ++ top.index ∷ []) order
    walks_on = subst (λ (x : List ℕ). Walks nodes w.numbers.items x order) top.popped is.walks

    abbrev pub next_path : Path
    next_path = path_or_none paths top.index

    pub next_in : top.index < length nodes
    next_in = top_place nodes is.are w.numbers.items (take (length stack - 1) stack) order top.index walks_on

    pub next_is : Next order n (path_or_none paths top.index)
    next_is = record {
      index = subst (λ (x : Node). IsIndex x.parent (length order)) (sym top.node) (parent_place nodes is.are w.numbers.items (take (length stack - 1) stack) order top.index walks_on);
      path = ap (path_below (tree_paths order)) top.node ∙ new_path nodes is.are w.numbers.items (take (length stack - 1) stack) order top.index walks_on;
      ahead = top_ahead nodes is.are w.numbers.items (take (length stack - 1) stack) order top.index walks_on;
    }

  -- the walk goes on
  pub goes_on : (v : Walker) (n : Node) → length order ≤ most_scopes_in_all → head_node w ≡ Some n → Advances (length order) w v → IsWalker (order ++ n ∷ []) v
  goes_on v n few head a =
      let top = top_of n head in
      let place_is : a.index ≡ top.index = sym (ap (λ (x : List ℕ). get_or x (length a.rest) 0) a.popped ∙ get_or-append_seam a.rest a.index [] 0)
      ∙ ap (λ (k : ℕ). get_or stack k 0) (let long = ap (λ (x : List ℕ). length x) a.popped in let parts = length-append a.rest (a.index ∷ []) in omega arith) ∙ top.at in
      let node : n ≡ renumbered nodes w.numbers.items a.index = top.node ∙ ap (renumbered nodes w.numbers.items) (sym place_is) in
      let on : Walks nodes w.numbers.items (a.rest ++ a.index ∷ []) order = subst (λ (x : List ℕ). Walks nodes w.numbers.items x order) a.popped is.walks in
      let inside : a.index < length nodes = top_place nodes is.are w.numbers.items a.rest order a.index on in
      let more = step nodes is.are w.numbers.items a.rest order a.index on a.kids (children_are nodes is.are a.index (λ inner. inside) a.kids a.kids_are) few in
      let new : WalksTrie w.children w.ends.now (set w.numbers.items a.index (length order)) (a.rest ++ a.kids) (order ++ n ∷ []) = record {
        chained = is.chained;
        are = is.are;
        nodes_are = is.nodes_are;
        ends_in = is.ends_in;
        walks = subst (λ (x : Node). Walks nodes (set w.numbers.items a.index (length order)) (a.rest ++ a.kids) (order ++ x ∷ [])) (sym node) more;
      } in
      subst (λ (x : Children). WalksTrie x v.ends.now v.numbers.items v.stack.items (order ++ n ∷ [])) (sym a.children)
      (subst (λ x. WalksTrie w.children x v.numbers.items v.stack.items (order ++ n ∷ [])) (sym (ap (λ b. b.now) a.ends))
      (subst (λ (x : List ℕ). WalksTrie w.children w.ends.now x v.stack.items (order ++ n ∷ [])) (sym a.numbers)
      (subst (λ (x : List ℕ). WalksTrie w.children w.ends.now (set w.numbers.items a.index (length order)) x (order ++ n ∷ [])) (sym a.stack) new)))

  -- the walk stays, where the node comes before all that is next in it
  module _ (ascend : AllPairs (λ a b. path_order a b ≡ Less) (tree_paths order)) (some : (i : ℕ) → i < length order → path_or_none (tree_paths order) i ≡ [] → ⊥) (few : length order ≤ most_scopes_in_all)
      (n : Node) (own : Path) (next : Next order n own) (before : Leads n w) where
    leads_head : (o : Option Node) → head_node w ≡ o → IfSome o (λ h. node_before n h ≡ true) → (j : ℕ) → j < length stack → path_order own (path_or_none paths (get_or stack j 0)) ≡ Less
    leads_head None e l j lt = (let none = none_left e in absurd (omega arith))
    leads_head (Some h) e l j lt =
        let top = top_of h e in
        let first : path_order own (path_or_none paths top.index) ≡ Less = leads order ascend some (omega arith) n h own (path_or_none paths top.index) next (next_is h e) l in
        elim (last_cases j (length stack - 1) (omega arith)) [
          | inl less ↦
              path_order_total.trans own (path_or_none paths top.index) (path_or_none paths (get_or stack j 0)) first
              (ap (λ (p : ℕ). path_order (path_or_none paths p) (path_or_none paths (get_or stack j 0))) (sym top.at)
              ∙ parts_less (path_or_none paths (get_or stack (length stack - 1) 0)) (path_or_none paths (get_or stack j 0)) (is.walks.apart j (length stack - 1) less (omega arith)))
          | inr last ↦ ap (λ (p : ℕ). path_order own (path_or_none paths p)) (ap (λ (k : ℕ). get_or stack k 0) last ∙ top.at) ∙ first
        ]

    pub stays : IsWalker (order ++ n ∷ []) w
    stays = record {
      chained = is.chained;
      are = is.are;
      nodes_are = is.nodes_are;
      ends_in = is.ends_in;
      walks = stay nodes is.are w.numbers.items stack order n own is.walks next.path (leads_head (head_node w) refl before);
    }

-- ---- all walks

module _ (parts : List (List Entry)) (walkers : List Walker) (order : List Node) (is : Walking parts walkers order) where
  abbrev done : List Path
  done = tree_paths order

  pub order_few : length order ≤ most_scopes_in_all
  order_few =
      let long = as_many_paths order in
      let le = count_among (flat_map trie_nodes parts) done is.ascend (λ i lt. is.among i (omega arith)) in
      let few = is.few in omega arith

  pub some_path : (i : ℕ) → i < length order → path_or_none done i ≡ [] → ⊥
  some_path i lt e = not_empty (path_at done (linked_node order i).parent) (linked_node order i).scope (sym (below_from order is.before i lt) ∙ e)

  module _ (k : ℕ) (d : Walker) (lt : k < length walkers) (n : Node) (head : head_node (get_or walkers k d) ≡ Some n) where
    abbrev w : Walker
    w = get_or walkers k d

    own_is : IsWalker order w
    own_is = is.each k d lt

    abbrev own : Path
    own = next_path order w own_is n head

    next : Next order n own
    next = next_is order w own_is n head

    in_parts : Contains (flat_map trie_nodes parts) own
    in_parts =
        let here : Contains (tree_paths (nodes_in w)) own = Contains-get_or (tree_paths (nodes_in w)) (top_of order w own_is n head).index [] (let long = as_many_paths (nodes_in w) in let inside = next_in order w own_is n head in omega arith) in
        let there : Contains (trie_nodes (walked_entries w)) own = subst (λ (ps : List Path). Contains ps own) own_is.nodes_are here in
        let at : get_or (map walked_entries walkers) k (walked_entries w) ≡ walked_entries w = get_or-map walked_entries walkers k d (walked_entries w) lt in
        subst (λ (ps : List (List Entry)). Contains (flat_map trie_nodes ps) own) is.parts_are
        (in_flat trie_nodes (map walked_entries walkers) k (walked_entries w) own (let long = length-map walkers walked_entries in omega arith)
        (subst (λ (es : List Entry). Contains (trie_nodes es) own) (sym at) there))

    abbrev order_new : List Node
    order_new = order ++ n ∷ []

    done_new : tree_paths order_new ≡ done ++ own ∷ []
    done_new = tree_paths_push order n ∙ ap (λ (x : Path). done ++ x ∷ []) next.path

    new_long : length order_new ≡ length order + 1
    new_long = length-append order (n ∷ [])

    -- a walk whose next node this is has gone on, and another stays, before whose next node this one comes
    abbrev Moves : Walker → Walker → Type 0
    Moves u v = ((head_node u ≡ Some n) × Advances (length order) u v) ⊎ ((v ≡ u) × Leads n u)

    entries_same : (u v : Walker) → Moves u v → walked_entries v ≡ walked_entries u
    entries_same u v (inl on) = ap (λ (c : Children). map (counted_entry (tree_paths c.nodes.now)) v.ends.now) on.1.children ∙ ap (λ b. map (counted_entry (tree_paths (nodes_in u))) b.now) on.1.ends
    entries_same u v (inr off) = ap walked_entries off.0

    is_new : (u v : Walker) → IsWalker order u → Moves u v → IsWalker order_new v
    is_new u v u_is (inl on) = goes_on order u u_is v n order_few on.0 on.1
    is_new u v u_is (inr off) = subst (IsWalker order_new) (sym off.0) (stays order u u_is is.ascend some_path order_few n own next off.1)

    -- where the node doesn't come after what is next in a walk, and is another one, it comes before it
    pub leads_other : (i : ℕ) (e : Walker) → i < length walkers → (head_node (get_or walkers i e) ≢ Some n) → NotAfter n (get_or walkers i e) → Leads n (get_or walkers i e)
    leads_other i e i_lt apart last = by_head (head_node u) refl last
      where
        u : Walker
        u = get_or walkers i e

        by_head : (o : Option Node) → head_node u ≡ o → IfSome o (λ h. node_before h n ≡ false) → IfSome o (λ h. node_before n h ≡ true)
        by_head None at l = tt
        by_head (Some h) at l =
            first_of_two order is.ascend some_path (let few = order_few in omega arith) n h own (next_path order u (is.each i e i_lt) h at) next (next_is order u (is.each i e i_lt) h at) l (λ same. apart (at ∙ ap Some same))

    module _ (new : List Walker) (long : length new ≡ length walkers) (each : (i : ℕ) (e : Walker) → i < length walkers → Moves (get_or walkers i e) (get_or new i e)) where
      pub moved : Walking parts new order_new
      moved = record {
        parts_are = map_same walked_entries walkers new long (λ i e i_lt. entries_same (get_or walkers i e) (get_or new i e) (each i e i_lt)) ∙ is.parts_are;
        each = λ i e i_lt. is_new (get_or walkers i e) (get_or new i e) (is.each i e (omega arith)) (each i e (omega arith));
        ascend = subst (AllPairs (λ a b. path_order a b ≡ Less)) (sym done_new)
            (all_pairs_push (λ a b. path_order a b ≡ Less) done own is.ascend
            (λ i e i_lt. ap (λ (x : Path). path_order x own) (get_or_default done i e [] i_lt) ∙ next.ahead i (let same = as_many_paths order in omega arith)));
        before = λ i i_lt.
            let size = new_long in
            elim (last_cases i (length order) (omega arith)) [
              | inl less ↦ subst (λ (x : Node). IsIndex x.parent i) (sym (get_or-append order (n ∷ []) no_node i less)) (is.before i less)
              | inr at ↦ subst (λ (x : Node). IsIndex x.parent i) (sym (ap (linked_node order_new) at ∙ get_or-append_seam order n [] no_node)) (subst (IsIndex n.parent) (sym at) next.index)
            ];
        among = λ i i_lt.
            let size = new_long in let same = as_many_paths order in
            elim (last_cases i (length order) (omega arith)) [
              | inl less ↦ subst (Contains (flat_map trie_nodes parts)) (sym (ap (λ (ps : List Path). get_or ps i []) done_new ∙ get_or-append done (own ∷ []) [] i (omega arith))) (is.among i less)
              | inr at ↦ subst (Contains (flat_map trie_nodes parts)) (sym (ap (λ (ps : List Path). get_or ps i []) done_new ∙ ap (λ (j : ℕ). get_or (done ++ own ∷ []) j []) (at ∙ sym same) ∙ get_or-append_seam done own [] [])) in_parts
            ];
        few = is.few;
      }
