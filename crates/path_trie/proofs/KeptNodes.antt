-- The nodes that are kept of a path, and the next path.
use Rattle.std.proofs.Common.{◌≡◌, ℕ, zero, suc, ◌+◌, ◌-◌, ◌<◌, ◌≤◌, inl, inr, Bool, true, false, not, cond, List, [], ◌∷◌, ◌++◌, length, take, get_or, fold, refl, sym, ap, ap₂, subst, ◌∙◌, arith, add-one}
use Rattle.std.proofs.Math.ListN.{get_or-append}
use Rattle.std.proofs.Math.Seq.{get_or-append_seam}
use Rattle.std.proofs.lemmas.List.{length-append, length-take-le, get_or-take, get_or_default, take_more}
use Rattle.scope_types.specs.declared.scope.Scope.{Scope}
use Rattle.scope_types.specs.Limits.{most_scopes_in_all}
use Rattle.scope_types.specs.contracts.scope.ScopePartialEq.TheImpl.{ghosts as scopes}
use Rattle.tree_types.specs.declared.content.Node.{Node}
use Rattle.tree_types.specs.Paths.{Path, prefixes}
use Rattle.tree_types.specs.PathsOf.{tree_paths}
use Rattle.path_trie.specs.Trie.{path_at, with_node}
use Rattle.path_trie.specs.private.Linked.{Branches, linked_node, Linked, Extends, IsKept}
use Rattle.path_trie.proofs.Places.{scope_decides, path_some, snoc_same, has_at, last_cases}
use Rattle.path_trie.proofs.Walking.{prefix_more}

-- two scopes that a test does not tell apart are one
pub same_scope : (a b : Scope) (test : Bool) → test ≡ not (scopes.eq a b) → test ≡ false → a ≡ b
same_scope a b test told apart = (scope_decides a b).0 (is_true (scopes.eq a b) (sym told ∙ apart))
  where
    is_true : (t : Bool) → not t ≡ false → t ≡ true
    is_true true e = refl
    is_true false e = absurd cc

pub none_kept : (nodes : List Node) (kept : List ℕ) → kept ≡ [] → IsKept nodes kept []
none_kept nodes kept none =
    subst (λ (k : List ℕ). IsKept nodes k []) (sym none) (record { long = omega arith; within = λ i lt. absurd (omega (arith, lt)); at = λ i lt. absurd (omega (arith, lt)) })

-- ---- one scope more that both paths have

module _ (nodes : List Node) (bs : Branches) (l : Linked nodes bs) (few : length nodes ≤ most_scopes_in_all) (kept : List ℕ) (p path : Path) (own : IsKept nodes kept p)
    (d : ℕ) (so_far : IsKept nodes (take d kept) path) (in_kept : d < length kept) (in_path : d < length path) (s : Scope)
    (is : (linked_node nodes (get_or kept d 0)).scope ≡ s) (at : s ≡ get_or path d s) where
  abbrev paths : List Path
  paths = tree_paths nodes

  abbrev node : ℕ
  node = get_or kept d 0

  taken : length (take d kept) ≡ d
  taken = length-take-le d kept (omega (arith, in_kept))

  front : (e : ℕ) → e ≡ d → take e p ≡ take e path
  front zero same = refl
  front (suc e) same =
      let less : e < d = omega (arith, same) in
      let long = taken in
      let kept_same : get_or (take d kept) e 0 ≡ get_or kept e 0 = get_or-take d kept e 0 less in
      let both : take (e + 1) p ≡ take (e + 1) path =
      sym (own.at e (omega (arith, less, in_kept))) ∙ ap (path_at paths) (sym kept_same) ∙ so_far.at e (omega (arith, long, less)) in
      subst (λ (n : ℕ). take n p ≡ take n path) (add-one e) both

  below : path_at paths node ≡ path_at paths (linked_node nodes node).parent ++ (linked_node nodes node).scope ∷ []
  below = (let lt = own.within d in_kept in path_some paths node (omega (arith, lt, few)) ∙ l.rooted.below node lt)

  here : path_at paths node ≡ take d path ++ s ∷ []
  here =
      let long = own.long in
      let in_own : d < length p = omega (arith, long, in_kept) in
      let parts = snoc_same (path_at paths (linked_node nodes node).parent) (take d p) (linked_node nodes node).scope (get_or p d s) (sym below ∙ own.at d in_kept ∙ take_more p d s in_own) in
      below ∙ ap₂ (λ (q : Path) (t : Scope). q ++ t ∷ []) (parts.0 ∙ front d refl) is

  at_next : path_at paths node ≡ take (d + 1) path
  at_next = here ∙ ap (λ (t : Scope). take d path ++ t ∷ []) at ∙ sym (take_more path d s in_path)

  pub kept_more : IsKept nodes (take (d + 1) kept) path
  kept_more =
      let long = length-take-le (d + 1) kept (omega (arith, in_kept)) in
      let old = taken in
      record {
        long = omega (arith, long, in_path);
        within = λ i lt. subst (λ (k : ℕ). k < length nodes) (sym (get_or-take (d + 1) kept i 0 (omega (arith, long, lt)))) (own.within i (omega (arith, long, lt, in_kept)));
        at = λ i lt.
            ap (path_at paths) (get_or-take (d + 1) kept i 0 (omega (arith, long, lt)))
            ∙ elim (last_cases i d (omega (arith, long, lt))) [
              | inl less ↦ ap (path_at paths) (sym (get_or-take d kept i 0 less)) ∙ so_far.at i (omega (arith, old, less))
              | inr same ↦ subst (λ (k : ℕ). path_at paths (get_or kept k 0) ≡ take (k + 1) path) (sym same) at_next
            ];
      }

  pub shared_more : paths ≡ fold with_node paths (take d (prefixes path)) → paths ≡ fold with_node paths (take (d + 1) (prefixes path))
  shared_more start =
      let q : Path = take d path ++ s ∷ [] in
      let lt = own.within d in_kept in
      let long = l.rooted.long in
      let there : get_or paths node [] ≡ q = sym (path_some paths node (omega (arith, lt, few))) ∙ here in
      let step : paths ≡ with_node paths q = sym (ap (λ (b : Bool). cond b paths (paths ++ q ∷ [])) (has_at paths node q (omega (arith, lt, long)) there)) in
      prefix_more paths paths paths path (take d path) d s s in_path at refl start step

-- ---- a node that is put in and kept

pub kept_push : (nodes more : List Node) (bs : Branches) (kept all : List ℕ) (path : Path) (d x : ℕ) → IsKept nodes kept path → Linked nodes bs → Extends (tree_paths nodes) (tree_paths more) → length (tree_paths more) ≡ length more
    → length kept ≡ d → d < length path → x < length more → path_at (tree_paths more) x ≡ take (d + 1) path → all ≡ kept ++ x ∷ [] → IsKept more all path
kept_push nodes more bs kept all path d x own l wide more_long count lt x_lt at pushed =
    subst (λ (k : List ℕ). IsKept more k path) (sym pushed) (record {
      long = omega (arith, long, lt, count);
      within = λ i i_lt.
          elim (last_cases i d (omega (arith, long, i_lt, count))) [
            | inl less ↦ subst (λ (k : ℕ). k < length more) (sym (before i less)) (
                let old = own.within i (omega (arith, less, count)) in
                let rooted = l.rooted.long in
                let longer = wide.longer in
                omega (arith, old, rooted, longer, more_long))
            | inr same ↦ subst (λ (k : ℕ). k < length more) (sym (last i same)) x_lt
          ];
      at = λ i i_lt.
          elim (last_cases i d (omega (arith, long, i_lt, count))) [
            | inl less ↦
                ap (path_at (tree_paths more)) (before i less)
                ∙ wide.same (get_or kept i 0) (λ _. (let old = own.within i (omega (arith, less, count)) in let rooted = l.rooted.long in omega (arith, old, rooted)))
                ∙ own.at i (omega (arith, less, count))
            | inr same ↦ ap (path_at (tree_paths more)) (last i same) ∙ at ∙ ap (λ (k : ℕ). take (k + 1) path) (sym same)
          ];
    })
  where
    long : length (kept ++ x ∷ []) ≡ length kept + 1
    long = length-append kept (x ∷ [])

    before : (i : ℕ) → i < d → get_or (kept ++ x ∷ []) i 0 ≡ get_or kept i 0
    before i less = get_or-append kept (x ∷ []) 0 i (omega (arith, less, count))

    last : (i : ℕ) → i ≡ d → get_or (kept ++ x ∷ []) i 0 ≡ x
    last i same = ap (λ (k : ℕ). get_or (kept ++ x ∷ []) k 0) (same ∙ sym count) ∙ get_or-append_seam kept x [] 0

-- the last of the kept nodes has the path up to there
pub last_kept : (nodes : List Node) (kept : List ℕ) (path : Path) (d node : ℕ) → IsKept nodes kept path → length kept ≡ d → 0 < d → node ≡ get_or kept (d - 1) node → path_at (tree_paths nodes) node ≡ take d path
last_kept nodes kept path d node own count some is =
    let at : node ≡ get_or kept (d - 1) 0 = is ∙ get_or_default kept (d - 1) node 0 (omega (arith, count, some)) in
    let next : d - 1 + 1 ≡ d = omega (arith, some) in
    ap (path_at (tree_paths nodes)) at ∙ own.at (d - 1) (omega (arith, count, some)) ∙ ap (λ (k : ℕ). take k path) next
