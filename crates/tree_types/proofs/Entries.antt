-- How many nodes the paths of entries have.
use Rattle.std.proofs.Common.{◌≡◌, ℕ, zero, suc, ◌+◌, ◌<◌, ◌≤◌, ◌||◌, Bool, true, false, List, [], ◌∷◌, ◌++◌, length, replicate, sum_by, Ordering, refl, sym, ap, ◌∙◌, arith}
use Rattle.std.specs.List.{flat_map}
use Rattle.std.specs.Ordering.{eq_by_cmp}
use Rattle.std.specs.declared.cmp.Ordering.TheVariants.{Less, Equal, Greater}
use Rattle.std.proofs.lemmas.List.Sums.{sum_by-cons}
use Rattle.std.proofs.lemmas.List.Concat.{flat_map-append}
use Rattle.std.proofs.lemmas.List.Folds.{list_any-append}
use Rattle.prof_bytes.proofs.Tests.{or_false}
use Rattle.scope_types.specs.declared.path.Entry.{Entry}
use Rattle.scope_types.specs.CallPaths.{ColumnPath, entry_path, each_path}
use Rattle.scope_types.specs.Order.{path_order}
use Rattle.scope_types.proofs.Orders.{path_order_total, path_order_tells}
use Rattle.tree_types.specs.Paths.{Path, prefixes}
use Rattle.tree_types.specs.Ascending.{put, by_order, ascending}
use Rattle.tree_types.specs.Nodes.{nodes}
use Rattle.tree_types.proofs.Prefixes.{length-prefixes}
use Rattle.tree_types.proofs.Sorting.{has, same_ascending}

-- ---- the nodes

or_same : (b : Bool) → (b || b) ≡ b
or_same true = refl
or_same false = refl

abbrev every_prefix : List ColumnPath → List Path
every_prefix ps = flat_map (λ p. prefixes p.path) ps

-- the prefixes of a path that is there more than once are those of it once
has_once : (q : Path) (p : ColumnPath) (n : ℕ) → 0 < n → has path_order q (every_prefix (replicate n p)) ≡ has path_order q (prefixes p.path)
has_once q p zero some = absurd (omega arith)
has_once q p (suc zero) some = list_any-append (eq_by_cmp path_order q) (prefixes p.path) [] ∙ or_false (has path_order q (prefixes p.path))
has_once q p (suc (suc n)) some =
    list_any-append (eq_by_cmp path_order q) (prefixes p.path) (every_prefix (replicate (suc n) p))
    ∙ ap (λ b. has path_order q (prefixes p.path) || b) (has_once q p (suc n) (omega arith)) ∙ or_same (has path_order q (prefixes p.path))

pub no_nodes : [] ≡ nodes (each_path [])
unfolding nodes each_path ascending
no_nodes = refl

-- ---- how many nodes there are

module _ {K : Type 0} (R : K → K → Ordering) where
  put_long : (x : K) (ys : List K) → length (put R x ys) ≤ length ys + 1
  put_long x [] = omega arith
  put_long x (y ∷ ys) =
      let rest = put_long x ys in
      elim (R x y) as (λ r. length (by_order r (x ∷ y ∷ ys) (y ∷ ys) (y ∷ put R x ys)) ≤ length (y ∷ ys) + 1) [ Less ↦ omega arith | Equal ↦ omega arith | Greater ↦ omega (arith, rest) ]

  ascending_long : (xs zs : List K) → length (ascending R (xs ++ zs)) ≤ length xs + length (ascending R zs)
  unfolding ascending
  ascending_long [] zs = omega arith
  ascending_long (x ∷ xs) zs = let one = put_long x (ascending R (xs ++ zs)) in let rest = ascending_long xs zs in omega (arith, one, rest)

-- a path adds as many nodes as it has scopes at most, however often it is there
few_with : (p : ColumnPath) (ps : List ColumnPath) (n : ℕ) → length (nodes (replicate n p ++ ps)) ≤ length p.path + length (nodes ps)
unfolding nodes
few_with p ps zero = omega arith
few_with p ps (suc n) =
    let same : ascending path_order (every_prefix (replicate (suc n) p ++ ps)) ≡ ascending path_order (prefixes p.path ++ every_prefix ps) =
    same_ascending path_order_total path_order_tells (every_prefix (replicate (suc n) p ++ ps)) (prefixes p.path ++ every_prefix ps) (λ q.
    ap (has path_order q) (flat_map-append (λ (p : ColumnPath). prefixes p.path) (replicate (suc n) p) ps)
    ∙ list_any-append (eq_by_cmp path_order q) (every_prefix (replicate (suc n) p)) (every_prefix ps)
    ∙ ap (λ b. b || has path_order q (every_prefix ps)) (has_once q p (suc n) (omega arith))
    ∙ sym (list_any-append (eq_by_cmp path_order q) (prefixes p.path) (every_prefix ps))) in
    let long = ap (λ (ns : List Path). length ns) same in
    let parts = ascending_long path_order (prefixes p.path) (every_prefix ps) in
    let front = length-prefixes p.path in
    omega (arith, long, parts, front)

pub nodes_few : (es : List Entry) → length (nodes (each_path es)) ≤ sum_by (λ e. length e.path) es
unfolding each_path
nodes_few [] = (let none = ap (λ (ns : List Path). length ns) no_nodes in omega (arith, none))
nodes_few (e ∷ es) =
    let all = sum_by-cons (λ (e : Entry). length e.path) e es in
    let one = few_with (entry_path e) (each_path es) e.count in
    let rest = nodes_few es in
    omega (arith, all, one, rest)
