-- Sums of trees are the same in any order.
use Rattle.std.proofs.Common.{◌≡◌, ℕ, ◌+◌, ◌==◌, ◌&&◌, ◌||◌, Bool, true, false, List, [], ◌∷◌, ◌++◌, refl, sym, ap, ap₂, ◌∙◌, arith, append-nil}
use Rattle.std.proofs.lemmas.List.Folds.{list_any-append}
use Rattle.std.proofs.lemmas.List.Sums.{sum_by-append}
use Rattle.scope_types.specs.CallPaths.{ColumnPath}
use Rattle.scope_types.specs.Order.{path_order}
use Rattle.scope_types.proofs.Orders.{path_order_total, path_order_tells}
use Rattle.tree_types.specs.Ascending.{ascending}
use Rattle.tree_types.specs.Nodes.{nodes}
use Rattle.tree_types.specs.Paths.{Path, after_prefix, rest_passes}
use Rattle.tree_types.specs.PathsOf.{tree_paths}
use Rattle.tree_types.specs.Tree.{CountedTree}
use Rattle.tree_types.specs.Values.{count_below, ends_here}
use Rattle.tree_types.proofs.Counting.{one}
use Rattle.tree_types.proofs.NodeLaws.{nodes_of_parts}
use Rattle.tree_types.proofs.Sorting.{has, has_ascending, same_ascending}
use Rattle.live_merge.specs.Sum.{HasPaths, IsSum}

or_swap : (a b : Bool) → (a || b) ≡ (b || a)
or_swap true true = refl
or_swap true false = refl
or_swap false true = refl
or_swap false false = refl

or_assoc : (a b c : Bool) → ((a || b) || c) ≡ (a || (b || c))
or_assoc true b c = refl
or_assoc false b c = refl

abbrev has_path : Path → List Path → Bool
has_path q ns = has path_order q ns

has_both : (q : Path) (xs ys : List Path) → has_path q (xs ++ ys) ≡ (has_path q xs || has_path q ys)
has_both q xs ys = list_any-append _ xs ys

has_up : (q : Path) (xs : List Path) → has_path q (ascending path_order xs) ≡ has_path q xs
has_up q xs = has_ascending path_order_total path_order_tells q xs

same_up : (xs ys : List Path) → ((q : Path) → has_path q xs ≡ has_path q ys) → ascending path_order xs ≡ ascending path_order ys
same_up xs ys same = same_ascending path_order_total path_order_tells xs ys same

up_swap : (xs ys : List Path) → ascending path_order (xs ++ ys) ≡ ascending path_order (ys ++ xs)
up_swap xs ys = same_up (xs ++ ys) (ys ++ xs) (λ q. has_both q xs ys ∙ or_swap (has_path q xs) (has_path q ys) ∙ sym (has_both q ys xs))

up_assoc : (xs ys zs : List Path) → ascending path_order (ascending path_order (xs ++ ys) ++ zs) ≡ ascending path_order (xs ++ ascending path_order (ys ++ zs))
up_assoc xs ys zs =
    same_up (ascending path_order (xs ++ ys) ++ zs) (xs ++ ascending path_order (ys ++ zs))
    (λ q.
    has_both q (ascending path_order (xs ++ ys)) zs ∙ ap (λ b. b || has_path q zs) (has_up q (xs ++ ys) ∙ has_both q xs ys)
    ∙ or_assoc (has_path q xs) (has_path q ys) (has_path q zs)
    ∙ ap (λ b. has_path q xs || b) (sym (has_up q (ys ++ zs) ∙ has_both q ys zs)) ∙ sym (has_both q xs (ascending path_order (ys ++ zs))))

pub commutative : (a b sum : CountedTree) → a.columns ≡ b.columns → IsSum a b sum → IsSum b a sum
commutative a b sum same is = record {
  columns = is.columns ∙ same;
  nodes = is.nodes ∙ up_swap (tree_paths a.nodes) (tree_paths b.nodes);
  counts = λ column path. (let c = is.counts column path in omega arith);
  total = (let t = is.total in omega arith);
}

pub associative : (a b c ab bc sum : CountedTree) → IsSum a b ab → IsSum ab c sum → IsSum b c bc → IsSum a bc sum
associative a b c ab bc sum left is right = record {
  columns = is.columns ∙ left.columns;
  nodes = is.nodes ∙ ap (λ (ps : List Path). ascending path_order (ps ++ tree_paths c.nodes)) left.nodes
      ∙ up_assoc (tree_paths a.nodes) (tree_paths b.nodes) (tree_paths c.nodes)
      ∙ ap (λ (ps : List Path). ascending path_order (tree_paths a.nodes ++ ps)) (sym right.nodes);
  counts = λ column path. (let x = is.counts column path in let y = left.counts column path in let z = right.counts column path in omega arith);
  total = (let x = is.total in let y = left.total in let z = right.total in omega arith);
}

nodes_both : (ps qs : List ColumnPath) → ascending path_order (nodes ps ++ nodes qs) ≡ nodes (ps ++ qs)
nodes_both ps qs =
    ap (λ (x : List Path). ascending path_order (nodes ps ++ x)) (sym (append-nil (nodes qs)))
    ∙ sym (nodes_of_parts (ps ∷ qs ∷ [])) ∙ ap (λ (x : List ColumnPath). nodes (ps ++ x)) (append-nil qs)

counts_both : (ps qs : List ColumnPath) (column : ℕ) (n : Path) → count_below ends_here (ps ++ qs) column n ≡ count_below ends_here ps column n + count_below ends_here qs column n
unfolding count_below
counts_both ps qs column n = sum_by-append (λ (p : ColumnPath). one (p.column == column && rest_passes ends_here (after_prefix n p.path))) ps qs

pub of_paths : (a b sum : CountedTree) (ps qs : List ColumnPath) → IsSum a b sum → HasPaths ps a → HasPaths qs b → HasPaths (ps ++ qs) sum
of_paths a b sum ps qs is left right = record {
  nodes = is.nodes ∙ ap₂ (λ (x y : List Path). ascending path_order (x ++ y)) left.nodes right.nodes ∙ nodes_both ps qs;
  counts = λ column path some.
      (let all = is.counts column path in let x = left.counts column path some in let y = right.counts column path some in let both = counts_both ps qs column path in omega arith);
}

pub ruleset sum_laws = (commutative, associative, of_paths)
