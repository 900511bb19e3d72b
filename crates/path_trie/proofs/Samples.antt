-- Merged entries as the list of their samples' paths.
use Rattle.std.proofs.Common.{◌≡◌, ℕ, zero, suc, ◌+◌, ◌<◌, ◌==◌, ◌&&◌, ◌||◌, Bool, true, false, cond, List, [], ◌∷◌, sum_by, count_by, replicate, All, Less, Equal, Greater, is_eq, None, refl, sym, ap, ap₂, ◌∙◌, arith}
use Rattle.std.specs.List.{flat_map}
use Rattle.std.specs.Ordering.{ordering_then}
use Rattle.std.proofs.lemmas.List.Concat.{flat_map-append}
use Rattle.std.proofs.lemmas.List.Elements.{All-head, All-tail}
use Rattle.std.proofs.lemmas.List.Folds.{list_any-append}
use Rattle.std.proofs.lemmas.List.Sums.{sum_by-cons, sum_by-append}
use Rattle.scope_types.specs.CallPaths.{ColumnPath, entry_path, each_path}
use Rattle.scope_types.specs.declared.path.Entry.{Entry}
use Rattle.scope_types.specs.Order.{path_order, scope_order}
use Rattle.scope_types.proofs.Orders.{path_order_total, path_order_tells}
use Rattle.tree_types.specs.Ascending.{ascending}
use Rattle.tree_types.specs.Nodes.{nodes}
use Rattle.tree_types.specs.Paths.{Path, prefixes, after_prefix, rest_passes}
use Rattle.tree_types.specs.Values.{ends_here, count_below}
use Rattle.tree_types.proofs.Counting.{one, count_by-cons}
use Rattle.tree_types.proofs.Sorting.{same_ascending}
use Rattle.path_trie.specs.Trie.{same_path, has_node, all_prefixes, trie_nodes, entries_with_path, count_of, samples_of}
use Rattle.path_trie.proofs.Nodes.{has_trie, counts_merged}
use Rattle.prof_bytes.proofs.Tests.{or_false}

abbrev every_prefix : List ColumnPath → List Path
every_prefix ps = flat_map (λ p. prefixes p.path) ps

or_same : (b : Bool) → (b || b) ≡ b
or_same true = refl
or_same false = refl

has_once : (q : Path) (p : ColumnPath) (n : ℕ) → 0 < n → has_node (every_prefix (replicate n p)) q ≡ has_node (prefixes p.path) q
has_once q p zero some = absurd (omega arith)
has_once q p (suc zero) some = list_any-append (same_path q) (prefixes p.path) [] ∙ or_false (has_node (prefixes p.path) q)
has_once q p (suc (suc n)) some =
    list_any-append (same_path q) (prefixes p.path) (every_prefix (replicate (suc n) p))
    ∙ ap (λ b. has_node (prefixes p.path) q || b) (has_once q p (suc n) (omega arith)) ∙ or_same (has_node (prefixes p.path) q)

abbrev IsCounted : Entry → Type 0
IsCounted e = 0 < e.count

has_every : (es : List Entry) (q : Path) → All IsCounted es → has_node (every_prefix (each_path es)) q ≡ has_node (all_prefixes es) q
unfolding each_path
has_every [] q counted = refl
has_every (e ∷ es) q counted =
    ap (λ (ns : List Path). has_node ns q) (flat_map-append (λ (p : ColumnPath). prefixes p.path) (replicate e.count (entry_path e)) (each_path es))
    ∙ list_any-append (same_path q) (every_prefix (replicate e.count (entry_path e))) (every_prefix (each_path es))
    ∙ ap₂ (λ (a b : Bool). a || b) (has_once q (entry_path e) e.count (All-head IsCounted e es counted)) (has_every es q (All-tail IsCounted e es counted))
    ∙ sym (list_any-append (same_path q) (prefixes e.path) (all_prefixes es))

-- where each entry counts some samples, the nodes are those of the samples' paths
pub nodes_of_samples : (es : List Entry) → All IsCounted es → ascending path_order (trie_nodes es) ≡ nodes (each_path es)
unfolding nodes
nodes_of_samples es counted =
    same_ascending path_order_total path_order_tells (trie_nodes es) (every_prefix (each_path es)) (λ q. has_trie es q ∙ sym (has_every es q counted))

-- ---- counts

ends_same : (n path : Path) → rest_passes ends_here (after_prefix n path) ≡ same_path n path
ends_same [] [] = refl
ends_same [] (t ∷ path) = refl
ends_same (s ∷ n) [] = refl
ends_same (s ∷ n) (t ∷ path) =
    elim (scope_order s t) as (λ o. rest_passes ends_here (cond (is_eq o) (after_prefix n path) None) ≡ is_eq (ordering_then o (path_order n path))) [
      | Less ↦ refl
      | Equal ↦ ends_same n path
      | Greater ↦ refl
    ]

abbrev passes : ℕ → Path → ColumnPath → Bool
passes column path p = (p.column == column) && rest_passes ends_here (after_prefix path p.path)

count_replicate : (t : ColumnPath → Bool) (p : ColumnPath) (n : ℕ) → count_by t (replicate n p) ≡ cond (t p) n 0
count_replicate t p zero = none (t p)
  where
    none : (b : Bool) → zero ≡ cond b zero zero
    none true = refl
    none false = refl
count_replicate t p (suc n) =
    count_by-cons t p (replicate n p) ∙ ap (λ (k : ℕ). one (t p) + k) (count_replicate t p n) ∙ both (t p)
  where
    both : (b : Bool) → one b + cond b n 0 ≡ cond b (suc n) 0
    both true = omega arith
    both false = omega arith

abbrev count_in : Entry → ℕ
count_in e = e.count

samples_here : (es : List Entry) (column : ℕ) (path : Path) → count_of es column path ≡ count_by (passes column path) (each_path es)
unfolding each_path
samples_here [] column path = refl
samples_here (e ∷ es) column path =
    let t : ColumnPath → Bool = passes column path in
    let own : (((e.column == column) && same_path path e.path) ≡ t (entry_path e)) = ap (λ (b : Bool). (e.column == column) && b) (sym (ends_same path e.path)) in
    ap (λ (b : Bool). samples_of (cond b (e ∷ entries_with_path es column path) (entries_with_path es column path))) own
    ∙ first (t (entry_path e)) e (entries_with_path es column path)
    ∙ ap₂ (λ (a b : ℕ). a + b) (sym (count_replicate t (entry_path e) e.count)) (samples_here es column path)
    ∙ sym (sum_by-append (λ (p : ColumnPath). one (t p)) (replicate e.count (entry_path e)) (each_path es))
  where
    first : (b : Bool) (e : Entry) (rest : List Entry) → samples_of (cond b (e ∷ rest) rest) ≡ cond b e.count 0 + samples_of rest
    first true e rest = sum_by-cons count_in e rest
    first false e rest = omega arith

pub counts_of_samples : (es : List Entry) (column : ℕ) (path : Path) → count_of es column path ≡ count_below ends_here (each_path es) column path
unfolding count_below
counts_of_samples es column path = samples_here es column path

-- ---- parts

pub counts_of_parts : (parts : List (List Entry)) (column : ℕ) (path : Path) → count_of (flat_map (λ es. es) parts) column path ≡ sum_by (λ es. count_of es column path) parts
counts_of_parts [] column path = refl
counts_of_parts (es ∷ parts) column path =
    counts_merged es (flat_map (λ es. es) (es ∷ parts)) (flat_map (λ es. es) parts) refl column path
    ∙ ap (λ (n : ℕ). count_of es column path + n) (counts_of_parts parts column path) ∙ sym (sum_by-cons (λ (es : List Entry). count_of es column path) es parts)

has_parts : (parts : List (List Entry)) (q : Path) → has_node (all_prefixes (flat_map (λ es. es) parts)) q ≡ has_node (flat_map trie_nodes parts) q
has_parts [] q = refl
has_parts (es ∷ parts) q =
    ap (λ (ns : List Path). has_node ns q) (flat_map-append (λ (e : Entry). prefixes e.path) es (flat_map (λ es. es) parts))
    ∙ list_any-append (same_path q) (all_prefixes es) (all_prefixes (flat_map (λ es. es) parts))
    ∙ ap₂ (λ (a b : Bool). a || b) (sym (has_trie es q)) (has_parts parts q)
    ∙ sym (list_any-append (same_path q) (trie_nodes es) (flat_map trie_nodes parts))

pub nodes_of_parts : (parts : List (List Entry)) → ascending path_order (trie_nodes (flat_map (λ es. es) parts)) ≡ ascending path_order (flat_map trie_nodes parts)
nodes_of_parts parts =
    same_ascending path_order_total path_order_tells (trie_nodes (flat_map (λ es. es) parts)) (flat_map trie_nodes parts) (λ q. has_trie (flat_map (λ es. es) parts) q ∙ has_parts parts q)

pub ruleset sample_laws = (nodes_of_samples, counts_of_samples)

pub ruleset part_laws = (nodes_of_parts, counts_of_parts)
