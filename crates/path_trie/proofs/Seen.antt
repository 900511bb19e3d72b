-- What contracts see of a trie's fields.
use Rattle.std.proofs.Common.{◌≡◌, ℕ, ◌+◌, ◌<◌, ◌≤◌, ◌^◌, ◌==◌, ◌&&◌, inl, inr, Bool, true, false, cond, List, [], ◌∷◌, length, map, filter, sum_by, take, get_or, All, refl, sym, ap, ap₂, ◌∙◌, arith}
use Rattle.std.proofs.lemmas.Bool.{cases_eq, eq-eqb, ne_eqb}
use Rattle.std.proofs.lemmas.List.{get_or_default}
use Rattle.std.proofs.lemmas.List.Elements.{All-head, All-tail, All-weaker}
use Rattle.std.proofs.lemmas.List.Sums.{sum_by-cons, sum_by_more_le}
use Rattle.prof_bytes.proofs.Tests.{and_swap}
use Rattle.scope_types.specs.declared.path.Entry.{Entry}
use Rattle.scope_types.specs.Limits.{most_samples, most_scopes_in_all}
use Rattle.tree_types.specs.declared.content.Node.{Node}
use Rattle.tree_types.specs.Paths.{Path}
use Rattle.tree_types.specs.PathsOf.{tree_paths}
use Rattle.path_trie.specs.declared.trie.PathEnd.{PathEnd}
use Rattle.path_trie.specs.Trie.{IsIndex, path_at, same_path, counted_entry, trie_nodes, trie_node, nth_path, count_of}
use Rattle.path_trie.specs.private.Linked.{Branches, Linked, IsTrie, entries_at, no_node, ends_at}
use Rattle.path_trie.proofs.Places.{place_once, path_some, path_false, path_itself}
use Rattle.path_trie.proofs.Kept.{node_is, nodes_are}

pub paths_seen : (nodes : List Node) (bs : Branches) (ends : List PathEnd) (now : List Entry) → IsTrie nodes bs ends → entries_at nodes ends ≡ now → tree_paths nodes ≡ trie_nodes now
paths_seen nodes bs ends now fits is = fits.nodes_are ∙ ap trie_nodes is

pub count_seen : (nodes : List Node) (bs : Branches) (ends : List PathEnd) (now : List Entry) → IsTrie nodes bs ends → entries_at nodes ends ≡ now → length nodes ≡ length (trie_nodes now)
count_seen nodes bs ends now fits is = sym fits.linked.rooted.long ∙ ap (λ (ps : List Path). length ps) (paths_seen nodes bs ends now fits is)

pub node_seen : (nodes : List Node) (bs : Branches) (ends : List PathEnd) (now : List Entry) (i : ℕ) (n : Node) → IsTrie nodes bs ends → entries_at nodes ends ≡ now → i < length (trie_nodes now) → n ≡ get_or nodes i n
    → n ≡ trie_node (trie_nodes now) (nth_path (trie_nodes now) i)
node_seen nodes bs ends now i n fits is lt at =
    let count = count_seen nodes bs ends now fits is in
    let within : i < length nodes = omega arith in
    at ∙ get_or_default nodes i n no_node within ∙ node_is nodes fits.linked.rooted fits.few_nodes i within
    ∙ ap (λ (ps : List Path). trie_node ps (nth_path ps i)) (paths_seen nodes bs ends now fits is)

pub nodes_seen : (nodes : List Node) (bs : Branches) (ends : List PathEnd) (now : List Entry) (ns : List Node) → IsTrie nodes bs ends → entries_at nodes ends ≡ now → ns ≡ nodes → ns ≡ map (trie_node (trie_nodes now)) (trie_nodes now)
nodes_seen nodes bs ends now ns fits is same = same ∙ nodes_are nodes fits.linked.rooted fits.few_nodes ∙ ap (λ (ps : List Path). map (trie_node ps) ps) (paths_seen nodes bs ends now fits is)

-- ---- counts

abbrev end_count : PathEnd → ℕ
end_count e = e.count

abbrev entry_count : Entry → ℕ
entry_count e = e.count

filtered_le : (p : PathEnd → Bool) (xs : List PathEnd) → sum_by end_count (filter p xs) ≤ sum_by end_count xs
filtered_le p [] = omega arith
filtered_le p (x ∷ xs) =
    let rest = filtered_le p xs in
    let all = sum_by-cons end_count x xs in
    elim (p x) as (λ b. sum_by end_count (cond b (x ∷ filter p xs) (filter p xs)) ≤ sum_by end_count (x ∷ xs)) [
      | true ↦ (let first = sum_by-cons end_count x (filter p xs) in omega arith)
      | false ↦ omega arith
    ]

-- what a walk has counted, and one end more
pub total_small : (ends : List PathEnd) (node column k total : ℕ) (d : PathEnd) → k < length ends → total ≡ sum_by end_count (filter (ends_at node column) (take k ends)) → sum_by end_count ends ≤ most_samples → total + (get_or ends k d).count < 2 ^ 64
total_small ends node column k total d lt so_far few =
    let part = filtered_le (ends_at node column) (take k ends) in
    let more = sum_by_more_le end_count ends k d lt in
    omega arith

counts_same : (paths : List Path) (test : Entry → Bool) (own : PathEnd → Bool) (ends : List PathEnd) → All (λ e. test (counted_entry paths e) ≡ own e) ends → sum_by end_count (filter own ends) ≡ sum_by entry_count (filter test (map (counted_entry paths) ends))
counts_same paths test own [] same = refl
counts_same paths test own (e ∷ ends) same =
    let P : PathEnd → Type 0 = λ e. test (counted_entry paths e) ≡ own e in
    let rest = counts_same paths test own ends (All-tail P e ends same) in
    ap (λ (b : Bool). sum_by end_count (cond b (e ∷ filter own ends) (filter own ends))) (sym (All-head P e ends same))
    ∙ elim (test (counted_entry paths e)) as (λ b. sum_by end_count (cond b (e ∷ filter own ends) (filter own ends)) ≡ sum_by entry_count (cond b (counted_entry paths e ∷ filter test (map (counted_entry paths) ends)) (filter test (map (counted_entry paths) ends)))) [
      | true ↦ sum_by-cons end_count e (filter own ends) ∙ ap (λ (n : ℕ). e.count + n) rest ∙ sym (sum_by-cons entry_count (counted_entry paths e) (filter test (map (counted_entry paths) ends)))
      | false ↦ rest
    ]

same_test : (nodes : List Node) (bs : Branches) (node : ℕ) (e : PathEnd) → Linked nodes bs → length nodes ≤ most_scopes_in_all → node < length nodes → IsIndex e.node (length nodes)
    → same_path (nth_path (tree_paths nodes) node) (path_at (tree_paths nodes) e.node) ≡ (e.node == node)
same_test nodes bs node e l few lt index =
    let paths : List Path = tree_paths nodes in
    let at : path_at paths node ≡ nth_path paths node = path_some paths node (omega arith) in
    elim (cases_eq e.node node) [
      | inl is ↦ ap (same_path (nth_path paths node)) (ap (path_at paths) is ∙ at) ∙ path_itself (nth_path paths node) ∙ sym (eq-eqb e.node node is)
      | inr apart ↦
          path_false (nth_path paths node) (path_at paths e.node) (λ same. apart (place_once nodes l.rooted few e.node node index (λ _. lt) (sym same ∙ sym at)))
          ∙ sym (ne_eqb e.node node apart)
    ]

pub counts_seen : (nodes : List Node) (bs : Branches) (ends xs : List PathEnd) (now : List Entry) (node column total : ℕ) → IsTrie nodes bs ends → entries_at nodes ends ≡ now → node < length (trie_nodes now) → xs ≡ ends
    → total ≡ sum_by end_count (filter (ends_at node column) xs) → total ≡ count_of now column (nth_path (trie_nodes now) node)
counts_seen nodes bs ends xs now node column total fits is lt same counted =
    let paths : List Path = tree_paths nodes in
    let q : Path = nth_path paths node in
    let test : Entry → Bool = λ x. (x.column == column) && same_path q x.path in
    let count = count_seen nodes bs ends now fits is in
    let within : node < length nodes = omega arith in
    counted ∙ ap (λ (x : List PathEnd). sum_by end_count (filter (ends_at node column) x)) same
    ∙ counts_same paths test (ends_at node column) ends
    (All-weaker (λ e. IsIndex e.node (length nodes)) (λ e. test (counted_entry paths e) ≡ ends_at node column e)
    (λ e index. ap (λ (b : Bool). (e.column == column) && b) (same_test nodes bs node e fits.linked fits.few_nodes within index) ∙ and_swap (e.column == column) (e.node == node)) ends fits.indices)
    ∙ ap₂ (λ (ps : List Path) (x : List Entry). count_of x column (nth_path ps node)) (paths_seen nodes bs ends now fits is) is
