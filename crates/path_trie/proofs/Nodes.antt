-- The nodes of merged entries: which paths they are, and how many.
use Rattle.std.proofs.Common.{◌≡◌, ℕ, zero, suc, ◌+◌, ◌<◌, ◌≤◌, ◌==◌, ◌&&◌, ◌||◌, Bool, true, false, cond, List, [], ◌∷◌, ◌++◌, length, fold, get_or, AllPairs, Contains, refl, sym, ap, ◌∙◌, arith, length-append}
use Rattle.std.proofs.lemmas.List.{get_or_default}
use Rattle.std.proofs.lemmas.List.Concat.{flat_map-append}
use Rattle.std.proofs.lemmas.List.Elements.{filter-append}
use Rattle.std.proofs.lemmas.List.Folds.{list_any-append}
use Rattle.std.proofs.lemmas.List.Quantifiers.{all_pairs_push}
use Rattle.std.proofs.lemmas.List.Sums.{fold-append, sum_by-cons, sum_by-append}
use Rattle.prof_bytes.proofs.Tests.{or_false}
use Rattle.scope_types.specs.declared.path.Entry.{Entry}
use Rattle.scope_types.proofs.Orders.{path_order_total, path_order_tells}
use Rattle.tree_types.specs.Laws.{IsNonemptyPrefix}
use Rattle.tree_types.specs.Paths.{Path, prefixes}
use Rattle.tree_types.proofs.Prefixes.{length-prefixes}
use Rattle.tree_types.proofs.Prefixes.{has-from_prefix, prefix_from_has}
use Rattle.tree_types.proofs.Sorting.{has-from_Contains, Contains-from_has}
use Rattle.path_trie.specs.Trie.{same_path, has_node, with_node, all_prefixes, trie_nodes, entries_with_path, count_of, samples_of, entry_scopes}
use Rattle.path_trie.proofs.Places.{path_is, has_at}

or_assoc : (a b c : Bool) → ((a || b) || c) ≡ (a || (b || c))
or_assoc true b c = refl
or_assoc false b c = refl

-- ---- which paths are nodes

has_with : (ns : List Path) (m q : Path) → has_node (with_node ns m) q ≡ (has_node ns q || same_path q m)
has_with ns m q =
    elim (has_node ns m) as (λ b. has_node ns m ≡ b → has_node (cond b ns (ns ++ m ∷ [])) q ≡ (has_node ns q || same_path q m)) [
      | true ↦ λ there. elim (same_path q m) as (λ b. same_path q m ≡ b → has_node ns q ≡ (has_node ns q || b)) [
        | true ↦ λ same. (let known : has_node ns q ≡ true = ap (has_node ns) (path_is q m same) ∙ there in known ∙ sym (ap (λ b. b || true) known))
        | false ↦ λ apart. sym (or_false (has_node ns q))
      ] refl
      | false ↦ λ absent. list_any-append (same_path q) ns (m ∷ []) ∙ ap (λ b. has_node ns q || b) (or_false (same_path q m))
    ] refl

pub has_fold : (ns xs : List Path) (q : Path) → has_node (fold with_node ns xs) q ≡ (has_node ns q || has_node xs q)
has_fold ns [] q = sym (or_false (has_node ns q))
has_fold ns (x ∷ xs) q = has_fold (with_node ns x) xs q ∙ ap (λ b. b || has_node xs q) (has_with ns x q) ∙ or_assoc (has_node ns q) (same_path q x) (has_node xs q)

pub has_trie : (es : List Entry) (q : Path) → has_node (trie_nodes es) q ≡ has_node (all_prefixes es) q
unfolding trie_nodes
has_trie es q = has_fold [] (all_prefixes es) q

has_all : (es : List Entry) (e : Entry) (i : ℕ) (n : Path) → i < length es → get_or es i e ≡ e → has_node (prefixes e.path) n ≡ true → has_node (all_prefixes es) n ≡ true
has_all [] e i n lt is has = absurd (omega arith)
has_all (x ∷ es) e zero n lt is has =
    list_any-append (same_path n) (prefixes x.path) (all_prefixes es) ∙ ap (λ (y : Entry). has_node (prefixes y.path) n || has_node (all_prefixes es) n) is ∙ ap (λ b. b || has_node (all_prefixes es) n) has
has_all (x ∷ es) e (suc i) n lt is has =
    list_any-append (same_path n) (prefixes x.path) (all_prefixes es) ∙ ap (λ b. has_node (prefixes x.path) n || b) (has_all es e i n (omega arith) is has) ∙ or_true (has_node (prefixes x.path) n)
  where
    or_true : (b : Bool) → (b || true) ≡ true
    or_true true = refl
    or_true false = refl

pub each_prefix : (es : List Entry) (e : Entry) (n : Path) → Contains es e → IsNonemptyPrefix n e.path → Contains (trie_nodes es) n
each_prefix es e n there prefix =
    Contains-from_has path_order_total path_order_tells n (trie_nodes es) (has_trie es n ∙ has_all es e there.0 n there.1 there.2 (has-from_prefix n e.path prefix))

first_with : (es : List Entry) (n : Path) → has_node (all_prefixes es) n ≡ true → (e : Entry) × Contains es e × IsNonemptyPrefix n e.path
first_with [] n has = absurd cc
first_with (x ∷ es) n has =
    elim (has_node (prefixes x.path) n) as (λ b. has_node (prefixes x.path) n ≡ b → (e : Entry) × Contains (x ∷ es) e × IsNonemptyPrefix n e.path) [
      | true ↦ λ here. (x, (0, omega arith, refl), prefix_from_has n x.path here)
      | false ↦ λ apart.
          let rest = first_with es n (sym (ap (λ b. b || has_node (all_prefixes es) n) apart) ∙ sym (list_any-append (same_path n) (prefixes x.path) (all_prefixes es)) ∙ has) in
          (rest.0, (suc rest.1.0, (let lt = rest.1.1 in omega arith), rest.1.2), rest.2)
    ] refl

pub no_other : (es : List Entry) (n : Path) → Contains (trie_nodes es) n → (e : Entry) × Contains es e × IsNonemptyPrefix n e.path
no_other es n there = first_with es n (sym (has_trie es n) ∙ has-from_Contains path_order_total path_order_tells n (trie_nodes es) there)

-- ---- each once

abbrev Apart : Path → Path → Type 0
Apart m n = m ≡ n → ⊥

once_with : (ns : List Path) (m : Path) → AllPairs Apart ns → AllPairs Apart (with_node ns m)
once_with ns m once =
    elim (has_node ns m) as (λ b. has_node ns m ≡ b → AllPairs Apart (cond b ns (ns ++ m ∷ []))) [
      | true ↦ λ there. once
      | false ↦ λ absent. all_pairs_push Apart ns m once (λ k d lt is. at ns m k d lt is absent)
    ] refl
  where
    at : (ns : List Path) (m : Path) (k : ℕ) (d : Path) → k < length ns → get_or ns k d ≡ m → has_node ns m ≡ false → ⊥
    at ns m k d lt is absent = (let there : has_node ns m ≡ true = has_at ns k m lt (get_or_default ns k [] d lt ∙ is) in let both : true ≡ false = sym there ∙ absent in cc)

once_fold : (ns xs : List Path) → AllPairs Apart ns → AllPairs Apart (fold with_node ns xs)
once_fold ns [] once = once
once_fold ns (x ∷ xs) once = once_fold (with_node ns x) xs (once_with ns x once)

pub each_once : (es : List Entry) → AllPairs Apart (trie_nodes es)
unfolding trie_nodes
each_once es = once_fold [] (all_prefixes es) (λ i j d below lt. absurd (omega arith))

-- ---- entries after entries

pub trie_nodes-append : (es fs : List Entry) → trie_nodes (es ++ fs) ≡ fold with_node (trie_nodes es) (all_prefixes fs)
unfolding trie_nodes
trie_nodes-append es fs =
    ap (fold with_node []) (flat_map-append (λ (e : Entry). prefixes e.path) es fs) ∙ fold-append with_node [] (all_prefixes es) (all_prefixes fs)

long_with : (ns : List Path) (m : Path) → length (with_node ns m) ≤ length ns + 1
long_with ns m = elim (has_node ns m) as (λ b. length (cond b ns (ns ++ m ∷ [])) ≤ length ns + 1) [ true ↦ omega arith | false ↦ omega (arith, length-append ns (m ∷ [])) ]

long_fold : (ns xs : List Path) → length (fold with_node ns xs) ≤ length ns + length xs
long_fold ns [] = omega arith
long_fold ns (x ∷ xs) = (let one = long_with ns x in let rest = long_fold (with_node ns x) xs in omega arith)

abbrev length_of : Entry → ℕ
length_of e = length e.path

prefixes_long : (es : List Entry) → length (all_prefixes es) ≡ entry_scopes es
prefixes_long [] = refl
prefixes_long (e ∷ es) =
    let parts = length-append (prefixes e.path) (all_prefixes es) in
    let one = length-prefixes e.path in
    let rest = prefixes_long es in
    let all = sum_by-cons length_of e es in
    omega arith

pub nodes_grow : (old new more : List Entry) → new ≡ old ++ more → length (trie_nodes new) ≤ length (trie_nodes old) + entry_scopes more
nodes_grow old new more is =
    let same = ap (λ (es : List Entry). length (trie_nodes es)) is in
    let parts = ap (λ (ns : List Path). length ns) (trie_nodes-append old more) in
    let long = long_fold (trie_nodes old) (all_prefixes more) in
    let count = prefixes_long more in
    omega arith

pub nodes_stay : (old new more : List Entry) → new ≡ old → length (trie_nodes new) ≤ length (trie_nodes old) + entry_scopes more
nodes_stay old new more is = (let same = ap (λ (es : List Entry). length (trie_nodes es)) is in omega arith)

pub nodes_merged : (old new more : List Entry) → new ≡ old ++ more → (n : Path) → has_node (trie_nodes new) n ≡ (has_node (trie_nodes old) n || has_node (all_prefixes more) n)
nodes_merged old new more is n = ap (λ (es : List Entry). has_node (trie_nodes es) n) is ∙ ap (λ (ns : List Path). has_node ns n) (trie_nodes-append old more) ∙ has_fold (trie_nodes old) (all_prefixes more) n

pub samples_merged : (old new more : List Entry) → new ≡ old ++ more → samples_of new ≡ samples_of old + samples_of more
samples_merged old new more is = ap samples_of is ∙ sum_by-append (λ (e : Entry). e.count) old more

pub counts_merged : (old new more : List Entry) → new ≡ old ++ more → (column : ℕ) (path : Path) → count_of new column path ≡ count_of old column path + count_of more column path
counts_merged old new more is column path =
    ap (λ (es : List Entry). count_of es column path) is ∙ ap samples_of (filter-append (λ (e : Entry). (e.column == column) && same_path path e.path) old more)
    ∙ sum_by-append (λ (e : Entry). e.count) (entries_with_path old column path) (entries_with_path more column path)

pub ruleset merge_steps = (nodes_grow, nodes_stay, nodes_merged, samples_merged, counts_merged)

pub ruleset node_laws = (each_prefix, no_other, each_once)
