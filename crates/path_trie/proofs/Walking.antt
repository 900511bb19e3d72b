-- The prefixes of a path, put in one after the other.
use Rattle.std.proofs.Common.{◌≡◌, ℕ, ◌+◌, ◌<◌, ◌≤◌, List, [], ◌∷◌, ◌++◌, length, take, get_or, fold, sym, ap, ap₂, ◌∙◌, arith, add-one, take_all}
use Rattle.std.proofs.lemmas.List.{take_more}
use Rattle.std.proofs.lemmas.List.Sums.{fold_more}
use Rattle.scope_types.specs.declared.scope.Scope.{Scope}
use Rattle.tree_types.specs.Paths.{Path, prefixes}
use Rattle.tree_types.proofs.Prefixes.{length-prefixes, prefix_at}
use Rattle.path_trie.specs.Trie.{with_node}
use Rattle.path_trie.specs.private.Linked.{Extends}

pub path_more : (path front : Path) (k : ℕ) (s d : Scope) → k < length path → s ≡ get_or path k d → front ≡ take k path → front ++ s ∷ [] ≡ take (k + 1) path
path_more path front k s d lt is so_far = ap₂ (λ (p : Path) (t : Scope). p ++ t ∷ []) so_far is ∙ sym (take_more path k d lt)

pub prefix_more : (start paths after : List Path) (path front : Path) (k : ℕ) (s d : Scope) → k < length path → s ≡ get_or path k d → front ≡ take k path
    → paths ≡ fold with_node start (take k (prefixes path)) → after ≡ with_node paths (front ++ s ∷ []) → after ≡ fold with_node start (take (k + 1) (prefixes path))
prefix_more start paths after path front k s d lt is at so_far step =
    step ∙ ap (λ (ps : List Path). with_node ps (front ++ s ∷ [])) so_far
    ∙ ap (with_node (fold with_node start (take k (prefixes path)))) (path_more path front k s d lt is at ∙ ap (λ (j : ℕ). take j path) (add-one k) ∙ sym (prefix_at path k [] lt))
    ∙ sym (fold_more with_node start (prefixes path) k [] (omega (arith, length-prefixes path)))

pub prefix_all : (start paths : List Path) (path : Path) (k : ℕ) → length path ≤ k → paths ≡ fold with_node start (take k (prefixes path)) → paths ≡ fold with_node start (prefixes path)
prefix_all start paths path k le so_far = so_far ∙ ap (fold with_node start) (take_all k (prefixes path) (omega (arith, length-prefixes path)))

pub extends_again : (a b c : List Path) → Extends a b → Extends b c → Extends a c
extends_again a b c first next = record {
  longer = (let f = first.longer in let n = next.longer in omega arith);
  same = λ p index. next.same p (λ apart. (let f = first.longer in let less = index apart in omega arith)) ∙ first.same p index;
}
