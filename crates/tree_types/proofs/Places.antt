-- Counts by node and column, and values by node, column and kind.
use Rattle.std.proofs.Common.{◌≡◌, ℕ, ◌==◌, ◌&&◌, List, [], ◌∷◌, length, get_or, AllPairs, Result, Ordering, Less, Equal, Greater, is_eq, refl, sym, ap, subst, ◌∙◌, arith}
use Rattle.std.specs.Prelude.{MatchResult}
use Rattle.std.specs.Cmp.Lexicographic.{slice_cmp}
use Rattle.std.specs.Ordering.{nat_cmp, ordering_then}
use Rattle.std.specs.List.Sorted.{IsSearchInRange, IsBinarySearchResult}
use Rattle.std.proofs.lemmas.Cmp.{nat_list_cmp_total}
use Rattle.std.proofs.lemmas.Bool.Decides.{nat_tests}
use Rattle.prof_bytes.proofs.Tests.{and_true}
use Rattle.tree_types.specs.declared.content.Kind.{Kind}
use Rattle.tree_types.specs.declared.counted_tree.NodeCount.{NodeCount}
use Rattle.tree_types.specs.declared.node_values.NodeValue.{NodeValue}
use Rattle.tree_types.specs.Tree.{count_order, count_at}
use Rattle.tree_types.specs.NodeValues.{value_order, value_at, kind_rank}
use Rattle.tree_types.proofs.Searched.{found_amount, nat_lists_apart}

then_equal : (a b : Ordering) → is_eq (ordering_then a b) ≡ (is_eq a && is_eq b)
then_equal Less b = refl
then_equal Equal b = refl
then_equal Greater b = refl

same_number : (a b : ℕ) → is_eq (nat_cmp a b) ≡ (a == b)
same_number a b = grind (arith, nat_tests)

same_pair : (a b x y : ℕ) → (a == x && b == y) ≡ is_eq (slice_cmp nat_cmp (a ∷ b ∷ []) (x ∷ y ∷ []))
same_pair a b x y = sym (then_equal (nat_cmp a x) (ordering_then (nat_cmp b y) Equal)
    ∙ ap (λ r. is_eq (nat_cmp a x) && r) (then_equal (nat_cmp b y) Equal ∙ and_true (is_eq (nat_cmp b y)))
    ∙ ap (λ r. r && is_eq (nat_cmp b y)) (same_number a x) ∙ ap (λ r. (a == x) && r) (same_number b y))

same_triple : (a b c x y z : ℕ) → (a == x && (b == y && c == z)) ≡ is_eq (slice_cmp nat_cmp (a ∷ b ∷ c ∷ []) (x ∷ y ∷ z ∷ []))
same_triple a b c x y z = ap (λ r. r && (b == y && c == z)) (sym (same_number a x)) ∙ ap (λ r. is_eq (nat_cmp a x) && r) (same_pair b c y z)
    ∙ sym (then_equal (nat_cmp a x) (slice_cmp nat_cmp (b ∷ c ∷ []) (y ∷ z ∷ [])))

pub then_end : (r : Ordering) → ordering_then r Equal ≡ r
then_end Less = refl
then_end Equal = refl
then_end Greater = refl

then_grouped : (a b c : Ordering) → ordering_then (ordering_then a b) c ≡ ordering_then a (ordering_then b (ordering_then c Equal))
then_grouped Less b c = refl
then_grouped Equal b c = ap (ordering_then b) (sym (then_end c))
then_grouped Greater b c = refl

pub found_count : (counts : List NodeCount) (node column : ℕ) (r : Result ℕ ℕ) → AllPairs (λ a b. count_order a b ≡ Less) counts → IsSearchInRange r (length counts)
    → IsBinarySearchResult (λ c. ordering_then (nat_cmp c.node node) (nat_cmp c.column column)) counts r
    → MatchResult r (λ i. (d : NodeCount) → count_at counts node column ≡ (get_or counts i d).count) (λ i. NodeCount → count_at counts node column ≡ 0)
found_count counts node column r ascend in_range found =
    let as_list : (c : NodeCount) → ordering_then (nat_cmp c.node node) (nat_cmp c.column column) ≡ slice_cmp nat_cmp (c.node ∷ c.column ∷ []) (node ∷ column ∷ []) =
    λ c. ap (ordering_then (nat_cmp c.node node)) (sym (then_end (nat_cmp c.column column))) in
    let by_list : IsBinarySearchResult (λ c. slice_cmp nat_cmp (c.node ∷ c.column ∷ []) (node ∷ column ∷ [])) counts r =
    subst (λ (ord : NodeCount → Ordering). IsBinarySearchResult ord counts r) (λ i c. as_list c i) found in
    found_amount nat_list_cmp_total nat_lists_apart (λ (c : NodeCount). c.node ∷ c.column ∷ []) (node ∷ column ∷ [])
    (λ c. c.node == node && c.column == column) (λ c. same_pair c.node c.column node column) (λ c. c.count) counts ascend r in_range by_list

pub found_value : (entries : List NodeValue) (node column : ℕ) (kind : Kind) (r : Result ℕ ℕ) → AllPairs (λ a b. value_order a b ≡ Less) entries → IsSearchInRange r (length entries)
    → IsBinarySearchResult (λ v. ordering_then (ordering_then (nat_cmp v.node node) (nat_cmp v.column column)) (nat_cmp (kind_rank v.kind) (kind_rank kind))) entries r
    → MatchResult r (λ i. (d : NodeValue) → value_at entries node column kind ≡ (get_or entries i d).value) (λ i. NodeValue → value_at entries node column kind ≡ 0)
found_value entries node column kind r ascend in_range found =
    let as_list : (v : NodeValue) → ordering_then (ordering_then (nat_cmp v.node node) (nat_cmp v.column column)) (nat_cmp (kind_rank v.kind) (kind_rank kind))
    ≡ slice_cmp nat_cmp (v.node ∷ v.column ∷ kind_rank v.kind ∷ []) (node ∷ column ∷ kind_rank kind ∷ []) =
    λ v. then_grouped (nat_cmp v.node node) (nat_cmp v.column column) (nat_cmp (kind_rank v.kind) (kind_rank kind)) in
    let by_list : IsBinarySearchResult (λ v. slice_cmp nat_cmp (v.node ∷ v.column ∷ kind_rank v.kind ∷ []) (node ∷ column ∷ kind_rank kind ∷ [])) entries r =
    subst (λ (ord : NodeValue → Ordering). IsBinarySearchResult ord entries r) (λ i v. as_list v i) found in
    found_amount nat_list_cmp_total nat_lists_apart (λ (v : NodeValue). v.node ∷ v.column ∷ kind_rank v.kind ∷ []) (node ∷ column ∷ kind_rank kind ∷ [])
    (λ v. v.node == node && (v.column == column && kind_rank v.kind == kind_rank kind)) (λ v. same_triple v.node v.column (kind_rank v.kind) node column (kind_rank kind)) (λ v. v.value) entries ascend r in_range by_list
