-- Counts by node and column, added up one by one.
use Rattle.std.proofs.Common.{◌≡◌, ℕ, suc, ◌+◌, ◌-◌, ◌<◌, ◌≤◌, ◌≢◌, ◌^◌, ◌==◌, ◌&&◌, inl, inr, Bool, true, false, cond, List, [], ◌∷◌, ◌++◌, length, get_or, take, filter, sum_by, All, AllPairs, Less, Equal, Greater, Ordering, refl, sym, ap, ap₂, subst, ◌∙◌, arith, true≢false, length-append, Result, Ok, Err, IfOk, Vec, Global}
use Rattle.std.specs.Cmp.{IsTotalOrder}
use Rattle.std.specs.Cmp.Lexicographic.{slice_cmp}
use Rattle.std.specs.List.Sorted.{IsPermutation, IsSortedBy}
use Rattle.std.specs.Ordering.{nat_cmp, is_lt, ordering_then, ordering_reverse}
use Rattle.std.proofs.Math.ListN.{get_or-append}
use Rattle.std.proofs.Math.Seq.{get_or-append_seam}
use Rattle.std.proofs.lemmas.Bool.{cases_eq, eq-eqb, ne_eqb}
use Rattle.std.proofs.lemmas.Cmp.{nat_list_cmp_total}
use Rattle.std.specs.Cmp.{on_total}
use Rattle.std.proofs.lemmas.List.{take_more, get_or_default}
use Rattle.std.proofs.lemmas.List.Elements.{All-push, All-get_or, filter-append}
use Rattle.std.proofs.lemmas.List.MinMax.{ranks_by}
use Rattle.std.proofs.lemmas.List.Quantifiers.{all_pairs_push}
use Rattle.std.proofs.lemmas.List.Sorted.{sorted_far, All-permutation, sum_by-IsPermutation}
use Rattle.std.proofs.lemmas.List.Sums.{sum_by-cons, sum_by-append, sum_by_more_le}
use Rattle.prof_bytes.specs.declared.fail.Memory.{Memory}
use Rattle.scope_types.specs.Limits.{most_samples}
use Rattle.tree_types.specs.declared.counted_tree.NodeCount.{NodeCount}
use Rattle.tree_types.specs.Tree.{count_order, count_at, counts_in}
use Rattle.path_trie.proofs.Places.{last_cases}
use Rattle.tree_join.proofs.Groups.{nat_equal}
use Rattle.tree_join.specs.private.Sums.{grown, AreSums}

abbrev count_in : NodeCount → ℕ
count_in c = c.count

abbrev pub owns : ℕ → ℕ → NodeCount → Bool
owns node column c = c.node == node && c.column == column

count_order_total : IsTotalOrder count_order
count_order_total = on_total (λ (c : NodeCount). c.node ∷ c.column ∷ []) nat_list_cmp_total

-- ---- sums over lists

filter_sum : (t : NodeCount → Bool) (xs : List NodeCount) → sum_by count_in (filter t xs) ≡ sum_by (λ c. cond (t c) c.count 0) xs
filter_sum t [] = refl
filter_sum t (x ∷ xs) =
    let g : NodeCount → ℕ = λ c. cond (t c) c.count 0 in
    elim (t x) as (λ b. sum_by count_in (cond b (x ∷ filter t xs) (filter t xs)) ≡ cond b x.count 0 + sum_by g xs) [
      | true ↦ sum_by-cons count_in x (filter t xs) ∙ ap (λ (n : ℕ). x.count + n) (filter_sum t xs)
      | false ↦ filter_sum t xs ∙ (omega arith)
    ] ∙ sym (sum_by-cons g x xs)

pub count_moved : (xs ys : List NodeCount) (node column : ℕ) → IsPermutation xs ys → count_at ys node column ≡ count_at xs node column
count_moved xs ys node column moved =
    filter_sum (owns node column) ys ∙ sum_by-IsPermutation (λ (c : NodeCount). cond (owns node column c) c.count 0) xs ys moved ∙ sym (filter_sum (owns node column) xs)

pub count_append : (xs ys : List NodeCount) (node column : ℕ) → count_at (xs ++ ys) node column ≡ count_at xs node column + count_at ys node column
count_append xs ys node column = ap (sum_by count_in) (filter-append (owns node column) xs ys) ∙ sum_by-append count_in (filter (owns node column) xs) (filter (owns node column) ys)

one_count : (c : NodeCount) (node column : ℕ) → count_at (c ∷ []) node column ≡ cond (owns node column c) c.count 0
one_count c node column = filter_sum (owns node column) (c ∷ []) ∙ sum_by-cons (λ (d : NodeCount). cond (owns node column d) d.count 0) c [] ∙ (omega arith)

-- ---- one more

abbrev with_last : List NodeCount → NodeCount → List NodeCount
with_last sums last = sums ++ last ∷ []

order_right : (a b c : NodeCount) → b.node ≡ c.node → b.column ≡ c.column → count_order a b ≡ count_order a c
order_right a b c node column = ap₂ (λ (n h : ℕ). slice_cmp nat_cmp (a.node ∷ a.column ∷ []) (n ∷ h ∷ [])) node column

-- what has been added up: the first counts of a list, and the last sum is of the last of them
pub record SoFar (counts sums : List NodeCount) (last : NodeCount) (k : ℕ) : Type 0 where
  pub are : AreSums (take k counts) (with_last sums last)
  pub node : (d : NodeCount) → last.node ≡ (get_or counts (k - 1) d).node
  pub column : (d : NodeCount) → last.column ≡ (get_or counts (k - 1) d).column

module _ (counts sums : List NodeCount) (last c : NodeCount) (k : ℕ) (so_far : SoFar counts sums last k) (some : 0 < k) (lt : k < length counts) (is : c ≡ get_or counts k c)
    (sorted : AllPairs (λ a b. count_order b a ≢ Less) counts) where
  abbrev front : List NodeCount
  front = take k counts

  more : take (k + 1) counts ≡ front ++ c ∷ []
  more = take_more counts k c lt ∙ ap (λ (x : NodeCount). front ++ x ∷ []) (sym is)

  old_long : length (with_last sums last) ≡ length sums + 1
  old_long = length-append sums (last ∷ [])

  -- all sums come before what the last one comes before
  before_last : (j : ℕ) (d : NodeCount) → j < length sums → count_order (get_or sums j d) last ≡ Less
  before_last j d j_lt =
      ap₂ (λ (a b : NodeCount). count_order a b) (sym (get_or-append sums (last ∷ []) d j j_lt)) (sym (get_or-append_seam sums last [] d))
      ∙ so_far.are.ascend j (length sums) d j_lt (let long = old_long in omega arith)

  sums_up : AllPairs (λ a b. count_order a b ≡ Less) sums
  sums_up i j d below j_lt =
      ap₂ (λ (a b : NodeCount). count_order a b) (sym (get_or-append sums (last ∷ []) d i (omega arith))) (sym (get_or-append sums (last ∷ []) d j j_lt))
      ∙ so_far.are.ascend i j d below (let long = old_long in omega arith)

  -- the same node and column again
  module _ (node : last.node ≡ c.node) (column : last.column ≡ c.column) where
    abbrev sum : NodeCount
    sum = grown last c

    same_up : AllPairs (λ a b. count_order a b ≡ Less) (with_last sums sum)
    same_up = all_pairs_push (λ a b. count_order a b ≡ Less) sums sum sums_up (λ j d j_lt. before_last j d j_lt)

    same_count : (n h : ℕ) → count_at (with_last sums sum) n h ≡ count_at (take (k + 1) counts) n h
    same_count n h =
        let a = count_append sums (sum ∷ []) n h in
        let b = count_append sums (last ∷ []) n h in
        let e = count_append front (c ∷ []) n h in
        let old = so_far.are.same n h in
        let all = ap (λ (l : List NodeCount). count_at l n h) more in
        let x = one_count sum n h in
        let y = one_count last n h in
        let z = one_count c n h in
        let keys : owns n h last ≡ owns n h c = ap₂ (λ (i j : ℕ). (i == n) && (j == h)) node column in
        let parts : cond (owns n h last) (last.count + c.count) 0 ≡ cond (owns n h last) last.count 0 + cond (owns n h c) c.count 0 =
        subst (λ (b : Bool). cond (owns n h last) (last.count + c.count) 0 ≡ cond (owns n h last) last.count 0 + cond b c.count 0) keys (both (owns n h last)) in
        omega arith
      where
        both : (b : Bool) → cond b (last.count + c.count) 0 ≡ cond b last.count 0 + cond b c.count 0
        both true = refl
        both false = omega arith

    same_total : counts_in (with_last sums sum) ≡ counts_in (take (k + 1) counts)
    same_total =
        let a = sum_by-append count_in sums (sum ∷ []) in
        let b = sum_by-append count_in sums (last ∷ []) in
        let e = sum_by-append count_in front (c ∷ []) in
        let old = so_far.are.total in
        let all = ap counts_in more in
        let x = sum_by-cons count_in sum [] in
        let y = sum_by-cons count_in last [] in
        let z = sum_by-cons count_in c [] in
        omega arith

    swapped : (P : NodeCount → Type 0) → (P last → P c → P sum) → All P (with_last sums last) → All P (take (k + 1) counts) → All P (with_last sums sum)
    swapped P keeps old new =
        let own : P last = subst P (get_or-append_seam sums last [] last) (All-get_or P (with_last sums last) (length sums) last (let long = old_long in omega arith) old) in
        let next : P c = at_end P new in
        All-push P sums sum (λ j d j_lt. subst P (get_or-append sums (last ∷ []) d j j_lt) (old j d (let long = old_long in omega arith))) (keeps own next)
      where
        at_end : (P : NodeCount → Type 0) → All P (take (k + 1) counts) → P c
        at_end P all = (let all_more : All P (front ++ c ∷ []) = subst (All P) more all in subst P (get_or-append_seam front c [] c) (all_more (length front) c (let long = length-append front (c ∷ []) in omega arith)))

    front_of : (P : NodeCount → Type 0) → All P (take (k + 1) counts) → All P front
    front_of P all = (let all_more : All P (front ++ c ∷ []) = subst (All P) more all in λ j d j_lt. subst P (get_or-append front (c ∷ []) d j j_lt) (all_more j d (let long = length-append front (c ∷ []) in omega arith)))

    pub same_key : SoFar counts sums sum (k + 1)
    same_key = record {
      are = record {
        ascend = same_up;
        same = same_count;
        total = same_total;
        nodes = λ n all. swapped (λ x. x.node < n) (λ a b. a) (so_far.are.nodes n (front_of (λ x. x.node < n) all)) all;
        columns = λ n all. swapped (λ x. x.column < n) (λ a b. a) (so_far.are.columns n (front_of (λ x. x.column < n) all)) all;
        some = λ all. swapped (λ x. 0 < x.count) (λ a b. omega arith) (so_far.are.some (front_of (λ x. 0 < x.count) all)) all;
      };
      node = λ d. node ∙ ap (λ (x : NodeCount). x.node) (at d);
      column = λ d. column ∙ ap (λ (x : NodeCount). x.column) (at d);
    }
      where
        at : (d : NodeCount) → c ≡ get_or counts (k + 1 - 1) d
        at d = is ∙ get_or_default counts k c d lt ∙ ap (λ (j : ℕ). get_or counts j d) (omega arith)

  -- another node or column
  module _ (apart : (last.node ≡ c.node → last.column ≡ c.column → ⊥)) where
    last_less : count_order last c ≡ Less
    last_less =
        let previous : NodeCount = get_or counts (k - 1) c in
        let in_order : count_order c previous ≢ Less = λ less. sorted (k - 1) k c (omega arith) lt (ap (λ (x : NodeCount). count_order x previous) (sym is) ∙ less) in
        let to_last : count_order c last ≡ count_order c previous = order_right c last previous (so_far.node c) (so_far.column c) in
        elim (count_order last c) as (λ o. count_order last c ≡ o → o ≡ Less) [
          | Less ↦ λ e. refl
          | Equal ↦ λ e. (let keys = tied last c e in absurd (apart keys.0 keys.1))
          | Greater ↦ λ e. absurd (in_order (sym to_last ∙ count_order_total.antisymm c last ∙ ap ordering_reverse e))
        ] refl
      where
        firsts : (o p : Ordering) → ordering_then o p ≡ Equal → (o ≡ Equal) × (p ≡ Equal)
        firsts Less p e = absurd cc
        firsts Equal p e = (refl, e)
        firsts Greater p e = absurd cc

        tied : (a b : NodeCount) → count_order a b ≡ Equal → (a.node ≡ b.node) × (a.column ≡ b.column)
        tied a b e =
            let parts = firsts (nat_cmp a.node b.node) (ordering_then (nat_cmp a.column b.column) Equal) e in
            let rest = firsts (nat_cmp a.column b.column) Equal parts.1 in
            (nat_equal a.node b.node parts.0, nat_equal a.column b.column rest.0)

    new_up : AllPairs (λ a b. count_order a b ≡ Less) (with_last (with_last sums last) c)
    new_up =
        all_pairs_push (λ a b. count_order a b ≡ Less) (with_last sums last) c so_far.are.ascend
        (λ j d j_lt. elim (last_cases j (length sums) (let long = old_long in omega arith)) [
          | inl less ↦ ap (λ (x : NodeCount). count_order x c) (get_or-append sums (last ∷ []) d j less) ∙ count_order_total.trans (get_or sums j d) last c (before_last j d less) last_less
          | inr at ↦ ap (λ (x : NodeCount). count_order x c) (ap (λ (i : ℕ). get_or (with_last sums last) i d) at ∙ get_or-append_seam sums last [] d) ∙ last_less
        ])

    new_all : (P : NodeCount → Type 0) → (All P front → All P (with_last sums last)) → All P (take (k + 1) counts) → All P (with_last (with_last sums last) c)
    new_all P old all =
        let all_more : All P (front ++ c ∷ []) = subst (All P) more all in
        let long = length-append front (c ∷ []) in
        All-push P (with_last sums last) c (old (λ j d j_lt. subst P (get_or-append front (c ∷ []) d j j_lt) (all_more j d (omega arith)))) (subst P (get_or-append_seam front c [] c) (all_more (length front) c (omega arith)))

    pub new_key : SoFar counts (with_last sums last) c (k + 1)
    new_key = record {
      are = record {
        ascend = new_up;
        same = λ n h. count_append (with_last sums last) (c ∷ []) n h ∙ ap (λ (m : ℕ). m + count_at (c ∷ []) n h) (so_far.are.same n h) ∙ sym (count_append front (c ∷ []) n h) ∙ ap (λ (l : List NodeCount). count_at l n h) (sym more);
        total = sum_by-append count_in (with_last sums last) (c ∷ []) ∙ ap (λ (m : ℕ). m + counts_in (c ∷ [])) so_far.are.total ∙ sym (sum_by-append count_in front (c ∷ [])) ∙ ap counts_in (sym more);
        nodes = λ n all. new_all (λ x. x.node < n) (so_far.are.nodes n) all;
        columns = λ n all. new_all (λ x. x.column < n) (so_far.are.columns n) all;
        some = λ all. new_all (λ x. 0 < x.count) so_far.are.some all;
      };
      node = λ d. ap (λ (x : NodeCount). x.node) (at d);
      column = λ d. ap (λ (x : NodeCount). x.column) (at d);
    }
      where
        at : (d : NodeCount) → c ≡ get_or counts (k + 1 - 1) d
        at d = is ∙ get_or_default counts k c d lt ∙ ap (λ (j : ℕ). get_or counts j d) (omega arith)

  pub last_small : counts_in counts ≤ most_samples → last.count + c.count < 2 ^ 32
  last_small few =
      let total = so_far.are.total in
      let parts = sum_by-append count_in sums (last ∷ []) in
      let one = sum_by-cons count_in last [] in
      let all = sum_by_more_le count_in counts k c lt in
      let at = ap count_in is in
      omega arith

-- ---- what a sort leaves

abbrev pair_order : NodeCount → NodeCount → Ordering
pair_order a b = ordering_then (nat_cmp a.node b.node) (nat_cmp a.column b.column)

pair_same : (a b : NodeCount) → pair_order a b ≡ count_order a b
pair_same a b = ap (ordering_then (nat_cmp a.node b.node)) (no_more (nat_cmp a.column b.column))
  where
    no_more : (o : Ordering) → o ≡ ordering_then o Equal
    no_more Less = refl
    no_more Equal = refl
    no_more Greater = refl

pub sorted_pairs : (xs : List NodeCount) → IsSortedBy (λ a b. is_lt (pair_order a b)) xs → AllPairs (λ a b. count_order b a ≢ Less) xs
sorted_pairs xs up i j d below lt less =
    let up_all : IsSortedBy (λ a b. is_lt (count_order a b)) xs = λ k e low high. ap is_lt (sym (pair_same (get_or xs (k + 1) e) (get_or xs k e))) ∙ up k e low high in
    let not_less : is_lt (count_order (get_or xs j d) (get_or xs i d)) ≡ false = sorted_far (λ x y. is_lt (count_order x y)) (ranks_by count_order_total (λ (c : NodeCount). c)) xs up_all i j d (omega arith) lt in
    true≢false (sym (ap is_lt less) ∙ not_less)

pub summed_moved : (old new sums : List NodeCount) → IsPermutation old new → AreSums new sums → AreSums old sums
summed_moved old new sums moved are = record {
  ascend = are.ascend;
  same = λ n h. are.same n h ∙ count_moved old new n h moved;
  total = are.total ∙ sum_by-IsPermutation count_in old new moved;
  nodes = λ n all. are.nodes n (All-permutation (λ c. c.node < n) old new moved all);
  columns = λ n all. are.columns n (All-permutation (λ c. c.column < n) old new moved all);
  some = λ all. are.some (All-permutation (λ c. 0 < c.count) old new moved all);
}

-- ---- a step of the loop

module _ (counts rest sums sums_new : List NodeCount) (first last last_new d : NodeCount) (k : ℕ) (split : counts ≡ first ∷ rest) (so_far : SoFar counts sums last (k + 1)) (lt : k < length rest)
    (sorted : AllPairs (λ a b. count_order b a ≢ Less) counts) (test : Bool) (tested : test ≡ ((last.node == (get_or rest k d).node) && (last.column == (get_or rest k d).column))) where
  abbrev c : NodeCount
  c = get_or rest k d

  in_counts : k + 1 < length counts
  in_counts = (let long = ap (λ (l : List NodeCount). length l) split in omega arith)

  is_next : c ≡ get_or counts (k + 1) c
  is_next = get_or_default rest k d c lt ∙ ap (λ (l : List NodeCount). get_or l (suc k) c) (sym split) ∙ ap (λ (j : ℕ). get_or counts j c) (omega arith)

  pub same_at : test ≡ true → sums_new ≡ sums → last_new ≡ grown last c → SoFar counts sums_new last_new (k + 1 + 1)
  same_at on sums_is last_is =
      let keys = both_true (last.node == c.node) (last.column == c.column) (sym tested ∙ on) in
      subst (λ (l : List NodeCount). SoFar counts l last_new (k + 1 + 1)) (sym sums_is) (subst (λ (x : NodeCount). SoFar counts sums x (k + 1 + 1)) (sym last_is)
      (same_key counts sums last c (k + 1) so_far (omega arith) in_counts is_next sorted (equal last.node c.node keys.0) (equal last.column c.column keys.1)))
    where
      both_true : (s t : Bool) → (s && t) ≡ true → (s ≡ true) × (t ≡ true)
      both_true true t e = (refl, e)
      both_true false t e = absurd cc

      equal : (a b : ℕ) → (a == b) ≡ true → a ≡ b
      equal a b e = elim (cases_eq a b) [ inl same ↦ same | inr apart ↦ absurd (true≢false (sym e ∙ ne_eqb a b apart)) ]

  pub new_at : test ≡ false → sums_new ≡ sums ++ last ∷ [] → last_new ≡ c → SoFar counts sums_new last_new (k + 1 + 1)
  new_at off sums_is last_is =
      subst (λ (l : List NodeCount). SoFar counts l last_new (k + 1 + 1)) (sym sums_is) (subst (λ (x : NodeCount). SoFar counts (sums ++ last ∷ []) x (k + 1 + 1)) (sym last_is)
      (new_key counts sums last c (k + 1) so_far (omega arith) in_counts is_next sorted (λ node column. true≢false (sym (ap₂ (λ (s t : Bool). s && t) (eq-eqb last.node c.node node) (eq-eqb last.column c.column column)) ∙ sym tested ∙ off))))

pub summed_ok : (old new seen : List NodeCount) (r : Result (Vec NodeCount Global) Memory) → IsPermutation old new → seen ≡ new → IfOk r (λ v. AreSums seen v.items) → IfOk r (λ v. AreSums old v.items)
summed_ok old new seen (Ok v) moved is are = summed_moved old new v.items moved (subst (λ (l : List NodeCount). AreSums l v.items) is are)
summed_ok old new seen (Err e) moved is are = tt

-- one count more, first
pub count_cons : (c : NodeCount) (xs : List NodeCount) (node column : ℕ) → count_at (c ∷ xs) node column ≡ cond (owns node column c) c.count 0 + count_at xs node column
count_cons c xs node column = count_append (c ∷ []) xs node column ∙ ap (λ (n : ℕ). n + count_at xs node column) (one_count c node column)

pub moved_from : (start old new : List NodeCount) → old ≡ start → IsPermutation old new → IsPermutation start new
moved_from start old new is moved = subst (λ (l : List NodeCount). IsPermutation l new) is moved
