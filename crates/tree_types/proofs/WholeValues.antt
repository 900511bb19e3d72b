-- The values of a tree are in order, and have the value of each node, column and kind.
use Rattle.std.proofs.Common.{◌≡◌, ℕ, zero, suc, ◌+◌, ◌<◌, ◌≤◌, ◌==◌, ◌&&◌, Bool, true, false, not, cond, List, [], ◌∷◌, ◌++◌, length, filter, sum_by, Less, Equal, All, AllPairs, refl, sym, ap, subst, ◌∙◌, arith, inl, inr}
use Rattle.std.specs.Prelude.{◌≢◌}
use Rattle.std.specs.List.{flat_map, range_with_len}
use Rattle.std.specs.Ordering.{nat_cmp, ordering_then}
use Rattle.std.proofs.lemmas.Bool.{cases_eq, eq-eqb, ne_eqb}
use Rattle.std.proofs.lemmas.Bool.Decides.{nat_tests, eqb_tells}
use Rattle.std.proofs.lemmas.Cmp.{nat_cmp_total, tied_itself}
use Rattle.std.proofs.lemmas.List.Elements.{All-nil, All-cons, All-append, All-weaker, All-head, All-tail, All-filter}
use Rattle.std.proofs.lemmas.List.Kept.{AllPairs-cons, AllPairs-filter}
use Rattle.std.proofs.lemmas.List.Sums.{sum_by-cons}
use Rattle.tree_types.specs.declared.content.Kind.{Kind}
use Rattle.tree_types.specs.declared.content.Kind.TheVariants.{Exclusive, Frame, Inclusive}
use Rattle.tree_types.specs.declared.node_values.NodeValue.{NodeValue}
use Rattle.tree_types.specs.NodeValues.{AreValues, value_order, value_at, kind_rank, node_value, values_for_column, values_at_node, nonzero, values_of}
use Rattle.tree_types.specs.Tree.{CountedTree, node_path, paths_in}
use Rattle.tree_types.specs.Values.{value}
use Rattle.tree_types.proofs.PathsAgain.{sum_by-flat_map}

-- ---- lists put together in order

no_pairs : {Y : Type 0} (R : Y → Y → Type 0) → AllPairs R []
no_pairs R i j d less lt = absurd (omega arith)

module _ {Y : Type 0} (R : Y → Y → Type 0) where
  pairs_tail : (x : Y) (xs : List Y) → AllPairs R (x ∷ xs) → AllPairs R xs
  pairs_tail x xs h i j d less lt = h (suc i) (suc j) d (omega arith) (omega arith)

  pairs_head : (x : Y) (xs : List Y) → AllPairs R (x ∷ xs) → All (R x) xs
  pairs_head x xs h i d lt = h 0 (suc i) d (omega arith) (omega arith)

  pairs_joined : (P Q : Y → Type 0) (xs ys : List Y) → ((x y : Y) → P x → Q y → R x y) → All P xs → All Q ys → AllPairs R xs → AllPairs R ys → AllPairs R (xs ++ ys)
  pairs_joined P Q [] ys below ps qs a b = b
  pairs_joined P Q (x ∷ xs) ys below ps qs a b =
      AllPairs-cons R x (xs ++ ys) (All-append (R x) xs ys (pairs_head x xs a) (All-weaker Q (R x) (λ y q. below x y (All-head P x xs ps) q) ys qs))
      (pairs_joined P Q xs ys below (All-tail P x xs ps) qs (pairs_tail x xs a) b)

  -- lists by a rising number
  module _ (P : Y → Type 0) (key : Y → ℕ) (f : ℕ → List Y) (rises : (x y : Y) → P x → P y → key x < key y → R x y) (own : (j : ℕ) → All (λ y. P y × (key y ≡ j)) (f j)) (each : (j : ℕ) → AllPairs R (f j)) where
    ranged : (a n : ℕ) → All (λ y. P y × (a ≤ key y) × (key y < a + n)) (flat_map f (range_with_len a n)) × AllPairs R (flat_map f (range_with_len a n))
    ranged a zero = (All-nil (λ (y : Y). P y × (a ≤ key y) × (key y < a + 0)), no_pairs R)
    ranged a (suc n) =
        let rest = ranged (a + 1) n in
        let Own : Y → Type 0 = λ y. P y × (key y ≡ a) in
        let Later : Y → Type 0 = λ y. P y × (a + 1 ≤ key y) × (key y < a + 1 + n) in
        let Here : Y → Type 0 = λ y. P y × (a ≤ key y) × (key y < a + suc n) in
        let later : List Y = flat_map f (range_with_len (a + 1) n) in (
          All-append Here (f a) later (All-weaker Own Here (λ y h. let e = h.1 in (h.0, omega arith, omega arith)) (f a) (own a)) (All-weaker Later Here (λ y h. let e = h.1 in let l = h.2 in (h.0, omega arith, omega arith)) later rest.0),
          pairs_joined Own Later (f a) later (λ x y p q. let e = p.1 in let l = q.1 in rises x y p.0 q.0 (omega arith)) (own a) rest.0 (each a) rest.1,
        )

-- ---- the order of values

less_number : (m n : ℕ) → m < n → nat_cmp m n ≡ Less
less_number m n lt = grind (arith, nat_tests)

tied_number : (m n : ℕ) → m ≡ n → nat_cmp m n ≡ Equal
tied_number m n e = ap (nat_cmp m) (sym e) ∙ tied_itself nat_cmp_total m

by_node : (x y : NodeValue) → x.node < y.node → value_order x y ≡ Less
by_node x y lt = ap (λ o. ordering_then o (ordering_then (nat_cmp x.column y.column) (ordering_then (nat_cmp (kind_rank x.kind) (kind_rank y.kind)) Equal))) (less_number x.node y.node lt)

by_column : (x y : NodeValue) → x.node ≡ y.node → x.column < y.column → value_order x y ≡ Less
by_column x y e lt =
    ap (λ o. ordering_then o (ordering_then (nat_cmp x.column y.column) (ordering_then (nat_cmp (kind_rank x.kind) (kind_rank y.kind)) Equal))) (tied_number x.node y.node e)
    ∙ ap (λ o. ordering_then o (ordering_then (nat_cmp (kind_rank x.kind) (kind_rank y.kind)) Equal)) (less_number x.column y.column lt)

by_kind : (x y : NodeValue) → x.node ≡ y.node → x.column ≡ y.column → kind_rank x.kind < kind_rank y.kind → value_order x y ≡ Less
by_kind x y e h lt =
    ap (λ o. ordering_then o (ordering_then (nat_cmp x.column y.column) (ordering_then (nat_cmp (kind_rank x.kind) (kind_rank y.kind)) Equal))) (tied_number x.node y.node e)
    ∙ ap (λ o. ordering_then o (ordering_then (nat_cmp (kind_rank x.kind) (kind_rank y.kind)) Equal)) (tied_number x.column y.column h)
    ∙ ap (λ o. ordering_then o Equal) (less_number (kind_rank x.kind) (kind_rank y.kind) lt)

abbrev Before : NodeValue → NodeValue → Type 0
Before x y = value_order x y ≡ Less

module _ (period : ℕ → ℕ) (t : CountedTree) where
  abbrev one : ℕ → ℕ → Kind → NodeValue
  one = node_value period t

  three_in_order : (node column : ℕ) → AllPairs Before (values_for_column period t node column)
  three_in_order node column =
      let a = one node column Exclusive in let b = one node column Frame in let c = one node column Inclusive in
      AllPairs-cons Before a (b ∷ c ∷ [])
      (All-cons (Before a) b (c ∷ []) (by_kind a b refl refl (omega arith)) (All-cons (Before a) c [] (by_kind a c refl refl (omega arith)) (All-nil (Before a))))
      (AllPairs-cons Before b (c ∷ []) (All-cons (Before b) c [] (by_kind b c refl refl (omega arith)) (All-nil (Before b))) (AllPairs-cons Before c [] (All-nil (Before c)) (no_pairs Before)))

  three_own : (node column : ℕ) → All (λ v. (v.node ≡ node) × (v.column ≡ column)) (values_for_column period t node column)
  three_own node column =
      let P : NodeValue → Type 0 = λ v. (v.node ≡ node) × (v.column ≡ column) in
      All-cons P (one node column Exclusive) (one node column Frame ∷ one node column Inclusive ∷ []) (refl, refl)
      (All-cons P (one node column Frame) (one node column Inclusive ∷ []) (refl, refl) (All-cons P (one node column Inclusive) [] (refl, refl) (All-nil P)))

  node_ranged : (node : ℕ) → All (λ v. (v.node ≡ node) × (0 ≤ v.column) × (v.column < 0 + t.columns)) (values_at_node period t node) × AllPairs Before (values_at_node period t node)
  node_ranged node =
      ranged Before (λ v. v.node ≡ node) (λ v. v.column) (values_for_column period t node) (λ x y p q lt. by_column x y (p ∙ sym q) lt) (three_own node) (three_in_order node) 0 t.columns

  abbrev whole : List NodeValue
  whole = flat_map (values_at_node period t) (range_with_len 0 (length t.nodes))

  all_ranged : All (λ v. (v.column < t.columns) × (0 ≤ v.node) × (v.node < 0 + length t.nodes)) whole × AllPairs Before whole
  all_ranged =
      ranged Before (λ v. v.column < t.columns) (λ v. v.node) (values_at_node period t) (λ x y p q lt. by_node x y lt)
      (λ node. All-weaker (λ (v : NodeValue). (v.node ≡ node) × (0 ≤ v.column) × (v.column < 0 + t.columns)) (λ v. (v.column < t.columns) × (v.node ≡ node)) (λ v h. let l = h.2 in (omega arith, h.0)) (values_at_node period t node) (node_ranged node).0)
      (λ node. (node_ranged node).1) 0 (length t.nodes)

  all_some : (vs : List NodeValue) → All (λ v. 0 < v.value) (nonzero vs)
  all_some [] = All-nil (λ (v : NodeValue). 0 < v.value)
  all_some (v ∷ vs) = elim (eqb_tells v.value 0) as (λ _. All (λ v. 0 < v.value) (cond (not (v.value == 0)) (v ∷ nonzero vs) (nonzero vs))) [
    | inl none ↦ subst (λ b. All (λ v. 0 < v.value) (cond (not b) (v ∷ nonzero vs) (nonzero vs))) (sym none.0) (all_some vs)
    | inr some ↦ subst (λ b. All (λ v. 0 < v.value) (cond (not b) (v ∷ nonzero vs) (nonzero vs))) (sym some.0) (All-cons (λ (v : NodeValue). 0 < v.value) v (nonzero vs) (above v.value some.1) (all_some vs))
  ]
    where
      above : (n : ℕ) → n ≢ 0 → 0 < n
      above n apart = omega arith

  pub are_values : AreValues (values_of period t)
  unfolding values_of
  are_values = record {
    nodes = All-filter (λ (v : NodeValue). not (v.value == 0)) (λ v. v.node < length t.nodes) whole (All-weaker (λ (v : NodeValue). (v.column < t.columns) × (0 ≤ v.node) × (v.node < 0 + length t.nodes)) (λ v. v.node < length t.nodes) (λ v h. let l = h.2 in omega arith) whole all_ranged.0);
    columns = All-filter (λ (v : NodeValue). not (v.value == 0)) (λ v. v.column < t.columns) whole (All-weaker (λ (v : NodeValue). (v.column < t.columns) × (0 ≤ v.node) × (v.node < 0 + length t.nodes)) (λ v. v.column < t.columns) (λ v h. h.0) whole all_ranged.0);
    some = all_some whole;
    ascend = AllPairs-filter Before (λ v. not (v.value == 0)) whole all_ranged.1;
  }

  -- ---- the value of a node, column and kind

  module _ (node column : ℕ) (kind : Kind) where
    abbrev mine : NodeValue → Bool
    mine v = v.node == node && (v.column == column && kind_rank v.kind == kind_rank kind)

    abbrev amount : NodeValue → ℕ
    amount v = cond (mine v) v.value 0

    kept_amount : (vs : List NodeValue) → sum_by (λ v. v.value) (filter mine (nonzero vs)) ≡ sum_by amount vs
    kept_amount [] = refl
    kept_amount (v ∷ vs) =
        let rest = kept_amount vs in
        let parts = sum_by-cons amount v vs in
        elim (eqb_tells v.value 0) as (λ _. sum_by (λ v. v.value) (filter mine (cond (not (v.value == 0)) (v ∷ nonzero vs) (nonzero vs))) ≡ amount v + sum_by amount vs) [
          | inl none ↦
              let nothing : amount v ≡ 0 = drop (mine v) none.1 in
              ap (λ b. sum_by (λ v. v.value) (filter mine (cond (not b) (v ∷ nonzero vs) (nonzero vs)))) none.0 ∙ omega (arith, rest, nothing)
          | inr some ↦
              ap (λ b. sum_by (λ v. v.value) (filter mine (cond (not b) (v ∷ nonzero vs) (nonzero vs)))) some.0
              ∙ elim (mine v) as (λ b. sum_by (λ v. v.value) (cond b (v ∷ filter mine (nonzero vs)) (filter mine (nonzero vs))) ≡ cond b v.value 0 + sum_by amount vs) [
                | true ↦ (let first = sum_by-cons (λ (v : NodeValue). v.value) v (filter mine (nonzero vs)) in omega (arith, first, rest))
                | false ↦ omega (arith, rest)
              ]
        ] ∙ sym parts
      where
        drop : (b : Bool) → v.value ≡ 0 → cond b v.value 0 ≡ 0
        drop true e = e
        drop false e = refl

    three_amounts : (n h : ℕ) → sum_by amount (values_for_column period t n h) ≡ amount (one n h Exclusive) + amount (one n h Frame) + amount (one n h Inclusive)
    three_amounts n h =
        let a = sum_by-cons amount (one n h Exclusive) (one n h Frame ∷ one n h Inclusive ∷ []) in
        let b = sum_by-cons amount (one n h Frame) (one n h Inclusive ∷ []) in
        let c = sum_by-cons amount (one n h Inclusive) [] in
        omega (arith, a, b, c)

    other_node : (n h : ℕ) → n ≢ node → sum_by amount (values_for_column period t n h) ≡ 0
    other_node n h apart =
        let no : (k : Kind) → amount (one n h k) ≡ 0 = λ k. ap (λ b. cond (b && (h == column && kind_rank k == kind_rank kind)) (one n h k).value 0) (ne_eqb n node apart) in
        let a = no Exclusive in let b = no Frame in let c = no Inclusive in
        three_amounts n h ∙ omega (arith, a, b, c)

    other_column : (n h : ℕ) → h ≢ column → sum_by amount (values_for_column period t n h) ≡ 0
    other_column n h apart =
        let no : (k : Kind) → amount (one n h k) ≡ 0 = λ k.
        ap (λ b. cond (n == node && (b && kind_rank k == kind_rank kind)) (one n h k).value 0) (ne_eqb h column apart) ∙ ap (λ b. cond b (one n h k).value 0) (and_false (n == node)) in
        let a = no Exclusive in let b = no Frame in let c = no Inclusive in
        three_amounts n h ∙ omega (arith, a, b, c)
      where
        and_false : (b : Bool) → (b && false) ≡ false
        and_false true = refl
        and_false false = refl

    own_amount : sum_by amount (values_for_column period t node column) ≡ value (period column) (paths_in t) column (node_path t.nodes node) kind
    own_amount =
        let is : (k : Kind) → amount (one node column k) ≡ cond (kind_rank k == kind_rank kind) (one node column k).value 0 = λ k.
        ap (λ b. cond (b && (column == column && kind_rank k == kind_rank kind)) (one node column k).value 0) (eq-eqb node node refl) ∙ ap (λ b. cond (b && kind_rank k == kind_rank kind) (one node column k).value 0) (eq-eqb column column refl) in
        let a = is Exclusive in let b = is Frame in let c = is Inclusive in
        three_amounts node column ∙ (λ i. a i + b i + c i) ∙ by_case kind
      where
        by_case : (kind : Kind) → cond (0 == kind_rank kind) (one node column Exclusive).value 0 + cond (1 == kind_rank kind) (one node column Frame).value 0 + cond (2 == kind_rank kind) (one node column Inclusive).value 0 ≡ (one node column kind).value
        by_case Exclusive = omega arith
        by_case Frame = omega arith
        by_case Inclusive = omega arith

    no_sum : (f : ℕ → ℕ) (a n : ℕ) → ((j : ℕ) → a ≤ j → f j ≡ 0) → sum_by f (range_with_len a n) ≡ 0
    no_sum f a zero none = refl
    no_sum f a (suc n) none = (let first = sum_by-cons f a (range_with_len (a + 1) n) in let here = none a (omega arith) in let rest = no_sum f (a + 1) n (λ j le. none j (omega arith)) in omega (arith, first, here, rest))

    sum_one : (f : ℕ → ℕ) (x a n : ℕ) → a ≤ x → x < a + n → ((j : ℕ) → j ≢ x → f j ≡ 0) → sum_by f (range_with_len a n) ≡ f x
    sum_one f x a zero le lt none = absurd (omega arith)
    sum_one f x a (suc n) le lt none =
        let first = sum_by-cons f a (range_with_len (a + 1) n) in
        elim (cases_eq a x) [
          | inl same ↦ (let here = ap f same in let rest = no_sum f (a + 1) n (λ j ge. none j (λ e. absurd (omega arith))) in omega (arith, first, here, rest))
          | inr apart ↦ (let here = none a apart in let rest = sum_one f x (a + 1) n (above a x apart le) (omega arith) none in omega (arith, first, here, rest))
        ]
      where
        above : (a x : ℕ) → a ≢ x → a ≤ x → a + 1 ≤ x
        above a x apart le = omega arith

    pub value_is : node < length t.nodes → column < t.columns → value_at (values_of period t).entries node column kind ≡ value (period column) (paths_in t) column (node_path t.nodes node) kind
    unfolding values_of
    value_is ltn lth =
        let at_node : (n : ℕ) → sum_by amount (values_at_node period t n) ≡ sum_by (λ h. sum_by amount (values_for_column period t n h)) (range_with_len 0 t.columns) = λ n.
        sum_by-flat_map amount (values_for_column period t n) (range_with_len 0 t.columns) in
        kept_amount whole
        ∙ sum_by-flat_map amount (values_at_node period t) (range_with_len 0 (length t.nodes))
        ∙ sum_one (λ n. sum_by amount (values_at_node period t n)) node 0 (length t.nodes) (omega arith) (omega arith)
        (λ n apart. at_node n ∙ no_sum (λ h. sum_by amount (values_for_column period t n h)) 0 t.columns (λ h le. other_node n h apart))
        ∙ at_node node
        ∙ sum_one (λ h. sum_by amount (values_for_column period t node h)) column 0 t.columns (omega arith) (omega arith) (λ h apart. other_column node h apart)
        ∙ own_amount

pub ruleset value_laws = (are_values, value_is)
