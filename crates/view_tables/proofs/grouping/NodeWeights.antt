-- What the nodes weigh, and what is left where the nodes without a frame have passed their weights up.
use Rattle.std.proofs.Common.{◌≡◌, ℕ, zero, suc, ◌+◌, ◌*◌, ◌<◌, ◌≤◌, ◌^◌, Bool, true, false, cond, List, [], ◌∷◌, ◌++◌, length, get_or, take, count_by, sum_by, refl, sym, ap, subst, ◌∙◌, arith, inl, inr, true≢false, mul-add, mul-zero, take_all, length-append}
use Rattle.std.specs.Prelude.{reverse, set, slice_index}
use Rattle.std.proofs.Math.ListN.{get_or-eq_default}
use Rattle.std.proofs.lemmas.Bool.{cases_eq, cases_lt, lt-ltb, le-ltb}
use Rattle.std.proofs.lemmas.List.{get_or_default, get_or_push, get_or_append_left, get_or-set_same, get_or-set_other, length-set}
use Rattle.std.proofs.lemmas.List.Sums.{sum_by-cons, sum_by_more}
use Rattle.scope_types.specs.CallPaths.{ColumnPath}
use Rattle.tree_types.specs.declared.content.Content.{Content}
use Rattle.tree_types.specs.declared.content.ContextEntry.{ContextEntry}
use Rattle.tree_types.specs.declared.content.Kind.TheVariants.{Exclusive}
use Rattle.tree_types.specs.declared.content.Node.{Node}
use Rattle.tree_types.specs.Database.{content_of, naming_in}
use Rattle.tree_types.specs.Nodes.{nodes}
use Rattle.tree_types.specs.OfContent.{IsProfile}
use Rattle.tree_types.specs.Paths.{Path}
use Rattle.tree_types.specs.PathsOf.{paths_of, tree_paths}
use Rattle.tree_types.specs.TopDown.{over_columns}
use Rattle.tree_types.specs.Values.{count_below, ends_here, columns_below}
use Rattle.tree_types.proofs.ContentParts.{own_nodes}
use Rattle.tree_types.proofs.Counting.{one, sum_by-add, sum_by-zero}
use Rattle.tree_types.proofs.PathsAgain.{all_count, from_all, sum_by-map}
use Rattle.tree_types.proofs.Totals.{times}
use Rattle.tree_types.proofs.TreePaths.{tree_paths_is}
use Rattle.view_tables.specs.declared.groups.occurrence.View.{View}
use Rattle.view_tables.specs.declared.groups.occurrence.View.TheVariants.{Callers, Flat}
use Rattle.view_tables.specs.Views.{Sequences}
use Rattle.view_tables.specs.private.groups.Frames.{AreCosts, ArePrefixSums, AreWeights, weight_moved, parent_at, sum_below, weight_if, weighed}
use Rattle.view_tables.specs.private.groups.Occurrences.{has_frame, sample_at, view_sample, ups}
use Rattle.view_tables.specs.private.Values.{amount, path_of_node, total_value}
use Rattle.view_tables.proofs.EntrySums.{as_many_lists, as_many_nodes, value_is, value_within}
use Rattle.view_tables.proofs.grouping.Covered.{sum_at, sum_more, sum_none, sum_same}
use Rattle.view_tables.proofs.grouping.Cuts.{no_frame_skips}
use Rattle.view_tables.proofs.grouping.Descendants.{parent_less}
use Rattle.view_tables.proofs.grouping.Ups.{ups_at, ups_past}

-- ---- sums over lists

pub sum_list : {X : Type 0} (g : X → ℕ) (xs : List X) (d : X) (k : ℕ) → k ≤ length xs → sum_by g (take k xs) ≡ sum_below (λ j. g (get_or xs j d)) k
sum_list g xs d zero le = sym (sum_none (λ j. g (get_or xs j d)))
sum_list g xs d (suc k) le =
    let e : suc k ≡ k + 1 = omega arith in
    ap (λ (n : ℕ). sum_by g (take n xs)) e ∙ sum_by_more g xs k d (omega arith)
    ∙ ap (λ (n : ℕ). n + g (get_or xs k d)) (sum_list g xs d k (omega arith))
    ∙ sym (sum_more (λ j. g (get_or xs j d)) k) ∙ ap (sum_below (λ j. g (get_or xs j d))) (sym e)

module _ {X Y : Type 0} (p : ℕ) (b : Y → Bool) (k : X → Y → ℕ) (xs : List X) where
  one_part : (t : Bool) (y : Y) → p * sum_by (λ x. one t * k x y) xs ≡ cond t (sum_by (λ x. p * k x y) xs) 0
  one_part true y = (λ i. p * sum_by (λ x. once (k x y) i) xs) ∙ times p (λ x. k x y) xs
    where
      once : (n : ℕ) → 1 * n ≡ n
      once n = omega arith
  one_part false y = (λ i. p * sum_by (λ x. never (k x y) i) xs) ∙ ap (λ n. p * n) (sum_by-zero xs) ∙ mul-zero p
    where
      never : (n : ℕ) → 0 * n ≡ 0
      never n = omega arith

  -- a product with sums over both lists is a sum over the second
  pub sums_turned : (ys : List Y) → p * sum_by (λ x. sum_by (λ y. one (b y) * k x y) ys) xs ≡ sum_by (λ y. cond (b y) (sum_by (λ x. p * k x y) xs) 0) ys
  sums_turned [] = ap (λ n. p * n) (sum_by-zero xs) ∙ mul-zero p
  sums_turned (y ∷ ys) =
      let f : X → ℕ = λ x. one (b y) * k x y in
      let g : X → ℕ = λ x. sum_by (λ z. one (b z) * k x z) ys in
      (λ i. p * sum_by (λ x. sum_by-cons (λ z. one (b z) * k x z) y ys i) xs)
      ∙ ap (λ n. p * n) (sum_by-add f g xs) ∙ mul-add p (sum_by f xs) (sum_by g xs)
      ∙ (λ i. one_part (b y) y i + sums_turned ys i)
      ∙ sym (sum_by-cons (λ z. cond (b z) (sum_by (λ x. p * k x z) xs) 0) y ys)

-- ---- the exclusive values

pub ups_is : (c : Content) (number : ℕ) → IsProfile c → ups c number ≡ reverse (path_of_node c number)
ups_is c number profile =
    let many = as_many_nodes c profile in
    let few = profile.nodes in
    ap (λ (ps : List Path). reverse (get_or ps number [])) (ap tree_paths (own_nodes c profile.own) ∙ tree_paths_is (paths_of c) (omega (arith, many, few)))

counts_are : (c : Content) (q : ColumnPath → Bool) → IsProfile c
    → count_by q (paths_of c) ≡ sum_by (λ h. sum_by (λ m. one (q (record { column = h; path = m })) * count_below ends_here (paths_of c) h m) (nodes (paths_of c))) (columns_below c.columns)
unfolding content_of paths_of
counts_are c q profile =
    let many = as_many_nodes c profile in
    let few = profile.nodes in
    ap (λ (x : Content). count_by q (paths_of x)) (sym profile.own)
    ∙ from_all (λ column. c.period) (paths_of c) (λ column. profile.period) q c.columns (omega (arith, many, few))

-- the values of all samples whose paths pass
pub costs_weigh : (c : Content) (costs : List ℕ) (q : Path → Bool) → IsProfile c → AreCosts c costs → length costs ≡ length c.nodes
    → c.period * count_by (λ p. q (reverse p.path)) (paths_of c) ≡ weighed (λ number. q (ups c number)) costs (length c.nodes)
costs_weigh c costs q profile are long =
    let ps : List ColumnPath = paths_of c in
    let ns : List Path = nodes ps in
    let many = as_many_nodes c profile in
    let g : Path → ℕ = λ m. cond (q (reverse m)) (over_columns c.period c.columns ps m Exclusive) 0 in
    ap (λ n. c.period * n) (counts_are c (λ p. q (reverse p.path)) profile)
    ∙ sums_turned c.period (λ (m : Path). q (reverse m)) (λ h m. count_below ends_here ps h m) (columns_below c.columns) ns
    ∙ ap (sum_by g) (sym (take_all (length ns) ns (omega arith)))
    ∙ sum_list g ns [] (length ns) (omega arith)
    ∙ sum_same (λ j. g (get_or ns j [])) (weight_if (λ number. q (ups c number)) costs) (length ns)
    (λ j lt. (λ i. cond (q (sym (ups_is c j profile) i)) (sym (are.each j (omega (arith, lt, many, long))) i) 0))
    ∙ ap (weighed (λ number. q (ups c number)) costs) (sym many)

pub no_costs : (c : Content) → AreCosts c []
no_costs c = record { each = λ number lt. absurd (omega arith) }

pub costs_more : (c : Content) (costs : List ℕ) (number cost : ℕ) (entries : List ContextEntry) → IsProfile c → AreCosts c costs → number ≡ length costs → number < length c.nodes
    → entries ≡ get_or c.contexts number [] → cost ≡ sum_by (amount Exclusive) entries → AreCosts c (costs ++ cost ∷ [])
costs_more c costs number cost entries profile are next lt at is =
    let more : length (costs ++ cost ∷ []) ≡ length costs + 1 = length-append costs (cost ∷ []) in
    let own : cost ≡ over_columns c.period c.columns (paths_of c) (path_of_node c number) Exclusive = is ∙ ap (sum_by (amount Exclusive)) at ∙ value_is c number Exclusive profile lt in
    record {
      each = λ k inside. elim (cases_lt k (length costs)) [
        | inl old ↦ get_or_append_left costs (cost ∷ []) 0 k old ∙ are.each k old
        | inr ge ↦
            let same : k ≡ length costs = omega (arith, more, inside, ge) in
            get_or_push costs cost 0 k (sym same) ∙ own ∙ ap (λ (j : ℕ). over_columns c.period c.columns (paths_of c) (path_of_node c j) Exclusive) (next ∙ sym same)
      ];
    }

pub cost_few : (c : Content) (number : ℕ) (entries : List ContextEntry) → IsProfile c → number < length c.nodes → total_value c ≤ 2 ^ 52 → entries ≡ get_or c.contexts number [] → sum_by (amount Exclusive) entries ≤ 2 ^ 52
cost_few c number entries profile lt small at =
    let few = value_within c number Exclusive profile lt in
    let is = ap (sum_by (amount Exclusive)) at in
    omega (arith, few, is, small)

pub ruleset cost_steps = (no_costs, costs_more, cost_few, as_many_lists)

-- ---- weights that move

pub weights_first : (view : View) (c : Content) (costs : List ℕ) (from : ℕ) → IsProfile c → AreCosts c costs → length costs ≡ length c.nodes → from ≡ length c.nodes → AreWeights view c from costs
weights_first view c costs from profile are long end = record {
  long = long;
  samples = λ test none.
      ap (λ n. c.period * n) (sum_by-map (λ (s : Sequences). one (test s)) (λ (p : ColumnPath). view_sample view (naming_in c.names) (reverse p.path)) (paths_of c))
      ∙ costs_weigh c costs (λ p. test (view_sample view (naming_in c.names) p)) profile are long;
  none = λ number low plain. get_or-eq_default costs 0 (omega (arith, long, low, end));
  few = (
      let all = costs_weigh c costs (λ p. true) profile are long in
      let count = ap (λ n. c.period * n) (all_count (paths_of c)) in
      omega (arith, all, count)
      );
}

weigh_set : (t : ℕ → Bool) (ws : List ℕ) (i y n : ℕ) → i < n → n ≤ length ws → weighed t (set ws i y) n + cond (t i) (get_or ws i 0) 0 ≡ weighed t ws n + cond (t i) y 0
weigh_set t ws i y zero lt le = absurd (omega arith)
weigh_set t ws i y (suc n) lt le =
    let e : suc n ≡ n + 1 = omega arith in
    let a = ap (weighed t (set ws i y)) e ∙ sum_more (weight_if t (set ws i y)) n in
    let b = ap (weighed t ws) e ∙ sum_more (weight_if t ws) n in
    elim (cases_eq n i) [
      | inl same ↦
          let new : weight_if t (set ws i y) n ≡ cond (t i) y 0 = ap (weight_if t (set ws i y)) same ∙ ap (λ v. cond (t i) v 0) (get_or-set_same ws i y 0 (omega (arith, lt, le))) in
          let old : weight_if t ws n ≡ cond (t i) (get_or ws i 0) 0 = ap (weight_if t ws) same in
          let rest : weighed t (set ws i y) n ≡ weighed t ws n = sum_same (weight_if t (set ws i y)) (weight_if t ws) n (λ j less. ap (λ v. cond (t j) v 0) (get_or-set_other ws i j y 0 (λ z. absurd (omega (arith, less, same, z))))) in
          omega (arith, a, b, new, old, rest)
      | inr apart ↦
          let other : weight_if t (set ws i y) n ≡ weight_if t ws n = ap (λ v. cond (t n) v 0) (get_or-set_other ws i n y 0 apart) in
          let rest = weigh_set t ws i y n (omega (arith, apart, lt)) (omega arith) in
          omega (arith, a, b, other, rest)
    ]

-- a weight that moves to where the same is told of it
weigh_moved : (t : ℕ → Bool) (ws : List ℕ) (number to : ℕ) → number < length ws → to < length ws → t number ≡ t to
    → weighed t (set (set ws number 0) to (get_or (set ws number 0) to 0 + get_or ws number 0)) (length ws) ≡ weighed t ws (length ws)
weigh_moved t ws number to lt inside same =
    let one : List ℕ = set ws number 0 in
    let long : length one ≡ length ws = length-set ws number 0 in
    let first = weigh_set t ws number 0 (length ws) lt (omega arith) in
    let second = weigh_set t one to (get_or one to 0 + get_or ws number 0) (length ws) inside (omega (arith, long)) in
    let here = ap (λ b. cond b (get_or ws number 0) 0) same in
    let zero_here : ◌≡◌ {A = ℕ} (cond (t number) 0 0) 0 = elim (t number) as (λ b. ◌≡◌ {A = ℕ} (cond b 0 0) 0) [ true ↦ refl | false ↦ refl ] in
    let parts : cond (t to) (get_or one to 0 + get_or ws number 0) 0 ≡ cond (t to) (get_or one to 0) 0 + cond (t to) (get_or ws number 0) 0 =
    elim (t to) as (λ b. cond b (get_or one to 0 + get_or ws number 0) 0 ≡ cond b (get_or one to 0) 0 + cond b (get_or ws number 0) 0) [ true ↦ refl | false ↦ refl ] in
    omega (arith, first, second, here, zero_here, parts)

pub no_sample : (view : View) (c : Content) (number : ℕ) → length c.nodes ≤ number → sample_at view c number ≡ []
no_sample view c number past = ap (λ (p : Path). view_sample view (naming_in c.names) p) (ups_past c number past) ∙ of_view view
  where
    of_view : (v : View) → view_sample v (naming_in c.names) [] ≡ []
    of_view Callers = refl
    of_view Flat = refl

module _ (view : View) (c : Content) (ws : List ℕ) (number : ℕ) (d : Node) (profile : IsProfile c) (are : AreWeights view c (number + 1) ws) (lt : number < length c.nodes) (plain : has_frame view (ups c number) ≡ false) where
  abbrev to : ℕ
  to = (get_or c.nodes number d).parent

  inside : number < length ws
  inside = (let long = are.long in omega (arith, long, lt))

  same : sample_at view c number ≡ sample_at view c to
  same = no_frame_skips view (naming_in c.names) (ups c number) (get_or c.nodes number d).scope (ups c to) (ups_at c number d profile lt) plain

  abbrev once : List ℕ
  once = set ws number 0

  abbrev twice : List ℕ
  twice = set once to (get_or once to 0 + get_or ws number 0)

  cleared : length ws ≤ to → AreWeights view c number once
  cleared past =
      let long = are.long in
      let change : (t : ℕ → Bool) → weighed t once (length c.nodes) + cond (t number) (get_or ws number 0) 0 ≡ weighed t ws (length c.nodes) + cond (t number) 0 0 =
      λ t. weigh_set t ws number 0 (length c.nodes) lt (omega (arith, long)) in
      record {
        long = length-set ws number 0 ∙ long;
        samples = λ test none.
            let out : test (sample_at view c number) ≡ false = ap test (same ∙ no_sample view c to (omega (arith, long, past))) ∙ none in
            let change_t = change (λ j. test (sample_at view c j)) in
            let gone : cond (test (sample_at view c number)) (get_or ws number 0) 0 ≡ 0 = ap (λ b. cond {A = ℕ} b (get_or ws number 0) 0) out in
            let nothing : ◌≡◌ {A = ℕ} (cond (test (sample_at view c number)) 0 0) 0 = ap (λ b. cond {A = ℕ} b 0 0) out in
            let before = are.samples test none in
            omega (arith, change_t, gone, nothing, before);
        none = λ k low other. elim (cases_eq k number) [
          | inl e ↦ ap (λ (j : ℕ). get_or once j 0) e ∙ get_or-set_same ws number 0 0 inside
          | inr apart ↦ get_or-set_other ws number k 0 0 apart ∙ are.none k (omega (arith, low, apart)) other
        ];
        few = (
            let change_t = change (λ j. true) in
            let few = are.few in
            omega (arith, change_t, few)
            );
      }

  passed : to < length ws → AreWeights view c number twice
  passed to_inside =
      let long = are.long in
      let up : to < number = parent_less_of in
      let whole : (t : ℕ → Bool) → t number ≡ t to → weighed t twice (length c.nodes) ≡ weighed t ws (length c.nodes) =
      λ t e. ap (weighed t twice) (sym long) ∙ weigh_moved t ws number to inside to_inside e ∙ ap (weighed t ws) long in
      record {
        long = length-set once to (get_or once to 0 + get_or ws number 0) ∙ length-set ws number 0 ∙ long;
        samples = λ test none. are.samples test none ∙ sym (whole (λ j. test (sample_at view c j)) (ap test same));
        none = λ k low other.
            get_or-set_other once to k (get_or once to 0 + get_or ws number 0) 0 (λ e. absurd (omega (arith, up, low, e)))
            ∙ elim (cases_eq k number) [
              | inl e ↦ ap (λ (j : ℕ). get_or once j 0) e ∙ get_or-set_same ws number 0 0 inside
              | inr apart ↦ get_or-set_other ws number k 0 0 apart ∙ are.none k (omega (arith, low, apart)) other
            ];
        few = (let all = whole (λ j. true) refl in let few = are.few in omega (arith, all, few));
      }
    where
      parent_less_of : to < number
      parent_less_of = (
          let long = are.long in
          let at : parent_at c number ≡ to = ap (λ (n : Node). n.parent) (get_or_default c.nodes number _ d lt) in
          let less = parent_less c number profile lt (omega (arith, at, to_inside, long)) in
          omega (arith, at, less)
          )

  pub weights_moved : AreWeights view c number (weight_moved ws number to)
  weights_moved = elim (cases_lt to (length ws)) [
    | inl lt_to ↦ subst (λ b. AreWeights view c number (cond b twice once)) (sym (lt-ltb to (length ws) lt_to)) (passed lt_to)
    | inr past ↦ subst (λ b. AreWeights view c number (cond b twice once)) (sym (le-ltb to (length ws) past)) (cleared past)
  ]

pub weights_stay : (view : View) (c : Content) (ws : List ℕ) (number : ℕ) → AreWeights view c (number + 1) ws → has_frame view (ups c number) ≡ true → AreWeights view c number ws
weights_stay view c ws number are there = record {
  long = are.long;
  samples = are.samples;
  none = λ k low plain. elim (cases_eq k number) [
    | inl e ↦ absurd (true≢false (sym there ∙ ap (λ (j : ℕ). has_frame view (ups c j)) (sym e) ∙ plain))
    | inr apart ↦ are.none k (omega (arith, low, apart)) plain
  ];
  few = are.few;
}

pub weights_small : (view : View) (c : Content) (from : ℕ) (ws : List ℕ) → AreWeights view c from ws → total_value c ≤ 2 ^ 52 → sum_below (slice_index ws) (length ws) ≤ 2 ^ 52
weights_small view c from ws are small =
    let few = are.few in
    let long = ap (sum_below (slice_index ws)) are.long in
    omega (arith, few, long, small)

one_small : (ws : List ℕ) (i : ℕ) → i < length ws → sum_below (slice_index ws) (length ws) ≤ 2 ^ 52 → get_or ws i 0 ≤ 2 ^ 52
one_small ws i lt small = let at = sum_at (slice_index ws) i (length ws) lt in omega (arith, at, small)

-- a weight and what it is moved to
pub both_small : (ws : List ℕ) (number to x y : ℕ) → number < length ws → to < length ws → sum_below (slice_index ws) (length ws) ≤ 2 ^ 52
    → x ≡ get_or (set ws number 0) to x → y ≡ get_or ws number y → x + y < 2 ^ 64
both_small ws number to x y lt inside small is from =
    let moving = one_small ws number lt small in
    let there : get_or (set ws number 0) to 0 ≤ 2 ^ 52 = elim (cases_eq to number) [
      | inl same ↦ (let z : get_or (set ws number 0) to 0 ≡ 0 = ap (λ (j : ℕ). get_or (set ws number 0) j 0) same ∙ get_or-set_same ws number 0 0 lt in omega (arith, z))
      | inr apart ↦ (let z = get_or-set_other ws number to 0 0 apart in let o = one_small ws to inside small in omega (arith, z, o))
    ] in
    let long = length-set ws number 0 in
    let is_there = is ∙ get_or_default (set ws number 0) to x 0 (omega (arith, inside, long)) in
    let is_moving = from ∙ get_or_default ws number y 0 lt in
    omega (arith, moving, there, is_there, is_moving)

pub ruleset weight_steps = (weights_first, weights_moved, weights_stay, weights_small, as_many_lists)

-- ---- sums

pub record AreSumsTo (ws : List ℕ) (upto : ℕ) (sums : List ℕ) : Type 0 where
  pub long : length sums ≡ upto + 1
  pub each : (number : ℕ) → number ≤ upto → get_or sums number 0 ≡ sum_below (slice_index ws) number

pub sums_first : (ws sums : List ℕ) → sums ≡ 0 ∷ [] → AreSumsTo ws 0 sums
sums_first ws sums is = record {
  long = ap length is;
  each = λ number le.
      let e : number ≡ 0 = omega arith in
      ap (λ (j : ℕ). get_or sums j 0) e ∙ ap (λ (l : List ℕ). get_or l 0 0) is ∙ sym (sum_none (slice_index ws)) ∙ ap (sum_below (slice_index ws)) (sym e);
}

pub sums_more : (ws sums : List ℕ) (i sum : ℕ) → AreSumsTo ws i sums → sum ≡ sum_below (slice_index ws) i + get_or ws i 0 → AreSumsTo ws (i + 1) (sums ++ sum ∷ [])
sums_more ws sums i sum are is =
    let old = are.long in
    let more : length (sums ++ sum ∷ []) ≡ length sums + 1 = length-append sums (sum ∷ []) in
    record {
      long = omega (arith, old, more);
      each = λ number le. elim (cases_lt number (length sums)) [
        | inl lt ↦ get_or_append_left sums (sum ∷ []) 0 number lt ∙ are.each number (omega (arith, old, lt))
        | inr ge ↦
            let e : number ≡ length sums = omega (arith, old, le, ge) in
            let f : i + 1 ≡ number = omega (arith, old, e) in
            get_or_push sums sum 0 number (sym e) ∙ is ∙ sym (sum_more (slice_index ws) i) ∙ ap (sum_below (slice_index ws)) f
      ];
    }

pub sum_next : (ws : List ℕ) (i sum : ℕ) → sum ≡ sum_below (slice_index ws) i → sum + get_or ws i 0 ≡ sum_below (slice_index ws) (i + 1)
sum_next ws i sum is = ap (λ (n : ℕ). n + get_or ws i 0) is ∙ sym (sum_more (slice_index ws) i)

pub sum_within : (ws : List ℕ) (i sum : ℕ) → i < length ws → sum ≡ sum_below (slice_index ws) i → sum_below (slice_index ws) (length ws) ≤ 2 ^ 52 → sum + get_or ws i 0 ≤ 2 ^ 52
sum_within ws i sum lt is small = let at = sum_at (slice_index ws) i (length ws) lt in omega (arith, at, is, small)

pub sums_all : (ws sums : List ℕ) (i : ℕ) → AreSumsTo ws i sums → i ≡ length ws → ArePrefixSums ws sums
sums_all ws sums i are end = record {
  long = are.long ∙ ap (λ (n : ℕ). n + 1) end;
  each = λ number le. are.each number (omega (arith, le, end));
}

pub no_sum : (ws : List ℕ) → 0 ≡ sum_below (slice_index ws) 0
no_sum ws = sym (sum_none (slice_index ws))

pub ruleset sum_steps = (sums_first, sums_more, sum_next, sum_within, sums_all, no_sum)

pub ruleset frame_steps = (weights_small)
