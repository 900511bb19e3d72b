-- The exclusive sums of the nodes that are statements.
use Rattle.std.proofs.Common.{◌≡◌, ℕ, ◌+◌, ◌*◌, ◌<◌, Bool, true, false, cond, List, [], ◌∷◌, ◌++◌, length, map, reverse, filter, sum_by, count_by, All, Contains, refl, sym, ap, ◌∙◌, true≢false, arith, append-nil, mul-zero, append_assoc}
use Rattle.std.specs.List.{flat_map, AllByRecursion}
use Rattle.std.proofs.lemmas.List.Elements.{All-contains_itself, recursion_from_All}
use Rattle.std.proofs.lemmas.List.Sums.{sum_by-cons}
use Rattle.scope_types.specs.CallPaths.{ColumnPath}
use Rattle.scope_types.specs.Expansion.{FoundAt, call_path, expansion, frame_scopes, pc_of, root_of}
use Rattle.scope_types.specs.Order.{path_order}
use Rattle.scope_types.specs.Raw.{Raw}
use Rattle.scope_types.proofs.Orders.{path_order_tells, path_order_total}
use Rattle.scope_types.specs.declared.frame.Frame.{Frame}
use Rattle.scope_types.specs.declared.scope.Scope.TheVariants.{Root, Proc, Inline, Call, Stmt}
use Rattle.tree_types.specs.declared.content.Kind.TheVariants.{Exclusive}
use Rattle.tree_types.specs.Nodes.{nodes}
use Rattle.tree_types.specs.Paths.{Path}
use Rattle.tree_types.specs.Values.{columns_below, count_below, ends_here}
use Rattle.tree_types.proofs.Counting.{count_by-cons, one, sum_by-add}
use Rattle.tree_types.proofs.NodeLaws.{prefix_is_node, sorted_nodes}
use Rattle.tree_types.proofs.PathsAgain.{counted_at_nodes}
use Rattle.tree_types.proofs.Sorting.{has, has-from_Contains}
use Rattle.tree_types.proofs.Totals.{times}
use Rattle.tree_types.proofs.TreePaths.{own_scope_last}
use Rattle.prof_stats.specs.Stats.{node_stats}
use Rattle.prof_stats.specs.Sums.{EndsInStatement, is_statement, is_stmt}
use Rattle.prof_stats.proofs.NodeSpreads.{sum_is}

-- ---- sums

kept_sum : {X : Type 0} (f : X → ℕ) (t : X → Bool) (xs : List X) → sum_by f (filter t xs) ≡ sum_by (λ x. one (t x) * f x) xs
kept_sum f t [] = refl
kept_sum {X} f t (x ∷ xs) =
    let rest = kept_sum f t xs in
    let after = sum_by-cons (λ (x : X). one (t x) * f x) x xs in
    let before = sum_by-cons f x (filter t xs) in
    elim (t x) as (λ b. sum_by (λ (x : X). one (t x) * f x) (x ∷ xs) ≡ one b * f x + sum_by (λ (x : X). one (t x) * f x) xs → sum_by f (cond b (x ∷ filter t xs) (filter t xs)) ≡ sum_by (λ (x : X). one (t x) * f x) (x ∷ xs)) [
      | true ↦ λ e. omega (arith, rest, before, e)
      | false ↦ λ e. omega (arith, rest, e)
    ] after

zeros : {X : Type 0} (xs : List X) → sum_by (λ x. 0) xs ≡ 0
zeros [] = refl
zeros {X} (x ∷ xs) = sum_by-cons (λ (x : X). 0) x xs ∙ ap (λ (k : ℕ). 0 + k) (zeros xs)

turned : {X Y : Type 0} (g : X → Y → ℕ) (xs : List X) (ys : List Y) → sum_by (λ x. sum_by (g x) ys) xs ≡ sum_by (λ y. sum_by (λ x. g x y) xs) ys
turned g xs [] = zeros xs
turned {X} {Y} g xs (y ∷ ys) =
    (λ i. sum_by (λ x. sum_by-cons (g x) y ys i) xs) ∙ sum_by-add (λ (x : X). g x y) (λ x. sum_by (g x) ys) xs
    ∙ ap (λ (k : ℕ). sum_by (λ x. g x y) xs + k) (turned g xs ys) ∙ sym (sum_by-cons (λ (y : Y). sum_by (λ x. g x y) xs) y ys)

all_counted : (q : ColumnPath → Bool) (ps : List ColumnPath) → AllByRecursion (λ p. q p ≡ true) ps → count_by q ps ≡ length ps
all_counted q [] all = refl
all_counted q (p ∷ ps) all =
    let first = count_by-cons q p ps in
    let here : one (q p) ≡ 1 = ap one all.0 in
    let rest = all_counted q ps all.1 in
    omega (arith, first, here, rest)

moved_out : (b : Bool) (period count : ℕ) → one b * (period * count) ≡ period * (one b * count)
moved_out true period count = ap (λ (k : ℕ). k) (let e : 1 * (period * count) ≡ period * count = omega arith in let f : 1 * count ≡ count = omega arith in e ∙ ap (λ (k : ℕ). period * k) (sym f))
moved_out false period count = let e : 0 * (period * count) ≡ 0 = omega arith in let f : 0 * count ≡ 0 = omega arith in e ∙ sym (ap (λ (k : ℕ). period * k) f ∙ mul-zero period)

-- ---- each path ends at one node, which is a statement

some_scope : (p : ColumnPath) → EndsInStatement p → 0 < length p.path
some_scope p ends = some p.path ends
  where
    some : (n : Path) → is_statement n ≡ true → 0 < length n
    some [] e = absurd (true≢false (sym e))
    some (s ∷ n) e = omega arith

are_nodes : (ps qs : List ColumnPath) → AllByRecursion (Contains ps) qs → AllByRecursion EndsInStatement qs → AllByRecursion (λ (p : ColumnPath). has path_order p.path (nodes ps) ≡ true) qs
are_nodes ps [] all ends = tt
are_nodes ps (q ∷ qs) all ends =
    (has-from_Contains path_order_total path_order_tells q.path (nodes ps) (prefix_is_node ps q q.path all.0 (record { some = some_scope q ends.0; rest = []; parts = sym (append-nil q.path) })), are_nodes ps qs all.1 ends.1)

module _ (period columns : ℕ) (ps : List ColumnPath) where
  abbrev count : ℕ → Path → ℕ
  count h n = count_below ends_here ps h n

  node_sum : (n : Path) → one (is_statement n) * (node_stats period columns ps Exclusive n).sum ≡ period * sum_by (λ h. one (is_statement n) * count h n) (columns_below columns)
  node_sum n =
      ap (λ (k : ℕ). one (is_statement n) * k) (sum_is period columns ps n Exclusive)
      ∙ times (one (is_statement n)) (λ h. period * count h n) (columns_below columns)
      ∙ (λ i. sum_by (λ h. moved_out (is_statement n) period (count h n) i) (columns_below columns))
      ∙ sym (times period (λ h. one (is_statement n) * count h n) (columns_below columns))

  pub total_is : All EndsInStatement ps → All (λ p. p.column < columns) ps → sum_by (λ n. (node_stats period columns ps Exclusive n).sum) (filter is_statement (nodes ps)) ≡ period * length ps
  total_is ends below =
      let ends' = recursion_from_All EndsInStatement ps ends in
      let there = are_nodes ps ps (recursion_from_All (Contains ps) ps (All-contains_itself ps)) ends' in
      kept_sum (λ n. (node_stats period columns ps Exclusive n).sum) is_statement (nodes ps)
      ∙ (λ i. sum_by (λ n. node_sum n i) (nodes ps))
      ∙ sym (times period (λ n. sum_by (λ h. one (is_statement n) * count h n) (columns_below columns)) (nodes ps))
      ∙ ap (λ (k : ℕ). period * k) (turned (λ n h. one (is_statement n) * count h n) (nodes ps) (columns_below columns)
      ∙ counted_at_nodes (nodes ps) columns (λ p. is_statement p.path) ps (sorted_nodes ps) there (recursion_from_All (λ (p : ColumnPath). p.column < columns) ps below)
      ∙ all_counted (λ p. is_statement p.path) ps ends')

-- ---- the call paths of samples

pub path_ends : (found_at : ℕ → FoundAt) (raw : Raw) (column : ℕ) → 0 < length raw.frames → EndsInStatement (record { column = column; path = call_path found_at raw })
path_ends found_at raw column some = from raw.frames some
  where
    last_scope : (found : FoundAt) (front : Path) → is_statement (front ++ frame_scopes Stmt found) ≡ true
    last_scope found front =
        ap is_statement (sym (append_assoc front (Proc found.procedure ∷ map (λ i. Inline i.0 i.1) found.inlines) (Stmt found.line ∷ [])))
        ∙ ap is_stmt (own_scope_last (front ++ (Proc found.procedure ∷ map (λ i. Inline i.0 i.1) found.inlines)) (Stmt found.line))

    from : (frames : List Frame) → 0 < length frames → is_statement (expansion found_at (root_of raw.end) (map pc_of frames)) ≡ true
    from [] lt = absurd (omega arith)
    from (f ∷ frames) lt =
        last_scope (found_at f.pc) (Root (root_of raw.end) ∷ flat_map (λ caller. frame_scopes Call (found_at caller)) (reverse (map pc_of frames)))
