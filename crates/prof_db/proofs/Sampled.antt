-- The tree that is made of a layout whose entries keep the sixth rule.
use Rattle.std.proofs.Common.{◌≡◌, ℕ, ◌^◌, ◌<◌, ◌≤◌, List, length, map, filter, All, AllPairs, Less, Ok, sym, ap, subst, ◌∙◌, arith}
use Rattle.std.specs.Prelude.{◌≢◌}
use Rattle.std.specs.List.Sorted.{IsPermutation}
use Rattle.std.proofs.lemmas.List.Elements.{All-weaker}
use Rattle.scope_types.specs.Columns.{period_of_column}
use Rattle.scope_types.specs.Events.{periods_of}
use Rattle.scope_types.specs.Limits.{most_samples}
use Rattle.tree_types.specs.NodeValues.{values_of}
use Rattle.tree_types.specs.Nodes.{no_parent}
use Rattle.tree_types.specs.Tree.{CountedTree, IsPreorder, IsTree, count_order, counts_in}
use Rattle.tree_types.specs.declared.content.Node.{Node}
use Rattle.tree_types.specs.declared.counted_tree.NodeCount.{NodeCount}
use Rattle.prof_db.specs.declared.raw.Layout.{Layout}
use Rattle.prof_db.specs.declared.raw.RawEntry.{RawEntry}
use Rattle.prof_db.specs.HeadRules.{events_of, layout_columns, layout_period}
use Rattle.prof_db.specs.Rules.{layout_values}
use Rattle.prof_db.specs.ValueRules.{entries_kept, entry_count, entry_samples, is_exclusive_entry}
use Rattle.prof_db.specs.private.Heads.{ArePeriods, IsHead}
use Rattle.prof_db.proofs.Exclusive.{each_few, entries_columns, few_moved, few_samples, moved_from, same_values, sorted_tree}
use Rattle.prof_db.proofs.Heads.{are_periods, few_columns, some_of_column}

-- the periods of a head are some, each at least 1
pub head_periods : (layout : Layout) (periods : List ℕ) → IsHead layout → periods ≡ periods_of (events_of layout) → ArePeriods periods
head_periods layout periods head same = subst ArePeriods (sym same) (are_periods (events_of layout) head.events)

-- and the columns of its runs few
pub head_columns : (layout : Layout) → IsHead layout → layout_columns layout ≤ 4096
head_columns layout head = few_columns (length layout.events) layout.runs head.few_events head.few_runs (λ i d lt. (head.harts i d lt).1)

module _ (layout : Layout) (nodes : List Node) (kept : entries_kept (layout_period layout) (layout_columns layout) nodes layout.entries ≡ Ok tt) where
  abbrev period : ℕ → ℕ
  period = layout_period layout

  abbrev columns : ℕ
  columns = layout_columns layout

  -- what each entry counts, by the periods and the entries that the code has
  pub few_each : (periods : List ℕ) (es : List RawEntry) → periods ≡ periods_of (events_of layout) → es ≡ layout.entries → All (λ e. entry_samples (period_of_column periods) e ≤ most_samples) es
  few_each periods es same entries =
      subst (λ (ps : List ℕ). All (λ e. entry_samples (period_of_column ps) e ≤ most_samples) es) (sym same)
      (subst (λ (xs : List RawEntry). All (λ e. entry_samples period e ≤ most_samples) xs) (sym entries) (each_few period columns nodes layout.entries kept))

  pub columns_each : (es : List RawEntry) → IsHead layout → es ≡ layout.entries → All (λ e. e.column < 2 ^ 32) es
  columns_each es head entries =
      let few = head_columns layout head in
      subst (λ (xs : List RawEntry). All (λ e. e.column < 2 ^ 32) xs) (sym entries)
      (All-weaker (λ (e : RawEntry). e.column < columns) (λ e. e.column < 2 ^ 32) (λ e lt. omega (arith, lt, few)) layout.entries (entries_columns period columns nodes layout.entries kept))

  abbrev counts : List NodeCount
  counts = map (entry_count period) (filter is_exclusive_entry layout.entries)

  module _ (periods : List ℕ) (es : List RawEntry) (old sorted : List NodeCount) (same : periods ≡ periods_of (events_of layout)) (entries : es ≡ layout.entries)
      (made : old ≡ map (entry_count (period_of_column periods)) (filter is_exclusive_entry es)) (sorts : IsPermutation old sorted) (head : IsHead layout) where
    pub moved : IsPermutation counts sorted
    moved =
        moved_from old counts sorted
        (made ∙ (λ i. map (entry_count (period_of_column (same i))) (filter is_exclusive_entry (entries i)))) sorts

    pub few_counts : counts_in sorted ≤ most_samples
    few_counts = few_moved counts sorted moved (few_samples period columns nodes layout.entries kept)

    abbrev tree : ℕ → CountedTree
    tree many = record { columns = many; nodes = nodes; counts = sorted }

    pub is_tree : (many : ℕ) → many ≡ columns → AllPairs (λ a b. count_order b a ≢ Less) sorted → length nodes < no_parent → IsPreorder nodes → IsTree (tree many)
    is_tree many is up few preorder =
        subst (λ (n : ℕ). IsTree (tree n)) (sym is)
        (sorted_tree period columns nodes layout.entries kept (λ column. some_of_column _ (are_periods (events_of layout) head.events) column) sorted moved up few preorder)

    pub tree_values : (many : ℕ) → many ≡ columns → values_of period (tree many) ≡ layout_values layout nodes
    tree_values many is = ap (λ (n : ℕ). values_of period (tree n)) is ∙ same_values nodes period columns counts sorted moved
