-- Trees of parts of a run's samples, which are added from the last to the first.
use Rattle.std.proofs.Common.{◌≡◌, ℕ, ◌+◌, ◌<◌, ◌≤◌, List, [], ◌∷◌, ◌++◌, length, map, sum_by, All, refl, sym, ap, subst, ◌∙◌, arith, append-nil, append_assoc}
use Rattle.std.proofs.lemmas.List.{map-append}
use Rattle.std.proofs.lemmas.List.Elements.{All-tail}
use Rattle.std.proofs.lemmas.List.Sums.{sum_by-append, sum_by-cons}
use Rattle.scope_types.specs.Alike.{Alike}
use Rattle.scope_types.specs.CallPaths.{ColumnPath, each_path}
use Rattle.scope_types.specs.Distinct.{ColumnRaw, distinct, each_sample, scopes_in}
use Rattle.scope_types.specs.Limits.{most_samples, most_scopes_in_all}
use Rattle.scope_types.specs.Raw.{Raw}
use Rattle.scope_types.specs.declared.frame.Counted.{Counted}
use Rattle.scope_types.specs.declared.path.Entry.{Entry}
use Rattle.scope_types.specs.declared.scope.Scope.{Scope}
use Rattle.thread_cct.specs.Plan.{FitsExpansion, Planned, PlannedPath, expanded_path, expanded_paths, plan_of, planned_scopes}
use Rattle.tree_types.specs.Nodes.{nodes}
use Rattle.tree_types.specs.Tree.{CountedTree, counts_in}
use Rattle.tree_types.proofs.Entries.{nodes_few}
use Rattle.tree_types.proofs.PathSteps.{as_many_paths}
use Rattle.tree_types.proofs.PathsAgain.{nodes_alike}
use Rattle.tree_join.specs.Join.{sampled_paths}
use Rattle.live_merge.specs.Live.{IsMerged}
use Rattle.live_merge.specs.Sum.{CanBeAdded, HasPaths, IsSum}
use Rattle.live_merge.specs.declared.trees.Grown.{Grown}
use Rattle.live_merge.specs.private.Epochs.{AreParts, AreSmall, HaveTooManyScopes, counted_by}
use Rattle.live_merge.proofs.Orders.{of_paths}
use Rattle.live_merge.proofs.Scopes.{scopes_grow}

abbrev pub CallPath : Type 0
CallPath = Raw → List Scope

All_behind : (of : ℕ) (xs ys : List ColumnRaw) → All (λ s. s.column < of) (xs ++ ys) → All (λ s. s.column < of) ys
All_behind of [] ys h = h
All_behind of (x ∷ xs) ys h = All_behind of xs ys (All-tail (λ (s : ColumnRaw). s.column < of) x (xs ++ ys) h)

-- ---- one tree more, and one less

pub small_push : (columns : ℕ) (ds : List Grown) (d : Grown) → AreSmall columns ds → d.tree.columns ≡ columns → length d.tree.nodes ≤ most_scopes_in_all → AreSmall columns (ds ++ d ∷ [])
small_push columns [] d small columns_are few = (columns_are, few, tt)
small_push columns (e ∷ ds) d small columns_are few = (small.0, small.1, small_push columns ds d small.2 columns_are few)

pub record SmallBoth (columns : ℕ) (ds : List Grown) (d : Grown) : Type 0 where
  pub before : AreSmall columns ds
  pub columns_are : d.tree.columns ≡ columns
  pub few : length d.tree.nodes ≤ most_scopes_in_all

pub small_pop : (columns : ℕ) (ds : List Grown) (d : Grown) → AreSmall columns (ds ++ d ∷ []) → SmallBoth columns ds d
small_pop columns [] d small = record { before = tt; columns_are = small.0; few = small.1 }
small_pop columns (e ∷ ds) d small =
    let rest = small_pop columns ds d small.2 in
    record { before = (small.0, small.1, rest.before); columns_are = rest.columns_are; few = rest.few }

pub counted_push : (ds : List Grown) (d : Grown) → counted_by (ds ++ d ∷ []) ≡ counted_by ds + counts_in d.tree.counts
counted_push ds d =
    let both = sum_by-append (λ (e : Grown). counts_in e.tree.counts) ds (d ∷ []) in
    let one = sum_by-cons (λ (e : Grown). counts_in e.tree.counts) d [] in
    omega (arith, both, one)

pub parts_push : (call_path : CallPath) (xs ys : List ColumnRaw) (ds : List Grown) (d : Grown) → AreParts call_path xs ds → HasPaths (sampled_paths call_path ys) d.tree → AreParts call_path (xs ++ ys) (ds ++ d ∷ [])
parts_push call_path xs ys [] d are has = (ys, [], ap (λ (l : List ColumnRaw). l ++ ys) are ∙ sym (append-nil ys), has, refl)
parts_push call_path xs ys (e ∷ ds) d are has =
    (are.0, are.1 ++ ys, ap (λ (l : List ColumnRaw). l ++ ys) are.2 ∙ append_assoc are.0 are.1 ys, are.3, parts_push call_path are.1 ys ds d are.4 has)

-- trees of the first of these samples, and a tree of the others
pub record Parted (call_path : CallPath) (all : List ColumnRaw) (ds : List Grown) (tree : CountedTree) : Type 0 where
  pub front : List ColumnRaw
  pub back : List ColumnRaw
  pub parts : all ≡ front ++ back
  pub rest : AreParts call_path front ds
  pub last : HasPaths (sampled_paths call_path back) tree

pub parts_pop : (call_path : CallPath) (xs : List ColumnRaw) (ds : List Grown) (d : Grown) → AreParts call_path xs (ds ++ d ∷ []) → Parted call_path xs ds d.tree
parts_pop call_path xs [] d are = record {
  front = [];
  back = are.0;
  parts = are.2 ∙ ap (λ (l : List ColumnRaw). are.0 ++ l) are.4 ∙ append-nil are.0;
  rest = refl;
  last = are.3;
}
parts_pop call_path xs (e ∷ ds) d are =
    let more = parts_pop call_path are.1 ds d are.4 in
    record {
      front = are.0 ++ more.front;
      back = more.back;
      parts = are.2 ∙ ap (λ (l : List ColumnRaw). are.0 ++ l) more.parts ∙ sym (append_assoc are.0 more.front more.back);
      rest = (are.0, more.front, refl, are.3, more.rest);
      last = more.last;
    }

-- the sum of trees of samples is that of all these
pub sum_has : (call_path : CallPath) (a b sum : CountedTree) (xs ys : List ColumnRaw) → IsSum a b sum → HasPaths (sampled_paths call_path xs) a → HasPaths (sampled_paths call_path ys) b → HasPaths (sampled_paths call_path (xs ++ ys)) sum
sum_has call_path a b sum xs ys is left right =
    subst (λ (ps : List ColumnPath). HasPaths ps sum) (sym (map-append (λ (s : ColumnRaw). record { column = s.column; path = call_path s.raw }) xs ys))
    (of_paths a b sum (sampled_paths call_path xs) (sampled_paths call_path ys) is left right)

-- ---- how many nodes there are

-- what is known of plans and of counted samples
pub record Laws : Type 0 where
  pub scopes : (tables : List (List Counted)) (call_path : CallPath) → planned_scopes call_path (plan_of tables) ≡ scopes_in call_path tables
  pub paths : (tables : List (List Counted)) (call_path : CallPath) → each_path (expanded_paths call_path (plan_of tables)) ≡ map (λ s. record { column = s.column; path = call_path s.raw }) (each_sample tables)
  pub alike : (columns : ℕ) (samples : List ColumnRaw) (call_path : ColumnRaw → ColumnPath) → All (λ s. s.column < columns) samples → Alike (map call_path (each_sample (distinct columns samples))) (map call_path samples)

scopes_of : (call_path : CallPath) (ps : List PlannedPath) → sum_by (λ (e : Entry). length e.path) (map (expanded_path call_path) ps) ≡ sum_by (λ (p : PlannedPath). length (call_path p.path)) ps
scopes_of call_path [] = refl
scopes_of call_path (p ∷ ps) =
    let a = sum_by-cons (λ (e : Entry). length e.path) (expanded_path call_path p) (map (expanded_path call_path) ps) in
    let b = sum_by-cons (λ (q : PlannedPath). length (call_path q.path)) p ps in
    let rest = scopes_of call_path ps in
    omega (arith, a, b, rest)

-- the nodes of a plan's paths are no more than its scopes
pub plan_few : (call_path : CallPath) (plan : Planned) → length (nodes (each_path (expanded_paths call_path plan))) ≤ planned_scopes call_path plan
plan_few call_path plan = (let few = nodes_few (expanded_paths call_path plan) in let are = scopes_of call_path plan.paths in omega (arith, few, are))

tree_few : (tree : CountedTree) (ps : List ColumnPath) (n : ℕ) → HasPaths ps tree → length (nodes ps) ≤ n → length tree.nodes ≤ n
tree_few tree ps n has few = (let long = as_many_paths tree.nodes in let same = ap (λ (l : List (List Scope)). length l) has.nodes in omega (arith, long, same, few))

pub merged_few : (call_path : CallPath) (plan : Planned) (tree : CountedTree) → FitsExpansion plan call_path → IsMerged plan call_path tree → length tree.nodes ≤ most_scopes_in_all
merged_few call_path plan tree fits is =
    tree_few tree (each_path (expanded_paths call_path plan)) most_scopes_in_all is.paths (let few = plan_few call_path plan in let fit = fits.few in omega (arith, few, fit))

-- and those of samples no more than their distinct raw paths' scopes
pub samples_few : Laws → (call_path : CallPath) (columns : ℕ) (samples : List ColumnRaw) (tree : CountedTree) → All (λ s. s.column < columns) samples → HasPaths (sampled_paths call_path samples) tree → length tree.nodes ≤ scopes_in call_path (distinct columns samples)
samples_few laws call_path columns samples tree own has =
    let call : ColumnRaw → ColumnPath = λ s. record { column = s.column; path = call_path s.raw } in
    let same : nodes (each_path (expanded_paths call_path (plan_of (distinct columns samples)))) ≡ nodes (sampled_paths call_path samples) =
    ap nodes (laws.paths (distinct columns samples) call_path)
    ∙ nodes_alike (map call (each_sample (distinct columns samples))) (map call samples) (laws.alike columns samples call own) in
    let few = plan_few call_path (plan_of (distinct columns samples)) in
    let scopes = laws.scopes (distinct columns samples) call_path in
    let size = ap (λ (l : List (List Scope)). length l) same in
    tree_few tree (sampled_paths call_path samples) (scopes_in call_path (distinct columns samples)) has (omega (arith, few, scopes, size))

-- ---- adding trees

pub record Going (columns total : ℕ) (Has : CallPath → List ColumnRaw → Type 0) (trees : List Grown) (sum : CountedTree) : Type 0 where
  pub small : AreSmall columns trees
  pub sum_columns : sum.columns ≡ columns
  pub sum_nodes : length sum.nodes ≤ most_scopes_in_all
  pub counted : counted_by trees + counts_in sum.counts ≤ total
  pub parts : (call_path : CallPath) (all : List ColumnRaw) → Has call_path all → Parted call_path all trees sum

module _ (columns total : ℕ) (Has : CallPath → List ColumnRaw → Type 0) (trees new : List Grown) (d : Grown) (sum : CountedTree) (going : Going columns total Has trees sum) (popped : trees ≡ new ++ d ∷ []) where
  both_small : SmallBoth columns new d
  both_small = small_pop columns new d (subst (AreSmall columns) popped going.small)

  both_counted : counted_by new + counts_in d.tree.counts + counts_in sum.counts ≤ total
  both_counted = (let all = going.counted in let same = ap counted_by popped in let push = counted_push new d in omega (arith, all, same, push))

  pub can_add : total ≤ most_samples → CanBeAdded d.tree sum
  can_add few =
      let a = both_small.few in
      let b = going.sum_nodes in
      let all = both_counted in
      record {
        columns = both_small.columns_are ∙ sym going.sum_columns;
        samples = omega (arith, all, few);
        nodes = omega (arith, a, b);
      }

  module _ (next : CountedTree) (is : IsSum d.tree sum next) where
    next_parts : (call_path : CallPath) (all : List ColumnRaw) → Has call_path all → Parted call_path all new next
    next_parts call_path all has =
        let old = going.parts call_path all has in
        let one = parts_pop call_path old.front new d (subst (AreParts call_path old.front) popped old.rest) in
        record {
          front = one.front;
          back = one.back ++ old.back;
          parts = old.parts ∙ ap (λ (l : List ColumnRaw). l ++ old.back) one.parts ∙ append_assoc one.front one.back old.back;
          rest = one.rest;
          last = sum_has call_path d.tree sum next one.back old.back is one.last old.last;
        }

    pub goes_on : length next.nodes ≤ most_scopes_in_all → Going columns total Has new next
    goes_on few = record {
      small = both_small.before;
      sum_columns = is.columns ∙ both_small.columns_are;
      sum_nodes = few;
      counted = (let all = both_counted in let total_is = is.total in omega (arith, all, total_is));
      parts = next_parts;
    }

    pub goes_over : Laws → most_scopes_in_all < length next.nodes → (call_path : CallPath) (of : ℕ) (all : List ColumnRaw) → Has call_path all → All (λ s. s.column < of) all → HaveTooManyScopes call_path of all
    goes_over laws many call_path of all has own =
        let now = next_parts call_path all has in
        let own_parts : All (λ (s : ColumnRaw). s.column < of) (now.front ++ now.back) = subst (All (λ (s : ColumnRaw). s.column < of)) now.parts own in
        let back : All (λ (s : ColumnRaw). s.column < of) now.back = All_behind of now.front now.back own_parts in
        let few = samples_few laws call_path of now.back next back now.last in
        let grows : scopes_in call_path (distinct of now.back) ≤ scopes_in call_path (distinct of (now.front ++ (now.back ++ []))) = scopes_grow call_path of now.front now.back [] in
        let same : scopes_in call_path (distinct of (now.front ++ (now.back ++ []))) ≡ scopes_in call_path (distinct of all) =
        ap (λ (l : List ColumnRaw). scopes_in call_path (distinct of (now.front ++ l))) (append-nil now.back) ∙ ap (λ (l : List ColumnRaw). scopes_in call_path (distinct of l)) (sym now.parts) in
        omega (arith, many, few, grows, same)

-- where no tree is left, there is the tree of all
pub all_added : (columns total : ℕ) (Has : CallPath → List ColumnRaw → Type 0) (trees : List Grown) (sum : CountedTree) → Going columns total Has trees sum → trees ≡ [] → (call_path : CallPath) (all : List ColumnRaw) → Has call_path all → HasPaths (sampled_paths call_path all) sum
all_added columns total Has trees sum going none call_path all has =
    let now = going.parts call_path all has in
    let front : now.front ≡ [] = subst (AreParts call_path now.front) none now.rest in
    subst (λ (l : List ColumnRaw). HasPaths (sampled_paths call_path l) sum) (sym (now.parts ∙ ap (λ (l : List ColumnRaw). l ++ now.back) front)) now.last

-- ---- one tree is added

-- the samples of trees and of one more
abbrev pub AddsTo : List Grown → CountedTree → CallPath → List ColumnRaw → Type 0
AddsTo ds tree call_path all = (done : List ColumnRaw) × (own : List ColumnRaw) × (all ≡ done ++ own) × AreParts call_path done ds × HasPaths (sampled_paths call_path own) tree

pub begun : (ds : List Grown) (tree : CountedTree) → AreSmall tree.columns ds → length tree.nodes ≤ most_scopes_in_all → Going tree.columns (counted_by ds + counts_in tree.counts) (AddsTo ds tree) ds tree
begun ds tree small few = record {
  small = small;
  sum_columns = refl;
  sum_nodes = few;
  counted = omega arith;
  parts = λ call_path all has. record { front = has.0; back = has.1; parts = has.2; rest = has.3; last = has.4 };
}

module _ (columns total : ℕ) (Has : CallPath → List ColumnRaw → Type 0) (trees new : List Grown) (d : Grown) (sum : CountedTree) (going : Going columns total Has trees sum) (own : d.tree ≡ sum) (pushed : new ≡ trees ++ d ∷ []) where
  pub ended_small : AreSmall columns new
  ended_small =
      subst (AreSmall columns) (sym pushed)
      (small_push columns trees d going.small (ap (λ (t : CountedTree). t.columns) own ∙ going.sum_columns) (subst (λ (t : CountedTree). length t.nodes ≤ most_scopes_in_all) (sym own) going.sum_nodes))

  pub ended_counted : counted_by new ≤ total
  ended_counted =
      let same = ap counted_by pushed in
      let push = counted_push trees d in
      let tree = ap (λ (t : CountedTree). counts_in t.counts) own in
      let all = going.counted in
      omega (arith, same, push, tree, all)

  pub ended_parts : (call_path : CallPath) (all : List ColumnRaw) → Has call_path all → AreParts call_path all new
  ended_parts call_path all has =
      let now = going.parts call_path all has in
      subst (AreParts call_path all) (sym pushed)
      (subst (λ (l : List ColumnRaw). AreParts call_path l (trees ++ d ∷ [])) (sym now.parts)
      (parts_push call_path now.front now.back trees d now.rest (subst (HasPaths (sampled_paths call_path now.back)) (sym own) now.last)))

-- ---- all trees are added

abbrev pub OfParts : List Grown → CallPath → List ColumnRaw → Type 0
OfParts ds call_path all = AreParts call_path all ds

pub begun_last : (columns total : ℕ) (all trees : List Grown) (d : Grown) → all ≡ trees ++ d ∷ [] → AreSmall columns all → counted_by all ≤ total → Going columns total (OfParts all) trees d.tree
begun_last columns total all trees d popped small few =
    let both = small_pop columns trees d (subst (AreSmall columns) popped small) in
    record {
      small = both.before;
      sum_columns = both.columns_are;
      sum_nodes = both.few;
      counted = (let same = ap counted_by popped in let push = counted_push trees d in omega (arith, same, push, few));
      parts = λ call_path samples has. parts_pop call_path samples trees d (subst (AreParts call_path samples) popped has);
    }
