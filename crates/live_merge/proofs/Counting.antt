-- An epoch that was counted: its samples are merged, or have too many scopes.
use Rattle.std.proofs.Common.{◌≡◌, ℕ, ◌+◌, ◌<◌, ◌≤◌, Bool, true, false, nat_lt, List, [], ◌∷◌, ◌++◌, length, map, replicate, sum_by, All, Result, Ok, Err, OnOk, refl, sym, ap, subst, ◌∙◌, arith, append-nil}
use Rattle.std.specs.List.{flat_map, enumerate_from}
use Rattle.std.proofs.lemmas.Bool.{lt-ltb}
use Rattle.std.proofs.lemmas.List.{length-append, length-map, length-replicate}
use Rattle.std.proofs.lemmas.List.Elements.{All-tail}
use Rattle.std.proofs.lemmas.List.Sums.{sum_by-cons}
use Rattle.scope_types.specs.Alike.{Alike}
use Rattle.scope_types.specs.CallPaths.{ColumnPath, each_path}
use Rattle.scope_types.specs.Distinct.{ColumnRaw, distinct, each_of_column, each_sample, samples_in, scopes_in}
use Rattle.scope_types.specs.Limits.{most_scopes_in_all}
use Rattle.scope_types.specs.declared.frame.Counted.{Counted}
use Rattle.thread_cct.specs.Plan.{Planned, expanded_paths, few_scopes, plan_of, too_many_scopes}
use Rattle.thread_cct.specs.declared.merge_plan.TooManyScopes.{TooManyScopes}
use Rattle.tree_types.specs.Tree.{CountedTree, counts_in}
use Rattle.tree_types.proofs.PathsAgain.{nodes_alike}
use Rattle.tree_join.specs.Join.{sampled_paths}
use Rattle.live_merge.specs.Live.{IsMerged, few_scopes_of}
use Rattle.live_merge.specs.Sum.{HasPaths}
use Rattle.live_merge.specs.declared.fault.LiveFault.TheVariants.{TooManyScopes as TooMany}
use Rattle.live_merge.specs.declared.trees.Trees.{Trees}
use Rattle.live_merge.specs.private.Epochs.{AreMerged, AreParts, AreSmall, GivesWhole, HaveTooManyScopes, Merges, counted_by}
use Rattle.live_merge.proofs.Epochs.{IsOwn, Tables, is_above, tested, tested_err, tested_ok}
use Rattle.live_merge.proofs.Grown.{CallPath, Laws}
use Rattle.live_merge.proofs.Merging.{alike_below}
use Rattle.live_merge.proofs.Scopes.{scopes_grow}

-- ---- how many samples are counted

column_many : (column : ℕ) (cs : List Counted) → length (each_of_column (column, cs)) ≡ sum_by (λ c. c.count) cs
column_many column [] = refl
column_many column (c ∷ cs) =
    let copies : List ColumnRaw = replicate c.count (record { column = column; raw = c.path }) in
    let parts = length-append copies (each_of_column (column, cs)) in
    let one = length-replicate {A = ColumnRaw} c.count (record { column = column; raw = c.path }) in
    let rest = column_many column cs in
    let sum = sum_by-cons (λ (x : Counted). x.count) c cs in
    omega (arith, parts, one, rest, sum)

numbered_many : (first : ℕ) (tables : Tables) → length (flat_map each_of_column (enumerate_from first tables)) ≡ samples_in tables
numbered_many first [] = refl
numbered_many first (t ∷ tables) =
    let parts = length-append (each_of_column (first, t)) (flat_map each_of_column (enumerate_from (first + 1) tables)) in
    let one = column_many first t in
    let rest = numbered_many (first + 1) tables in
    let sum = sum_by-cons (sum_by (λ (x : Counted). x.count)) t tables in
    omega (arith, parts, one, rest, sum)

samples_many : (tables : Tables) → length (each_sample tables) ≡ samples_in tables
samples_many tables = numbered_many 0 tables

-- ---- the tree of an epoch

has_alike : (ps qs : List ColumnPath) (tree : CountedTree) → HasPaths ps tree → Alike ps qs → HasPaths qs tree
has_alike ps qs tree has alike = record {
  nodes = has.nodes ∙ nodes_alike ps qs alike;
  counts = λ column path some. has.counts column path some ∙ alike_below ps qs column path alike;
}

module _ (laws : Laws) (call_path : CallPath) (epoch : Tables) (tree : CountedTree) (is : IsMerged (plan_of epoch) call_path tree) where
  paths_are : each_path (expanded_paths call_path (plan_of epoch)) ≡ map (λ s. record { column = s.column; path = call_path s.raw }) (each_sample epoch)
  paths_are = laws.paths epoch call_path

  pub tree_columns : tree.columns ≡ length epoch
  tree_columns = is.columns

  pub tree_samples : counts_in tree.counts ≡ samples_in epoch
  tree_samples =
      is.samples ∙ ap (λ (l : List ColumnPath). length l) paths_are ∙ length-map (each_sample epoch) (λ (s : ColumnRaw). record { column = s.column; path = call_path s.raw }) ∙ samples_many epoch

  pub tree_has : (columns : ℕ) (own : List ColumnRaw) → All (IsOwn columns) own → epoch ≡ distinct columns own → HasPaths (sampled_paths call_path own) tree
  tree_has columns own all are =
      let call : ColumnRaw → ColumnPath = λ s. record { column = s.column; path = call_path s.raw } in
      has_alike (map call (each_sample (distinct columns own))) (map call own) tree
      (subst (λ (ps : List ColumnPath). HasPaths ps tree) (paths_are ∙ ap (λ (t : Tables). map call (each_sample t)) are) is.paths) (laws.alike columns own call all)

-- ---- what is merged

All_behind : (n : ℕ) (xs ys : List ColumnRaw) → All (IsOwn n) (xs ++ ys) → All (IsOwn n) ys
All_behind n [] ys h = h
All_behind n (x ∷ xs) ys h = All_behind n xs ys (All-tail (IsOwn n) x (xs ++ ys) h)

front_over : (call_path : CallPath) (n : ℕ) (done own : List ColumnRaw) → HaveTooManyScopes call_path n done → HaveTooManyScopes call_path n (done ++ own)
front_over call_path n done own many = (let grows = scopes_grow call_path n [] done own in omega (arith, many, grows))

back_over : (call_path : CallPath) (n : ℕ) (done own : List ColumnRaw) → HaveTooManyScopes call_path n own → HaveTooManyScopes call_path n (done ++ own)
back_over call_path n done own many =
    let grows = scopes_grow call_path n done own [] in
    let same = ap (λ (l : List ColumnRaw). scopes_in call_path (distinct n (done ++ l))) (append-nil own) in
    omega (arith, many, grows, same)

-- nothing more is merged
pub over_before : (call_path : CallPath) (epoch : Tables) (t new : Trees) → t.is_over ≡ true → new ≡ t → AreSmall (length epoch) t.trees.items → Merges call_path epoch t new
over_before call_path epoch t new over same small =
    subst (λ (x : Trees). Merges call_path epoch t x) (sym same)
    (record {
      some = λ e. absurd (let both : true ≡ false = sym over ∙ e in cc);
      small = small;
      counted = omega arith;
      merged = λ done own all old are. record {
        over = λ _. front_over call_path (length epoch) done own (old.over over);
        parts = λ e. absurd (let both : true ≡ false = sym over ∙ e in cc);
      };
    })

-- the epoch has too many scopes by itself
pub over_now : (call_path : CallPath) (epoch : Tables) (old new : Trees) (fault : TooManyScopes) → few_scopes call_path epoch ≡ Err fault → new.is_over ≡ true → new.trees.items ≡ [] → Merges call_path epoch old new
over_now call_path epoch old new fault many over none =
    let above : most_scopes_in_all < scopes_in call_path epoch = is_above most_scopes_in_all (scopes_in call_path epoch) (tested_err (nat_lt most_scopes_in_all (scopes_in call_path epoch)) too_many_scopes fault (plan_of epoch) many).0 in
    record {
      some = λ e. absurd (let both : true ≡ false = sym over ∙ e in cc);
      small = subst (AreSmall (length epoch)) (sym none) tt;
      counted = (let zero_is = ap counted_by none in omega (arith, zero_is));
      merged = λ done own all was are. record {
        over = λ _. back_over call_path (length epoch) done own (subst (λ (t : Tables). most_scopes_in_all < scopes_in call_path t) are above);
        parts = λ e. absurd (let both : true ≡ false = sym over ∙ e in cc);
      };
    }

-- the epoch's tree is added to the others
pub added_now : Laws → (call_path : CallPath) (epoch : Tables) (plan : Planned) (tree : CountedTree) (old new : Trees) → plan_of epoch ≡ plan → IsMerged plan call_path tree → old.is_over ≡ false
    → (new.is_over ≡ false → 0 < length new.trees.items) → AreSmall tree.columns new.trees.items → counted_by new.trees.items ≤ counted_by old.trees.items + counts_in tree.counts
    → ((f : CallPath) (columns : ℕ) (done own : List ColumnRaw) → All (λ s. s.column < columns) (done ++ own) → AreParts f done old.trees.items → HasPaths (sampled_paths f own) tree → AreMerged f columns (done ++ own) new)
    → Merges call_path epoch old new
added_now laws call_path epoch plan tree old new plan_is is_plan going some small counted merged =
    let is : IsMerged (plan_of epoch) call_path tree = subst (λ (p : Planned). IsMerged p call_path tree) (sym plan_is) is_plan in
    record {
      some = some;
      small = subst (λ (n : ℕ). AreSmall n new.trees.items) (tree_columns laws call_path epoch tree is) small;
      counted = (let same = tree_samples laws call_path epoch tree is in omega (arith, counted, same));
      merged = λ done own all was are.
          merged call_path (length epoch) done own all (was.parts going) (tree_has laws call_path epoch tree is (length epoch) own (All_behind (length epoch) done own all) are);
    }

pub small_for : Laws → (call_path : CallPath) (epoch : Tables) (plan : Planned) (tree : CountedTree) (old : Trees) → plan_of epoch ≡ plan → IsMerged plan call_path tree → AreSmall (length epoch) old.trees.items → AreSmall tree.columns old.trees.items
small_for laws call_path epoch plan tree old plan_is is_plan small =
    let is : IsMerged (plan_of epoch) call_path tree = subst (λ (p : Planned). IsMerged p call_path tree) (sym plan_is) is_plan in
    subst (λ (n : ℕ). AreSmall n old.trees.items) (sym (tree_columns laws call_path epoch tree is)) small

pub few_for : Laws → (call_path : CallPath) (epoch : Tables) (plan : Planned) (tree : CountedTree) (n m : ℕ) → plan_of epoch ≡ plan → IsMerged plan call_path tree → n + samples_in epoch ≤ m → n + counts_in tree.counts ≤ m
few_for laws call_path epoch plan tree n m plan_is is_plan few =
    let is : IsMerged (plan_of epoch) call_path tree = subst (λ (p : Planned). IsMerged p call_path tree) (sym plan_is) is_plan in
    let same = tree_samples laws call_path epoch tree is in
    omega (arith, few, same)

pub plan_is : (call_path : CallPath) (epoch : Tables) (plan : Planned) → few_scopes call_path epoch ≡ Ok plan → plan_of epoch ≡ plan
plan_is call_path epoch plan few = (tested_ok (nat_lt most_scopes_in_all (scopes_in call_path epoch)) too_many_scopes (plan_of epoch) plan few).1

-- ---- the whole run's scopes

pub whole_few : (call_path : CallPath) (columns : ℕ) (tables : Tables) (done : List ColumnRaw) (plan : Planned) → tables ≡ distinct columns done → few_scopes call_path tables ≡ Ok plan → few_scopes_of call_path columns done ≡ Ok done
whole_few call_path columns tables done plan are few =
    let fine = (tested_ok (nat_lt most_scopes_in_all (scopes_in call_path tables)) too_many_scopes (plan_of tables) plan few).0 in
    ap (λ (t : Tables). tested (nat_lt most_scopes_in_all (scopes_in call_path t)) TooMany done) (sym are) ∙ ap (λ (b : Bool). tested b TooMany done) fine

pub whole_many : (call_path : CallPath) (columns : ℕ) (tables : Tables) (done : List ColumnRaw) (fault : TooManyScopes) → tables ≡ distinct columns done → few_scopes call_path tables ≡ Err fault → few_scopes_of call_path columns done ≡ Err TooMany
whole_many call_path columns tables done fault are many =
    let above = (tested_err (nat_lt most_scopes_in_all (scopes_in call_path tables)) too_many_scopes fault (plan_of tables) many).0 in
    ap (λ (t : Tables). tested (nat_lt most_scopes_in_all (scopes_in call_path t)) TooMany done) (sym are) ∙ ap (λ (b : Bool). tested b TooMany done) above

pub whole_over : (call_path : CallPath) (columns : ℕ) (done : List ColumnRaw) → HaveTooManyScopes call_path columns done → few_scopes_of call_path columns done ≡ Err TooMany
whole_over call_path columns done many = ap (λ (b : Bool). tested b TooMany done) (lt-ltb most_scopes_in_all (scopes_in call_path (distinct columns done)) many)

-- the samples of the whole run, merged at once
pub at_once : Laws → (call_path : CallPath) (all : Tables) (plan : Planned) (tree : CountedTree) → few_scopes call_path all ≡ Ok plan → IsMerged plan call_path tree
    → (done : List ColumnRaw) → all ≡ distinct (length all) done → All (IsOwn (length all)) done → GivesWhole call_path (length all) done (Ok tree)
at_once laws call_path all plan tree few merged done are own =
    let is : IsMerged (plan_of all) call_path tree = subst (λ (p : Planned). IsMerged p call_path tree) (sym (plan_is call_path all plan few)) merged in
    (whole_few call_path (length all) all done plan are few, tree_has laws call_path all tree is (length all) done own are)

pub at_once_columns : Laws → (call_path : CallPath) (all : Tables) (plan : Planned) (tree : CountedTree) → few_scopes call_path all ≡ Ok plan → IsMerged plan call_path tree → tree.columns ≡ length all
at_once_columns laws call_path all plan tree few merged =
    tree_columns laws call_path all tree (subst (λ (p : Planned). IsMerged p call_path tree) (sym (plan_is call_path all plan few)) merged)

-- what adding the epoch's tree gives
pub added_all : {X E : Type 0} → Laws → (call_path : CallPath) (epoch : Tables) (plan : Planned) (tree : CountedTree) (old new : Trees) (r : Result X E) → plan_of epoch ≡ plan → IsMerged plan call_path tree → old.is_over ≡ false
    → OnOk r (new.is_over ≡ false → 0 < length new.trees.items) → OnOk r (AreSmall tree.columns new.trees.items) → OnOk r (counted_by new.trees.items ≤ counted_by old.trees.items + counts_in tree.counts)
    → OnOk r ((f : CallPath) (columns : ℕ) (done own : List ColumnRaw) → All (λ s. s.column < columns) (done ++ own) → AreParts f done old.trees.items → HasPaths (sampled_paths f own) tree → AreMerged f columns (done ++ own) new)
    → OnOk r (Merges call_path epoch old new)
added_all laws call_path epoch plan tree old new (Ok x) plan_is is going some small counted merged = added_now laws call_path epoch plan tree old new plan_is is going some small counted merged
added_all laws call_path epoch plan tree old new (Err e) plan_is is going some small counted merged = tt
