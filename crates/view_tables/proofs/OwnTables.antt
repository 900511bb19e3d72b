-- The callers table and the flat table of a content are those of the paths that it was made of.
use Rattle.std.proofs.Common.{◌≡◌, ℕ, zero, suc, ◌+◌, ◌*◌, ◌<◌, ◌≤◌, Bool, true, false, cond, ◌&&◌, ◌||◌, not, ◌==◌, List, [], ◌∷◌, ◌++◌, length, All, Contains, take, drop, get_or, map, filter, count_by, reverse, decimal, refl, sym, ap, subst, ◌∙◌, true≢false, arith}
use Rattle.std.specs.Prelude.{codes}
use Rattle.std.specs.List.{list_any, flat_map, AllByRecursion}
use Rattle.std.specs.Ordering.{eq_by_cmp}
use Rattle.std.specs.declared.cmp.Ordering.{Ordering}
use Rattle.std.specs.FinMap.{IsAntisymmetric}
use Rattle.std.proofs.lemmas.Bool.{true_from_ne_false, and_parts}
use Rattle.std.proofs.lemmas.List.{take_more, take-append-drop}
use Rattle.std.proofs.lemmas.List.Folds.{Any-from_list_any, list_any_at}
use Rattle.std.proofs.lemmas.List.Sorted.{Contains-permutation, IsPermutation-reverse, IsPermutation-sym}
use Rattle.scope_types.specs.Alike.{Alike}
use Rattle.scope_types.specs.CallPaths.{ColumnPath}
use Rattle.scope_types.specs.declared.scope.ProcId.{ProcId}
use Rattle.scope_types.specs.declared.scope.LineId.{LineId}
use Rattle.scope_types.specs.declared.scope.LineId.TheVariants.{Row, Address}
use Rattle.scope_types.specs.declared.scope.Scope.{Scope}
use Rattle.scope_types.specs.declared.scope.Scope.TheVariants.{Root, Proc, Inline, Call, Stmt}
use Rattle.tree_types.specs.declared.content.Content.{Content}
use Rattle.tree_types.specs.declared.content.Names.{Names}
use Rattle.tree_types.specs.declared.content.ProcName.{ProcName}
use Rattle.tree_types.specs.declared.content.FileName.{FileName as NamedFile}
use Rattle.tree_types.specs.Ascending.{ascending}
use Rattle.tree_types.specs.Database.{content_of, names_used, naming_in}
use Rattle.tree_types.specs.Naming.{Naming, FileId, proc_order, file_order, scope_procs, scope_files, line_files, procs_used, files_used}
use Rattle.tree_types.specs.Nodes.{nodes, no_parent, own_scope}
use Rattle.tree_types.specs.Paths.{Path}
use Rattle.tree_types.specs.PathsOf.{paths_of}
use Rattle.prof_bytes.specs.Printing.{printed}
use Rattle.tree_types.specs.TopDown.{percent, table_row}
use Rattle.tree_types.proofs.Counting.{one, count_by-cons, count_none}
use Rattle.tree_types.proofs.NamesAgain.{each, flat_map_same, map_same, proc_order_total, proc_order_tells, file_order_total, file_order_tells, of_paths}
use Rattle.tree_types.proofs.NodeLaws.{prefix_is_node}
use Rattle.tree_types.proofs.PathsAgain.{nodes_alike, paths_alike}
use Rattle.tree_types.proofs.Prefixes.{list_any-flat_map}
use Rattle.tree_types.proofs.Sorting.{has, has_ascending, has-from_Contains, same_ascending, bool_same, equal_from_is, all_weaker}
use Rattle.tree_types.proofs.TreePaths.{own_scope_last}
use Rattle.view_tables.specs.Callers.{scope_item, procs_up, tails, call_chains, callers}
use Rattle.view_tables.specs.Flat.{line_file_item, line_item, frame_proc, frame_at, frames_up, frames, flat}
use Rattle.view_tables.specs.Views.{Item, File, Procedure, Sequences, ViewRow, holds_chain, ends, row_at, row_order, all_items, rows_under, item_label, mark_at, view_row, view_rows, view_header, view_table}
use Rattle.view_tables.proofs.ViewOrders.{row_order_total, row_order_tells}

-- ---- lists

all_both : {X : Type 0} (P : X → Type 0) (xs ys : List X) → AllByRecursion P xs → AllByRecursion P ys → AllByRecursion P (xs ++ ys)
all_both P [] ys a b = b
all_both P (x ∷ xs) ys a b = (a.0, all_both P xs ys a.1 b)

all_joined : {X Y : Type 0} (P : Y → Type 0) (f : X → List Y) (xs : List X) → AllByRecursion (λ x. AllByRecursion P (f x)) xs → AllByRecursion P (flat_map f xs)
all_joined P f [] all = tt
all_joined P f (x ∷ xs) all = all_both P (f x) (flat_map f xs) all.0 (all_joined P f xs all.1)

all_mapped : {X Y : Type 0} (P : Y → Type 0) (f : X → Y) (xs : List X) → AllByRecursion (λ x. P (f x)) xs → AllByRecursion P (map f xs)
all_mapped P f [] all = tt
all_mapped P f (x ∷ xs) all = (all.0, all_mapped P f xs all.1)

-- what any element of a selection passes
any_selected : {X Y : Type 0} (q t : Y → Bool) (g : X → Y) (xs : List X) → list_any q (filter t (map g xs)) ≡ list_any (λ x. t (g x) && q (g x)) xs
any_selected q t g [] = refl
any_selected {X} {Y} q t g (x ∷ xs) =
    elim (t (g x)) as (λ b. list_any q (cond b (g x ∷ filter t (map g xs)) (filter t (map g xs))) ≡ ((b && q (g x)) || list_any (λ x. t (g x) && q (g x)) xs)) [
      | true ↦ ap (λ b. q (g x) || b) (any_selected q t g xs)
      | false ↦ any_selected q t g xs
    ]

-- ---- lists that are alike

module _ {X : Type 0} where
  count_mapped : {Y : Type 0} (t : Y → Bool) (f : X → Y) (xs : List X) → count_by t (map f xs) ≡ count_by (λ x. t (f x)) xs
  count_mapped t f [] = refl
  count_mapped t f (x ∷ xs) = count_by-cons t (f x) (map f xs) ∙ ap (λ k. one (t (f x)) + k) (count_mapped t f xs) ∙ sym (count_by-cons (λ x. t (f x)) x xs)

  alike_mapped : {Y : Type 0} (f : X → Y) (xs ys : List X) → Alike xs ys → Alike (map f xs) (map f ys)
  alike_mapped f xs ys alike = record { same = λ t. count_mapped t f xs ∙ alike.same (λ x. t (f x)) ∙ sym (count_mapped t f ys) }

  some_counted : (t : X → Bool) (xs : List X) → list_any t xs ≡ true → 0 < count_by t xs
  some_counted t [] e = absurd (true≢false (sym e))
  some_counted t (x ∷ xs) e =
      let c = count_by-cons t x xs in
      elim (t x) as (λ b. (b || list_any t xs) ≡ true → one (t x) ≡ one b → 0 < count_by t (x ∷ xs)) [
        | true ↦ λ k o. omega arith
        | false ↦ λ k o. let r = some_counted t xs k in omega arith
      ] e refl

  any_from : (t : X → Bool) (xs ys : List X) → Alike xs ys → list_any t xs ≡ true → list_any t ys ≡ true
  any_from t xs ys alike k =
      true_from_ne_false (list_any t ys) (λ f. let a = some_counted t xs k in let b = count_none t ys f in let c = alike.same t in absurd (omega arith))

  turned : (xs ys : List X) → Alike xs ys → Alike ys xs
  turned xs ys alike = record { same = λ t. sym (alike.same t) }

  any_alike : (t : X → Bool) (xs ys : List X) → Alike xs ys → list_any t xs ≡ list_any t ys
  any_alike t xs ys alike = bool_same (list_any t xs) (list_any t ys) (any_from t xs ys alike) (any_from t ys xs (turned xs ys alike))

  long_alike : (xs ys : List X) → Alike xs ys → length xs ≡ length ys
  long_alike xs ys alike = sym (all_counted xs) ∙ alike.same (λ x. true) ∙ all_counted ys
    where
      all_counted : (xs : List X) → count_by (λ x. true) xs ≡ length xs
      all_counted [] = refl
      all_counted (x ∷ xs) = let first = count_by-cons (λ (x : X). true) x xs in let rest = all_counted xs in omega arith

-- ---- rows of samples

abbrev is_some : ViewRow → Bool
is_some r = not (r.inclusive == 0)

module _ (period : ℕ) where
  rows_alike : (ss ts : List Sequences) (chain : List Item) → Alike ss ts → rows_under period ss chain ≡ rows_under period ts chain
  unfolding rows_under
  rows_alike ss ts chain alike =
      let row : row_at period ss chain ≡ row_at period ts chain =
      λ i item. record { inclusive = period * alike.same (holds_chain (chain ++ item ∷ [])) i; item = item; exclusive = period * alike.same (ends (chain ++ item ∷ [])) i } in
      let g : Item → ViewRow = row_at period ts chain in
      ap (λ (f : Item → ViewRow). ascending row_order (filter is_some (map f (all_items ss)))) row
      ∙ same_ascending row_order_total row_order_tells (filter is_some (map g (all_items ss))) (filter is_some (map g (all_items ts))) (λ q.
      let t : Item → Bool = λ item. is_some (g item) && eq_by_cmp row_order q (g item) in
      let of_sample : Sequences → Bool = λ sample. list_any t (flat_map (λ items. items) sample) in
      any_selected (eq_by_cmp row_order q) is_some g (all_items ss) ∙ list_any-flat_map t (λ sample. flat_map (λ items. items) sample) ss
      ∙ any_alike of_sample ss ts alike
      ∙ sym (list_any-flat_map t (λ sample. flat_map (λ items. items) sample) ts) ∙ sym (any_selected (eq_by_cmp row_order q) is_some g (all_items ts)))

  -- the item of a row is one of the samples'
  item_of_row : (ss : List Sequences) (chain : List Item) (r : ViewRow) → Contains (rows_under period ss chain) r → Contains (all_items ss) r.item
  unfolding rows_under
  item_of_row ss chain r c =
      let g : Item → ViewRow = row_at period ss chain in
      let t : Item → Bool = λ item. is_some (g item) && eq_by_cmp row_order r (g item) in
      let there : list_any t (all_items ss) ≡ true =
      sym (any_selected (eq_by_cmp row_order r) is_some g (all_items ss))
      ∙ sym (has_ascending row_order_total row_order_tells r (filter is_some (map g (all_items ss))))
      ∙ has-from_Contains row_order_total row_order_tells r (ascending row_order (filter is_some (map g (all_items ss)))) c in
      let a = Any-from_list_any t (all_items ss) there in
      let tied = and_parts (is_some (g a.1)) (eq_by_cmp row_order r (g a.1)) a.4 in
      let is : r ≡ g a.1 = row_order_tells r (g a.1) (equal_from_is (row_order r (g a.1)) tied.1) in
      subst (λ (item : Item). Contains (all_items ss) item) (sym (ap (λ (r : ViewRow). r.item) is)) (a.0, a.2, a.3)

  rows_text_alike : (naming : Naming) (mark : List ℕ) (ss ts : List Sequences) → Alike ss ts → (levels : ℕ) (chain : List Item) → view_rows period naming mark ss levels chain ≡ view_rows period naming mark ts levels chain
  unfolding view_rows
  rows_text_alike naming mark ss ts alike zero chain = refl
  rows_text_alike naming mark ss ts alike (suc levels) chain =
      λ i. flat_map (λ r. view_row naming mark (period * long_alike ss ts alike i) (length chain) r ++ rows_text_alike naming mark ss ts alike levels (chain ++ r.item ∷ []) i) (rows_alike ss ts chain alike i)

  rows_text_named : (a b : Naming) (mark : List ℕ) (ss : List Sequences) → ((item : Item) → Contains (all_items ss) item → item_label a item ≡ item_label b item)
      → (levels : ℕ) (chain : List Item) → view_rows period a mark ss levels chain ≡ view_rows period b mark ss levels chain
  unfolding view_rows
  rows_text_named a b mark ss same zero chain = refl
  rows_text_named a b mark ss same (suc levels) chain =
      let total : ℕ = period * length ss in
      let text = λ (naming : Naming) (r : ViewRow). view_row naming mark total (length chain) r ++ view_rows period naming mark ss levels (chain ++ r.item ∷ []) in
      flat_map_same (text a) (text b) (rows_under period ss chain) (each (λ r. text a r ≡ text b r) (rows_under period ss chain) (λ r c.
      λ i. table_row (decimal r.inclusive) (percent r.inclusive total) (decimal r.exclusive) (length chain) (mark_at mark (length chain) ++ same r.item (item_of_row ss chain r c) i)
      ++ rows_text_named a b mark ss same levels (chain ++ r.item ∷ []) i))

-- ---- scopes whose names are the same

module _ (a b : Naming) where
  abbrev SameNames : Scope → Type 0
  SameNames s = AllByRecursion (λ id. a.proc_name id ≡ b.proc_name id) (scope_procs s) × AllByRecursion (λ f. a.file_name f.0 f.1 ≡ b.file_name f.0 f.1) (scope_files s)

  abbrev SameLabel : Item → Type 0
  SameLabel item = item_label a item ≡ item_label b item

  scope_labels : (s : Scope) → SameNames s → AllByRecursion SameLabel (scope_item s)
  scope_labels (Root kind) same = tt
  scope_labels (Proc id) same = (ap printed same.0.0, tt)
  scope_labels (Inline callee call) same = tt
  scope_labels (Call line) same = tt
  scope_labels (Stmt line) same = tt

  abbrev SameLabels : List Item → Type 0
  SameLabels items = AllByRecursion SameLabel items

  tail_labels : (items : List Item) → AllByRecursion SameLabel items → AllByRecursion SameLabels (tails items)
  tail_labels [] all = tt
  tail_labels (item ∷ items) all = (all, tail_labels items all.1)

  chain_labels : (scopes : Path) → AllByRecursion SameNames scopes → AllByRecursion SameLabels (tails (procs_up scopes))
  chain_labels scopes all =
      tail_labels (procs_up scopes) (all_joined SameLabel scope_item scopes (all_weaker SameNames (λ s. AllByRecursion SameLabel (scope_item s)) scope_labels scopes all))

  proc_names : (outer : Path) → AllByRecursion SameNames outer → AllByRecursion (λ id. a.proc_name id ≡ b.proc_name id) (frame_proc outer)
  proc_names [] all = tt
  proc_names (Root kind ∷ outer) all = proc_names outer all.1
  proc_names (Proc id ∷ outer) all = (all.0.0.0, tt)
  proc_names (Inline callee call ∷ outer) all = proc_names outer all.1
  proc_names (Call line ∷ outer) all = tt
  proc_names (Stmt line ∷ outer) all = tt

  file_labels : (naming : Naming) (line : LineId) → SameLabel (line_file_item naming line)
  file_labels naming (Row table file line) = refl
  file_labels naming (Address address) = refl

  line_labels : (line : LineId) → SameLabel (line_item line)
  line_labels (Row table file line) = refl
  line_labels (Address address) = refl

  frame_labels : (naming : Naming) (line : LineId) (outer : Path) → AllByRecursion SameNames outer → AllByRecursion SameLabels (frame_at naming line outer)
  frame_labels naming line outer all =
      all_mapped SameLabels (λ id. line_file_item naming line ∷ Procedure id ∷ line_item line ∷ []) (frame_proc outer)
      (all_weaker (λ id. a.proc_name id ≡ b.proc_name id) (λ id. SameLabels (line_file_item naming line ∷ Procedure id ∷ line_item line ∷ []))
      (λ id same. (file_labels naming line, (ap printed same, (line_labels line, tt)))) (frame_proc outer) (proc_names outer all))

  frames_labels : (naming : Naming) (scopes : Path) → AllByRecursion SameNames scopes → AllByRecursion SameLabels (frames_up naming scopes)
  frames_labels naming [] all = tt
  frames_labels naming (Root kind ∷ outer) all = frames_labels naming outer all.1
  frames_labels naming (Proc id ∷ outer) all = frames_labels naming outer all.1
  frames_labels naming (Inline callee call ∷ outer) all = frames_labels naming outer all.1
  frames_labels naming (Call line ∷ outer) all =
      all_both SameLabels (frame_at naming line outer ++ []) (frames_up naming outer) (all_both SameLabels (frame_at naming line outer) [] (frame_labels naming line outer all.1) tt) (frames_labels naming outer all.1)
  frames_labels naming (Stmt line ∷ outer) all =
      all_both SameLabels (frame_at naming line outer ++ []) (frames_up naming outer) (all_both SameLabels (frame_at naming line outer) [] (frame_labels naming line outer all.1) tt) (frames_labels naming outer all.1)

  file_same : (line : LineId) → AllByRecursion (λ f. a.file_name f.0 f.1 ≡ b.file_name f.0 f.1) (line_files line) → line_file_item a line ≡ line_file_item b line
  file_same (Row table file line) all = ap File all.0
  file_same (Address address) all = refl

  frames_same : (scopes : Path) → AllByRecursion SameNames scopes → frames_up a scopes ≡ frames_up b scopes
  frames_same [] all = refl
  frames_same (Root kind ∷ outer) all = frames_same outer all.1
  frames_same (Proc id ∷ outer) all = frames_same outer all.1
  frames_same (Inline callee call ∷ outer) all = frames_same outer all.1
  frames_same (Call line ∷ outer) all = λ i. (map (λ id. file_same line all.0.1 i ∷ Procedure id ∷ line_item line ∷ []) (frame_proc outer) ++ []) ++ frames_same outer all.1 i
  frames_same (Stmt line ∷ outer) all = λ i. (map (λ id. file_same line all.0.1 i ∷ Procedure id ∷ line_item line ∷ []) (frame_proc outer) ++ []) ++ frames_same outer all.1 i

  -- all items of samples, each sample's labels being the same
  items_labels : (f : ColumnPath → Sequences) (ps : List ColumnPath) → AllByRecursion (λ p. AllByRecursion SameLabels (f p)) ps → (item : Item) → Contains (all_items (map f ps)) item → SameLabel item
  items_labels f ps all item c = all_at (all_items (map f ps)) (all_joined SameLabel (λ sample. flat_map (λ items. items) sample) (map f ps)
      (all_mapped (λ sample. SameLabels (flat_map (λ items. items) sample)) f ps
      (all_weaker (λ p. AllByRecursion SameLabels (f p)) (λ p. SameLabels (flat_map (λ items. items) (f p))) (λ p h. all_joined SameLabel (λ items. items) (f p) h) ps all))) c.0 item c.1 c.2
    where
      all_at : (xs : List Item) → AllByRecursion SameLabel xs → (k : ℕ) (item : Item) → k < length xs → get_or xs k item ≡ item → SameLabel item
      all_at [] all k item lt at = absurd (omega arith)
      all_at (x ∷ xs) all zero item lt at = subst SameLabel at all.0
      all_at (x ∷ xs) all (suc k) item lt at = all_at xs all.1 k item (omega arith) at

  -- all call paths' scopes have the same names, from the outermost scope down and back
  abbrev SamePaths : List ColumnPath → Type 0
  SamePaths ps = AllByRecursion (λ p. AllByRecursion SameNames (reverse p.path)) ps

  callers_named : (period depth : ℕ) (ps : List ColumnPath) → SamePaths ps → callers period a depth ps ≡ callers period b depth ps
  unfolding callers
  callers_named period depth ps all =
      ap (λ (text : List ℕ). view_header ++ text) (rows_text_named period a b (codes "<- ") (map call_chains ps)
      (items_labels call_chains ps (all_weaker (λ p. AllByRecursion SameNames (reverse p.path)) (λ p. AllByRecursion SameLabels (call_chains p)) (λ p h. chain_labels (reverse p.path) h) ps all))
      (depth + 1) [])

  flat_named : (period : ℕ) (ps : List ColumnPath) → SamePaths ps → flat period a ps ≡ flat period b ps
  unfolding flat
  flat_named period ps all =
      let same : map (frames a) ps ≡ map (frames b) ps =
      map_same (frames a) (frames b) ps (all_weaker (λ p. AllByRecursion SameNames (reverse p.path)) (λ p. frames a p ≡ frames b p) (λ p h. frames_same (reverse p.path) h) ps all) in
      ap (λ (samples : List Sequences). view_table period a [] samples 3) same
      ∙ ap (λ (text : List ℕ). view_header ++ text) (rows_text_named period a b [] (map (frames b) ps)
      (items_labels (frames b) ps (all_weaker (λ p. AllByRecursion SameNames (reverse p.path)) (λ p. AllByRecursion SameLabels (frames b p)) (λ p h. frames_labels b (reverse p.path) h) ps all))
      3 [])

-- ---- the names of a content

-- equal names at each element are equal at one that is there
same_at : {K X : Type 0} {R : K → K → Ordering} → IsAntisymmetric R → (f g : K → X) (ks : List K) (k : K) → map f ks ≡ map g ks → has R k ks ≡ true → f k ≡ g k
same_at apart f g [] k same h = absurd (true≢false (sym h))
same_at {K} {X} {R} apart f g (x ∷ xs) k same h =
    let heads : f x ≡ g x = cc in
    let tails : map f xs ≡ map g xs = cc in
    elim (eq_by_cmp R k x) as (λ b. eq_by_cmp R k x ≡ b → (b || has R k xs) ≡ true → f k ≡ g k) [
      | true ↦ λ e there. subst (λ (z : K). f z ≡ g z) (sym (apart k x (equal_from_is (R k x) e))) heads
      | false ↦ λ e there. same_at apart f g xs k tails there
    ] refl h

abbrev named_proc : Naming → ProcId → ProcName
named_proc naming id = record { id = id; name = naming.proc_name id }

abbrev named_file : Naming → FileId → NamedFile
named_file naming f = record { table = f.0; file = f.1; name = naming.file_name f.0 f.1 }

module _ (ps : List ColumnPath) (a b : Naming) (same : names_used a ps ≡ names_used b ps) where
  -- the node that ends with a scope of a path
  node_of : (p : ColumnPath) (s : Scope) → Contains ps p → Contains p.path s → (n : Path) × Contains (nodes ps) n × (own_scope n ≡ s)
  node_of p s there c =
      let n : Path = take (c.0 + 1) p.path in
      let parts : n ≡ take c.0 p.path ++ s ∷ [] = take_more p.path c.0 s c.1 ∙ ap (λ (x : Scope). take c.0 p.path ++ x ∷ []) c.2 in (
        n,
        prefix_is_node ps p n there (record { some = subst (λ (m : Path). 0 < length m) (sym parts) (long (take c.0 p.path)); rest = drop (c.0 + 1) p.path; parts = sym (take-append-drop (c.0 + 1) p.path) }),
        ap own_scope parts ∙ own_scope_last (take c.0 p.path) s,
      )
    where
      long : (front : Path) → 0 < length (front ++ s ∷ [])
      long [] = omega arith
      long (x ∷ front) = omega arith

  pub proc_there : (n : Path) (id : ProcId) → Contains (nodes ps) n → has proc_order id (scope_procs (own_scope n)) ≡ true → has proc_order id (procs_used (nodes ps)) ≡ true
  unfolding procs_used
  proc_there n id c h =
      let t = λ (n : Path). has proc_order id (scope_procs (own_scope n)) in
      has_ascending proc_order_total proc_order_tells id (flat_map (λ n. scope_procs (own_scope n)) (nodes ps)) ∙ list_any-flat_map (eq_by_cmp proc_order id) (λ n. scope_procs (own_scope n)) (nodes ps)
      ∙ list_any_at t (nodes ps) c.0 n c.1 (subst (λ (z : Path). t z ≡ true) (sym c.2) h)

  pub file_there : (n : Path) (f : FileId) → Contains (nodes ps) n → has file_order f (scope_files (own_scope n)) ≡ true → has file_order f (files_used (nodes ps)) ≡ true
  unfolding files_used
  file_there n f c h =
      let t = λ (n : Path). has file_order f (scope_files (own_scope n)) in
      has_ascending file_order_total file_order_tells f (flat_map (λ n. scope_files (own_scope n)) (nodes ps)) ∙ list_any-flat_map (eq_by_cmp file_order f) (λ n. scope_files (own_scope n)) (nodes ps)
      ∙ list_any_at t (nodes ps) c.0 n c.1 (subst (λ (z : Path). t z ≡ true) (sym c.2) h)

  pub proc_same : (id : ProcId) → has proc_order id (procs_used (nodes ps)) ≡ true → a.proc_name id ≡ b.proc_name id
  proc_same id h =
      ap (λ (p : ProcName). p.name) (same_at proc_order_tells (named_proc a) (named_proc b) (procs_used (nodes ps)) id (ap (λ (names : Names). names.procs) same) h)

  pub named_same : (f : FileId) → has file_order f (files_used (nodes ps)) ≡ true → a.file_name f.0 f.1 ≡ b.file_name f.0 f.1
  named_same f h =
      ap (λ (x : NamedFile). x.name) (same_at file_order_tells (named_file a) (named_file b) (files_used (nodes ps)) f (ap (λ (names : Names). names.files) same) h)

  scope_same : (p : ColumnPath) (s : Scope) → Contains ps p → Contains p.path s → SameNames a b s
  scope_same p s there c =
      let n = node_of p s there c in (
        each (λ id. a.proc_name id ≡ b.proc_name id) (scope_procs s) (λ id d.
            proc_same id (proc_there n.0 id n.1 (subst (λ (z : Scope). has proc_order id (scope_procs z) ≡ true) (sym n.2) (has-from_Contains proc_order_total proc_order_tells id (scope_procs s) d)))),
        each (λ f. a.file_name f.0 f.1 ≡ b.file_name f.0 f.1) (scope_files s) (λ f d.
            named_same f (file_there n.0 f n.1 (subst (λ (z : Scope). has file_order f (scope_files z) ≡ true) (sym n.2) (has-from_Contains file_order_total file_order_tells f (scope_files s) d)))),
      )

  same_paths : SamePaths a b ps
  same_paths =
      each (λ p. AllByRecursion (SameNames a b) (reverse p.path)) ps (λ p there.
      each (SameNames a b) (reverse p.path) (λ s c.
      scope_same p s there (Contains-permutation (reverse p.path) p.path s (IsPermutation-sym p.path (reverse p.path) (IsPermutation-reverse p.path)) c)))

-- ---- the tables of a content

module _ (period columns : ℕ) (naming : Naming) (ps : List ColumnPath) (positive : 0 < period) (few : length (nodes ps) ≤ no_parent) (some : All (λ p. 0 < length p.path) ps) (below : All (λ p. p.column < columns) ps) where
  abbrev c : Content
  c = content_of period columns naming ps

  alike : Alike (paths_of c) ps
  alike = paths_alike period columns naming ps positive few some below

  period_is : c.period ≡ period
  unfolding content_of
  period_is = refl

  names_again : names_used (naming_in c.names) (paths_of c) ≡ names_used naming (paths_of c)
  unfolding content_of
  names_again =
      ap (λ (c : Content). c.names) (of_paths period columns naming ps positive few some below)
      ∙ (λ i. record {
        procs = map (named_proc naming) (procs_used (sym (nodes_alike (paths_of c) ps alike) i));
        files = map (named_file naming) (files_used (sym (nodes_alike (paths_of c) ps alike) i));
      })

  pub callers_of_content : (depth : ℕ) → callers c.period (naming_in c.names) depth (paths_of c) ≡ callers period naming depth ps
  unfolding callers
  callers_of_content depth =
      ap (λ (p : ℕ). callers p (naming_in c.names) depth (paths_of c)) period_is
      ∙ callers_named (naming_in c.names) naming period depth (paths_of c) (same_paths (paths_of c) (naming_in c.names) naming names_again)
      ∙ ap (λ (text : List ℕ). view_header ++ text) (rows_text_alike period naming (codes "<- ") (map call_chains (paths_of c)) (map call_chains ps) (alike_mapped call_chains (paths_of c) ps alike) (depth + 1) [])

  pub flat_of_content : flat c.period (naming_in c.names) (paths_of c) ≡ flat period naming ps
  unfolding flat
  flat_of_content =
      ap (λ (p : ℕ). flat p (naming_in c.names) (paths_of c)) period_is
      ∙ flat_named (naming_in c.names) naming period (paths_of c) (same_paths (paths_of c) (naming_in c.names) naming names_again)
      ∙ ap (λ (text : List ℕ). view_header ++ text) (rows_text_alike period naming [] (map (frames naming) (paths_of c)) (map (frames naming) ps) (alike_mapped (frames naming) (paths_of c) ps alike) 3 [])

pub callers_again : (period columns depth : ℕ) (naming : Naming) (ps : List ColumnPath) → 0 < period → length (nodes ps) ≤ no_parent → All (λ p. 0 < length p.path) ps → All (λ p. p.column < columns) ps
    → callers (content_of period columns naming ps).period (naming_in (content_of period columns naming ps).names) depth (paths_of (content_of period columns naming ps)) ≡ callers period naming depth ps
callers_again period columns depth naming ps positive few some below = callers_of_content period columns naming ps positive few some below depth

pub ruleset own_tables = (callers_again, flat_of_content)
