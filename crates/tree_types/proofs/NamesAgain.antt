-- The names of a content serve as well as those that it was made with.
use Rattle.std.proofs.Common.{◌≡◌, ℕ, ◌-◌, ◌*◌, ◌<◌, ◌≤◌, true, false, cond, ◌||◌, Bool, List, [], ◌∷◌, ◌++◌, length, map, All, Contains, codes, decimal, refl, sym, ap, subst, ◌∙◌, true≢false}
use Rattle.std.specs.FinMap.{IsAntisymmetric, nat_cmp-IsAntisymmetric, slice_cmp-IsAntisymmetric}
use Rattle.std.specs.List.{flat_map, list_any, AllByRecursion}
use Rattle.std.specs.Cmp.{IsTotalOrder}
use Rattle.std.specs.Ordering.{eq_by_cmp}
use Rattle.std.proofs.lemmas.Cmp.{on_total, nat_list_cmp_total}
use Rattle.std.proofs.lemmas.List.Folds.{list_any_at}
use Rattle.std.proofs.lemmas.List.Elements.{recursion_from_All, All-contains_itself}
use Rattle.scope_types.specs.CallPaths.{ColumnPath}
use Rattle.scope_types.specs.declared.scope.RootKind.TheVariants.{Thread, Partial}
use Rattle.scope_types.specs.declared.scope.ProcId.{ProcId}
use Rattle.scope_types.specs.declared.scope.LineId.{LineId}
use Rattle.scope_types.specs.declared.scope.LineId.TheVariants.{Row, Address}
use Rattle.scope_types.specs.declared.scope.Scope.{Scope}
use Rattle.scope_types.specs.declared.scope.Scope.TheVariants.{Root, Proc, Inline, Call, Stmt}
use Rattle.scope_types.specs.Words.{proc_words}
use Rattle.scope_types.proofs.Orders.{scope_order_tells}
use Rattle.tree_types.specs.declared.content.Content.{Content}
use Rattle.tree_types.specs.declared.content.Names.{Names}
use Rattle.tree_types.specs.declared.content.FileName.{FileName}
use Rattle.tree_types.specs.declared.content.ProcName.{ProcName}
use Rattle.tree_types.specs.declared.content.Kind.TheVariants.{Frame, Inclusive}
use Rattle.tree_types.specs.Paths.{Path}
use Rattle.tree_types.specs.Nodes.{nodes, no_parent, own_scope}
use Rattle.tree_types.specs.Naming.{Naming, FileId, proc_order, file_order, line_files, scope_procs, scope_files, procs_used, files_used}
use Rattle.tree_types.specs.Database.{names_used, content_of, proc_named, file_named, naming_in}
use Rattle.prof_bytes.specs.Printing.{printed}
use Rattle.tree_types.specs.TopDown.{line_label, label, header, table_row, percent, over_columns, node_row, top_down}
use Rattle.tree_types.specs.OfContent.{IsOfPaths, content_table}
use Rattle.tree_types.specs.PathsOf.{paths_of}
use Rattle.tree_types.proofs.Sorting.{has, has_itself, has_ascending, equal_from_is, all_weaker, has-from_Contains}
use Rattle.tree_types.proofs.Prefixes.{list_any-flat_map}
use Rattle.tree_types.proofs.PathsAgain.{paths_alike, content_alike, table_alike}

pub proc_order_total : IsTotalOrder proc_order
proc_order_total = on_total proc_words nat_list_cmp_total

proc_same : (p q : ProcId) → Proc p ≡ Proc q → p ≡ q
proc_same p q e = cc

pub proc_order_tells : IsAntisymmetric proc_order
proc_order_tells p q e = proc_same p q (scope_order_tells (Proc p) (Proc q) e)

abbrev file_words : FileId → List ℕ
file_words f = f.0 ∷ f.1 ∷ []

pub file_order_total : IsTotalOrder file_order
file_order_total = on_total file_words nat_list_cmp_total

first_same : (a b c d : ℕ) → (a ∷ b ∷ []) ≡ (c ∷ d ∷ []) → a ≡ c
first_same a b c d e = cc

second_same : (a b c d : ℕ) → (a ∷ b ∷ []) ≡ (c ∷ d ∷ []) → b ≡ d
second_same a b c d e = cc

pub file_order_tells : IsAntisymmetric file_order
file_order_tells f g e =
    let k : file_words f ≡ file_words g = slice_cmp-IsAntisymmetric nat_cmp-IsAntisymmetric (file_words f) (file_words g) e in
    λ i. (first_same f.0 f.1 g.0 g.1 k i, second_same f.0 f.1 g.0 g.1 k i)

-- ---- a name that is there is found

proc_found : (naming : Naming) (us : List ProcId) (id : ProcId) → has proc_order id us ≡ true → proc_named (map (λ id. record { id = id; name = naming.proc_name id }) us) id ≡ naming.proc_name id
proc_found naming [] id h = absurd (true≢false (sym h))
proc_found naming (u ∷ us) id h =
    elim (eq_by_cmp proc_order id u) as (λ b. eq_by_cmp proc_order id u ≡ b → (b || has proc_order id us) ≡ true → cond b (naming.proc_name u) (proc_named (map (λ id. record { id = id; name = naming.proc_name id }) us) id) ≡ naming.proc_name id) [
      | true ↦ λ e k. ap naming.proc_name (sym (proc_order_tells id u (equal_from_is (proc_order id u) e)))
      | false ↦ λ e k. proc_found naming us id k
    ] refl h

file_found : (naming : Naming) (us : List FileId) (f : FileId) → has file_order f us ≡ true → file_named (map (λ f. record { table = f.0; file = f.1; name = naming.file_name f.0 f.1 }) us) f.0 f.1 ≡ naming.file_name f.0 f.1
file_found naming [] f h = absurd (true≢false (sym h))
file_found naming (u ∷ us) f h =
    elim (eq_by_cmp file_order f u) as (λ b. eq_by_cmp file_order f u ≡ b → (b || has file_order f us) ≡ true → cond b (naming.file_name u.0 u.1) (file_named (map (λ f. record { table = f.0; file = f.1; name = naming.file_name f.0 f.1 }) us) f.0 f.1) ≡ naming.file_name f.0 f.1) [
      | true ↦ λ e k. ap (λ (g : FileId). naming.file_name g.0 g.1) (sym (file_order_tells f u (equal_from_is (file_order f u) e)))
      | false ↦ λ e k. file_found naming us f k
    ] refl h

-- ---- what a node's scope uses is there

uses_proc : (ns : List Path) (id : ProcId) → has proc_order id (procs_used ns) ≡ list_any (λ n. has proc_order id (scope_procs (own_scope n))) ns
unfolding procs_used
uses_proc ns id =
    has_ascending proc_order_total proc_order_tells id (flat_map (λ n. scope_procs (own_scope n)) ns) ∙ list_any-flat_map (eq_by_cmp proc_order id) (λ n. scope_procs (own_scope n)) ns

uses_file : (ns : List Path) (f : FileId) → has file_order f (files_used ns) ≡ list_any (λ n. has file_order f (scope_files (own_scope n))) ns
unfolding files_used
uses_file ns f =
    has_ascending file_order_total file_order_tells f (flat_map (λ n. scope_files (own_scope n)) ns) ∙ list_any-flat_map (eq_by_cmp file_order f) (λ n. scope_files (own_scope n)) ns

proc_used : (ns : List Path) (n : Path) (id : ProcId) → Contains ns n → has proc_order id (scope_procs (own_scope n)) ≡ true → has proc_order id (procs_used ns) ≡ true
proc_used ns n id c h =
    let t = λ (n : Path). has proc_order id (scope_procs (own_scope n)) in
    uses_proc ns id ∙ list_any_at t ns c.0 n c.1 (subst (λ (z : Path). t z ≡ true) (sym c.2) h)

file_used : (ns : List Path) (n : Path) (f : FileId) → Contains ns n → has file_order f (scope_files (own_scope n)) ≡ true → has file_order f (files_used ns) ≡ true
file_used ns n f c h =
    let t = λ (n : Path). has file_order f (scope_files (own_scope n)) in
    uses_file ns f ∙ list_any_at t ns c.0 n c.1 (subst (λ (z : Path). t z ≡ true) (sym c.2) h)

-- ---- the same labels

module _ (a b : Naming) where
  place_same : (line : LineId) → ((f : FileId) → has file_order f (line_files line) ≡ true → a.file_name f.0 f.1 ≡ b.file_name f.0 f.1) → line_label a line ≡ line_label b line
  place_same (Row table file line) h = ap (λ (x : List ℕ). printed x ++ codes ":" ++ decimal line) (h (table, file) (has_itself file_order_total (table, file) []))
  place_same (Address address) h = refl

  label_same : (s : Scope) → ((id : ProcId) → has proc_order id (scope_procs s) ≡ true → a.proc_name id ≡ b.proc_name id) → ((f : FileId) → has file_order f (scope_files s) ≡ true → a.file_name f.0 f.1 ≡ b.file_name f.0 f.1) → label a s ≡ label b s
  label_same (Root Thread) p f = refl
  label_same (Root Partial) p f = refl
  label_same (Proc id) p f = ap printed (p id (has_itself proc_order_total id []))
  label_same (Inline callee call) p f = λ i. codes "[I] " ++ printed (p callee (has_itself proc_order_total callee []) i) ++ codes " called at " ++ place_same call f i
  label_same (Call line) p f = ap (λ (x : List ℕ). codes "call at " ++ x) (place_same line f)
  label_same (Stmt line) p f = place_same line f

pub map_same : {X Y : Type 0} (f g : X → Y) (xs : List X) → AllByRecursion (λ x. f x ≡ g x) xs → map f xs ≡ map g xs
map_same f g [] all = refl
map_same f g (x ∷ xs) all = λ i. all.0 i ∷ map_same f g xs all.1 i

pub flat_map_same : {X Y : Type 0} (f g : X → List Y) (xs : List X) → AllByRecursion (λ x. f x ≡ g x) xs → flat_map f xs ≡ flat_map g xs
flat_map_same f g [] all = refl
flat_map_same f g (x ∷ xs) all = λ i. all.0 i ++ flat_map_same f g xs all.1 i

pub each : {X : Type 0} (P : X → Type 0) (xs : List X) → ((x : X) → Contains xs x → P x) → AllByRecursion P xs
each P xs h = all_weaker (Contains xs) P h xs (recursion_from_All (Contains xs) xs (All-contains_itself xs))

abbrev named_proc : ProcId → List ℕ → ProcName
named_proc id name = record { id = id; name = name }

abbrev named_file : FileId → List ℕ → FileName
named_file f name = record { table = f.0; file = f.1; name = name }

-- ---- names for paths whose nodes are among those that the names are for

any_within : {X : Type 0} (t : X → Bool) (xs ys : List X) → ((x : X) → Contains xs x → Contains ys x) → list_any t xs ≡ true → list_any t ys ≡ true
any_within {X} t xs ys within e = from xs (each (λ x. Contains ys x) xs within) e
  where
    from : (zs : List X) → AllByRecursion (λ x. Contains ys x) zs → list_any t zs ≡ true → list_any t ys ≡ true
    from [] all k = absurd (true≢false (sym k))
    from (z ∷ zs) all k = elim (t z) as (λ b. t z ≡ b → (b || list_any t zs) ≡ true → list_any t ys ≡ true) [
      | true ↦ λ h f. list_any_at t ys all.0.0 z all.0.1 (subst (λ (x : X). t x ≡ true) (sym all.0.2) h)
      | false ↦ λ h f. from zs all.1 f
    ] refl k

names_within : (naming : Naming) (ps qs : List ColumnPath) → ((n : Path) → Contains (nodes qs) n → Contains (nodes ps) n) → names_used (naming_in (names_used naming ps)) qs ≡ names_used naming qs
names_within naming ps qs within =
    let us : List ProcId = procs_used (nodes qs) in let fs : List FileId = files_used (nodes qs) in
    let own : Naming = naming_in (names_used naming ps) in
    let p : map (λ id. record { id = id; name = own.proc_name id }) us ≡ (names_used naming qs).procs =
    map_same (λ id. record { id = id; name = own.proc_name id }) (λ id. record { id = id; name = naming.proc_name id }) us
    (each (λ id. named_proc id (own.proc_name id) ≡ named_proc id (naming.proc_name id)) us (λ id c. ap (named_proc id) (proc_found naming (procs_used (nodes ps)) id
    (uses_proc (nodes ps) id ∙ any_within (λ n. has proc_order id (scope_procs (own_scope n))) (nodes qs) (nodes ps) within (sym (uses_proc (nodes qs) id) ∙ has-from_Contains proc_order_total proc_order_tells id us c))))) in
    let f : map (λ f. record { table = f.0; file = f.1; name = own.file_name f.0 f.1 }) fs ≡ (names_used naming qs).files =
    map_same (λ f. record { table = f.0; file = f.1; name = own.file_name f.0 f.1 }) (λ f. record { table = f.0; file = f.1; name = naming.file_name f.0 f.1 }) fs
    (each (λ f. named_file f (own.file_name f.0 f.1) ≡ named_file f (naming.file_name f.0 f.1)) fs (λ f c. ap (named_file f) (file_found naming (files_used (nodes ps)) f
    (uses_file (nodes ps) f ∙ any_within (λ n. has file_order f (scope_files (own_scope n))) (nodes qs) (nodes ps) within (sym (uses_file (nodes qs) f) ∙ has-from_Contains file_order_total file_order_tells f fs c))))) in
    λ i. record { procs = p i; files = f i }

pub names_again : (naming : Naming) (ps : List ColumnPath) → names_used (naming_in (names_used naming ps)) ps ≡ names_used naming ps
names_again naming ps = names_within naming ps ps (λ n c. c)

-- a content of such paths is the same under the names
pub content_within : (period columns : ℕ) (naming : Naming) (ps qs : List ColumnPath) → ((n : Path) → Contains (nodes qs) n → Contains (nodes ps) n)
    → content_of period columns (naming_in (names_used naming ps)) qs ≡ content_of period columns naming qs
unfolding content_of
content_within period columns naming ps qs within = ap (λ (x : Names). record (content_of period columns naming qs) { names = x }) (names_within naming ps qs within)

abbrev row_with : ℕ → ℕ → List ColumnPath → Path → List ℕ → List ℕ
row_with period columns ps n text =
    let inclusive = over_columns period columns ps n Inclusive in
    table_row (decimal inclusive) (percent inclusive (period * length ps)) (decimal (over_columns period columns ps n Frame)) (length n - 1) text

pub own_names_table : (period columns : ℕ) (naming : Naming) (ps : List ColumnPath) → top_down period columns (naming_in (names_used naming ps)) ps ≡ top_down period columns naming ps
unfolding top_down
own_names_table period columns naming ps =
    let own : Naming = naming_in (names_used naming ps) in
    ap (λ (x : List ℕ). header ++ x) (flat_map_same (node_row period columns own ps) (node_row period columns naming ps) (nodes ps) (each (λ n. node_row period columns own ps n ≡ node_row period columns naming ps n) (nodes ps) (λ n c.
    let l : label own (own_scope n) ≡ label naming (own_scope n) =
    label_same own naming (own_scope n) (λ id h. proc_found naming (procs_used (nodes ps)) id (proc_used (nodes ps) n id c h)) (λ f h. file_found naming (files_used (nodes ps)) f (file_used (nodes ps) n f c h)) in
    λ i. row_with period columns ps n (l i))))

-- a content is that of its own paths under its own names, and so is the table
pub content_is_own : (period columns : ℕ) (naming : Naming) (ps : List ColumnPath) → 0 < period → length (nodes ps) ≤ no_parent → All (λ p. 0 < length p.path) ps → All (λ p. p.column < columns) ps
    → content_of period columns (naming_in (names_used naming ps)) (paths_of (content_of period columns naming ps)) ≡ content_of period columns naming ps
content_is_own period columns naming ps positive few some below =
    content_alike period columns (naming_in (names_used naming ps)) (paths_of (content_of period columns naming ps)) ps (paths_alike period columns naming ps positive few some below) ∙ content_within period columns naming ps ps (λ n c. c)

pub table_is_own : (period columns : ℕ) (naming : Naming) (ps : List ColumnPath) → 0 < period → length (nodes ps) ≤ no_parent → All (λ p. 0 < length p.path) ps → All (λ p. p.column < columns) ps
    → top_down period columns (naming_in (names_used naming ps)) (paths_of (content_of period columns naming ps)) ≡ top_down period columns naming ps
table_is_own period columns naming ps positive few some below =
    table_alike period columns (naming_in (names_used naming ps)) (paths_of (content_of period columns naming ps)) ps (paths_alike period columns naming ps positive few some below) ∙ own_names_table period columns naming ps

names_are : (period columns : ℕ) (naming : Naming) (ps : List ColumnPath) → (content_of period columns naming ps).names ≡ names_used naming ps
unfolding content_of
names_are period columns naming ps = refl

period_is : (period columns : ℕ) (naming : Naming) (ps : List ColumnPath) → (content_of period columns naming ps).period ≡ period
unfolding content_of
period_is period columns naming ps = refl

columns_are : (period columns : ℕ) (naming : Naming) (ps : List ColumnPath) → (content_of period columns naming ps).columns ≡ columns
unfolding content_of
columns_are period columns naming ps = refl

pub of_paths : (period columns : ℕ) (naming : Naming) (ps : List ColumnPath) → 0 < period → length (nodes ps) ≤ no_parent → All (λ p. 0 < length p.path) ps → All (λ p. p.column < columns) ps → IsOfPaths (content_of period columns naming ps)
of_paths period columns naming ps positive few some below =
    let c : Content = content_of period columns naming ps in
    (λ i. content_of (period_is period columns naming ps i) (columns_are period columns naming ps i) (naming_in (names_are period columns naming ps i)) (paths_of c)) ∙ content_is_own period columns naming ps positive few some below

pub table_is : (period columns : ℕ) (naming : Naming) (ps : List ColumnPath) → 0 < period → length (nodes ps) ≤ no_parent → All (λ p. 0 < length p.path) ps → All (λ p. p.column < columns) ps → content_table (content_of period columns naming ps) ≡ top_down period columns naming ps
table_is period columns naming ps positive few some below =
    let c : Content = content_of period columns naming ps in
    (λ i. top_down (period_is period columns naming ps i) (columns_are period columns naming ps i) (naming_in (names_are period columns naming ps i)) (paths_of c)) ∙ table_is_own period columns naming ps positive few some below

pub ruleset own_laws = (paths_alike, of_paths, table_is)
