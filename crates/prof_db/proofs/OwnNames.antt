-- Names that ascend, and that nodes use by their indices, are those that the nodes' scopes use.
use Rattle.std.proofs.Common.{◌≡◌, ℕ, zero, suc, ◌-◌, ◌<◌, ◌==◌, ◌&&◌, ◌||◌, not, nat_lt, nat_eq, Ok, inl, inr, Bool, true, false, cond, List, [], ◌∷◌, ◌++◌, length, get_or, map, codes, is_eq, All, AllPairs, Contains, Less, Equal, Greater, Ordering, refl, sym, ap, ap₂, subst, ◌∙◌, arith}
use Rattle.std.specs.Cmp.{IsTotalOrder}
use Rattle.std.specs.Cmp.Lexicographic.{pointwise, slice_cmp}
use Rattle.std.specs.FinMap.{IsAntisymmetric}
use Rattle.std.specs.List.{flat_map}
use Rattle.std.specs.Ordering.{nat_cmp, ordering_then, ordering_reverse}
use Rattle.std.proofs.lemmas.Bool.{and_parts, cases_eq, eq-eqb, eqb-true, lt-ltb, ltb-true, ne_eqb, not-false, or_cases, or_parts}
use Rattle.std.proofs.lemmas.Cmp.{nat_cmp_total, tied_itself}
use Rattle.std.proofs.lemmas.List.{get_or_default, get_or-map, length-map, same_lists}
use Rattle.std.proofs.lemmas.List.Elements.{All-append, All-cons, All-head, All-nil, All-tail, Contains-get_or}
use Rattle.std.proofs.lemmas.List.Folds.{Any-from_list_any, flat_map-map}
use Rattle.scope_types.specs.Limits.{most_name_bytes}
use Rattle.scope_types.specs.CallPaths.{ColumnPath}
use Rattle.scope_types.specs.Words.{proc_words}
use Rattle.scope_types.specs.declared.scope.ProcId.{ProcId}
use Rattle.scope_types.specs.declared.scope.ProcId.TheVariants.{Die, Sym, Nameless}
use Rattle.scope_types.specs.declared.scope.Scope.{Scope}
use Rattle.tree_types.specs.Ascending.{ascending}
use Rattle.tree_types.specs.Database.{file_named, names_used, naming_in, proc_named}
use Rattle.tree_types.specs.Naming.{FileId, file_order, files_used, line_files, proc_order, procs_used, scope_files, scope_procs}
use Rattle.tree_types.specs.Nodes.{nodes, own_scope}
use Rattle.tree_types.specs.Paths.{Path}
use Rattle.tree_types.specs.PathsOf.{tree_paths}
use Rattle.tree_types.specs.Tree.{node_at, node_path}
use Rattle.tree_types.specs.declared.content.FileName.{FileName}
use Rattle.tree_types.specs.declared.content.Names.{Names}
use Rattle.tree_types.specs.declared.content.Node.{Node}
use Rattle.tree_types.specs.declared.content.ProcName.{ProcName}
use Rattle.tree_types.proofs.NamesAgain.{file_order_tells, file_order_total, proc_order_tells, proc_order_total}
use Rattle.tree_types.proofs.NodeLaws.{sorted_from_pairs}
use Rattle.tree_types.proofs.PathSteps.{as_many_paths}
use Rattle.tree_types.proofs.Selecting.{map_of_flat_map}
use Rattle.tree_types.proofs.Sorting.{bool_same, has, has_ascending, has-from_Contains, Contains-from_has, same_sorted, sorted_ascending}
use Rattle.prof_db.specs.NameRules.{file_at, file_breaks, file_is_wrong, file_name, files_ascend, files_kept, is_among, is_valid_proc, line_file, names_in, pair_less, proc_at, proc_breaks, proc_id, proc_is_wrong, raw_proc_name, procs_ascend, procs_kept, scope_file, scope_proc, used_files, used_procs}
use Rattle.prof_db.specs.NodeRules.{in_range, line_in_range, line_id, node_of, scope_of}
use Rattle.prof_db.specs.declared.raw.Layout.{Layout}
use Rattle.prof_db.specs.declared.raw.RawFile.{RawFile}
use Rattle.prof_db.specs.declared.raw.RawLine.{RawLine}
use Rattle.prof_db.specs.declared.raw.RawLine.TheVariants as raw_lines
use Rattle.prof_db.specs.declared.raw.RawNode.{RawNode}
use Rattle.prof_db.specs.declared.raw.RawProc.{RawProc}
use Rattle.prof_db.specs.declared.raw.RawScope.{RawScope}
use Rattle.prof_db.specs.declared.raw.RawScope.TheVariants as raws
use Rattle.prof_db.proofs.FirstBroken.{none_broken}

-- ---- lists

pub contains_map : {X Y : Type 0} (f : X → Y) (xs : List X) (k : ℕ) (d : X) → k < length xs → Contains (map f xs) (f (get_or xs k d))
contains_map {Y = Y} f xs k d lt =
    let long = length-map xs f in
    subst (λ (y : Y). Contains (map f xs) y) (get_or-map f xs k d (f d) lt) (Contains-get_or (map f xs) k (f d) (omega (arith, long, lt)))

pub pairs_map : {X Y : Type 0} (S : Y → Y → Type 0) (f : X → Y) (xs : List X) (e : X) → AllPairs (λ x y. S (f x) (f y)) xs → AllPairs S (map f xs)
pairs_map {Y = Y} S f xs e up i j d below lt =
    let long = length-map xs f in
    let second : j < length xs = omega (arith, long, lt) in
    let first : i < length xs = omega (arith, second, below) in
    subst (λ (y : Y). S y (get_or (map f xs) j d)) (sym (get_or-map f xs i e d first))
    (subst (λ (y : Y). S (f (get_or xs i e)) y) (sym (get_or-map f xs j e d second)) (up i j e below second))

pub all_lists : {X Y : Type 0} (P : Y → Type 0) (f : X → List Y) (xs : List X) → All (λ x. All P (f x)) xs → All P (flat_map f xs)
all_lists P f [] all = All-nil P
all_lists P f (x ∷ xs) all = All-append P (f x) (flat_map f xs) (All-head (λ x. All P (f x)) x xs all) (all_lists P f xs (All-tail (λ x. All P (f x)) x xs all))

pub lists_same : {X Y Z : Type 0} (f : X → List Z) (g : Y → List Z) (xs : List X) (ys : List Y) → length xs ≡ length ys
    → ((i : ℕ) (d : X) (e : Y) → i < length xs → f (get_or xs i d) ≡ g (get_or ys i e)) → flat_map f xs ≡ flat_map g ys
lists_same f g [] [] long same = refl
lists_same f g [] (y ∷ ys) long same = absurd (omega arith)
lists_same f g (x ∷ xs) [] long same = absurd (omega arith)
lists_same {Z = Z} f g (x ∷ xs) (y ∷ ys) long same =
    ap₂ (λ (a b : List Z). a ++ b) (same 0 x y (omega arith)) (lists_same f g xs ys (omega arith) (λ i d e lt. same (suc i) d e (omega arith)))

pub among_at : (numbers : List ℕ) (i : ℕ) → is_among numbers i ≡ true → (k : ℕ) × (k < length numbers) × (get_or numbers k 0 ≡ i)
among_at numbers i e =
    let a = Any-from_list_any (λ (k : ℕ). k == i) numbers e in
    (a.0, a.2, get_or_default numbers a.0 0 a.1 a.2 ∙ a.3 ∙ eqb-true a.1 i a.4)

-- ---- entries that ascend by a key

module _ {X K : Type 0} {R : K → K → Ordering} (total : IsTotalOrder R) (key : X → K) where
  -- what ascends step by step ascends
  pub all_ascend : (xs : List X) (e : X) → ((i : ℕ) → suc i < length xs → R (key (get_or xs i e)) (key (get_or xs (suc i) e)) ≡ Less) → AllPairs (λ x y. R (key x) (key y) ≡ Less) xs
  all_ascend xs e next i j d below lt =
      ap (λ (x : X). R (key x) (key (get_or xs j d))) (get_or_default xs i d e (omega arith))
      ∙ ap (λ (y : X). R (key (get_or xs i e)) (key y)) (get_or_default xs j d e lt) ∙ far i j below lt
    where
      far : (i j : ℕ) → i < j → j < length xs → R (key (get_or xs i e)) (key (get_or xs j e)) ≡ Less
      far i zero below lt = absurd (omega arith)
      far i (suc j) below lt = elim (cases_eq i j) [
        | inl same ↦ ap (λ (k : ℕ). R (key (get_or xs k e)) (key (get_or xs (suc j) e))) same ∙ next j lt
        | inr apart ↦ total.trans (key (get_or xs i e)) (key (get_or xs j e)) (key (get_or xs (suc j) e)) (far i j (omega arith) (omega arith)) (next j lt)
      ]

  -- numbers of entries, among which each entry's is, have the entries' keys
  module _ (apart : IsAntisymmetric R) (xs : List X) (e : X) (up : AllPairs (λ x y. R (key x) (key y) ≡ Less) xs) (numbers : List ℕ)
      (inside : All (λ k. k < length xs) numbers) (used : (i : ℕ) → i < length xs → is_among numbers i ≡ true) where
    abbrev keys : List K
    keys = map key xs

    abbrev found : List K
    found = map (λ k. key (get_or xs k e)) numbers

    key_there : (q : K) → has R q found ≡ true → has R q keys ≡ true
    key_there q h =
        let c = Contains-from_has total apart q found h in
        let many = length-map numbers (λ k. key (get_or xs k e)) in
        let lt : c.0 < length numbers = (let within = c.1 in omega (arith, within, many)) in
        let is : key (get_or xs (get_or numbers c.0 0) e) ≡ q = sym (get_or-map (λ k. key (get_or xs k e)) numbers c.0 0 q lt) ∙ c.2 in
        has-from_Contains total apart q keys (subst (λ (k : K). Contains keys k) is (contains_map key xs (get_or numbers c.0 0) e (inside c.0 0 lt)))

    key_found : (q : K) → has R q keys ≡ true → has R q found ≡ true
    key_found q h =
        let c = Contains-from_has total apart q keys h in
        let long = length-map xs key in
        let lt : c.0 < length xs = (let within = c.1 in omega (arith, within, long)) in
        let is : key (get_or xs c.0 e) ≡ q = sym (get_or-map key xs c.0 e q lt) ∙ c.2 in
        let a = among_at numbers c.0 (used c.0 lt) in
        let at : key (get_or xs (get_or numbers a.0 0) e) ≡ q = ap (λ (k : ℕ). key (get_or xs k e)) a.2 ∙ is in
        has-from_Contains total apart q found (subst (λ (k : K). Contains found k) at (contains_map (λ k. key (get_or xs k e)) numbers a.0 0 a.1))

    pub keys_ascending : ascending R found ≡ keys
    keys_ascending =
        same_sorted total apart (ascending R found) keys (sorted_ascending total found) (sorted_from_pairs R keys (pairs_map (λ a b. R a b ≡ Less) key xs e up))
        (λ q. has_ascending total apart q found ∙ bool_same (has R q found) (has R q keys) (key_there q) (key_found q))

-- ---- each entry is found by its own key

pub turned : {K : Type 0} {R : K → K → Ordering} (total : IsTotalOrder R) (a b : K) → R a b ≡ Less → is_eq (R b a) ≡ false
turned total a b less = ap is_eq (total.antisymm b a ∙ ap ordering_reverse less)

proc_at_own : (ps : List ProcName) → AllPairs (λ p q. proc_order p.id q.id ≡ Less) ps → (i : ℕ) (d : ProcName) → i < length ps → proc_named ps (get_or ps i d).id ≡ (get_or ps i d).name
proc_at_own [] up i d lt = absurd (omega arith)
proc_at_own (p ∷ ps) up zero d lt = ap (λ b. cond b p.name (proc_named ps p.id)) (ap is_eq (tied_itself proc_order_total p.id))
proc_at_own (p ∷ ps) up (suc i) d lt =
    ap (λ b. cond b p.name (proc_named ps (get_or ps i d).id)) (turned proc_order_total p.id (get_or ps i d).id (up 0 (suc i) d (omega arith) lt))
    ∙ proc_at_own ps (λ k l d below inside. up (suc k) (suc l) d (omega arith) (omega arith)) i d (omega arith)

file_at_own : (fs : List FileName) → AllPairs (λ f g. file_order (f.table, f.file) (g.table, g.file) ≡ Less) fs → (i : ℕ) (d : FileName) → i < length fs
    → file_named fs (get_or fs i d).table (get_or fs i d).file ≡ (get_or fs i d).name
file_at_own [] up i d lt = absurd (omega arith)
file_at_own (f ∷ fs) up zero d lt = ap (λ b. cond b f.name (file_named fs f.table f.file)) (ap is_eq (tied_itself file_order_total (f.table, f.file)))
file_at_own (f ∷ fs) up (suc i) d lt =
    let g : FileName = get_or fs i d in
    ap (λ b. cond b f.name (file_named fs g.table g.file)) (turned file_order_total (f.table, f.file) (g.table, g.file) (up 0 (suc i) d (omega arith) lt))
    ∙ file_at_own fs (λ k l d below inside. up (suc k) (suc l) d (omega arith) (omega arith)) i d (omega arith)

abbrev named_proc : List ProcName → ProcId → ProcName
named_proc ps id = record { id = id; name = proc_named ps id }

abbrev named_file : List FileName → FileId → FileName
named_file fs f = record { table = f.0; file = f.1; name = file_named fs f.0 f.1 }

abbrev file_key : FileName → FileId
file_key f = (f.table, f.file)

procs_again : (ps : List ProcName) → AllPairs (λ p q. proc_order p.id q.id ≡ Less) ps → map (named_proc ps) (map (λ p. p.id) ps) ≡ ps
procs_again ps up =
    let long = length-map ps (λ (p : ProcName). p.id) in
    let all = length-map (map (λ (p : ProcName). p.id) ps) (named_proc ps) in
    same_lists (map (named_proc ps) (map (λ (p : ProcName). p.id) ps)) ps (all ∙ long) (λ i d lt.
    get_or-map (named_proc ps) (map (λ (p : ProcName). p.id) ps) i d.id d (omega (arith, lt, all))
    ∙ ap (named_proc ps) (get_or-map (λ (p : ProcName). p.id) ps i d d.id (omega (arith, lt, all, long)))
    ∙ (λ t. record { id = (get_or ps i d).id; name = proc_at_own ps up i d (omega (arith, lt, all, long)) t }))

files_again : (fs : List FileName) → AllPairs (λ f g. file_order (f.table, f.file) (g.table, g.file) ≡ Less) fs → map (named_file fs) (map file_key fs) ≡ fs
files_again fs up =
    let long = length-map fs file_key in
    let all = length-map (map file_key fs) (named_file fs) in
    same_lists (map (named_file fs) (map file_key fs)) fs (all ∙ long) (λ i d lt.
    get_or-map (named_file fs) (map file_key fs) i (file_key d) d (omega (arith, lt, all))
    ∙ ap (named_file fs) (get_or-map file_key fs i d (file_key d) (omega (arith, lt, all, long)))
    ∙ (λ t. record { table = (get_or fs i d).table; file = (get_or fs i d).file; name = file_at_own fs up i d (omega (arith, lt, all, long)) t }))

-- ---- the order of names that the fourth rule passes

pub less_by_pair : (a b c d : ℕ) → pair_less a b c d ≡ true → slice_cmp nat_cmp (a ∷ b ∷ []) (c ∷ d ∷ []) ≡ Less
less_by_pair a b c d e = elim (or_cases (nat_lt a c) (a == c && nat_lt b d) e) [
  | inl first ↦ ap (λ o. ordering_then o (ordering_then (nat_cmp b d) Equal)) (is_less a c first)
  | inr rest ↦
      let both = and_parts (a == c) (nat_lt b d) rest in
      let same : nat_cmp a c ≡ Equal = ap (λ (n : ℕ). nat_cmp n c) (eqb-true a c both.0) ∙ tied_itself nat_cmp_total c in
      (λ i. ordering_then (same i) (ordering_then (is_less b d both.1 i) Equal))
]
  where
    is_less : (m n : ℕ) → nat_lt m n ≡ true → nat_cmp m n ≡ Less
    is_less m n lt = ap (λ t. cond t Less (cond (m == n) Equal Greater)) lt

-- a procedure's words are its kind and its number
pub words_are : (p : RawProc) → is_valid_proc p ≡ true → proc_words (proc_id p.kind p.number) ≡ p.kind ∷ p.number ∷ []
words_are p ok = elim (or_cases (nat_lt p.kind 2) (p.kind == 2 && (p.number == 0 && pointwise nat_eq p.name (codes "<unknown procedure>"))) ok) [
  | inl low ↦ two p.kind p.number (ltb-true p.kind 2 low)
  | inr none ↦
      let both = and_parts (p.kind == 2) (p.number == 0 && pointwise nat_eq p.name (codes "<unknown procedure>")) none in
      nameless p.kind p.number (eqb-true p.kind 2 both.0) (eqb-true p.number 0 (and_parts (p.number == 0) (pointwise nat_eq p.name (codes "<unknown procedure>")) both.1).0)
]
  where
    two : (kind number : ℕ) → kind < 2 → proc_words (proc_id kind number) ≡ kind ∷ number ∷ []
    two kind number low = elim (cases_eq kind 0) [
      | inl zero_is ↦ ap (λ b. proc_words (cond b (Die number) (cond (kind == 1) (Sym number) Nameless))) (eq-eqb kind 0 zero_is) ∙ (λ i. sym zero_is i ∷ number ∷ [])
      | inr other ↦
          let one : kind ≡ 1 = omega arith in
          ap (λ b. proc_words (cond b (Die number) (cond (kind == 1) (Sym number) Nameless))) (ne_eqb kind 0 other)
          ∙ ap (λ b. proc_words (cond b (Sym number) Nameless)) (eq-eqb kind 1 one) ∙ (λ i. sym one i ∷ number ∷ [])
    ]

    nameless : (kind number : ℕ) → kind ≡ 2 → number ≡ 0 → proc_words (proc_id kind number) ≡ kind ∷ number ∷ []
    nameless kind number is none =
        ap (λ b. proc_words (cond b (Die number) (cond (kind == 1) (Sym number) Nameless))) (ne_eqb kind 0 (λ e. absurd (omega arith)))
        ∙ ap (λ b. proc_words (cond b (Sym number) Nameless)) (ne_eqb kind 1 (λ e. absurd (omega arith))) ∙ (λ i. sym is i ∷ sym none i ∷ [])

-- the test of the entry before one
pub next_test : (i : ℕ) (t : ℕ → Bool) → (nat_lt 0 (suc i) && not (t (suc i - 1))) ≡ false → t i ≡ true
next_test i t e =
    let k : suc i - 1 ≡ i = omega arith in
    let behind : not (t (suc i - 1)) ≡ false = sym (ap (λ b. b && not (t (suc i - 1))) (lt-ltb 0 (suc i) (omega arith))) ∙ e in
    subst (λ (j : ℕ). t j ≡ true) k (not-false (t (suc i - 1)) behind)

module _ (procs : List RawProc) (used : List ℕ) (kept : procs_kept procs used ≡ Ok tt) where
  abbrev no_proc : RawProc
  no_proc = record { offset = 0; kind = 0; number = 0; name = [] }

  proc_passes : (i : ℕ) → i < length procs → (proc_is_wrong procs i ≡ false) × (not (is_among used i) ≡ false)
  proc_passes i lt = or_parts (proc_is_wrong procs i) (not (is_among used i)) (none_broken 4 (proc_breaks procs used) (λ i. (proc_at procs i).offset) 0 (length procs) i kept (omega arith) (omega arith))

  pub procs_used_all : (i : ℕ) → i < length procs → is_among used i ≡ true
  procs_used_all i lt = not-false (is_among used i) (proc_passes i lt).1

  proc_parts : (i : ℕ) → i < length procs → ((nat_lt 0 i && not (procs_ascend (proc_at procs (i - 1)) (proc_at procs i))) ≡ false) × ((not (is_valid_proc (proc_at procs i)) || nat_lt most_name_bytes (length (proc_at procs i).name)) ≡ false)
  proc_parts i lt = or_parts (nat_lt 0 i && not (procs_ascend (proc_at procs (i - 1)) (proc_at procs i))) (not (is_valid_proc (proc_at procs i)) || nat_lt most_name_bytes (length (proc_at procs i).name)) (proc_passes i lt).0

  pub is_proc_at : (i : ℕ) → i < length procs → is_valid_proc (proc_at procs i) ≡ true
  is_proc_at i lt = not-false (is_valid_proc (proc_at procs i)) (or_parts (not (is_valid_proc (proc_at procs i))) (nat_lt most_name_bytes (length (proc_at procs i).name)) (proc_parts i lt).1).0

  proc_next : (i : ℕ) → suc i < length procs → procs_ascend (proc_at procs i) (proc_at procs (suc i)) ≡ true
  proc_next i lt = next_test i (λ k. procs_ascend (proc_at procs k) (proc_at procs (suc i))) (proc_parts (suc i) lt).0

  proc_less : (i : ℕ) → suc i < length procs → proc_order (proc_id (proc_at procs i).kind (proc_at procs i).number) (proc_id (proc_at procs (suc i)).kind (proc_at procs (suc i)).number) ≡ Less
  proc_less i lt =
      (λ t. slice_cmp nat_cmp (words_are (proc_at procs i) (is_proc_at i (omega arith)) t) (words_are (proc_at procs (suc i)) (is_proc_at (suc i) lt) t))
      ∙ less_by_pair (proc_at procs i).kind (proc_at procs i).number (proc_at procs (suc i)).kind (proc_at procs (suc i)).number (proc_next i lt)

  pub procs_up : AllPairs (λ p q. proc_order p.id q.id ≡ Less) (map raw_proc_name procs)
  procs_up = pairs_map (λ p q. proc_order p.id q.id ≡ Less) raw_proc_name procs no_proc (all_ascend proc_order_total (λ (p : RawProc). proc_id p.kind p.number) procs no_proc proc_less)

module _ (files : List RawFile) (used : List ℕ) (kept : files_kept files used ≡ Ok tt) where
  abbrev no_file : RawFile
  no_file = record { offset = 0; table = 0; file = 0; name = [] }

  file_passes : (i : ℕ) → i < length files → (file_is_wrong files i ≡ false) × (not (is_among used i) ≡ false)
  file_passes i lt = or_parts (file_is_wrong files i) (not (is_among used i)) (none_broken 4 (file_breaks files used) (λ i. (file_at files i).offset) 0 (length files) i kept (omega arith) (omega arith))

  pub files_used_all : (i : ℕ) → i < length files → is_among used i ≡ true
  files_used_all i lt = not-false (is_among used i) (file_passes i lt).1

  file_next : (i : ℕ) → suc i < length files → files_ascend (file_at files i) (file_at files (suc i)) ≡ true
  file_next i lt =
      next_test i (λ k. files_ascend (file_at files k) (file_at files (suc i)))
      (or_parts (nat_lt 0 (suc i) && not (files_ascend (file_at files (suc i - 1)) (file_at files (suc i)))) (nat_lt most_name_bytes (length (file_at files (suc i)).name)) (file_passes (suc i) lt).0).0

  pub files_up : AllPairs (λ f g. file_order (f.table, f.file) (g.table, g.file) ≡ Less) (map file_name files)
  files_up = pairs_map (λ f g. file_order (f.table, f.file) (g.table, g.file) ≡ Less) file_name files no_file
      (all_ascend file_order_total (λ (f : RawFile). (f.table, f.file)) files no_file (λ i lt. less_by_pair (file_at files i).table (file_at files i).file (file_at files (suc i)).table (file_at files (suc i)).file (file_next i lt)))

-- ---- what the scopes use

abbrev proc_key : List ProcName → ℕ → ProcId
proc_key ps k = (get_or ps k (record { id = Nameless; name = [] })).id

abbrev file_key_at : List FileName → ℕ → FileId
file_key_at fs k = file_key (get_or fs k (record { table = 0; file = 0; name = [] }))

line_uses : (names : Names) (line : RawLine) → line_files (line_id names line) ≡ map (file_key_at names.files) (line_file line)
line_uses names (raw_lines.Row f line) = refl
line_uses names (raw_lines.Address address) = refl

proc_uses : (names : Names) (s : RawScope) → scope_procs (scope_of names s) ≡ map (proc_key names.procs) (scope_proc s)
proc_uses names (raws.Root kind) = refl
proc_uses names (raws.Proc p) = refl
proc_uses names (raws.Inline p line) = refl
proc_uses names (raws.Call line) = refl
proc_uses names (raws.Stmt line) = refl

file_uses : (names : Names) (s : RawScope) → scope_files (scope_of names s) ≡ map (file_key_at names.files) (scope_file s)
file_uses names (raws.Root kind) = refl
file_uses names (raws.Proc p) = refl
file_uses names (raws.Inline p line) = line_uses names line
file_uses names (raws.Call line) = line_uses names line
file_uses names (raws.Stmt line) = line_uses names line

node_procs : (names : Names) (rs : List RawNode) → flat_map (λ n. scope_procs n.scope) (map (node_of names) rs) ≡ map (proc_key names.procs) (used_procs rs)
node_procs names rs =
    flat_map-map (λ (n : Node). scope_procs n.scope) (node_of names) rs ∙ (λ t. flat_map (λ (r : RawNode). proc_uses names r.scope t) rs)
    ∙ sym (map_of_flat_map (proc_key names.procs) (λ (r : RawNode). scope_proc r.scope) rs)

node_files : (names : Names) (rs : List RawNode) → flat_map (λ n. scope_files n.scope) (map (node_of names) rs) ≡ map (file_key_at names.files) (used_files rs)
node_files names rs =
    flat_map-map (λ (n : Node). scope_files n.scope) (node_of names) rs ∙ (λ t. flat_map (λ (r : RawNode). file_uses names r.scope t) rs)
    ∙ sym (map_of_flat_map (file_key_at names.files) (λ (r : RawNode). scope_file r.scope) rs)

-- ---- what is in range

abbrev Under : ℕ → ℕ → Type 0
Under n k = k < n

line_inside : (files : ℕ) (line : RawLine) → line_in_range files line ≡ true → All (Under files) (line_file line)
line_inside files (raw_lines.Row f line) ok = All-cons (Under files) f [] (ltb-true f files ok) (All-nil (Under files))
line_inside files (raw_lines.Address address) ok = All-nil (Under files)

pub proc_inside : (procs files : ℕ) (s : RawScope) → in_range procs files s ≡ true → All (Under procs) (scope_proc s)
proc_inside procs files (raws.Root kind) ok = All-nil (Under procs)
proc_inside procs files (raws.Proc p) ok = All-cons (Under procs) p [] (ltb-true p procs ok) (All-nil (Under procs))
proc_inside procs files (raws.Inline p line) ok = All-cons (Under procs) p [] (ltb-true p procs (and_parts (nat_lt p procs) (line_in_range files line) ok).0) (All-nil (Under procs))
proc_inside procs files (raws.Call line) ok = All-nil (Under procs)
proc_inside procs files (raws.Stmt line) ok = All-nil (Under procs)

pub file_inside : (procs files : ℕ) (s : RawScope) → in_range procs files s ≡ true → All (Under files) (scope_file s)
file_inside procs files (raws.Root kind) ok = All-nil (Under files)
file_inside procs files (raws.Proc p) ok = All-nil (Under files)
file_inside procs files (raws.Inline p line) ok = line_inside files line (and_parts (nat_lt p procs) (line_in_range files line) ok).1
file_inside procs files (raws.Call line) ok = line_inside files line ok
file_inside procs files (raws.Stmt line) ok = line_inside files line ok

-- ---- the names are those that the scopes use

module _ (layout : Layout) (procs_ok : procs_kept layout.procs (used_procs layout.nodes) ≡ Ok tt) (files_ok : files_kept layout.files (used_files layout.nodes) ≡ Ok tt)
    (ranged : All (λ r. in_range (length layout.procs) (length layout.files) r.scope ≡ true) layout.nodes)
    (ps : List ColumnPath) (same : tree_paths (map (node_of (names_in layout)) layout.nodes) ≡ nodes ps)
    (own : (i : ℕ) → i < length (map (node_of (names_in layout)) layout.nodes)
    → own_scope (node_path (map (node_of (names_in layout)) layout.nodes) i) ≡ (node_at (map (node_of (names_in layout)) layout.nodes) i).scope) where
  abbrev names : Names
  names = names_in layout

  abbrev ns : List Node
  ns = map (node_of names) layout.nodes

  own_scopes : {Z : Type 0} (f : Scope → List Z) → flat_map (λ n. f (own_scope n)) (nodes ps) ≡ flat_map (λ n. f n.scope) ns
  own_scopes f =
      ap (flat_map (λ n. f (own_scope n))) (sym same)
      ∙ lists_same (λ n. f (own_scope n)) (λ (n : Node). f n.scope) (tree_paths ns) ns (as_many_paths ns) (λ i d e lt.
      let long = as_many_paths ns in
      let inside : i < length ns = omega (arith, lt, long) in
      ap (λ (p : Path). f (own_scope p)) (get_or_default (tree_paths ns) i d [] lt) ∙ ap f (own i inside)
      ∙ ap (λ (n : Node). f n.scope) (get_or_default ns i _ e inside))

  procs_are : procs_used (nodes ps) ≡ map (λ p. p.id) names.procs
  unfolding procs_used
  procs_are =
      let long = length-map layout.procs raw_proc_name in
      ap (ascending proc_order) (own_scopes scope_procs ∙ node_procs names layout.nodes)
      ∙ keys_ascending proc_order_total (λ (p : ProcName). p.id) proc_order_tells names.procs (record { id = Nameless; name = [] }) (procs_up layout.procs (used_procs layout.nodes) procs_ok) (used_procs layout.nodes)
      (subst (λ (n : ℕ). All (Under n) (used_procs layout.nodes)) (sym long) (all_lists (Under (length layout.procs)) (λ (r : RawNode). scope_proc r.scope) layout.nodes (λ i d lt. proc_inside (length layout.procs) (length layout.files) (get_or layout.nodes i d).scope (ranged i d lt))))
      (λ i lt. procs_used_all layout.procs (used_procs layout.nodes) procs_ok i (omega (arith, lt, long)))

  files_are : files_used (nodes ps) ≡ map file_key names.files
  unfolding files_used
  files_are =
      let long = length-map layout.files file_name in
      ap (ascending file_order) (own_scopes scope_files ∙ node_files names layout.nodes)
      ∙ keys_ascending file_order_total file_key file_order_tells names.files (record { table = 0; file = 0; name = [] }) (files_up layout.files (used_files layout.nodes) files_ok) (used_files layout.nodes)
      (subst (λ (n : ℕ). All (Under n) (used_files layout.nodes)) (sym long) (all_lists (Under (length layout.files)) (λ (r : RawNode). scope_file r.scope) layout.nodes (λ i d lt. file_inside (length layout.procs) (length layout.files) (get_or layout.nodes i d).scope (ranged i d lt))))
      (λ i lt. files_used_all layout.files (used_files layout.nodes) files_ok i (omega (arith, lt, long)))

  pub names_own : names_used (naming_in names) ps ≡ names
  names_own =
      let by_proc = ap (map (named_proc names.procs)) procs_are ∙ procs_again names.procs (procs_up layout.procs (used_procs layout.nodes) procs_ok) in
      let by_file = ap (map (named_file names.files)) files_are ∙ files_again names.files (files_up layout.files (used_files layout.nodes) files_ok) in
      λ t. record { procs = by_proc t; files = by_file t }
