-- The numbers of a stored content's names and nodes have four bytes.
use Rattle.std.proofs.Common.{ℕ, ◌+◌, ◌≤◌, List, [], ◌∷◌, ◌++◌, length, get_or, All, Contains, Ordering, Less, Equal, Greater, ap, subst, arith}
use Rattle.std.specs.List.{flat_map}
use Rattle.std.proofs.lemmas.List.{get_or_default, length-append, length-map}
use Rattle.std.proofs.lemmas.List.Elements.{All-cons, All-contains, All-nil, All-tail}
use Rattle.scope_types.specs.Words.{line_words, proc_words}
use Rattle.scope_types.specs.declared.scope.LineId.{LineId}
use Rattle.scope_types.specs.declared.scope.LineId.TheVariants as lines
use Rattle.scope_types.specs.declared.scope.ProcId.{ProcId}
use Rattle.scope_types.specs.declared.scope.ProcId.TheVariants.{Die, Sym, Nameless}
use Rattle.scope_types.specs.declared.scope.RootKind.TheVariants.{Thread, Partial}
use Rattle.scope_types.specs.declared.scope.Scope.{Scope}
use Rattle.scope_types.specs.declared.scope.Scope.TheVariants as scopes
use Rattle.tree_types.specs.Ascending.{ascending, by_order, put}
use Rattle.tree_types.specs.Naming.{FileId, file_order, line_files, proc_order, scope_files, scope_procs}
use Rattle.tree_types.specs.declared.content.EventContent.{EventContent}
use Rattle.tree_types.specs.declared.content.FileName.{FileName}
use Rattle.tree_types.specs.declared.content.Node.{Node}
use Rattle.tree_types.specs.declared.content.ProcName.{ProcName}
use Rattle.tree_types.proofs.NamesAgain.{file_order_tells, file_order_total, proc_order_tells, proc_order_total}
use Rattle.prof_db.specs.Spelling.{file_index, proc_index}
use Rattle.prof_db.specs.Stored.{HasWordNumbers, IsEventStored, IsWord}
use Rattle.prof_db.proofs.BackItems.{raw_line_numbers, raw_scope_numbers}
use Rattle.prof_db.proofs.ForthItems.{AreWords, FileFits, ProcFits, proc_number, raw_line, raw_scope}
use Rattle.prof_db.proofs.OwnNames.{all_lists}
use Rattle.prof_db.proofs.StoredNames.{IsFound, all_back, all_front, entry_used, file_found, file_key, file_keys, files_of_nodes, no_file, no_proc, proc_found, proc_keys, procs_of_nodes}

-- ---- how many

module _ {K : Type 0} (R : K → K → Ordering) where
  put_short : (x : K) (ys : List K) → length (put R x ys) ≤ length ys + 1
  put_short x [] = omega arith
  put_short x (y ∷ ys) =
      let rest = put_short x ys in
      elim (R x y) as (λ r. length (by_order r (x ∷ y ∷ ys) (y ∷ ys) (y ∷ put R x ys)) ≤ length (y ∷ ys) + 1) [ Less ↦ omega arith | Equal ↦ omega arith | Greater ↦ omega (arith, rest) ]

  ascending_short : (xs : List K) → length (ascending R xs) ≤ length xs
  unfolding ascending
  ascending_short [] = omega arith
  ascending_short (x ∷ xs) = (let one = put_short x (ascending R xs) in let rest = ascending_short xs in omega (arith, one, rest))

one_each : {X Y : Type 0} (f : X → List Y) → ((x : X) → length (f x) ≤ 1) → (xs : List X) → length (flat_map f xs) ≤ length xs
one_each f few [] = omega arith
one_each f few (x ∷ xs) =
    let one = few x in
    let rest = one_each f few xs in
    let both = length-append (f x) (flat_map f xs) in
    omega (arith, one, rest, both)

one_proc : (scope : Scope) → length (scope_procs scope) ≤ 1
one_proc (scopes.Root kind) = omega arith
one_proc (scopes.Proc p) = omega arith
one_proc (scopes.Inline p line) = omega arith
one_proc (scopes.Call line) = omega arith
one_proc (scopes.Stmt line) = omega arith

line_file_few : (line : LineId) → length (line_files line) ≤ 1
line_file_few (lines.Row table file line) = omega arith
line_file_few (lines.Address address) = omega arith

one_file : (scope : Scope) → length (scope_files scope) ≤ 1
one_file (scopes.Root kind) = omega arith
one_file (scopes.Proc p) = omega arith
one_file (scopes.Inline p line) = line_file_few line
one_file (scopes.Call line) = line_file_few line
one_file (scopes.Stmt line) = line_file_few line

-- ---- the words of a scope

abbrev AreFew : FileId → Type 0
AreFew f = IsWord f.0 × IsWord f.1

number_few : (id : ProcId) → All IsWord (proc_words id) → IsWord (proc_number id)
number_few (Die offset) all = all 1 0 (omega arith)
number_few (Sym address) all = all 1 0 (omega arith)
number_few Nameless all = omega arith

abbrev HasNumber : ProcId → Type 0
HasNumber id = IsWord (proc_number id)

procs_few : (scope : Scope) → HasWordNumbers scope → All HasNumber (scope_procs scope)
procs_few (scopes.Root kind) all = All-nil HasNumber
procs_few (scopes.Proc p) all = All-cons HasNumber p [] (number_few p (All-tail IsWord 1 (proc_words p) all)) (All-nil HasNumber)
procs_few (scopes.Inline p line) all =
    All-cons HasNumber p [] (number_few p (all_front IsWord (proc_words p) (line_words line) (All-tail IsWord 2 (proc_words p ++ line_words line) all))) (All-nil HasNumber)
procs_few (scopes.Call line) all = All-nil HasNumber
procs_few (scopes.Stmt line) all = All-nil HasNumber

line_few : (line : LineId) → All IsWord (line_words line) → All AreFew (line_files line)
line_few (lines.Row table file line) all = All-cons AreFew (table, file) [] (all 1 0 (omega arith), all 2 0 (omega arith)) (All-nil AreFew)
line_few (lines.Address address) all = All-nil AreFew

-- the words of a scope's line
call_words : (p : ProcId) (line : LineId) → HasWordNumbers (scopes.Inline p line) → All IsWord (line_words line)
call_words p line all = all_back IsWord (proc_words p) (line_words line) (All-tail IsWord 2 (proc_words p ++ line_words line) all)

files_few : (scope : Scope) → HasWordNumbers scope → All AreFew (scope_files scope)
files_few (scopes.Root kind) all = All-nil AreFew
files_few (scopes.Proc p) all = All-nil AreFew
files_few (scopes.Inline p line) all = line_few line (call_words p line all)
files_few (scopes.Call line) all = line_few line (All-tail IsWord 3 (line_words line) all)
files_few (scopes.Stmt line) all = line_few line (All-tail IsWord 4 (line_words line) all)

two : (a b : ℕ) → IsWord a → IsWord b → AreWords (a ∷ b ∷ [])
two a b fa fb = All-cons IsWord a (b ∷ []) fa (All-cons IsWord b [] fb (All-nil IsWord))

module _ (c : EventContent) (s : IsEventStored c) where
  abbrev procs : List ProcName
  procs = c.names.procs

  abbrev files : List FileName
  files = c.names.files

  pub few_procs : length procs ≤ length c.nodes
  few_procs =
      let long = length-map procs (λ (p : ProcName). p.id) in
      let all = ap length (proc_keys c s) in
      let some = ascending_short proc_order (procs_of_nodes c s) in
      let each = one_each (λ (n : Node). scope_procs n.scope) (λ n. one_proc n.scope) c.nodes in
      omega (arith, long, all, some, each)

  pub few_files : length files ≤ length c.nodes
  few_files =
      let long = length-map files (file_key c s) in
      let all = ap length (file_keys c s) in
      let some = ascending_short file_order (files_of_nodes c s) in
      let each = one_each (λ (n : Node). scope_files n.scope) (λ n. one_file n.scope) c.nodes in
      omega (arith, long, all, some, each)

  -- ---- names

  pub procs_fit : All ProcFits procs
  procs_fit i d lt =
      let short = (s.procs i d lt).short in
      let p : ProcName = get_or procs i (no_proc c s) in
      let all : All HasNumber (procs_of_nodes c s) = all_lists HasNumber (λ (n : Node). scope_procs n.scope) c.nodes (λ k e within. procs_few (get_or c.nodes k e).scope (s.scopes k e within)) in
      let few : HasNumber p.id =
      All-contains HasNumber (procs_of_nodes c s) p.id all (entry_used proc_order_total proc_order_tells (λ (q : ProcName). q.id) procs (procs_of_nodes c s) (proc_keys c s) i (no_proc c s) lt) in
      record { number = subst (λ (q : ProcName). HasNumber q.id) (get_or_default procs i (no_proc c s) d lt) few; short = omega (arith, short) }

  pub files_fit : All FileFits files
  files_fit i d lt =
      let short = s.files i d lt in
      let f : FileName = get_or files i (no_file c s) in
      let all : All AreFew (files_of_nodes c s) = all_lists AreFew (λ (n : Node). scope_files n.scope) c.nodes (λ k e within. files_few (get_or c.nodes k e).scope (s.scopes k e within)) in
      let few : AreFew (f.table, f.file) =
      All-contains AreFew (files_of_nodes c s) (f.table, f.file) all (entry_used file_order_total file_order_tells (file_key c s) files (files_of_nodes c s) (file_keys c s) i (no_file c s) lt) in
      let own : AreFew ((get_or files i d).table, (get_or files i d).file) = subst (λ (g : FileName). AreFew (g.table, g.file)) (get_or_default files i (no_file c s) d lt) few in
      record { table = own.0; file = own.1; short = omega (arith, short) }

  -- ---- nodes

  proc_few : (p : ProcId) → All (Contains (procs_of_nodes c s)) (p ∷ []) → IsWord (proc_index c.names p)
  proc_few p found =
      let less = (proc_found c s p (found 0 p (omega arith))).0 in
      let few = few_procs in
      let nodes = s.nodes in
      omega (arith, less, few, nodes)

  line_fits : (line : LineId) → All (Contains (files_of_nodes c s)) (line_files line) → All IsWord (line_words line) → AreWords (raw_line_numbers (raw_line c.names line))
  line_fits (lines.Row table file line) found all =
      let less = (file_found c s (table, file) (found 0 (table, file) (omega arith))).0 in
      let few = few_files in
      let nodes = s.nodes in
      All-cons IsWord 0 (file_index c.names table file ∷ line ∷ []) (omega arith) (two (file_index c.names table file) line (omega (arith, less, few, nodes)) (all 3 0 (omega arith)))
  line_fits (lines.Address address) found all = two 1 address (omega arith) (all 1 0 (omega arith))

  pub scope_fits : (scope : Scope) → IsFound c s scope → HasWordNumbers scope → AreWords (raw_scope_numbers (raw_scope c.names scope))
  scope_fits (scopes.Root Thread) found all = two 0 0 (omega arith) (omega arith)
  scope_fits (scopes.Root Partial) found all = two 0 1 (omega arith) (omega arith)
  scope_fits (scopes.Proc p) found all = two 1 (proc_index c.names p) (omega arith) (proc_few p found.proc)
  scope_fits (scopes.Inline p line) found all =
      let numbers : List ℕ = raw_line_numbers (raw_line c.names line) in
      All-cons IsWord 2 (proc_index c.names p ∷ numbers) (omega arith) (All-cons IsWord (proc_index c.names p) numbers (proc_few p found.proc) (line_fits line found.file (call_words p line all)))
  scope_fits (scopes.Call line) found all =
      All-cons IsWord 3 (raw_line_numbers (raw_line c.names line)) (omega arith) (line_fits line found.file (All-tail IsWord 3 (line_words line) all))
  scope_fits (scopes.Stmt line) found all =
      All-cons IsWord 4 (raw_line_numbers (raw_line c.names line)) (omega arith) (line_fits line found.file (All-tail IsWord 4 (line_words line) all))
