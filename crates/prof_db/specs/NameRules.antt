-- The fourth rule of a database in this project's format (docs/FORMATS.md, Database): the names.
use Rattle.std.specs.Prelude.{ℕ, ◌-◌, ◌==◌, ◌&&◌, ◌||◌, not, Bool, nat_eq, nat_lt, List, [], ◌∷◌, length, map}
use Rattle.std.specs.Prelude.{slice_index_or, if◌then◌else◌}
use Rattle.std.specs.List.{flat_map, list_any}
use Rattle.std.specs.Cmp.Lexicographic.{pointwise}
use Rattle.prof_bytes.specs.Outcome.{◌>>=◌}
use Rattle.scope_types.specs.declared.scope.ProcId.{ProcId}
use Rattle.scope_types.specs.declared.scope.ProcId.TheVariants.{Die, Sym, Nameless}
use Rattle.scope_types.specs.Limits.{most_name_bytes}
use Rattle.tree_types.specs.Naming.{unknown_procedure}
use Rattle.tree_types.specs.declared.content.Names.{Names}
use Rattle.tree_types.specs.declared.content.ProcName.{ProcName}
use Rattle.tree_types.specs.declared.content.FileName.{FileName}
use Rattle.prof_db.specs.declared.raw.Layout.{Layout}
use Rattle.prof_db.specs.declared.raw.RawProc.{RawProc}
use Rattle.prof_db.specs.declared.raw.RawFile.{RawFile}
use Rattle.prof_db.specs.declared.raw.RawLine.{RawLine}
use Rattle.prof_db.specs.declared.raw.RawLine.TheVariants.{Row, Address}
use Rattle.prof_db.specs.declared.raw.RawScope.{RawScope}
use Rattle.prof_db.specs.declared.raw.RawScope.TheVariants.{Root, Proc, Inline, Call, Stmt}
use Rattle.prof_db.specs.declared.raw.RawNode.{RawNode}
use Rattle.prof_db.specs.Broken.{RuleCheck, first_broken}

-- ---- the fourth rule: procedures and files strictly ascend, have short names, and are used

-- pairs of numbers, by the first, then the second, as `slice_cmp` compares lists of the two
abbrev pub pair_less : ℕ → ℕ → ℕ → ℕ → Bool
pair_less a b c d = nat_lt a c || (a == c && nat_lt b d)

-- the file of a line, where it has one
abbrev pub line_file : RawLine → List ℕ
line_file (Row file line) = file ∷ []
line_file (Address address) = []

-- the procedure of a scope, and the file of its line, where it has one
abbrev pub scope_proc : RawScope → List ℕ
scope_proc (Root kind) = []
scope_proc (Proc p) = p ∷ []
scope_proc (Inline p line) = p ∷ []
scope_proc (Call line) = []
scope_proc (Stmt line) = []

-- the file that a scope uses, if it is on a line of one
abbrev pub scope_file : RawScope → List ℕ
scope_file (Root kind) = []
scope_file (Proc p) = []
scope_file (Inline p line) = line_file line
scope_file (Call line) = line_file line
scope_file (Stmt line) = line_file line

-- what the nodes use
abbrev pub used_procs : List RawNode → List ℕ
used_procs nodes = flat_map (λ n. scope_proc n.scope) nodes

-- the files that the nodes use, node by node
abbrev pub used_files : List RawNode → List ℕ
used_files nodes = flat_map (λ n. scope_file n.scope) nodes

-- whether a number is in a list
abbrev pub is_among : List ℕ → ℕ → Bool
is_among numbers i = list_any (λ k. k == i) numbers

-- the procedure with an index
abbrev pub proc_at : List RawProc → ℕ → RawProc
proc_at procs i = slice_index_or procs i (record { offset = 0; kind = 0; number = 0; name = [] })

-- the file with an index
abbrev pub file_at : List RawFile → ℕ → RawFile
file_at files i = slice_index_or files i (record { offset = 0; table = 0; file = 0; name = [] })

-- a kind from 0 to 2; the procedure without a name, of kind 2, has the number 0 and the name that reports show
abbrev pub is_valid_proc : RawProc → Bool
is_valid_proc p = nat_lt p.kind 2
    || (p.kind == 2 && (p.number == 0 && pointwise nat_eq p.name unknown_procedure))

-- by kind, then by number: the order of procedures (`proc_order` in tree_types), where the kinds are valid
abbrev pub procs_ascend : RawProc → RawProc → Bool
procs_ascend p q = pair_less p.kind p.number q.kind q.number

-- by line table, then by number in it: the order of files (`file_order` in tree_types)
abbrev pub files_ascend : RawFile → RawFile → Bool
files_ascend f g = pair_less f.table f.file g.table g.file

-- an entry that does not come after the one before it, or is wrong by itself
abbrev pub proc_is_wrong : List RawProc → ℕ → Bool
proc_is_wrong procs i =
    (nat_lt 0 i && not (procs_ascend (proc_at procs (i - 1)) (proc_at procs i)))
    || (not (is_valid_proc (proc_at procs i)) || nat_lt most_name_bytes (length (proc_at procs i).name))

-- a file whose name is too long
abbrev pub file_is_wrong : List RawFile → ℕ → Bool
file_is_wrong files i =
    (nat_lt 0 i && not (files_ascend (file_at files (i - 1)) (file_at files i)))
    || nat_lt most_name_bytes (length (file_at files i).name)

-- whether a procedure breaks the fourth rule: it is none, does not follow the one before it, or no node uses it
abbrev pub proc_breaks : List RawProc → List ℕ → ℕ → Bool
proc_breaks procs used i = proc_is_wrong procs i || not (is_among used i)

-- whether a file breaks the fourth rule, in the same way
abbrev pub file_breaks : List RawFile → List ℕ → ℕ → Bool
file_breaks files used i = file_is_wrong files i || not (is_among used i)

-- the first procedure that breaks it
abbrev pub procs_kept : List RawProc → List ℕ → RuleCheck
procs_kept procs used = first_broken 4 (proc_breaks procs used) (λ i. (proc_at procs i).offset) 0 (length procs)

-- the first file that breaks it
abbrev pub files_kept : List RawFile → List ℕ → RuleCheck
files_kept files used = first_broken 4 (file_breaks files used) (λ i. (file_at files i).offset) 0 (length files)

-- the whole fourth rule: the procedures, and then the files
abbrev pub names_kept : Layout → RuleCheck
names_kept layout = do
  done ← procs_kept layout.procs (used_procs layout.nodes)
  files_kept layout.files (used_files layout.nodes)

-- ---- the names

-- the identity that two words say
abbrev pub proc_id : ℕ → ℕ → ProcId
proc_id kind number = if kind == 0 then Die number else if kind == 1 then Sym number else Nameless

-- a procedure and its name
abbrev pub raw_proc_name : RawProc → ProcName
raw_proc_name p = record { id = proc_id p.kind p.number; name = p.name }

-- a file and its name
abbrev pub file_name : RawFile → FileName
file_name f = record { table = f.table; file = f.file; name = f.name }

-- the names that the file says
abbrev pub names_in : Layout → Names
names_in layout = record { procs = map raw_proc_name layout.procs; files = map file_name layout.files }
