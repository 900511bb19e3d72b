-- The bytes of a database in this project's format (docs/FORMATS.md, Database): the head of its version, and then what
-- all versions share.
use Rattle.std.specs.Prelude.{ℕ, nat_le, List, [], ◌∷◌, ◌++◌, length, codes, if◌then◌else◌}
use Rattle.std.specs.List.{flat_map, position_or_len}
use Rattle.prof_bytes.specs.Number.{number_bytes, word, words}
use Rattle.std.specs.Ordering.{is_eq}
use Rattle.scope_types.specs.Events.{event_words, is_retired_alone, periods_of}
use Rattle.scope_types.specs.declared.event.Event.TheVariants.{Retired}
use Rattle.scope_types.specs.declared.scope.ProcId.{ProcId}
use Rattle.scope_types.specs.declared.scope.LineId.{LineId}
use Rattle.scope_types.specs.declared.scope.LineId.TheVariants.{Row, Address}
use Rattle.scope_types.specs.declared.scope.Scope.{Scope}
use Rattle.scope_types.specs.declared.scope.Scope.TheVariants.{Root, Proc, Inline, Call, Stmt}
use Rattle.scope_types.specs.Words.{root_words, proc_words}
use Rattle.tree_types.specs.declared.content.Content.{Content}
use Rattle.tree_types.specs.declared.content.ContextEntry.{ContextEntry}
use Rattle.tree_types.specs.declared.content.EventContent.{EventContent}
use Rattle.tree_types.specs.declared.content.Names.{Names}
use Rattle.tree_types.specs.declared.content.Node.{Node}
use Rattle.tree_types.specs.declared.content.ProfileEntry.{ProfileEntry}
use Rattle.tree_types.specs.declared.content.FileName.{FileName}
use Rattle.tree_types.specs.declared.content.ProcName.{ProcName}
use Rattle.tree_types.specs.Naming.{proc_order, file_order}
use Rattle.tree_types.specs.NodeValues.{kind_rank}
use Rattle.tree_types.specs.OfContent.{with_event}
use Rattle.prof_db.specs.declared.raw.Version.{Version}
use Rattle.prof_db.specs.declared.raw.Version.TheVariants.{One, Two, Three}

-- a number of eight bytes
abbrev pub long : ℕ → List ℕ
long n = number_bytes 8 n

-- the length, and the bytes
abbrev pub text_bytes : List ℕ → List ℕ
text_bytes bytes = word (length bytes) ++ bytes

-- a procedure: its identity and its name
abbrev pub procedure_bytes : ProcName → List ℕ
procedure_bytes p = words (proc_words p.id) ++ text_bytes p.name

-- a file: its line table, its number and its name
abbrev pub file_name_bytes : FileName → List ℕ
file_name_bytes f = word f.table ++ word f.file ++ text_bytes f.name

-- the indices of a procedure and of a file in the lists of names
abbrev pub proc_index : Names → ProcId → ℕ
proc_index names id = position_or_len (λ p. is_eq (proc_order id p.id)) names.procs

-- and that of a file
abbrev pub file_index : Names → ℕ → ℕ → ℕ
file_index names table number = position_or_len (λ f. is_eq (file_order (table, number) (f.table, f.file))) names.files

-- a line: a file's index and a line's number, or an address
abbrev pub line_numbers : Names → LineId → List ℕ
line_numbers names (Row table number line) = 0 ∷ file_index names table number ∷ line ∷ []
line_numbers names (Address address) = 1 ∷ address ∷ []

-- a scope: which variant it is, and its fields
abbrev pub scope_numbers : Names → Scope → List ℕ
scope_numbers names (Root kind) = 0 ∷ root_words kind
scope_numbers names (Proc id) = 1 ∷ proc_index names id ∷ []
scope_numbers names (Inline callee call) = 2 ∷ proc_index names callee ∷ line_numbers names call
scope_numbers names (Call line) = 3 ∷ line_numbers names line
scope_numbers names (Stmt line) = 4 ∷ line_numbers names line

-- a node: its parent's number, and its scope
abbrev pub node_bytes : Names → Node → List ℕ
node_bytes names n = word n.parent ++ words (scope_numbers names n.scope)

-- an entry of a column: the node, the kind, and the value
abbrev pub profile_entry_bytes : ProfileEntry → List ℕ
profile_entry_bytes e = word e.node ++ word (kind_rank e.kind) ++ long e.value

-- an entry of a node: the kind, the column, and the value
abbrev pub context_entry_bytes : ContextEntry → List ℕ
context_entry_bytes e = word (kind_rank e.kind) ++ word e.column ++ long e.value

-- how many there are, and each
abbrev pub with_count : {X : Type 0} → (X → List ℕ) → List X → List ℕ
with_count spelled xs = word (length xs) ++ flat_map spelled xs

-- ---- the head, by version

-- version 3 is written where there are two or more runs; else version 1 where retired is the only event; else version 2
abbrev pub version_of : EventContent → Version
version_of c = if nat_le 2 (length c.runs) then Three else if is_retired_alone c.events then One else Two

-- what a file begins with
abbrev pub database_magic : Version → List ℕ
database_magic One = codes "HPCPROF1"
database_magic Two = codes "HPCPROF2"
database_magic Three = codes "HPCPROF3"

-- version 1 has the period and the harts; version 2 how many events, each with its period, and the harts; version 3 the
-- events so, how many runs, and the harts of each
abbrev pub head_numbers : Version → EventContent → List ℕ
head_numbers One c = periods_of c.events ++ c.runs
head_numbers Two c = length c.events ∷ flat_map event_words c.events ++ c.runs
head_numbers Three c = length c.events ∷ flat_map event_words c.events ++ (length c.runs ∷ c.runs)

-- the first eight bytes, and the numbers of the version
abbrev pub database_head : EventContent → List ℕ
database_head c = database_magic (version_of c) ++ words (head_numbers (version_of c) c)

-- ---- what all versions share

-- how many procedures, files and nodes there are, which ends the head; these; and both planes
abbrev pub shared_bytes : Names → List Node → List (List ProfileEntry) → List (List ContextEntry) → List ℕ
shared_bytes names nodes profiles contexts =
    words (length names.procs ∷ length names.files ∷ length nodes ∷ [])
    ++ flat_map procedure_bytes names.procs
    ++ flat_map file_name_bytes names.files
    ++ flat_map (node_bytes names) nodes
    ++ flat_map (with_count profile_entry_bytes) profiles
    ++ flat_map (with_count context_entry_bytes) contexts

-- all bytes of a database
unfoldable pub events_spelling : EventContent → List ℕ
events_spelling c = database_head c ++ shared_bytes c.names c.nodes c.profiles c.contexts

-- the bytes of a database of version 1: those of one run in which retired is the only event
unfoldable pub database_spelling : Content → List ℕ
database_spelling c = events_spelling (with_event Retired c)
