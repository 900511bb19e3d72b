-- What was written is read as the same: words, texts, procedures, files and nodes.
use Rattle.std.proofs.Common.{◌≡◌, ℕ, ◌^◌, ◌<◌, List, [], ◌∷◌, ◌++◌, length, All, refl, ap, ◌∙◌, append_assoc, arith}
use Rattle.std.proofs.lemmas.List.Elements.{All-tail}
use Rattle.prof_bytes.specs.Reading.{At, left_of}
use Rattle.scope_types.specs.declared.scope.LineId.{LineId}
use Rattle.scope_types.specs.declared.scope.LineId.TheVariants as lines
use Rattle.scope_types.specs.declared.scope.ProcId.{ProcId}
use Rattle.scope_types.specs.declared.scope.ProcId.TheVariants.{Die, Sym, Nameless}
use Rattle.scope_types.specs.declared.scope.RootKind.{RootKind}
use Rattle.scope_types.specs.declared.scope.RootKind.TheVariants.{Thread, Partial}
use Rattle.scope_types.specs.declared.scope.Scope.{Scope}
use Rattle.scope_types.specs.declared.scope.Scope.TheVariants as scopes
use Rattle.scope_types.specs.Words.{proc_words}
use Rattle.tree_types.specs.declared.content.FileName.{FileName}
use Rattle.tree_types.specs.declared.content.Names.{Names}
use Rattle.tree_types.specs.declared.content.Node.{Node}
use Rattle.tree_types.specs.declared.content.ProcName.{ProcName}
use Rattle.prof_db.specs.declared.raw.RawLine.{RawLine}
use Rattle.prof_db.specs.declared.raw.RawLine.TheVariants.{Row, Address}
use Rattle.prof_db.specs.declared.raw.RawNode.{RawNode}
use Rattle.prof_db.specs.declared.raw.RawProc.{RawProc}
use Rattle.prof_db.specs.declared.raw.RawScope.{RawScope}
use Rattle.prof_db.specs.declared.raw.RawScope.TheVariants.{Root, Proc, Inline, Call, Stmt}
use Rattle.prof_db.specs.Fields.{not_whole, word_field}
use Rattle.prof_db.specs.Layout.{stored_address_from, call_from, file_from, stored_frame_from, inline_from, line_from, node_from, proc_from, root_from, stored_row_from, scope_from, stmt_from, stored_text_from}
use Rattle.prof_db.specs.NameRules.{file_name}
use Rattle.prof_db.specs.Spelling.{file_name_bytes, file_index, line_numbers, node_bytes, proc_index, procedure_bytes, scope_numbers, text_bytes}
use Rattle.prof_bytes.specs.Number.{word, words}
use Rattle.prof_db.specs.Stored.{IsWord}
use Rattle.prof_db.proofs.BackItems.{raw_line_numbers, raw_scope_numbers}
use Rattle.prof_bytes.proofs.Lists.{Reads}
use Rattle.prof_bytes.proofs.Written.{Comes, bytes_come, word_comes}

-- ---- words and texts

pub word_forth : (at : At) (n : ℕ) (rest : List ℕ) → IsWord n → left_of at ≡ word n ++ rest → Comes (word_field at) n rest
word_forth at n rest few left = word_comes not_whole at n rest few left

text_forth : (at : At) (name rest : List ℕ) → length name < 2 ^ 32 → left_of at ≡ text_bytes name ++ rest → Comes (stored_text_from at) name rest
unfolding stored_text_from
text_forth at name rest short left =
    let a = word_forth at (length name) (name ++ rest) short (left ∙ append_assoc (word (length name)) name rest) in
    let b = bytes_come not_whole a.0 name rest a.2 in
    (b.0, rw (a.1, b.1) refl, b.2)

-- ---- procedures and files

abbrev pub proc_kind : ProcId → ℕ
proc_kind (Die offset) = 0
proc_kind (Sym address) = 1
proc_kind Nameless = 2

abbrev pub proc_number : ProcId → ℕ
proc_number (Die offset) = offset
proc_number (Sym address) = address
proc_number Nameless = 0

pub proc_words_are : (id : ProcId) → proc_words id ≡ proc_kind id ∷ proc_number id ∷ []
proc_words_are (Die offset) = refl
proc_words_are (Sym address) = refl
proc_words_are Nameless = refl

-- a procedure as it is in a file, but where
abbrev pub raw_proc : ProcName → RawProc
raw_proc p = record { offset = 0; kind = proc_kind p.id; number = proc_number p.id; name = p.name }

abbrev pub bare_proc : RawProc → RawProc
bare_proc p = record { offset = 0; kind = p.kind; number = p.number; name = p.name }

pub record ProcFits (p : ProcName) : Type 0 where
  pub number : IsWord (proc_number p.id)
  pub short : length p.name < 2 ^ 32

kind_fits : (id : ProcId) → IsWord (proc_kind id)
kind_fits (Die offset) = omega arith
kind_fits (Sym address) = omega arith
kind_fits Nameless = omega arith

pub proc_forth : (at : At) (p : ProcName) (rest : List ℕ) → ProcFits p → left_of at ≡ procedure_bytes p ++ rest → Reads bare_proc (proc_from at) (raw_proc p) rest
unfolding proc_from
proc_forth at p rest fits left =
    let a = word_forth at (proc_kind p.id) _ (kind_fits p.id) (left ∙ ap (λ (ws : List ℕ). (words ws ++ text_bytes p.name) ++ rest) (proc_words_are p.id)) in
    let b = word_forth a.0 (proc_number p.id) _ fits.number a.2 in
    let c = text_forth b.0 p.name rest fits.short b.2 in
    record {
      value = record { offset = at.offset; kind = proc_kind p.id; number = proc_number p.id; name = p.name };
      next = c.0;
      is = rw (a.1, b.1, c.1) refl;
      same = refl;
      left = c.2;
    }

pub record FileFits (f : FileName) : Type 0 where
  pub table : IsWord f.table
  pub file : IsWord f.file
  pub short : length f.name < 2 ^ 32

pub file_forth : (at : At) (f : FileName) (rest : List ℕ) → FileFits f → left_of at ≡ file_name_bytes f ++ rest → Reads file_name (file_from at) f rest
unfolding file_from
file_forth at f rest fits left =
    let a = word_forth at f.table _ fits.table left in
    let b = word_forth a.0 f.file _ fits.file a.2 in
    let c = text_forth b.0 f.name rest fits.short b.2 in
    record {
      value = record { offset = at.offset; table = f.table; file = f.file; name = f.name };
      next = c.0;
      is = rw (a.1, b.1, c.1) refl;
      same = refl;
      left = c.2;
    }

-- ---- lines

abbrev pub AreWords : List ℕ → Type 0
AreWords ns = All IsWord ns

line_forth : (at : At) (line : RawLine) (rest : List ℕ) → AreWords (raw_line_numbers line) → left_of at ≡ words (raw_line_numbers line) ++ rest → Comes (line_from at) line rest
unfolding line_from stored_row_from stored_address_from
line_forth at (Row file line) rest fits left =
    let a = word_forth at 0 _ (omega arith) left in
    let b = word_forth a.0 file _ (fits 1 0 (omega arith)) a.2 in
    let c = word_forth b.0 line rest (fits 2 0 (omega arith)) b.2 in
    (c.0, rw (a.1, b.1, c.1) refl, c.2)
line_forth at (Address address) rest fits left =
    let a = word_forth at 1 _ (omega arith) left in
    let b = word_forth a.0 address rest (fits 1 0 (omega arith)) a.2 in
    (b.0, rw (a.1, b.1) refl, b.2)

-- ---- scopes

scope_forth : (at : At) (s : RawScope) (rest : List ℕ) → AreWords (raw_scope_numbers s) → left_of at ≡ words (raw_scope_numbers s) ++ rest → Comes (scope_from at) s rest
unfolding scope_from root_from stored_frame_from inline_from call_from stmt_from
scope_forth at (Root kind) rest fits left =
    let a = word_forth at 0 _ (omega arith) left in
    let b = word_forth a.0 kind rest (fits 1 0 (omega arith)) a.2 in
    (b.0, rw (a.1, b.1) refl, b.2)
scope_forth at (Proc p) rest fits left =
    let a = word_forth at 1 _ (omega arith) left in
    let b = word_forth a.0 p rest (fits 1 0 (omega arith)) a.2 in
    (b.0, rw (a.1, b.1) refl, b.2)
scope_forth at (Inline p line) rest fits left =
    let numbers : List ℕ = raw_line_numbers line in
    let a = word_forth at 2 _ (omega arith) left in
    let b = word_forth a.0 p (words numbers ++ rest) (fits 1 0 (omega arith)) a.2 in
    let c = line_forth b.0 line rest (All-tail IsWord p numbers (All-tail IsWord 2 (p ∷ numbers) fits)) b.2 in
    (c.0, rw (a.1, b.1, c.1) refl, c.2)
scope_forth at (Call line) rest fits left =
    let a = word_forth at 3 (words (raw_line_numbers line) ++ rest) (omega arith) left in
    let b = line_forth a.0 line rest (All-tail IsWord 3 (raw_line_numbers line) fits) a.2 in
    (b.0, rw (a.1, b.1) refl, b.2)
scope_forth at (Stmt line) rest fits left =
    let a = word_forth at 4 (words (raw_line_numbers line) ++ rest) (omega arith) left in
    let b = line_forth a.0 line rest (All-tail IsWord 4 (raw_line_numbers line) fits) a.2 in
    (b.0, rw (a.1, b.1) refl, b.2)

-- ---- nodes

module _ (names : Names) where
  abbrev pub raw_line : LineId → RawLine
  raw_line (lines.Row table file line) = Row (file_index names table file) line
  raw_line (lines.Address address) = Address address

  abbrev pub root_number : RootKind → ℕ
  root_number Thread = 0
  root_number Partial = 1

  abbrev pub raw_scope : Scope → RawScope
  raw_scope (scopes.Root kind) = Root (root_number kind)
  raw_scope (scopes.Proc p) = Proc (proc_index names p)
  raw_scope (scopes.Inline p line) = Inline (proc_index names p) (raw_line line)
  raw_scope (scopes.Call line) = Call (raw_line line)
  raw_scope (scopes.Stmt line) = Stmt (raw_line line)

  line_numbers_are : (line : LineId) → line_numbers names line ≡ raw_line_numbers (raw_line line)
  line_numbers_are (lines.Row table file line) = refl
  line_numbers_are (lines.Address address) = refl

  scope_numbers_are : (s : Scope) → scope_numbers names s ≡ raw_scope_numbers (raw_scope s)
  scope_numbers_are (scopes.Root Thread) = refl
  scope_numbers_are (scopes.Root Partial) = refl
  scope_numbers_are (scopes.Proc p) = refl
  scope_numbers_are (scopes.Inline p line) = ap (λ (l : List ℕ). 2 ∷ proc_index names p ∷ l) (line_numbers_are line)
  scope_numbers_are (scopes.Call line) = ap (λ (l : List ℕ). 3 ∷ l) (line_numbers_are line)
  scope_numbers_are (scopes.Stmt line) = ap (λ (l : List ℕ). 4 ∷ l) (line_numbers_are line)

  abbrev pub raw_node : Node → RawNode
  raw_node n = record { offset = 0; parent = n.parent; scope = raw_scope n.scope }

  pub record NodeFits (n : Node) : Type 0 where
    pub parent : IsWord n.parent
    pub scope : AreWords (raw_scope_numbers (raw_scope n.scope))

abbrev pub bare_node : RawNode → RawNode
bare_node n = record { offset = 0; parent = n.parent; scope = n.scope }

pub node_forth : (names : Names) (at : At) (n : Node) (rest : List ℕ) → NodeFits names n → left_of at ≡ node_bytes names n ++ rest → Reads bare_node (node_from at) (raw_node names n) rest
unfolding node_from
node_forth names at n rest fits left =
    let s : RawScope = raw_scope names n.scope in
    let a = word_forth at n.parent (words (raw_scope_numbers s) ++ rest) fits.parent (left ∙ ap (λ (ws : List ℕ). (word n.parent ++ words ws) ++ rest) (scope_numbers_are names n.scope)) in
    let b = scope_forth a.0 s rest fits.scope a.2 in
    record { value = record { offset = at.offset; parent = n.parent; scope = s }; next = b.0; is = rw (a.1, b.1) refl; same = refl; left = b.2 }
