-- The flat table of a list of call paths: the flat view of HPCToolkit's manual, files, in them procedures, in them
-- lines.
use Rattle.std.specs.Prelude.{ℕ, List, [], ◌∷◌, ◌++◌, map, codes, reverse}
use Rattle.std.specs.List.{flat_map}
use Rattle.scope_types.specs.CallPaths.{ColumnPath}
use Rattle.scope_types.specs.declared.scope.LineId.{LineId}
use Rattle.scope_types.specs.declared.scope.LineId.TheVariants.{Row, Address}
use Rattle.scope_types.specs.declared.scope.ProcId.{ProcId}
use Rattle.scope_types.specs.declared.scope.Scope.{Scope}
use Rattle.scope_types.specs.declared.scope.Scope.TheVariants.{Proc, Call, Stmt}
use Rattle.tree_types.specs.Naming.{Naming}
use Rattle.tree_types.specs.Paths.{Path}
use Rattle.view_tables.specs.Views.{Item, Sequences, File, Procedure, SourceLine, Instruction, view_table}

-- the file of a line; addresses have one of their own
abbrev pub line_file_item : Naming → LineId → Item
line_file_item naming (Row table file line) = File (naming.file_name table file)
line_file_item naming (Address address) = File (codes "<unknown file>")

-- the line in its file
abbrev pub line_item : LineId → Item
line_item (Row table file line) = SourceLine line
line_item (Address address) = Instruction address

-- from a call or statement up, the procedure whose frame it ends; none where another call or statement comes first
abbrev pub frame_proc : Path → List ProcId
frame_proc [] = []
frame_proc (Proc id ∷ outer) = id ∷ []
frame_proc (Call line ∷ outer) = []
frame_proc (Stmt line ∷ outer) = []
frame_proc (s ∷ outer) = frame_proc outer

-- the file, the procedure and the line of the frame that ends at a line, if one does
abbrev pub frame_at : Naming → LineId → Path → Sequences
frame_at naming line outer =
    map (λ id. line_file_item naming line ∷ Procedure id ∷ line_item line ∷ []) (frame_proc outer)

-- the line of a call or a statement
abbrev pub call_line : Scope → List LineId
call_line (Call line) = line ∷ []
call_line (Stmt line) = line ∷ []
call_line s = []

-- the frames, from the innermost scope up. A frame is what lies from a procedure down to its call or statement
abbrev pub frames_up : Naming → Path → Sequences
frames_up naming [] = []
frames_up naming (s ∷ outer) = flat_map (λ line. frame_at naming line outer) (call_line s) ++ frames_up naming outer

-- the sequences of a call path in the flat table: one for each of its frames
abbrev pub frames : Naming → ColumnPath → Sequences
frames naming p = frames_up naming (reverse p.path)

-- the heads, and the rows of the files, of their procedures and of their lines
unfoldable pub flat : ℕ → Naming → List ColumnPath → List ℕ
flat period naming paths = view_table period naming [] (map (frames naming) paths) 3
