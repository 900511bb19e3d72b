-- The kinds of files, and the files that a command reads.
use Rattle.std.specs.Prelude.{ℕ, ◌≤◌, List, [], ◌∷◌, length, map, codes}
use Rattle.measure_file.specs.Spelling.{measurement_limit}
use Rattle.command_line.specs.declared.kind.FileKind.{FileKind}
use Rattle.command_line.specs.declared.kind.FileKind.TheVariants as kinds
use Rattle.command_line.specs.declared.kind.Want.{Want}

-- what is so of a kind of file: its word in messages, and the most bytes that a file of it may have
pub record KindRow : Type 0 where
  pub word : List ℕ
  pub limit : ℕ

-- the table of all kinds
abbrev pub row_of : FileKind → KindRow
row_of kinds.Program = record { word = codes "program"; limit = 67108864 }
row_of kinds.Input = record { word = codes "input"; limit = 1048576 }
row_of kinds.Schedule = record { word = codes "schedule"; limit = 4194304 }
row_of kinds.Measurement = record { word = codes "measurement"; limit = measurement_limit }
row_of kinds.Database = record { word = codes "database"; limit = 2147483648 }
row_of kinds.Trace = record { word = codes "trace"; limit = 67108864 }

-- the most bytes of a file of a kind
abbrev pub file_limit : FileKind → ℕ
file_limit file = (row_of file).limit

-- the most bytes of a program
abbrev pub program_limit : ℕ
program_limit = file_limit kinds.Program

-- the most bytes of a schedule
abbrev pub schedule_limit : ℕ
schedule_limit = file_limit kinds.Schedule

-- one text for each file of these kinds, and within its limit
abbrev pub AreWithin : List (List ℕ) → List FileKind → Type 0
AreWithin [] [] = Unit {0}
AreWithin (text ∷ texts) (file ∷ files) = (length text ≤ file_limit file) × AreWithin texts files
AreWithin [] (file ∷ files) = ⊥
AreWithin (text ∷ texts) [] = ⊥

-- a file to be fetched, of this kind and with this name
pub record Wanted : Type 0 where
  pub file : FileKind
  pub name : List ℕ

-- a wanted file, as the code holds it
abbrev pub view_want : Want → Wanted
view_want w = record { file = w.file; name = w.name.now }

-- the kinds of wanted files
abbrev pub kinds_of : List Wanted → List FileKind
kinds_of reads = map (λ w. w.file) reads
