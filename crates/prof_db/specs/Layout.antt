-- How the bytes of a database are cut into fields, by the first two rules of this project's format (docs/FORMATS.md,
-- Database). Only the head depends on the version.
use Rattle.std.specs.Prelude.{ℕ, ◌==◌, ◌&&◌, nat_eq, nat_le, Bool, List, [], ◌∷◌, length, take, Result, Ok, Err}
use Rattle.std.specs.Prelude.{if◌then◌else◌}
use Rattle.std.specs.Cmp.Lexicographic.{pointwise}
use Rattle.scope_types.specs.Columns.{columns_of}
use Rattle.prof_bytes.specs.Format.{ended_or}
use Rattle.prof_bytes.specs.Outcome.{◌>>=◌}
use Rattle.prof_bytes.specs.Reading.{At}
use Rattle.prof_db.specs.declared.fault.DbFault.{DbFault}
use Rattle.prof_db.specs.declared.raw.Head.{Head}
use Rattle.prof_db.specs.declared.raw.Layout.{Layout}
use Rattle.prof_db.specs.declared.raw.RawProc.{RawProc}
use Rattle.prof_db.specs.declared.raw.RawFile.{RawFile}
use Rattle.prof_db.specs.declared.raw.RawLine.{RawLine}
use Rattle.prof_db.specs.declared.raw.RawLine.TheVariants.{Row, Address}
use Rattle.prof_db.specs.declared.raw.RawScope.{RawScope}
use Rattle.prof_db.specs.declared.raw.RawScope.TheVariants.{Root, Proc, Inline, Call, Stmt}
use Rattle.prof_db.specs.declared.raw.RawNode.{RawNode}
use Rattle.prof_db.specs.declared.raw.RawEntry.{RawEntry}
use Rattle.prof_db.specs.declared.raw.RawEvent.{RawEvent}
use Rattle.prof_db.specs.declared.raw.Version.{Version}
use Rattle.prof_db.specs.declared.raw.Version.TheVariants.{One, Two, Three}
use Rattle.prof_bytes.specs.Repeated.{times, adding}
use Rattle.prof_db.specs.Fields.{DbRead, fault, not_whole, number_field, word_field, bytes_field}
use Rattle.prof_db.specs.Spelling.{database_magic}

-- ---- the second rule: each field is whole, each scope has a tag from 0 to 4 and each line one of 0 or 1, and nothing
-- follows

-- in each version the last words of the head: how many procedures, files and nodes there are
unfoldable pub counts_from : Version → List RawEvent → List ℕ → At → DbRead Head
counts_from version events runs at = do
  (procs, next) ← word_field at
  (files, next) ← word_field next
  (nodes, next) ← word_field next
  Ok (record { version = version; events = events; runs = runs; procs = procs; files = files; nodes = nodes }, next)

-- version 1: the period of retired, the harts, and the counts
unfoldable pub head_of_one : At → DbRead Head
head_of_one at = do
  (period, next) ← word_field at
  (harts, next) ← word_field next
  counts_from One (record { event = 0; period = period } ∷ []) (harts ∷ []) next

-- an event's number and its period
unfoldable pub event_from : At → DbRead RawEvent
event_from at = do
  (event, next) ← word_field at
  (period, next) ← word_field next
  Ok (record { event = event; period = period }, next)

-- version 2: how many events, each with its period, the harts, and the counts
unfoldable pub head_of_two : At → DbRead Head
head_of_two at = do
  (count, next) ← word_field at
  (events, next) ← times (adding event_from) count 0 [] next
  (harts, next) ← word_field next
  counts_from Two events (harts ∷ []) next

-- version 3: how many events, each with its period; how many runs, the harts of each, and the counts
unfoldable pub head_of_three : At → DbRead Head
head_of_three at = do
  (count, next) ← word_field at
  (events, next) ← times (adding event_from) count 0 [] next
  (many, next) ← word_field next
  (runs, next) ← times (adding word_field) many 0 [] next
  counts_from Three events runs next

-- the head, as its version spells it
abbrev pub head_from : Version → At → DbRead Head
head_from One at = head_of_one at
head_from Two at = head_of_two at
head_from Three at = head_of_three at

-- the length, and the bytes
unfoldable pub stored_text_from : At → DbRead (List ℕ)
stored_text_from at = do
  (size, next) ← word_field at
  bytes_field size next

-- a procedure: its identity in two words, and its name
unfoldable pub proc_from : At → DbRead RawProc
proc_from at = do
  (kind, next) ← word_field at
  (number, next) ← word_field next
  (name, next) ← stored_text_from next
  Ok (record { offset = at.offset; kind = kind; number = number; name = name }, next)

-- a file: its line table, its number in that, and its name
unfoldable pub file_from : At → DbRead RawFile
file_from at = do
  (table, next) ← word_field at
  (file, next) ← word_field next
  (name, next) ← stored_text_from next
  Ok (record { offset = at.offset; table = table; file = file; name = name }, next)

-- a file and a line number
unfoldable pub stored_row_from : At → DbRead RawLine
stored_row_from at = do
  (file, next) ← word_field at
  (line, next) ← word_field next
  Ok (Row file line, next)

-- a line that is an address
unfoldable pub stored_address_from : At → DbRead RawLine
stored_address_from at = do
  (address, next) ← word_field at
  Ok (Address address, next)

-- 0 and a row, or 1 and an address
unfoldable pub line_from : At → DbRead RawLine
line_from at = do
  (kind, next) ← word_field at
  if kind == 0 then stored_row_from next else if kind == 1 then stored_address_from next else Err (not_whole at)

-- the root of a thread, or that of the partial paths
unfoldable pub root_from : At → DbRead RawScope
root_from at = do
  (kind, next) ← word_field at
  Ok (Root kind, next)

-- a procedure, by its index
unfoldable pub stored_frame_from : At → DbRead RawScope
stored_frame_from at = do
  (p, next) ← word_field at
  Ok (Proc p, next)

-- an inlined procedure, by its index, and the line of its call
unfoldable pub inline_from : At → DbRead RawScope
inline_from at = do
  (p, next) ← word_field at
  (line, next) ← line_from next
  Ok (Inline p line, next)

-- a call, by its line
unfoldable pub call_from : At → DbRead RawScope
call_from at = do
  (line, next) ← line_from at
  Ok (Call line, next)

-- a statement, by its line
unfoldable pub stmt_from : At → DbRead RawScope
stmt_from at = do
  (line, next) ← line_from at
  Ok (Stmt line, next)

-- a tag from 0 to 4, and what it says
unfoldable pub scope_from : At → DbRead RawScope
scope_from at = do
  (tag, next) ← word_field at
  if tag == 0 then root_from next else if tag == 1 then stored_frame_from next else if tag == 2 then inline_from next
      else if tag == 3 then call_from next else if tag == 4 then stmt_from next else Err (not_whole at)

-- a node: its parent's number, and its scope
unfoldable pub node_from : At → DbRead RawNode
node_from at = do
  (parent, next) ← word_field at
  (scope, next) ← scope_from next
  Ok (record { offset = at.offset; parent = parent; scope = scope }, next)

-- an entry of a column
unfoldable pub stored_entry_from : ℕ → At → DbRead RawEntry
stored_entry_from column at = do
  (node, next) ← word_field at
  (kind, next) ← word_field next
  (value, next) ← number_field 8 next
  Ok (record { offset = at.offset; column = column; node = node; kind = kind; value = value }, next)

-- the entries of a column, after those of the lists before: how many entries, and each
unfoldable pub list_from : ℕ → List RawEntry → At → DbRead (List RawEntry)
list_from column before at = do
  (count, next) ← word_field at
  times (adding (stored_entry_from column)) count 0 before next

-- an entry of a node's list, which the seventh rule speaks of: two words and eight bytes
unfoldable pub past_entry : ℕ → Unit {0} → At → DbRead (Unit {0})
past_entry i before at = do
  (kind, next) ← word_field at
  (column, next) ← word_field next
  (value, next) ← number_field 8 next
  Ok (tt, next)

-- the entries of a node: how many, and each
unfoldable pub past_list : ℕ → Unit {0} → At → DbRead (Unit {0})
past_list i before at = do
  (count, next) ← word_field at
  times past_entry count 0 tt next

-- the lists that a head counts, the planes, and nothing after them
unfoldable pub body_from : Head → At → Result Layout DbFault
body_from head at = do
  (procs, next) ← times (adding proc_from) head.procs 0 [] at
  (files, next) ← times (adding file_from) head.files 0 [] next
  (nodes, profiles) ← times (adding node_from) head.nodes 0 [] next
  (entries, contexts) ← times list_from (columns_of (length head.events) head.runs) 0 [] profiles
  (done, end) ← times past_list head.nodes 0 tt contexts
  ended_or not_whole (record {
    version = head.version;
    events = head.events;
    runs = head.runs;
    procs = procs;
    files = files;
    nodes = nodes;
    entries = entries;
    profiles = profiles;
    contexts = contexts;
  }) end

-- whether a file begins with these eight bytes
abbrev pub begins : List ℕ → List ℕ → Bool
begins magic bytes = nat_le 8 (length bytes) && pointwise nat_eq (take 8 bytes) magic

-- where the fields after those begin
abbrev pub after_magic : List ℕ → At
after_magic bytes = record { whole = bytes; offset = 8 }

-- the first rule: a database begins with the eight bytes of one of the versions
abbrev pub version_in : List ℕ → Result Version DbFault
version_in bytes = if begins (database_magic One) bytes then Ok One
    else if begins (database_magic Two) bytes then Ok Two
    else if begins (database_magic Three) bytes then Ok Three else Err (fault 1 0)

-- the version, its head, and what all versions share
unfoldable pub layout_in : List ℕ → Result Layout DbFault
layout_in bytes = do
  version ← version_in bytes
  (head, next) ← head_from version (after_magic bytes)
  body_from head next
