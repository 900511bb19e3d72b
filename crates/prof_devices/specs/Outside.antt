-- What calls on a shelf or a sink may do to its state.
use Rattle.std.specs.Prelude.{◌≡◌, ℕ, ◌+◌, ◌-◌, ◌^◌, ◌<◌, ◌≤◌, List, [], ◌∷◌, ◌++◌, length, take, min, Bool, IsTrue}
use Rattle.prof_devices.specs.declared.logs.ShelfCall.{ShelfCall}
use Rattle.prof_devices.specs.declared.logs.ShelfCall.TheVariants as calls
use Rattle.prof_devices.specs.declared.shelf.Fetch.{Fetch}
use Rattle.prof_devices.specs.declared.shelf.Fetch.TheVariants as fetches
use Rattle.prof_devices.specs.declared.shelf.Put.{Put}
use Rattle.prof_devices.specs.declared.shelf.Put.TheVariants.{Done, Fault, Memory}
use Rattle.prof_devices.specs.Files.{Files, file_bytes, Holds, HoldsPart}

-- how often calls of a kind have failed, and the file name of the last call in which this count rose
pub record Failures : Type 0 where
  pub count : ℕ
  pub name : List ℕ

-- a shelf's state. Its files count only where they are known. Its log has all calls so far, in their order
pub record ShelfState : Type 0 where
  pub known : Bool
  pub files : Files
  pub reads : Failures
  pub stores : Failures
  pub log : List ShelfCall

-- a sink's state. The bytes taken count only where they are known. Its log has the bytes of each put so far, in order
pub record SinkState : Type 0 where
  pub known : Bool
  pub taken : List ℕ
  pub faults : ℕ
  pub shortages : ℕ
  pub log : List (List ℕ)

-- the shelf with one call more in its log
abbrev pub logged : ShelfState → ShelfCall → ShelfState
logged s call = record s { log = s.log ++ call ∷ [] }

-- the sink with one put more in its log
abbrev pub logged_put : SinkState → List ℕ → SinkState
logged_put s bytes = record s { log = s.log ++ bytes ∷ [] }

-- the largest count that its type holds
abbrev pub last_count : ℕ
last_count = 2 ^ 64 - 1

-- a count rose, or was at its type's end. It never falls
abbrev pub Rose : ℕ → ℕ → Type 0
Rose before now = (before ≤ now) × (min (before + 1) last_count ≤ now)

-- a call that failed: the count rose, and the name is that of this call's file
pub record Fails (old new : Failures) (name : List ℕ) : Type 0 where
  pub rose : Rose old.count new.count
  pub named : new.name ≡ name

-- what a fetch leaves, and what its answer says of the files where they are known. Whatever it answers, the log has it.
-- Beside that, a fetch that fails changes the failed reads, and any other fetch nothing
abbrev pub Fetched : ShelfState → ShelfState → List ℕ → ℕ → Fetch → Type 0
Fetched old new name limit (fetches.Whole bytes) =
    (new ≡ logged old (calls.Fetch name))
    × (IsTrue old.known → (bytes ≡ file_bytes old.files name) × (length bytes ≤ limit))
Fetched old new name limit fetches.TooLong =
    (new ≡ logged old (calls.Fetch name)) × (IsTrue old.known → limit < length (file_bytes old.files name))
Fetched old new name limit fetches.Fault =
    (new ≡ record (logged old (calls.Fetch name)) { reads = new.reads }) × Fails old.reads new.reads name
Fetched old new name limit (fetches.Memory memory) = new ≡ logged old (calls.Fetch name)

-- what a store leaves. Whatever it answers, the log has it. Beside that, a store that fails changes the files and the
-- failed stores, and any other store the files alone
abbrev pub Stored : ShelfState → ShelfState → List ℕ → List ℕ → Put → Type 0
Stored old new name bytes Done =
    (new ≡ record (logged old (calls.Store name bytes)) { files = new.files })
    × (IsTrue old.known → Holds old.files new.files name bytes)
Stored old new name bytes Fault =
    (new ≡ record (logged old (calls.Store name bytes)) { files = new.files; stores = new.stores })
    × Fails old.stores new.stores name × (IsTrue old.known → HoldsPart old.files new.files name bytes)
Stored old new name bytes (Memory memory) =
    (new ≡ record (logged old (calls.Store name bytes)) { files = new.files })
    × (IsTrue old.known → HoldsPart old.files new.files name bytes)

-- all of the bytes were added
abbrev pub Appends : List ℕ → List ℕ → List ℕ → Type 0
Appends old new bytes = new ≡ old ++ bytes

-- a front of the bytes was added
abbrev pub AppendsPart : List ℕ → List ℕ → List ℕ → Type 0
AppendsPart old new bytes = (n : ℕ) × (new ≡ old ++ take n bytes)

-- what a put leaves. Whatever it answers, the log has it. Beside that and the bytes taken, a put that fails changes the
-- count of faults, one for which memory ran out that of shortages, and any other put nothing
abbrev pub Taken : SinkState → SinkState → List ℕ → Put → Type 0
Taken old new bytes Done =
    (new ≡ record (logged_put old bytes) { taken = new.taken })
    × (IsTrue old.known → Appends old.taken new.taken bytes)
Taken old new bytes Fault =
    (new ≡ record (logged_put old bytes) { taken = new.taken; faults = new.faults })
    × Rose old.faults new.faults × (IsTrue old.known → AppendsPart old.taken new.taken bytes)
Taken old new bytes (Memory memory) =
    (new ≡ record (logged_put old bytes) { taken = new.taken; shortages = new.shortages })
    × Rose old.shortages new.shortages × (IsTrue old.known → AppendsPart old.taken new.taken bytes)
