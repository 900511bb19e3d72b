-- The devices over memory, exactly: which calls fail, and what they leave.
use Rattle.std.specs.Prelude.{◌≡◌, ℕ, ◌+◌, ◌==◌, ◌<◌, ◌≤◌, List, [], ◌∷◌, ◌++◌, length, take, min, Bool, true, false}
use Rattle.std.specs.Prelude.{Some, None}
use Rattle.std.specs.List.{list_any}
use Rattle.prof_devices.specs.declared.shelf.Fetch.{Fetch}
use Rattle.prof_devices.specs.declared.shelf.Fetch.TheVariants as fetches
use Rattle.prof_devices.specs.declared.shelf.Put.{Put}
use Rattle.prof_devices.specs.declared.shelf.Put.TheVariants.{Done, Fault, Memory}
use Rattle.prof_devices.specs.declared.logs.ShelfCall.{ShelfCall}
use Rattle.prof_devices.specs.declared.logs.ShelfCall.TheVariants as calls
use Rattle.prof_devices.specs.Files.{Files, file_of, file_bytes, Holds}
use Rattle.prof_devices.specs.Outside.{Failures, ShelfState, SinkState, last_count}

-- a count after one more: it stops at its type's end
abbrev pub raised : ℕ → ℕ
raised count = min (count + 1) last_count

-- one failure more, at this file
abbrev pub failed_at : Failures → List ℕ → Failures
failed_at failures name = record { count = raised failures.count; name = name }

-- nothing has failed yet
abbrev pub no_failures : Failures
no_failures = record { count = 0; name = [] }

-- a shelf over memory: its files and failures, the numbers of the calls that are to fail, how many bytes a failing
-- store keeps, how many calls there were, and these calls
pub record MemoryShelf : Type 0 where
  pub files : Files
  pub reads : Failures
  pub stores : Failures
  pub failing : List ℕ
  pub kept : ℕ
  pub calls : ℕ
  pub log : List ShelfCall

-- its state as a shelf: its files are known
abbrev pub shown_shelf : MemoryShelf → ShelfState
shown_shelf s = record { known = true; files = s.files; reads = s.reads; stores = s.stores; log = s.log }

-- whether the next call fails: calls are numbered from 1
abbrev pub is_failing : List ℕ → ℕ → Bool
is_failing failing calls = list_any (λ number. number == raised calls) failing

-- one more call
abbrev pub with_call : MemoryShelf → ShelfCall → MemoryShelf
with_call s call = record s { calls = raised s.calls; log = s.log ++ call ∷ [] }

-- one more call, which was a fetch
abbrev pub with_fetch : MemoryShelf → List ℕ → MemoryShelf
with_fetch s name = with_call s (calls.Fetch name)

-- one more call, which was a store
abbrev pub with_store : MemoryShelf → List ℕ → List ℕ → MemoryShelf
with_store s name bytes = with_call s (calls.Store name bytes)

-- a fetch fails where it is to, and where no file has the name
abbrev pub FetchFails : MemoryShelf → List ℕ → Bool → Type 0
FetchFails s name true = Unit {0}
FetchFails s name false = file_of s.files name ≡ None

-- a fetch from memory, answer by answer
abbrev pub MemoryFetches : MemoryShelf → MemoryShelf → List ℕ → ℕ → Fetch → Type 0
MemoryFetches old new name limit (fetches.Whole bytes) =
    (is_failing old.failing old.calls ≡ false) × (new ≡ with_fetch old name) × (file_of old.files name ≡ Some bytes)
    × (length bytes ≤ limit)
MemoryFetches old new name limit fetches.TooLong =
    (is_failing old.failing old.calls ≡ false) × (new ≡ with_fetch old name) × (bytes : List ℕ)
    × (file_of old.files name ≡ Some bytes) × (limit < length bytes)
MemoryFetches old new name limit fetches.Fault =
    FetchFails old name (is_failing old.failing old.calls)
    × (new ≡ record (with_fetch old name) { reads = failed_at old.reads name })
MemoryFetches old new name limit (fetches.Memory memory) = new ≡ with_fetch old name

-- a store to memory: one that is to fail keeps a front
abbrev pub MemoryStores : MemoryShelf → MemoryShelf → List ℕ → List ℕ → Put → Type 0
MemoryStores old new name bytes Done =
    (is_failing old.failing old.calls ≡ false) × (new ≡ record (with_store old name bytes) { files = new.files })
    × Holds old.files new.files name bytes
MemoryStores old new name bytes Fault =
    (is_failing old.failing old.calls ≡ true)
    × (new ≡ record (with_store old name bytes) { files = new.files; stores = failed_at old.stores name })
    × Holds old.files new.files name (take old.kept bytes)
MemoryStores old new name bytes (Memory memory) = new ≡ with_store old name bytes

-- a sink over memory, in the same way
pub record MemorySink : Type 0 where
  pub taken : List ℕ
  pub faults : ℕ
  pub shortages : ℕ
  pub failing : List ℕ
  pub kept : ℕ
  pub calls : ℕ
  pub log : List (List ℕ)

-- its state as a sink: its bytes are known
abbrev pub shown_sink : MemorySink → SinkState
shown_sink s = record { known = true; taken = s.taken; faults = s.faults; shortages = s.shortages; log = s.log }

-- one more call
abbrev pub counted_put : MemorySink → List ℕ → MemorySink
counted_put s bytes = record s { calls = raised s.calls; log = s.log ++ bytes ∷ [] }

-- a put to memory: one that is to fail keeps a front
abbrev pub MemoryPuts : MemorySink → MemorySink → List ℕ → Put → Type 0
MemoryPuts old new bytes Done =
    (is_failing old.failing old.calls ≡ false)
    × (new ≡ record (counted_put old bytes) { taken = old.taken ++ bytes })
MemoryPuts old new bytes Fault =
    (is_failing old.failing old.calls ≡ true)
    × (new ≡ record (counted_put old bytes) { taken = old.taken ++ take old.kept bytes; faults = raised old.faults })
MemoryPuts old new bytes (Memory memory) =
    new ≡ record (counted_put old bytes) { shortages = raised old.shortages }

-- ---- a shelf and a sink that never fail

-- the files, and the calls so far
pub record SureShelfState : Type 0 where
  pub files : Files
  pub log : List ShelfCall

-- its state as a shelf
abbrev pub sure_shelf : SureShelfState → ShelfState
sure_shelf s = record { known = true; files = s.files; reads = no_failures; stores = no_failures; log = s.log }

-- the same with one call more
abbrev pub sure_call : SureShelfState → ShelfCall → SureShelfState
sure_call s call = record s { log = s.log ++ call ∷ [] }

-- the bytes taken, how often memory was short, and the puts so far
pub record SureSinkState : Type 0 where
  pub taken : List ℕ
  pub shortages : ℕ
  pub log : List (List ℕ)

-- its state as a sink
abbrev pub sure_sink : SureSinkState → SinkState
sure_sink s = record { known = true; taken = s.taken; faults = 0; shortages = s.shortages; log = s.log }

-- a fetch leaves the files, and fails never
abbrev pub SureFetches : SureShelfState → SureShelfState → List ℕ → ℕ → Fetch → Type 0
SureFetches old new name limit (fetches.Whole bytes) =
    (new ≡ sure_call old (calls.Fetch name)) × (bytes ≡ file_bytes old.files name) × (length bytes ≤ limit)
SureFetches old new name limit fetches.TooLong =
    (new ≡ sure_call old (calls.Fetch name)) × (limit < length (file_bytes old.files name))
SureFetches old new name limit fetches.Fault = ⊥
SureFetches old new name limit (fetches.Memory memory) = new ≡ sure_call old (calls.Fetch name)

-- a store is whole, or nothing where memory runs out
abbrev pub SureStores : SureShelfState → SureShelfState → List ℕ → List ℕ → Put → Type 0
SureStores old new name bytes Done =
    (new ≡ record (sure_call old (calls.Store name bytes)) { files = new.files })
    × Holds old.files new.files name bytes
SureStores old new name bytes Fault = ⊥
SureStores old new name bytes (Memory memory) = new ≡ sure_call old (calls.Store name bytes)

-- a put is whole, or nothing where memory runs out
abbrev pub SurePuts : SureSinkState → SureSinkState → List ℕ → Put → Type 0
SurePuts old new bytes Done = new ≡ record old { taken = old.taken ++ bytes; log = old.log ++ bytes ∷ [] }
SurePuts old new bytes Fault = ⊥
SurePuts old new bytes (Memory memory) =
    new ≡ record old { shortages = raised old.shortages; log = old.log ++ bytes ∷ [] }
