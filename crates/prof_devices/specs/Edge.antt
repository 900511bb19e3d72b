-- The devices over a folder and over streams: nothing is known of what they hold, and a count rises in just the calls
-- that answer a fault.
use Rattle.std.specs.Prelude.{◌≡◌, ℕ, ◌<◌, ◌≤◌, ◌⊎◌, List, length, take, Option, Some, None, IfSome, Bool, true, false}
use Rattle.std.specs.Io.KnownBytes.{Consumes, IsAtEnd}
use Rattle.core.specs.Str.{IsUtf8}
use Rattle.prof_devices.specs.declared.shelf.Fetch.{Fetch}
use Rattle.prof_devices.specs.declared.shelf.Fetch.TheVariants as fetches
use Rattle.prof_devices.specs.declared.shelf.Put.{Put}
use Rattle.prof_devices.specs.declared.shelf.Put.TheVariants.{Done, Fault, Memory}
use Rattle.prof_devices.specs.declared.logs.ShelfCall.TheVariants as calls
use Rattle.prof_devices.specs.Outside.{ShelfState, SinkState, logged, logged_put}
use Rattle.prof_devices.specs.InMemory.{failed_at, raised}

-- a fetch from a folder: no answer has more than `limit` bytes
abbrev pub FolderFetches : ShelfState → ShelfState → List ℕ → ℕ → Fetch → Type 0
FolderFetches old new name limit (fetches.Whole bytes) =
    (new ≡ logged old (calls.Fetch name)) × (length bytes ≤ limit)
FolderFetches old new name limit fetches.TooLong = new ≡ logged old (calls.Fetch name)
FolderFetches old new name limit fetches.Fault =
    new ≡ record (logged old (calls.Fetch name)) { reads = failed_at old.reads name }
FolderFetches old new name limit (fetches.Memory memory) = new ≡ logged old (calls.Fetch name)

-- a store to a folder
abbrev pub FolderStores : ShelfState → ShelfState → List ℕ → List ℕ → Put → Type 0
FolderStores old new name bytes Done = new ≡ logged old (calls.Store name bytes)
FolderStores old new name bytes Fault =
    new ≡ record (logged old (calls.Store name bytes)) { stores = failed_at old.stores name }
FolderStores old new name bytes (Memory memory) = new ≡ logged old (calls.Store name bytes)

-- a put to a stream, which takes no memory
abbrev pub StreamPuts : SinkState → SinkState → List ℕ → Put → Type 0
StreamPuts old new bytes Done = new ≡ logged_put old bytes
StreamPuts old new bytes Fault = new ≡ record (logged_put old bytes) { faults = raised old.faults }
StreamPuts old new bytes (Memory memory) = ⊥

-- the same for text alone: other bytes are a fault
abbrev pub LinePuts : SinkState → SinkState → List ℕ → Put → Type 0
LinePuts old new bytes Done = (new ≡ logged_put old bytes) × IsUtf8 bytes
LinePuts old new bytes Fault = new ≡ record (logged_put old bytes) { faults = raised old.faults }
LinePuts old new bytes (Memory memory) = ⊥

-- ---- a file that is read to its end

-- a source gave a given number of the bytes that it had left, none only at their end
pub record GivesSome (before after : Option (List ℕ)) (part : List ℕ) (count : ℕ) : Type 0 where
  pub within : count ≤ length part
  pub given : Consumes before after (take count part)
  pub end : count ≡ 0 → 0 < length part → IsAtEnd after

-- the answer is that the device failed
abbrev pub is_fault : Fetch → Bool
is_fault fetches.Fault = true
is_fault _ = false

-- all bytes that a source has left, unless they are more than the limit; a source may also fail
abbrev pub FetchesFrom : Option (List ℕ) → ℕ → Fetch → Type 0
FetchesFrom known limit (fetches.Whole bytes) = (length bytes ≤ limit) × IfSome known (λ left. bytes ≡ left)
FetchesFrom known limit fetches.TooLong = IfSome known (λ left. limit < length left)
FetchesFrom known limit fetches.Fault = Unit {0}
FetchesFrom known limit (fetches.Memory memory) = Unit {0}

-- a fact, where the answer says what was read: the whole file, or that it is too long
abbrev pub OnRead : Fetch → Type 0 → Type 0
OnRead (fetches.Whole bytes) Fact = Fact
OnRead fetches.TooLong Fact = Fact
OnRead fetches.Fault Fact = Unit {0}
OnRead (fetches.Memory memory) Fact = Unit {0}

-- at most so many bytes were taken, where they are known
abbrev pub TakesAtMost : Option (List ℕ) → Option (List ℕ) → ℕ → Type 0
TakesAtMost known left most = (bytes : List ℕ) × Consumes known left bytes × (length bytes ≤ most)

-- ---- a folder's file, of which it is known what may be opened or stored under its name

-- a file was opened, and it has been read: all that it had left, or more of it than the limit. A fault comes where
-- nothing was opened, or where what was opened has failed. When memory runs out, no clause says
abbrev pub ReadsOpened : {F : Type 0} → (Option F → Type 0) → (F → Option (List ℕ)) → (F → Bool) → ℕ → Fetch → Type 0
ReadsOpened {F} opens left has_failed limit (fetches.Whole bytes) =
    (file : F) × opens (Some file) × FetchesFrom (left file) limit (fetches.Whole bytes)
ReadsOpened {F} opens left has_failed limit fetches.TooLong =
    (file : F) × opens (Some file) × FetchesFrom (left file) limit fetches.TooLong
ReadsOpened {F} opens left has_failed limit fetches.Fault =
    opens None ⊎ ((file after : F) × opens (Some file) × (has_failed after ≡ true))
ReadsOpened {F} opens left has_failed limit (fetches.Memory memory) = Unit {0}

-- the answer is that of the folder's store, unless memory ran out
abbrev pub StoresGiven : (Put → Type 0) → Put → Type 0
StoresGiven stores Done = stores Done
StoresGiven stores Fault = stores Fault
StoresGiven stores (Memory memory) = Unit {0}

-- whether all bytes were put is what the stream said of a put
abbrev pub PutsGiven : (Bool → Type 0) → Put → Type 0
PutsGiven puts Done = puts true
PutsGiven puts Fault = puts false
PutsGiven puts (Memory memory) = ⊥
