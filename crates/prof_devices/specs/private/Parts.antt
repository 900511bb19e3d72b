-- The parts of calls on devices.
use Rattle.std.specs.Prelude.{◌≡◌, ℕ, ◌≤◌, ◌<◌, List, ◌++◌, length, take, Bool, true, false, Option, Some, None}
use Rattle.std.specs.Io.KnownBytes.{Consumes, IsAtEnd}
use Rattle.prof_devices.specs.declared.shelf.Fetch.{Fetch}
use Rattle.prof_devices.specs.declared.shelf.Fetch.TheVariants as fetches
use Rattle.prof_devices.specs.declared.shelf.Put.{Put}
use Rattle.prof_devices.specs.declared.shelf.Put.TheVariants.{Done, Fault, Memory}
use Rattle.prof_devices.specs.declared.read.ReadStop.{ReadStop}
use Rattle.prof_devices.specs.declared.read.ReadStop.TheVariants as stops
use Rattle.prof_devices.specs.Files.{file_of, Holds}
use Rattle.prof_devices.specs.InMemory.{MemoryShelf, MemorySink, failed_at, raised}

-- ---- over memory, after the count

-- a file is read, and the shelf is as before but for a name that no file has
abbrev pub FileRead : MemoryShelf → MemoryShelf → List ℕ → ℕ → Fetch → Type 0
FileRead old new name limit (fetches.Whole bytes) =
    (new ≡ old) × (file_of old.files name ≡ Some bytes) × (length bytes ≤ limit)
FileRead old new name limit fetches.TooLong =
    (new ≡ old) × (bytes : List ℕ) × (file_of old.files name ≡ Some bytes) × (limit < length bytes)
FileRead old new name limit fetches.Fault =
    (file_of old.files name ≡ None) × (new ≡ record old { reads = failed_at old.reads name })
FileRead old new name limit (fetches.Memory memory) = new ≡ old

-- a store fails and keeps a front
abbrev pub FrontStored : MemoryShelf → MemoryShelf → List ℕ → List ℕ → Put → Type 0
FrontStored old new name bytes Done = ⊥
FrontStored old new name bytes Fault =
    (new ≡ record old { files = new.files; stores = failed_at old.stores name })
    × Holds old.files new.files name (take old.kept bytes)
FrontStored old new name bytes (Memory memory) = new ≡ old

-- a put fails and keeps a front
abbrev pub FrontPut : MemorySink → MemorySink → List ℕ → Put → Type 0
FrontPut old new bytes Done = ⊥
FrontPut old new bytes Fault = new ≡ record old { taken = old.taken ++ take old.kept bytes; faults = raised old.faults }
FrontPut old new bytes (Memory memory) = new ≡ record old { shortages = raised old.shortages }

-- ---- a file that is read to its end, where its bytes are known

-- bytes that were read come to those before, and are no longer left
abbrev pub TakesFrom : Option (List ℕ) → Option (List ℕ) → List ℕ → List ℕ → Type 0
TakesFrom known left before after = (bytes : List ℕ) × (after ≡ before ++ bytes) × Consumes known left bytes

-- a read that gives no more is at the end
abbrev pub AtEnd : Bool → Option (List ℕ) → Type 0
AtEnd true left = Unit {0}
AtEnd false left = IsAtEnd left

-- no more bytes than the limit
abbrev pub IsAtMost : ℕ → Fetch → Type 0
IsAtMost limit (fetches.Whole bytes) = length bytes ≤ limit
IsAtMost limit fetches.TooLong = Unit {0}
IsAtMost limit fetches.Fault = Unit {0}
IsAtMost limit (fetches.Memory memory) = Unit {0}

-- the source failed, and memory was there
abbrev pub is_failure : ReadStop → Bool
is_failure stops.Failed = true
is_failure (stops.Memory memory) = false
