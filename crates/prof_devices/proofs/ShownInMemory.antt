-- The devices over memory do what is asked of any device.
use Rattle.std.proofs.Common.{◌≡◌, ℕ, ◌<◌, ◌≤◌, ◌∙◌, true, inl, inr, List, [], ◌∷◌, ◌++◌, append-nil, length, take, Option, Some, unwrap_or, refl, sym, ap, subst, arith}
use Rattle.prof_devices.specs.declared.shelf.Fetch.{Fetch}
use Rattle.prof_devices.specs.declared.shelf.Fetch.TheVariants as fetches
use Rattle.prof_devices.specs.declared.shelf.Put.{Put}
use Rattle.prof_devices.specs.declared.shelf.Put.TheVariants.{Done, Fault, Memory}
use Rattle.prof_devices.specs.declared.logs.ShelfCall.TheVariants as calls
use Rattle.prof_devices.specs.Files.{Files, file_of, file_bytes, Holds, HoldsPart}
use Rattle.prof_devices.specs.Outside.{Failures, ShelfState, last_count, Fails, Fetched, Stored, Taken}
use Rattle.prof_devices.specs.InMemory.{MemoryShelf, MemorySink, shown_shelf, shown_sink, failed_at, MemoryFetches, MemoryStores, MemoryPuts}

pub failed_fails : (f : Failures) (name : List ℕ) → f.count ≤ last_count → Fails f (failed_at f name) name
failed_fails f name small = record { rose = ((omega arith), (omega arith)); named = refl }

found_bytes : (files : Files) (name bytes : List ℕ) → file_of files name ≡ Some bytes → file_bytes files name ≡ bytes
found_bytes files name bytes found = ap (λ (o : Option (List ℕ)). unwrap_or o []) found

pub memory_fetched : (old new : MemoryShelf) (name : List ℕ) (limit : ℕ) (answer : Fetch) → old.reads.count ≤ last_count → MemoryFetches old new name limit answer → Fetched (shown_shelf old) (shown_shelf new) name limit answer
memory_fetched old new name limit (fetches.Whole bytes) small h = (ap shown_shelf h.1, (λ told. (sym (found_bytes old.files name bytes h.2), h.3)))
memory_fetched old new name limit fetches.TooLong small h = (ap shown_shelf h.1, (λ told. subst (λ (bytes : List ℕ). limit < length bytes) (sym (found_bytes old.files name h.2 h.3)) h.4))
memory_fetched old new name limit fetches.Fault small h =
    subst (λ (s : MemoryShelf). Fetched (shown_shelf old) (shown_shelf s) name limit fetches.Fault) (sym h.1) (refl, failed_fails old.reads name small)
memory_fetched old new name limit (fetches.Memory memory) small h = ap shown_shelf h

part_of_whole : (old new : Files) (name bytes : List ℕ) (n : ℕ) → Holds old new name (take n bytes) → HoldsPart old new name bytes
part_of_whole old new name bytes n h = record { file = inr (n, h.file); others = h.others }

nothing_held : (old new : Files) (name bytes : List ℕ) → new ≡ old → HoldsPart old new name bytes
nothing_held old new name bytes is = subst (λ (fs : Files). HoldsPart old fs name bytes) (sym is) (record { file = inl refl; others = λ other differ. refl })

pub memory_stored : (old new : MemoryShelf) (name bytes : List ℕ) (answer : Put) → old.stores.count ≤ last_count → MemoryStores old new name bytes answer → Stored (shown_shelf old) (shown_shelf new) name bytes answer
memory_stored old new name bytes Done small h = (ap shown_shelf h.1, (λ told. h.2))
memory_stored old new name bytes Fault small h = (
  ap shown_shelf h.1 ∙ sym (ap (λ (stores : Failures). let s : ShelfState = record { known = true; files = new.files; reads = old.reads; stores = stores; log = old.log ++ calls.Store name bytes ∷ [] } in s) (ap (λ (s : MemoryShelf). s.stores) h.1)),
  subst (λ (s : MemoryShelf). Fails old.stores s.stores name) (sym h.1) (failed_fails old.stores name small),
  (λ told. part_of_whole old.files new.files name bytes old.kept h.2),
)
memory_stored old new name bytes (Memory memory) small h =
    subst (λ (s : MemoryShelf). Stored (shown_shelf old) (shown_shelf s) name bytes (Memory memory)) (sym h) (refl, (λ told. nothing_held old.files old.files name bytes refl))

pub memory_taken : (old new : MemorySink) (bytes : List ℕ) (answer : Put) → old.faults ≤ last_count → old.shortages ≤ last_count → MemoryPuts old new bytes answer → Taken (shown_sink old) (shown_sink new) bytes answer
memory_taken old new bytes Done few_faults few_shortages h =
    subst (λ (s : MemorySink). Taken (shown_sink old) (shown_sink s) bytes Done) (sym h.1) (refl, (λ told. refl))
memory_taken old new bytes Fault few_faults few_shortages h =
    subst (λ (s : MemorySink). Taken (shown_sink old) (shown_sink s) bytes Fault) (sym h.1) (refl, ((omega arith), (omega arith)), (λ told. (old.kept, refl)))
memory_taken old new bytes (Memory memory) few_faults few_shortages h =
    subst (λ (s : MemorySink). Taken (shown_sink old) (shown_sink s) bytes (Memory memory)) (sym h) (refl, ((omega arith), (omega arith)), (λ told. (0, sym (append-nil old.taken))))
