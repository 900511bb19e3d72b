-- The shelf over a folder does what is asked of any shelf.
use Rattle.std.proofs.Common.{◌≡◌, ◌∙◌, ℕ, ◌≤◌, List, false, true, refl, sym, subst, IsTrue}
use Rattle.prof_devices.specs.declared.shelf.Fetch.{Fetch}
use Rattle.prof_devices.specs.declared.shelf.Fetch.TheVariants as fetches
use Rattle.prof_devices.specs.declared.shelf.Put.{Put}
use Rattle.prof_devices.specs.declared.shelf.Put.TheVariants.{Done, Fault, Memory}
use Rattle.prof_devices.specs.Outside.{ShelfState, last_count, Fetched, Stored}
use Rattle.prof_devices.specs.InMemory.{failed_at}
use Rattle.prof_devices.specs.Edge.{FolderFetches, FolderStores}
use Rattle.prof_devices.proofs.ShownInMemory.{failed_fails}

not_known : (s : ShelfState) → s.known ≡ false → IsTrue s.known → ⊥
not_known s unknown told = absurd (let k : true ≡ false = sym told ∙ unknown in cc)

pub folder_fetched : (old new : ShelfState) (name : List ℕ) (limit : ℕ) (answer : Fetch) → old.known ≡ false → old.reads.count ≤ last_count → FolderFetches old new name limit answer → Fetched old new name limit answer
folder_fetched old new name limit (fetches.Whole bytes) unknown small h = (h.0, (λ told. absurd (not_known old unknown told)))
folder_fetched old new name limit fetches.TooLong unknown small h = (h, (λ told. absurd (not_known old unknown told)))
folder_fetched old new name limit fetches.Fault unknown small h =
    subst (λ (s : ShelfState). Fetched old s name limit fetches.Fault) (sym h) (refl, failed_fails old.reads name small)
folder_fetched old new name limit (fetches.Memory memory) unknown small h = h

pub folder_stored : (old new : ShelfState) (name bytes : List ℕ) (answer : Put) → old.known ≡ false → old.stores.count ≤ last_count → FolderStores old new name bytes answer → Stored old new name bytes answer
folder_stored old new name bytes Done unknown small h =
    subst (λ (s : ShelfState). Stored old s name bytes Done) (sym h) (refl, (λ told. absurd (not_known old unknown told)))
folder_stored old new name bytes Fault unknown small h =
    subst (λ (s : ShelfState). Stored old s name bytes Fault) (sym h) (refl, failed_fails old.stores name small, (λ told. absurd (not_known old unknown told)))
folder_stored old new name bytes (Memory memory) unknown small h =
    subst (λ (s : ShelfState). Stored old s name bytes (Memory memory)) (sym h) (refl, (λ told. absurd (not_known old unknown told)))
