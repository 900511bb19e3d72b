-- When each answer comes, which calls of the devices were made, and what it leaves of the files and the output.
use Rattle.std.specs.Prelude.{◌≡◌, ◌⊎◌, List, ℕ, [], ◌∷◌, ◌++◌, map, Option, Some, None, Ok, Err, Bool, true, IsTrue}
use Rattle.std.specs.Prelude.{IsOk}
use Rattle.prof_devices.specs.declared.logs.ShelfCall.{ShelfCall}
use Rattle.prof_devices.specs.declared.logs.ShelfCall.TheVariants as calls
use Rattle.prof_devices.specs.Files.{Holds, HoldsPart}
use Rattle.prof_devices.specs.Outside.{ShelfState, SinkState, Rose, Appends, AppendsPart, logged_put}
use Rattle.command_line.specs.declared.status.InputFault.{InputFault}
use Rattle.command_line.specs.declared.status.InputFault.TheVariants.{TooLong}
use Rattle.command_line.specs.declared.status.Status.{Status}
use Rattle.command_line.specs.declared.status.Status.TheVariants.{Done, Usage, Input, Device, Memory}
use Rattle.command_line.specs.declared.status.Place.TheVariants.{Read, Store, Print}
use Rattle.command_line.specs.declared.product.Product.{Product}
use Rattle.command_line.specs.Kind.{Wanted, file_limit}
use Rattle.command_line.specs.Request.{Request}
use Rattle.hpc_top.specs.Verdict.{contents, verdict}

-- what the shelf of files and the output show
pub record World : Type 0 where
  pub shelf : ShelfState
  pub out : SinkState

-- a call, by what they show before and after it
pub record Call : Type 0 where
  pub before : World
  pub after : World

-- a call, by the shelf before and after it, and the output before and after it
abbrev pub call_of : ShelfState → ShelfState → SinkState → SinkState → Call
call_of shelf shelf' out out' =
    record { before = record { shelf = shelf; out = out }; after = record { shelf = shelf'; out = out' } }

-- ---- the calls on the shelf

-- one fetch of each of these files, in their order
abbrev pub fetches_of : List Wanted → List ShelfCall
fetches_of wants = map (λ w. calls.Fetch w.name) wants

-- the shelf after the fetches of these files, where none failed
abbrev pub with_fetches : ShelfState → List Wanted → ShelfState
with_fetches s wants = record s { log = s.log ++ fetches_of wants }

-- a log with one store more, that of the product's file, where there is a name
abbrev pub and_store : Option (List ℕ) → Product → List ShelfCall → List ShelfCall
and_store None product log = log
and_store (Some name) product log = log ++ calls.Store name product.stored ∷ []

-- the part of a call that comes after the fetches of these files, where none failed
abbrev pub after_fetches : List Wanted → Call → Call
after_fetches wants call =
    call_of (with_fetches call.before.shelf wants) call.after.shelf call.before.out call.after.out

-- ---- files and output after a call

-- the file of this name, where there is a name, is these bytes, and all other files are as before
abbrev pub Keeps : Option (List ℕ) → Call → List ℕ → Type 0
Keeps None call bytes = call.after.shelf.files ≡ call.before.shelf.files
Keeps (Some name) call bytes =
    IsTrue call.before.shelf.known → Holds call.before.shelf.files call.after.shelf.files name bytes

-- the same of a front of these bytes
abbrev pub KeepsPart : Option (List ℕ) → Call → List ℕ → Type 0
KeepsPart None call bytes = call.after.shelf.files ≡ call.before.shelf.files
KeepsPart (Some name) call bytes =
    IsTrue call.before.shelf.known → HoldsPart call.before.shelf.files call.after.shelf.files name bytes

-- nothing but the failed reads and the shelf's log has changed
abbrev pub Untouched : Call → Type 0
Untouched call =
    (call.after.shelf ≡ record call.before.shelf { reads = call.after.shelf.reads; log = call.after.shelf.log })
    × (call.after.out ≡ call.before.out)

-- the product's file was stored, no call on the shelf failed, and nothing of it but its files and its log has changed
abbrev pub NoFileFailed : Option (List ℕ) → Product → Call → Type 0
NoFileFailed name product call =
    call.after.shelf ≡ record call.before.shelf {
      files = call.after.shelf.files;
      log = and_store name product call.before.shelf.log;
    }

-- a text was put once, that put did not fail, and nothing of the output but its bytes and its log has changed
abbrev pub NoPutFailed : List ℕ → Call → Type 0
NoPutFailed text call = call.after.out ≡ record (logged_put call.before.out text) { taken = call.after.out.taken }

-- the product's file was stored once and is partly there, and nothing but it, the failed stores and the shelf's log has
-- changed
abbrev pub Storing : Option (List ℕ) → Product → Call → Type 0
Storing name product call =
    KeepsPart name call product.stored
    × (call.after.shelf ≡ record call.before.shelf {
      files = call.after.shelf.files;
      stores = call.after.shelf.stores;
      log = and_store name product call.before.shelf.log;
    })
    × (call.after.out ≡ call.before.out)

-- the file is whole, the product's text was put once, and a front of it is there
abbrev pub Printing : Option (List ℕ) → Product → Call → Type 0
Printing name product call =
    Keeps name call product.stored × NoFileFailed name product call
    × (call.after.out.log ≡ call.before.out.log ++ product.text ∷ [])
    × (IsTrue call.before.out.known → AppendsPart call.before.out.taken call.after.out.taken product.text)

-- the file and the text are whole, each was stored or put once, and no call failed
abbrev pub Finished : Option (List ℕ) → Product → Call → Type 0
Finished name product call =
    Keeps name call product.stored × NoFileFailed name product call
    × (IsTrue call.before.out.known → Appends call.before.out.taken call.after.out.taken product.text)
    × NoPutFailed product.text call

-- what these files hold is known: the shelf shows its files, or there are none of these
abbrev pub are_known : List Wanted → ShelfState → Bool
are_known [] shelf = true
are_known (w ∷ ws) shelf = shelf.known

-- all files were fetched, one fetch each, and from then on this stands of some product. Where it is known what the
-- files hold, they are accepted, and it is the definition's
abbrev pub Makes : Request → (Option (List ℕ) → Product → Call → Type 0) → Call → Type 0
Makes request Stands call =
    (product : Product)
    × (IsTrue (are_known request.reads call.before.shelf) → verdict request call.before.shelf.files ≡ Ok product)
    × Stands request.stores product (after_fetches request.reads call)

-- ---- how far the files were fetched

-- some of the files were fetched, the first of them in their order
pub record SomeFetched (wants : List Wanted) (old new : ShelfState) : Type 0 where
  pub fetched : List Wanted
  pub left : List Wanted
  pub wanted : wants ≡ fetched ++ left
  pub log : new.log ≡ old.log ++ fetches_of fetched

-- all files were fetched, and are within their limits
pub record AllFetched (wants : List Wanted) (old new : ShelfState) : Type 0 where
  pub log : new.log ≡ old.log ++ fetches_of wants
  pub within_limits : IsTrue old.known → IsOk (contents old.files wants)

-- the files were fetched up to this one, and those before it are within their limits
pub record FetchedUpTo (last : Wanted) (wants : List Wanted) (old new : ShelfState) : Type 0 where
  pub earlier : List Wanted
  pub later : List Wanted
  pub wanted : wants ≡ earlier ++ last ∷ later
  pub log : new.log ≡ old.log ++ fetches_of (earlier ++ last ∷ [])
  pub within_limits : IsTrue old.known → IsOk (contents old.files earlier)

-- what was fetched where this is the refusal: the files up to the one that is too long, or all
abbrev pub FetchedFor : InputFault → List Wanted → ShelfState → ShelfState → Type 0
FetchedFor fault wants old new =
    ((long : Wanted) × (fault ≡ TooLong long.file (file_limit long.file)) × FetchedUpTo long wants old new)
    ⊎ AllFetched wants old new

-- ---- the answers

-- a read of one of the wanted files failed, and no file was fetched after it
pub record ReadFailed (wants : List Wanted) (old new : ShelfState) : Type 0 where
  pub rose : Rose old.reads.count new.reads.count
  pub failed : Wanted
  pub named : new.reads.name ≡ failed.name
  pub fetched : FetchedUpTo failed wants old new

-- the store of the command's file failed
pub record StoreFailed (name : Option (List ℕ)) (old new : ShelfState) : Type 0 where
  pub rose : Rose old.stores.count new.stores.count
  pub named : name ≡ Some new.stores.name

-- a put of the output failed, and none ran out of memory
pub record PrintFailed (old new : SinkState) : Type 0 where
  pub rose : Rose old.faults new.faults
  pub shortages : new.shortages ≡ old.shortages

-- a row for each answer to a valid command line
abbrev pub Outcome : Request → Call → Status → Type 0
Outcome request call Done = Makes request Finished call
Outcome request call Usage = ⊥
Outcome request call (Input fault) =
    (call.after.shelf ≡ record call.before.shelf { log = call.after.shelf.log }) × (call.after.out ≡ call.before.out)
    × FetchedFor fault request.reads call.before.shelf call.after.shelf
    × (IsTrue (are_known request.reads call.before.shelf) → verdict request call.before.shelf.files ≡ Err fault)
Outcome request call (Device Read) = Untouched call × ReadFailed request.reads call.before.shelf call.after.shelf
Outcome request call (Device Store) =
    Makes request Storing call × StoreFailed request.stores call.before.shelf call.after.shelf
Outcome request call (Device Print) = Makes request Printing call × PrintFailed call.before.out call.after.out
Outcome request call (Memory memory) =
    (Untouched call × SomeFetched request.reads call.before.shelf call.after.shelf)
    ⊎ Makes request Storing call ⊎ Makes request Printing call

-- an invalid command line: what shelf and output show is as before
abbrev pub Refuses : Call → Status → Type 0
Refuses call Usage = call.after ≡ call.before
Refuses call (Memory memory) = call.after ≡ call.before
Refuses call Done = ⊥
Refuses call (Input fault) = ⊥
Refuses call (Device place) = ⊥

-- when each answer comes, and what it leaves
abbrev pub Answers : Option Request → Call → Status → Type 0
Answers None call status = Refuses call status
Answers (Some request) call status = Outcome request call status
