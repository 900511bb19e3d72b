-- What the steps of a command do: its fetches, what is made of them, and the store and the put at its end.
use Rattle.std.specs.Prelude.{◌≡◌, ℕ, ◌≤◌, ◌⊎◌, List, [], ◌∷◌, ◌++◌, length, Option, Result, Ok, Err, IsTrue}
use Rattle.prof_bytes.specs.declared.text.Text.{Text}
use Rattle.prof_devices.specs.Outside.{ShelfState, SinkState, Fails, Appends, AppendsPart, logged_put}
use Rattle.command_line.specs.declared.status.InputFault.{InputFault}
use Rattle.command_line.specs.declared.status.InputFault.TheVariants.{TooLong}
use Rattle.hpc_top.specs.declared.status.Stop.{Stop}
use Rattle.hpc_top.specs.declared.status.Stop.TheVariants.{Input, Device, Memory}
use Rattle.command_line.specs.declared.status.Place.TheVariants.{Read, Store, Print}
use Rattle.command_line.specs.declared.product.Product.{Product}
use Rattle.command_line.specs.Kind.{AreWithin, Wanted, file_limit, kinds_of}
use Rattle.command_line.specs.Request.{Request}
use Rattle.hpc_top.specs.Verdict.{limited_bytes, contents, verdict}
use Rattle.hpc_top.specs.Outcome.{Call, Storing, Printing, Finished, ReadFailed, StoreFailed, PrintFailed}
use Rattle.hpc_top.specs.Outcome.{are_known, with_fetches, SomeFetched, FetchedFor}

-- ---- fetches

-- why the fetch of a file stops
abbrev pub FetchStops : ShelfState → ShelfState → Wanted → Stop → Type 0
FetchStops old new w (Input fault) =
    (new ≡ with_fetches old (w ∷ [])) × (fault ≡ TooLong w.file (file_limit w.file))
    × (IsTrue old.known → limited_bytes old.files w ≡ Err fault)
FetchStops old new w (Device Read) =
    (new ≡ record (with_fetches old (w ∷ [])) { reads = new.reads }) × Fails old.reads new.reads w.name
FetchStops old new w (Device Store) = ⊥
FetchStops old new w (Device Print) = ⊥
FetchStops old new w (Memory memory) = new ≡ with_fetches old (w ∷ [])

-- one file is fetched
abbrev pub Fetches : ShelfState → ShelfState → Wanted → Result Text Stop → Type 0
Fetches old new w (Ok text) =
    (new ≡ with_fetches old (w ∷ [])) × (length text ≤ file_limit w.file)
    × (IsTrue old.known → limited_bytes old.files w ≡ Ok text)
Fetches old new w (Err stop) = FetchStops old new w stop

-- why a command stops before it delivers, where the definition of what it gives is `wanted`. It changes nothing but the
-- failed reads and the log
abbrev pub StopsEarly : {X : Type 0} → List Wanted → ShelfState → ShelfState → Result X InputFault → Stop → Type 0
StopsEarly wants old new wanted (Input fault) =
    (new ≡ record old { log = new.log }) × FetchedFor fault wants old new
    × (IsTrue (are_known wants old) → wanted ≡ Err fault)
StopsEarly wants old new wanted (Device Read) =
    (new ≡ record old { reads = new.reads; log = new.log }) × ReadFailed wants old new
StopsEarly wants old new wanted (Device Store) = ⊥
StopsEarly wants old new wanted (Device Print) = ⊥
StopsEarly wants old new wanted (Memory memory) = (new ≡ record old { log = new.log }) × SomeFetched wants old new

-- all files of a command are fetched, in their order
abbrev pub FetchesAll : ShelfState → ShelfState → List Wanted → Result (List (List ℕ)) Stop → Type 0
FetchesAll old new wants (Ok texts) =
    (new ≡ with_fetches old wants) × AreWithin texts (kinds_of wants)
    × (IsTrue (are_known wants old) → contents old.files wants ≡ Ok texts)
FetchesAll old new wants (Err stop) = StopsEarly wants old new (contents old.files wants) stop

-- the fetches of a command and what is made of them
abbrev pub Prepares : Request → ShelfState → ShelfState → Result Product Stop → Type 0
Prepares request old new (Ok made) =
    (new ≡ with_fetches old request.reads)
    × (IsTrue (are_known request.reads old) → verdict request old.files ≡ Ok made)
Prepares request old new (Err stop) = StopsEarly request.reads old new (verdict request old.files) stop

-- ---- the end of a command

-- why a put stops. It was made once
abbrev pub TextStops : SinkState → SinkState → List ℕ → Stop → Type 0
TextStops out out' text (Input fault) = ⊥
TextStops out out' text (Device Read) = ⊥
TextStops out out' text (Device Store) = ⊥
TextStops out out' text (Device Print) =
    (out'.log ≡ out.log ++ text ∷ []) × (IsTrue out.known → AppendsPart out.taken out'.taken text)
    × PrintFailed out out'
TextStops out out' text (Memory memory) =
    (out'.log ≡ out.log ++ text ∷ []) × (IsTrue out.known → AppendsPart out.taken out'.taken text)

-- a text is put, or why not
abbrev pub PutsText : SinkState → SinkState → List ℕ → Result (Unit {0}) Stop → Type 0
PutsText out out' text (Ok _) =
    (IsTrue out.known → Appends out.taken out'.taken text)
    × (out' ≡ record (logged_put out text) { taken = out'.taken })
PutsText out out' text (Err stop) = TextStops out out' text stop

-- why a delivery stops
abbrev pub DeliveryStops : Option (List ℕ) → Product → Call → Stop → Type 0
DeliveryStops name product call (Input fault) = ⊥
DeliveryStops name product call (Device Read) = ⊥
DeliveryStops name product call (Device Store) =
    Storing name product call × StoreFailed name call.before.shelf call.after.shelf
DeliveryStops name product call (Device Print) =
    Printing name product call × PrintFailed call.before.out call.after.out
DeliveryStops name product call (Memory memory) = Storing name product call ⊎ Printing name product call

-- its file is stored, where it has one, and then its text is put
abbrev pub Delivers : Option (List ℕ) → Product → Call → Result (Unit {0}) Stop → Type 0
Delivers name product call (Ok _) = Finished name product call
Delivers name product call (Err stop) = DeliveryStops name product call stop
