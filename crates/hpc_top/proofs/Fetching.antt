-- Files fetched one after the other.
use Rattle.std.proofs.Common.{◌≡◌, ℕ, suc, ◌+◌, ◌<◌, ◌≤◌, List, [], ◌∷◌, ◌++◌, length, get_or, map, take, drop, refl, sym, ap, subst, ◌∙◌, inl, inr, arith, Result, Ok, Err, IsTrue, is_ok}
use Rattle.std.proofs.lemmas.List.{append-nil, append_assoc, map-append, take_more, take-append-drop, length-map, get_or-map}
use Rattle.std.proofs.Math.Seq.{drop-cons}
use Rattle.prof_bytes.specs.declared.fail.Fail.{Fail}
use Rattle.prof_bytes.specs.declared.fail.Fail.TheVariants as fails
use Rattle.prof_bytes.specs.Outcome.{◌>>=◌, FailsBy}
use Rattle.prof_bytes.proofs.Outcomes.{bind_ok}
use Rattle.prof_devices.specs.declared.logs.ShelfCall.{ShelfCall}
use Rattle.prof_devices.specs.declared.logs.ShelfCall.TheVariants as calls
use Rattle.prof_devices.specs.Files.{Files}
use Rattle.prof_devices.specs.Outside.{ShelfState, Fails}
use Rattle.command_line.specs.declared.status.InputFault.{InputFault}
use Rattle.hpc_top.specs.declared.status.Stop.{Stop}
use Rattle.hpc_top.specs.declared.status.Stop.TheVariants.{Input, Device, Memory}
use Rattle.command_line.specs.declared.status.Place.TheVariants.{Read, Store, Print}
use Rattle.command_line.specs.declared.kind.Want.{Want}
use Rattle.command_line.specs.declared.kind.FileKind.{FileKind}
use Rattle.command_line.specs.Kind.{Wanted, file_limit, kinds_of, view_want}
use Rattle.command_line.specs.Request.{Request}
use Rattle.hpc_top.specs.Verdict.{limited_bytes, contents, verdict}
use Rattle.hpc_top.specs.commands.{makes}
use Rattle.hpc_top.specs.Outcome.{are_known, fetches_of, with_fetches, SomeFetched, AllFetched, FetchedUpTo, FetchedFor}
use Rattle.hpc_top.specs.private.Steps.{FetchStops, StopsEarly}
use Rattle.command_line.specs.Kind.{AreWithin}
use Rattle.hpc_top.specs.private.Stop.{IsStopOf}

-- a file more
contents_more : (files : Files) (ws : List Wanted) (w : Wanted) (texts : List (List ℕ)) (text : List ℕ) → contents files ws ≡ Ok texts → limited_bytes files w ≡ Ok text → contents files (ws ++ w ∷ []) ≡ Ok (texts ++ text ∷ [])
contents_more files [] w texts text so_far one =
    let none : [] ≡ texts = cc in
    ap (λ (r : Result (List ℕ) InputFault). r >>= λ bytes. Ok (bytes ∷ [])) one ∙ ap (λ (ts : List (List ℕ)). Ok (ts ++ text ∷ [])) none
contents_more files (v ∷ ws) w texts text so_far one =
    let first = bind_ok (limited_bytes files v) (λ bytes. contents files ws >>= λ rest. Ok (bytes ∷ rest)) texts so_far in
    let later = bind_ok (contents files ws) (λ rest. Ok (first.0 ∷ rest)) texts first.2 in
    let whole : first.0 ∷ later.0 ≡ texts = (let e = later.2 in cc) in
    ap (λ (r : Result (List ℕ) InputFault). r >>= λ bytes. contents files (ws ++ w ∷ []) >>= λ rest. Ok (bytes ∷ rest)) first.1
    ∙ ap (λ (r : Result (List (List ℕ)) InputFault). r >>= λ rest. Ok (first.0 ∷ rest)) (contents_more files ws w later.0 text later.1 one)
    ∙ ap (λ (ts : List (List ℕ)). Ok (ts ++ text ∷ [])) whole

-- the first that is too long
contents_stops : (files : Files) (ws : List Wanted) (w : Wanted) (vs : List Wanted) (texts : List (List ℕ)) (fault : InputFault) → contents files ws ≡ Ok texts → limited_bytes files w ≡ Err fault → contents files (ws ++ w ∷ vs) ≡ Err fault
contents_stops files [] w vs texts fault so_far one = ap (λ (r : Result (List ℕ) InputFault). r >>= λ bytes. contents files vs >>= λ rest. Ok (bytes ∷ rest)) one
contents_stops files (v ∷ ws) w vs texts fault so_far one =
    let first = bind_ok (limited_bytes files v) (λ bytes. contents files ws >>= λ rest. Ok (bytes ∷ rest)) texts so_far in
    let later = bind_ok (contents files ws) (λ rest. Ok (first.0 ∷ rest)) texts first.2 in
    ap (λ (r : Result (List ℕ) InputFault). r >>= λ bytes. contents files (ws ++ w ∷ vs) >>= λ rest. Ok (bytes ∷ rest)) first.1
    ∙ ap (λ (r : Result (List (List ℕ)) InputFault). r >>= λ rest. Ok (first.0 ∷ rest)) (contents_stops files ws w vs later.0 fault later.1 one)

-- ---- what is known

known_at : (earlier : List Wanted) (w : Wanted) (later : List Wanted) (s : ShelfState) → IsTrue (are_known (earlier ++ w ∷ later) s) → IsTrue s.known
known_at [] w later s told = told
known_at (v ∷ vs) w later s told = told

known_all : (ws : List Wanted) (s : ShelfState) → IsTrue s.known → IsTrue (are_known ws s)
known_all [] s told = refl
known_all (w ∷ ws) s told = told

-- ---- the log

log_more : (log : List ShelfCall) (ws : List Wanted) (w : Wanted) → log ++ fetches_of ws ++ calls.Fetch w.name ∷ [] ≡ log ++ fetches_of (ws ++ w ∷ [])
log_more log ws w =
    append_assoc log (fetches_of ws) (calls.Fetch w.name ∷ [])
    ∙ ap (λ (l : List ShelfCall). log ++ l) (sym (map-append (λ (v : Wanted). calls.Fetch v.name) ws (w ∷ [])))

pub no_fetches : (s : ShelfState) → s ≡ with_fetches s []
no_fetches s = ap (λ (l : List ShelfCall). let t : ShelfState = record s { log = l } in t) (sym (append-nil s.log))

with_more : (s t u : ShelfState) (ws : List Wanted) (w : Wanted) → t ≡ with_fetches s ws → u ≡ with_fetches t (w ∷ []) → u ≡ with_fetches s (ws ++ w ∷ [])
with_more s t u ws w so_far one =
    one ∙ ap (λ (v : ShelfState). with_fetches v (w ∷ [])) so_far
    ∙ ap (λ (l : List ShelfCall). let v : ShelfState = record s { log = l } in v) (log_more s.log ws w)

-- nothing but the log has changed
only_log : (s u : ShelfState) (log : List ShelfCall) → u ≡ record s { log = log } → u ≡ record s { log = u.log }
only_log s u log is = subst (λ (v : ShelfState). v ≡ record s { log = v.log }) (sym is) refl

pub some_up_to : (last : Wanted) (wants : List Wanted) (old new : ShelfState) → FetchedUpTo last wants old new → SomeFetched wants old new
some_up_to last wants old new h = record {
  fetched = h.earlier ++ last ∷ [];
  left = h.later;
  wanted = h.wanted ∙ sym (append_assoc h.earlier (last ∷ []) h.later);
  log = h.log;
}

all_are_some : (wants : List Wanted) (old new : ShelfState) → new.log ≡ old.log ++ fetches_of wants → SomeFetched wants old new
all_are_some wants old new is = record { fetched = wants; left = []; wanted = sym (append-nil wants); log = is }

pub some_for : (fault : InputFault) (wants : List Wanted) (old new : ShelfState) → FetchedFor fault wants old new → SomeFetched wants old new
some_for fault wants old new (inl (long, is, h)) = some_up_to long wants old new h
some_for fault wants old new (inr h) = all_are_some wants old new h.log

up_to : (s u : ShelfState) (wants earlier later : List Wanted) (w : Wanted) (texts : List (List ℕ)) → wants ≡ earlier ++ w ∷ later → u.log ≡ s.log ++ fetches_of earlier ++ calls.Fetch w.name ∷ []
    → (IsTrue s.known → contents s.files earlier ≡ Ok texts) → FetchedUpTo w wants s u
up_to s u wants earlier later w texts parts is so_far = record {
  earlier = earlier;
  later = later;
  wanted = parts;
  log = is ∙ log_more s.log earlier w;
  within_limits = λ told. ap is_ok (so_far told);
}

-- ---- a fetch that stops, and so all that are wanted

module _ (s t u : ShelfState) (wants earlier later : List Wanted) (w : Wanted) (texts : List (List ℕ)) (parts : wants ≡ earlier ++ w ∷ later) (same : t ≡ with_fetches s earlier)
    (so_far : IsTrue s.known → contents s.files earlier ≡ Ok texts) where
  -- the shelf after this fetch, where it did not fail
  fetched_one : u ≡ with_fetches t (w ∷ []) → u ≡ with_fetches (with_fetches s earlier) (w ∷ [])
  fetched_one is = is ∙ ap (λ (v : ShelfState). with_fetches v (w ∷ [])) same

  failed_one : u ≡ record (with_fetches t (w ∷ [])) { reads = u.reads } → u ≡ record (with_fetches (with_fetches s earlier) (w ∷ [])) { reads = u.reads }
  failed_one is = is ∙ ap (λ (v : ShelfState). let x : ShelfState = record (with_fetches v (w ∷ [])) { reads = u.reads } in x) same

  refuses : (fault : InputFault) → (IsTrue t.known → limited_bytes t.files w ≡ Err fault) → IsTrue (are_known wants s) → contents s.files wants ≡ Err fault
  refuses fault refused told =
      let shown : IsTrue s.known = known_at earlier w later s (subst (λ (ws : List Wanted). IsTrue (are_known ws s)) parts told) in
      ap (contents s.files) parts
      ∙ contents_stops s.files earlier w later texts fault (so_far shown) (subst (λ (v : ShelfState). IsTrue v.known → limited_bytes v.files w ≡ Err fault) same refused shown)

  one_stops : (stop : Stop) → FetchStops t u w stop → StopsEarly wants s u (contents s.files wants) stop
  one_stops (Input fault) h =
      let is = fetched_one h.0 in
      (only_log s u _ is, inl (w, h.1, up_to s u wants earlier later w texts parts (ap (λ (v : ShelfState). v.log) is) so_far), refuses fault h.2)
  one_stops (Device Read) h =
      let is = failed_one h.0 in
      let log : u.log ≡ s.log ++ fetches_of earlier ++ calls.Fetch w.name ∷ [] = ap (λ (v : ShelfState). v.log) is in
      let failed : Fails s.reads u.reads w.name = subst (λ (v : ShelfState). Fails v.reads u.reads w.name) same h.1 in (
        is ∙ ap (λ (l : List ShelfCall). let v : ShelfState = record s { reads = u.reads; log = l } in v) (sym log),
        record { rose = failed.rose; failed = w; named = failed.named; fetched = up_to s u wants earlier later w texts parts log so_far },
      )
  one_stops (Device Store) h = absurd h
  one_stops (Device Print) h = absurd h
  one_stops (Memory memory) h =
      let is = fetched_one h in
      (only_log s u _ is, some_up_to w wants s u (up_to s u wants earlier later w texts parts (ap (λ (v : ShelfState). v.log) is) so_far))

-- ---- the wanted file at a place, as the code holds it

wanted_at : (ws : List Want) (i : ℕ) (w : Want) → i < length ws → w ≡ get_or ws i w → view_want w ≡ get_or (map view_want ws) i (view_want w)
wanted_at ws i w less is = ap view_want is ∙ sym (get_or-map view_want ws i w (view_want w) less)

module _ (ws : List Want) (i : ℕ) (w : Want) (less : i < length ws) (is : w ≡ get_or ws i w) where
  inside : i < length (map view_want ws)
  inside = let e = length-map ws view_want in omega arith

  taken : take (i + 1) (map view_want ws) ≡ take i (map view_want ws) ++ view_want w ∷ []
  taken = take_more (map view_want ws) i (view_want w) inside ∙ ap (λ (v : Wanted). take i (map view_want ws) ++ v ∷ []) (sym (wanted_at ws i w less is))

  parts : map view_want ws ≡ take i (map view_want ws) ++ view_want w ∷ drop (suc i) (map view_want ws)
  parts =
      sym (take-append-drop i (map view_want ws))
      ∙ ap (λ (rest : List Wanted). take i (map view_want ws) ++ rest) (drop-cons (map view_want ws) i (view_want w) inside ∙ ap (λ (v : Wanted). v ∷ drop (suc i) (map view_want ws)) (sym (wanted_at ws i w less is)))

  known_there : (s : ShelfState) → IsTrue (are_known (map view_want ws) s) → IsTrue s.known
  known_there s told = known_at (take i (map view_want ws)) (view_want w) (drop (suc i) (map view_want ws)) s (subst (λ (vs : List Wanted). IsTrue (are_known vs s)) parts told)

  -- so far, and one more
  pub log_grown : (s t u : ShelfState) → t ≡ with_fetches s (take i (map view_want ws)) → u ≡ with_fetches t (view_want w ∷ []) → u ≡ with_fetches s (take (i + 1) (map view_want ws))
  log_grown s t u so_far one = with_more s t u (take i (map view_want ws)) (view_want w) so_far one ∙ ap (with_fetches s) (sym taken)

  pub fetched_more : (s t : ShelfState) (texts texts' : List (List ℕ)) (text : List ℕ) → t ≡ with_fetches s (take i (map view_want ws))
      → (IsTrue (are_known (map view_want ws) s) → contents s.files (take i (map view_want ws)) ≡ Ok texts)
      → (IsTrue t.known → limited_bytes t.files (view_want w) ≡ Ok text) → texts' ≡ texts ++ text ∷ []
      → IsTrue (are_known (map view_want ws) s) → contents s.files (take (i + 1) (map view_want ws)) ≡ Ok texts'
  fetched_more s t texts texts' text same so_far one texts_are told =
      let here : limited_bytes s.files (view_want w) ≡ Ok text = subst (λ (v : ShelfState). IsTrue v.known → limited_bytes v.files (view_want w) ≡ Ok text) same one (known_there s told) in
      ap (contents s.files) taken ∙ contents_more s.files (take i (map view_want ws)) (view_want w) texts text (so_far told) here ∙ ap (λ (ts : List (List ℕ)). Ok ts) (sym texts_are)

  -- so far, and one that stops
  pub fetch_all_stops : (s t u : ShelfState) (texts : List (List ℕ)) (stop : Stop) → t ≡ with_fetches s (take i (map view_want ws))
      → (IsTrue (are_known (map view_want ws) s) → contents s.files (take i (map view_want ws)) ≡ Ok texts)
      → FetchStops t u (view_want w) stop → StopsEarly (map view_want ws) s u (contents s.files (map view_want ws)) stop
  fetch_all_stops s t u texts stop same so_far stops =
      one_stops s t u (map view_want ws) (take i (map view_want ws)) (drop (suc i) (map view_want ws)) (view_want w) texts parts same (λ told. so_far (known_all (map view_want ws) s told)) stop stops

-- a text more
pub within_more : (texts : List (List ℕ)) (ws : List Wanted) (text : List ℕ) (w : Wanted) → AreWithin texts (kinds_of ws) → length text ≤ file_limit w.file → AreWithin (texts ++ text ∷ []) (kinds_of (ws ++ w ∷ []))
within_more [] [] text w all one = (one, tt)
within_more (t ∷ ts) (v ∷ vs) text w all one = (all.0, within_more ts vs text w all.1 one)
within_more [] (v ∷ vs) text w all one = absurd all
within_more (t ∷ ts) [] text w all one = absurd all

pub fetched_within : (ws : List Want) (i : ℕ) (w : Want) (texts texts' : List (List ℕ)) (text : List ℕ) → i < length ws → w ≡ get_or ws i w → AreWithin texts (kinds_of (take i (map view_want ws))) → length text ≤ file_limit w.file → texts' ≡ texts ++ text ∷ []
    → AreWithin texts' (kinds_of (take (i + 1) (map view_want ws)))
fetched_within ws i w texts texts' text less is so_far one texts_are =
    subst (λ (ts : List (List ℕ)). AreWithin ts (kinds_of (take (i + 1) (map view_want ws)))) (sym texts_are)
    (subst (λ (vs : List Wanted). AreWithin (texts ++ text ∷ []) (kinds_of vs)) (sym (taken ws i w less is)) (within_more texts (take i (map view_want ws)) text (view_want w) so_far one))

-- the texts of the files of a command are within the limits of its kinds
pub of_kinds : (texts : List (List ℕ)) (ws : List Wanted) (files : List FileKind) → AreWithin texts (kinds_of ws) → kinds_of ws ≡ files → AreWithin texts files
of_kinds texts ws files within same = subst (AreWithin texts) same within

-- ---- what is made of the files

pub stops_on : {X Y : Type 0} (wants : List Wanted) (s u : ShelfState) (x : Result X InputFault) (next : X → Result Y InputFault) (stop : Stop) → StopsEarly wants s u x stop → StopsEarly wants s u (x >>= next) stop
stops_on wants s u x next (Input fault) h = (h.0, h.1, (λ told. ap (λ (r : Result _ InputFault). r >>= next) (h.2 told)))
stops_on wants s u x next (Device Read) h = h
stops_on wants s u x next (Device Store) h = absurd h
stops_on wants s u x next (Device Print) h = absurd h
stops_on wants s u x next (Memory memory) h = h

module _ (request : Request) (s t : ShelfState) (texts : List (List ℕ)) (same : t ≡ with_fetches s request.reads) (so_far : IsTrue (are_known request.reads s) → contents s.files request.reads ≡ Ok texts) where
  all_fetched : AllFetched request.reads s t
  all_fetched = record {
    log = ap (λ (v : ShelfState). v.log) same;
    within_limits = λ told. ap is_ok (so_far (known_all request.reads s told));
  }

  -- what was fetched is refused, or memory ran out
  pub made_stops : (fail : Fail InputFault) (stop : Stop) → FailsBy fail (makes request.command texts) → IsStopOf fail stop → StopsEarly request.reads s t (verdict request s.files) stop
  made_stops (fails.Fault fault) stop refused is =
      subst (λ (v : Stop). StopsEarly request.reads s t (verdict request s.files) v) (sym is)
      (only_log s t _ same, inr all_fetched, (λ told. ap (λ (r : Result (List (List ℕ)) InputFault). r >>= makes request.command) (so_far told) ∙ refused))
  made_stops (fails.Memory memory) stop refused is =
      subst (λ (v : Stop). StopsEarly request.reads s t (verdict request s.files) v) (sym is)
      (only_log s t _ same, all_are_some request.reads s t (ap (λ (v : ShelfState). v.log) same))
