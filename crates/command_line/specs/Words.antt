-- What the words of a command line ask for.
use Rattle.std.specs.Prelude.{ℕ, ◌+◌, ◌==◌, nat_eq, nat_le, nat_lt, Bool, true, ◌&&◌, if◌then◌else◌, List, [], ◌∷◌, ◌++◌}
use Rattle.std.specs.Prelude.{length, map, take, drop, position, codes, Option, Some, None, option_map}
use Rattle.std.specs.List.{list_all, slice_split}
use Rattle.std.specs.Cmp.Lexicographic.{pointwise}
use Rattle.prof_bytes.specs.Numerals.{decimal_in}
use Rattle.scope_types.specs.declared.event.Event.{Event}
use Rattle.scope_types.specs.declared.event.Event.TheVariants.{Retired, Loads, Stores, Taken}
use Rattle.scope_types.specs.declared.event.EventPeriod.{EventPeriod}
use Rattle.scope_types.specs.Events.{event_name, event_number, retired_every}
use Rattle.scope_types.specs.Limits.{least_epoch, most_epoch, most_runs, most_workers}
use Rattle.tree_types.specs.declared.content.Kind.{Kind}
use Rattle.tree_types.specs.declared.content.Kind.TheVariants.{Exclusive, Frame, Inclusive}
use Rattle.command_line.specs.declared.kind.FileKind.{FileKind}
use Rattle.command_line.specs.declared.kind.FileKind.TheVariants as kinds
use Rattle.command_line.specs.declared.request.Command.{Command}
use Rattle.command_line.specs.declared.request.Command.TheVariants.{Profile, Run, Prof, Struct, View}
use Rattle.command_line.specs.declared.request.Command.TheVariants.{Drill, Merge, Live, Trace, Timeline, Stats}
use Rattle.command_line.specs.declared.request.ViewTable.{ViewTable}
use Rattle.command_line.specs.declared.request.ViewTable.TheVariants.{Top, Callers, Flat}
use Rattle.command_line.specs.Kind.{Wanted}
use Rattle.command_line.specs.Request.{Request, most_cells, most_depth}

-- ---- numbers and names

-- the largest period
abbrev pub most_period : ℕ
most_period = 4294967295

-- the largest number of a guest
abbrev pub most_number : ℕ
most_number = 4294967295

-- a period in a word
abbrev pub period_in : List ℕ → Option ℕ
period_in word = decimal_in 1 most_period word

-- a number of workers in a word
abbrev pub workers_in : List ℕ → Option ℕ
workers_in word = decimal_in 1 most_workers word

-- what is made of two values, where both are there
abbrev pub of_both : {A B X : Type 0} → (A → B → X) → Option A → Option B → Option X
of_both make (Some first) (Some second) = Some (make first second)
of_both make (Some first) None = None
of_both make None second = None

-- what is made of three values, where all are there
abbrev pub of_three : {A B C X : Type 0} → (A → B → C → X) → Option A → Option B → Option C → Option X
of_three make (Some first) second third = of_both (make first) second third
of_three make None second third = None

-- a file's name is any word that is not empty
abbrev pub is_file_name : List ℕ → Bool
is_file_name word = nat_lt 0 (length word)

-- the same, where there is a word
abbrev pub may_be_file_name : Option (List ℕ) → Bool
may_be_file_name None = true
may_be_file_name (Some word) = is_file_name word

-- the word is this name
abbrev pub is_word : List ℕ → List ℕ → Bool
is_word word name = pointwise nat_eq word name

-- ---- events

-- the event of this name
abbrev pub event_named : List ℕ → Option Event
event_named word =
    if is_word word (event_name Retired) then Some Retired
    else if is_word word (event_name Loads) then Some Loads
    else if is_word word (event_name Stores) then Some Stores
    else if is_word word (event_name Taken) then Some Taken
    else None

-- an event with its period
abbrev pub event_every : Event → ℕ → EventPeriod
event_every event period = record { event = event; period = period }

-- the event and the period of an item that is cut at its first colon, if it has one
abbrev pub item_cut : List ℕ → Option ℕ → Option EventPeriod
item_cut item None = None
item_cut item (Some colon) =
    of_both event_every (event_named (take colon item)) (period_in (drop (colon + 1) item))

-- the event and the period of the item `EVENT:P`
unfoldable pub item_in : List ℕ → Option EventPeriod
item_in item = item_cut item (position (λ byte. byte == 58) item)

-- the items of a list, which are between its commas
abbrev pub items_of : List ℕ → List (List ℕ)
items_of word = slice_split (λ byte. byte == 44) word

-- all values, where each of them is there
abbrev pub all_there : {X : Type 0} → List (Option X) → Option (List X)
all_there [] = Some []
all_there (None ∷ rest) = None
all_there (Some x ∷ rest) = option_map (λ xs. x ∷ xs) (all_there rest)

-- each event has a greater number than the one before it
abbrev pub are_ascending : List EventPeriod → Bool
are_ascending [] = true
are_ascending (first ∷ []) = true
are_ascending (first ∷ second ∷ rest) =
    nat_lt (event_number first.event) (event_number second.event) && are_ascending (second ∷ rest)

-- the same events, where they ascend
abbrev pub if_ascending : Option (List EventPeriod) → Option (List EventPeriod)
if_ascending None = None
if_ascending (Some events) = if are_ascending events then Some events else None

-- the events of a list `EVENT:P`, `EVENT:P,EVENT:P` and so on, in which events ascend
unfoldable pub events_in : List ℕ → Option (List EventPeriod)
events_in word = if_ascending (all_there (map item_in (items_of word)))

-- the events of a word that may be a number, which is the period of retired instructions
abbrev pub number_or_events : Option ℕ → Option (List EventPeriod) → Option (List EventPeriod)
number_or_events (Some period) events = Some (retired_every period)
number_or_events None events = events

-- the events of PERIOD, a number or a list
unfoldable pub periods_in : List ℕ → Option (List EventPeriod)
periods_in word = number_or_events (period_in word) (events_in word)

-- ---- files

-- a file of this kind, whose name is the word
abbrev pub wanted : FileKind → List ℕ → Wanted
wanted file word = record { file = file; name = word }

-- the request of a command that reads these files and stores this one, unless a name is empty
abbrev pub asked : Option Command → List Wanted → Option (List ℕ) → Option Request
asked None reads stores = None
asked (Some command) reads stores =
    if list_all (λ w. is_file_name w.name) reads && may_be_file_name stores
    then Some (record { command = command; reads = reads; stores = stores })
    else None

-- ---- the words of each command

-- `profile ELF INPUT SCHEDULE PERIOD WORKERS DB`
abbrev pub profile_words : List (List ℕ) → Option Request
profile_words (elf ∷ input ∷ schedule ∷ period ∷ workers ∷ database ∷ []) =
    asked (of_both Profile (periods_in period) (workers_in workers))
    (wanted kinds.Program elf ∷ wanted kinds.Input input ∷ wanted kinds.Schedule schedule ∷ []) (Some database)
profile_words words = None

-- `run ELF INPUT SCHEDULE PERIOD MEASURE`
abbrev pub run_words : List (List ℕ) → Option Request
run_words (elf ∷ input ∷ schedule ∷ period ∷ measurement ∷ []) =
    asked (option_map Run (periods_in period))
    (wanted kinds.Program elf ∷ wanted kinds.Input input ∷ wanted kinds.Schedule schedule ∷ []) (Some measurement)
run_words words = None

-- `prof ELF MEASURE WORKERS DB`
abbrev pub prof_words : List (List ℕ) → Option Request
prof_words (elf ∷ measurement ∷ workers ∷ database ∷ []) =
    asked (option_map Prof (workers_in workers))
    (wanted kinds.Program elf ∷ wanted kinds.Measurement measurement ∷ []) (Some database)
prof_words words = None

-- `struct ELF`
abbrev pub struct_words : List (List ℕ) → Option Request
struct_words (elf ∷ []) = asked (Some Struct) (wanted kinds.Program elf ∷ []) None
struct_words words = None

-- the table of this name
abbrev pub table_named : List ℕ → Option ViewTable
table_named word =
    if is_word word (codes "top") then Some Top
    else if is_word word (codes "callers") then Some Callers
    else if is_word word (codes "flat") then Some Flat
    else None

-- the event of the words after a table or a kind of values: none where no word follows, which is the database's first
abbrev pub event_in : List (List ℕ) → Option (Option Event)
event_in [] = Some None
event_in (event ∷ []) = option_map Some (event_named event)
event_in words = None

-- `view DB TABLE` and `view DB TABLE EVENT`, with the tables `top`, `callers` and `flat`
abbrev pub view_words : List (List ℕ) → Option Request
view_words (database ∷ table ∷ last) =
    asked (of_both View (table_named table) (event_in last)) (wanted kinds.Database database ∷ []) None
view_words words = None

-- the request of a drill, which has no files
abbrev pub drill_request : ℕ → ℕ → Request
drill_request number workers = record { command = Drill number workers; reads = []; stores = None }

-- `drill NUMBER WORKERS`
abbrev pub drill_words : List (List ℕ) → Option Request
drill_words (number ∷ workers ∷ []) =
    asked (of_both Drill (decimal_in 0 most_number number) (workers_in workers)) [] None
drill_words words = None

-- how many runs the measurements of these names are, each one run: as many as a profile may have. A name that is given
-- twice is two
abbrev pub runs_in : List (List ℕ) → Option ℕ
runs_in names =
    if nat_le 1 (length names) && nat_le (length names) most_runs then Some (length names) else None

-- `merge ELF WORKERS DB MEASURE` and so on, with 1 to 16 measurements, whose runs are in the order of their names
abbrev pub merge_words : List (List ℕ) → Option Request
merge_words (elf ∷ workers ∷ database ∷ names) =
    asked (of_both Merge (workers_in workers) (runs_in names))
    (wanted kinds.Program elf ∷ map (wanted kinds.Measurement) names) (Some database)
merge_words words = None

-- a number of samples of an epoch in a word
abbrev pub epoch_in : List ℕ → Option ℕ
epoch_in word = decimal_in least_epoch most_epoch word

-- `live ELF INPUT SCHEDULE PERIOD WORKERS EPOCH DB`
abbrev pub live_words : List (List ℕ) → Option Request
live_words (elf ∷ input ∷ schedule ∷ period ∷ workers ∷ epoch ∷ database ∷ []) =
    asked (of_three Live (periods_in period) (workers_in workers) (epoch_in epoch))
    (wanted kinds.Program elf ∷ wanted kinds.Input input ∷ wanted kinds.Schedule schedule ∷ []) (Some database)
live_words words = None

-- `trace ELF INPUT SCHEDULE PERIOD TRACE`, where the period is a number
abbrev pub trace_words : List (List ℕ) → Option Request
trace_words (elf ∷ input ∷ schedule ∷ period ∷ trace ∷ []) =
    asked (option_map Trace (period_in period))
    (wanted kinds.Program elf ∷ wanted kinds.Input input ∷ wanted kinds.Schedule schedule ∷ []) (Some trace)
trace_words words = None

-- a depth in a word
abbrev pub depth_in : List ℕ → Option ℕ
depth_in word = decimal_in 1 most_depth word

-- a number of cells in a word
abbrev pub cells_in : List ℕ → Option ℕ
cells_in word = decimal_in 1 most_cells word

-- `timeline ELF TRACE DEPTH CELLS`
abbrev pub timeline_words : List (List ℕ) → Option Request
timeline_words (elf ∷ trace ∷ depth ∷ cells ∷ []) =
    asked (of_both Timeline (depth_in depth) (cells_in cells))
    (wanted kinds.Program elf ∷ wanted kinds.Trace trace ∷ []) None
timeline_words words = None

-- the kind of values of this name
abbrev pub kind_named : List ℕ → Option Kind
kind_named word =
    if is_word word (codes "exclusive") then Some Exclusive
    else if is_word word (codes "frame") then Some Frame
    else if is_word word (codes "inclusive") then Some Inclusive
    else None

-- `stats DB KIND` and `stats DB KIND EVENT`, with the kinds of values `exclusive`, `frame` and `inclusive`
abbrev pub stats_words : List (List ℕ) → Option Request
stats_words (database ∷ kind ∷ last) =
    asked (of_both Stats (kind_named kind) (event_in last)) (wanted kinds.Database database ∷ []) None
stats_words words = None

-- all commands with their words
abbrev pub usage_text : List ℕ
usage_text =
    codes "usage: hpc profile ELF INPUT SCHEDULE PERIOD WORKERS DB | run ELF INPUT SCHEDULE PERIOD MEASURE"
    ++ codes " | prof ELF MEASURE WORKERS DB | struct ELF | view DB top|callers|flat [EVENT]"
    ++ codes " | drill NUMBER WORKERS | merge ELF WORKERS DB MEASURE .."
    ++ codes " | live ELF INPUT SCHEDULE PERIOD WORKERS EPOCH DB"
    ++ codes " | trace ELF INPUT SCHEDULE PERIOD TRACE | timeline ELF TRACE DEPTH CELLS"
    ++ codes " | stats DB exclusive|frame|inclusive [EVENT]\n"

-- what the words ask for. `None`: the command line is invalid
abbrev pub request_of : List (List ℕ) → Option Request
request_of [] = None
request_of (word ∷ rest) =
    if is_word word (codes "profile") then profile_words rest
    else if is_word word (codes "run") then run_words rest
    else if is_word word (codes "prof") then prof_words rest
    else if is_word word (codes "struct") then struct_words rest
    else if is_word word (codes "view") then view_words rest
    else if is_word word (codes "drill") then drill_words rest
    else if is_word word (codes "merge") then merge_words rest
    else if is_word word (codes "live") then live_words rest
    else if is_word word (codes "trace") then trace_words rest
    else if is_word word (codes "timeline") then timeline_words rest
    else if is_word word (codes "stats") then stats_words rest
    else None
