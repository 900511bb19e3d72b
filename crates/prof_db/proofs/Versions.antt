-- The version of a content is that of the bytes that it was read of; and what a head of it is.
use Rattle.std.proofs.Common.{◌≡◌, ℕ, ◌<◌, ◌==◌, nat_eq, nat_le, nat_lt, Bool, true, false, cond, List, [], ◌∷◌, ◌++◌, length, map, take, drop, All, Result, Ok, Err, refl, sym, ap, ◌∙◌, take-append-drop}
use Rattle.std.specs.Cmp.Lexicographic.{pointwise, same_text}
use Rattle.std.specs.List.{flat_map}
use Rattle.std.proofs.lemmas.Bool.{and_parts, le-leb, ltb-false, or_parts}
use Rattle.std.proofs.lemmas.List.{length-map}
use Rattle.std.proofs.lemmas.List.Elements.{All-head, All-tail}
use Rattle.scope_types.specs.Events.{event_words, is_retired_alone}
use Rattle.scope_types.specs.declared.event.EventPeriod.{EventPeriod}
use Rattle.tree_types.proofs.Selecting.{map_of_map}
use Rattle.prof_db.specs.declared.fault.DbFault.{DbFault}
use Rattle.prof_db.specs.declared.raw.Layout.{Layout}
use Rattle.prof_db.specs.declared.raw.RawEvent.{RawEvent}
use Rattle.prof_db.specs.declared.raw.Version.{Version}
use Rattle.prof_db.specs.declared.raw.Version.TheVariants.{One, Two, Three}
use Rattle.prof_db.specs.Fields.{fault}
use Rattle.scope_types.specs.Limits.{most_runs}
use Rattle.prof_db.specs.HeadRules.{are_elsewhere, event_of, run_count_is_wrong}
use Rattle.prof_db.specs.Layout.{begins, version_in}
use Rattle.prof_db.specs.Spelling.{database_magic, head_numbers, version_of}
use Rattle.prof_db.proofs.Headed.{IsHeaded, raw_event_numbers, raw_head_numbers}
use Rattle.prof_db.proofs.Heads.{named_number}
use Rattle.prof_db.proofs.Passed.{own_content}

-- ---- the first eight bytes

begun : (magic bytes : List ℕ) → begins magic bytes ≡ true → bytes ≡ magic ++ drop 8 bytes
begun magic bytes is =
    let both = and_parts (nat_le 8 (length bytes)) (pointwise nat_eq (take 8 bytes) magic) is in
    let front : take 8 bytes ≡ magic = same_text (take 8 bytes) magic (sym both.1) in
    sym (take-append-drop 8 bytes) ∙ ap (λ (l : List ℕ). l ++ drop 8 bytes) front

-- the version that was read is that of the bytes there
version_cases : (bytes : List ℕ) (one two three : Bool) (version : Version) → begins (database_magic One) bytes ≡ one → begins (database_magic Two) bytes ≡ two → begins (database_magic Three) bytes ≡ three
    → ◌≡◌ {A = Result Version DbFault} (cond one (Ok One) (cond two (Ok Two) (cond three (Ok Three) (Err (fault 1 0))))) (Ok version) → begins (database_magic version) bytes ≡ true
version_cases bytes true two three One first second third is = first
version_cases bytes true two three Two first second third is = absurd cc
version_cases bytes true two three Three first second third is = absurd cc
version_cases bytes false true three One first second third is = absurd cc
version_cases bytes false true three Two first second third is = second
version_cases bytes false true three Three first second third is = absurd cc
version_cases bytes false false true One first second third is = absurd cc
version_cases bytes false false true Two first second third is = absurd cc
version_cases bytes false false true Three first second third is = third
version_cases bytes false false false version first second third is = absurd cc

pub version_took : (bytes : List ℕ) (version : Version) → version_in bytes ≡ Ok version → bytes ≡ database_magic version ++ drop 8 bytes
version_took bytes version is =
    begun (database_magic version) bytes (version_cases bytes (begins (database_magic One) bytes) (begins (database_magic Two) bytes) (begins (database_magic Three) bytes) version refl refl refl is)

-- ---- its numbers

numbers_again : (events : List RawEvent) → All (λ e. e.event < 4) events → flat_map raw_event_numbers events ≡ flat_map event_words (map event_of events)
numbers_again [] few = refl
numbers_again (e ∷ es) few =
    let first = named_number e.event (All-head (λ (e : RawEvent). e.event < 4) e es few) in
    let rest = numbers_again es (All-tail (λ (e : RawEvent). e.event < 4) e es few) in
    λ i. sym first i ∷ e.period ∷ rest i

pub numbers_of : (version : Version) (layout : Layout) → All (λ e. e.event < 4) layout.events → raw_head_numbers version layout.events layout.runs ≡ head_numbers version (own_content layout)
numbers_of One layout few = ap (λ (ps : List ℕ). ps ++ layout.runs) (sym (map_of_map (λ (e : EventPeriod). e.period) event_of layout.events))
numbers_of Two layout few =
    let many = length-map layout.events event_of in
    let numbers = numbers_again layout.events few in
    λ i. sym many i ∷ numbers i ++ layout.runs
numbers_of Three layout few =
    let many = length-map layout.events event_of in
    let numbers = numbers_again layout.events few in
    λ i. sym many i ∷ numbers i ++ (length layout.runs ∷ layout.runs)

-- ---- the version again

abbrev version_for : Bool → Bool → Version
version_for several retired = cond several Three (cond retired One Two)

one_run_only : (runs : List ℕ) → length runs ≡ 1 → nat_le 2 (length runs) ≡ false
one_run_only runs one = ap (λ (n : ℕ). nat_le 2 n) one

alone_not : (events : List RawEvent) → All (λ e. e.event < 4) events → are_elsewhere Two events ≡ false → is_retired_alone (map event_of events) ≡ false
alone_not [] few here = refl
alone_not (e ∷ []) few here =
    ap (λ (n : ℕ). n == 0) (named_number e.event (All-head (λ (e : RawEvent). e.event < 4) e [] few)) ∙ here
alone_not (e ∷ f ∷ es) few here = refl

pub version_again : (version : Version) (layout : Layout) → IsHeaded version layout.version layout.events layout.runs → run_count_is_wrong layout.version layout.runs ≡ false → are_elsewhere layout.version layout.events ≡ false → All (λ e. e.event < 4) layout.events
    → version_of (own_content layout) ≡ version
version_again One layout is runs here few =
    let alone : is_retired_alone (map event_of layout.events) ≡ true = ap (λ (es : List RawEvent). is_retired_alone (map event_of es)) is.alone.1 in
    λ i. version_for (one_run_only layout.runs is.counted i) (alone i)
version_again Two layout is runs here few =
    let alone = alone_not layout.events few (sym (ap (λ (v : Version). are_elsewhere v layout.events) is.same) ∙ here) in
    λ i. version_for (one_run_only layout.runs is.counted i) (alone i)
version_again Three layout is runs here few =
    let parts = or_parts (nat_lt (length layout.runs) 2) (nat_lt most_runs (length layout.runs)) (sym (ap (λ (v : Version). run_count_is_wrong v layout.runs) is.same) ∙ runs) in
    let several : nat_le 2 (length layout.runs) ≡ true = le-leb 2 (length layout.runs) (ltb-false (length layout.runs) 2 parts.0) in
    λ i. version_for (several i) (is_retired_alone (map event_of layout.events))
