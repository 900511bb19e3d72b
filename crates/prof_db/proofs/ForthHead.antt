-- What was written is read as the same: the head, in the version of its content.
use Rattle.std.proofs.Common.{◌≡◌, ℕ, ◌≤◌, nat_eq, nat_le, Bool, true, false, cond, List, [], ◌∷◌, ◌++◌, length, map, take, drop, All, Result, Ok, Err, refl, sym, ap, ◌∙◌, append_assoc, arith, true≢false}
use Rattle.std.specs.Cmp.Lexicographic.{pointwise}
use Rattle.std.specs.List.{flat_map}
use Rattle.std.proofs.lemmas.Bool.{and_from, eqb-true, le-leb, leb-false}
use Rattle.std.proofs.lemmas.List.{length-append}
use Rattle.std.proofs.lemmas.List.Concat.{flat_map-append}
use Rattle.std.proofs.lemmas.List.Elements.{All-head}
use Rattle.prof_bytes.specs.Number.{word, words}
use Rattle.prof_bytes.specs.Reading.{At, left_of}
use Rattle.prof_bytes.proofs.Lists.{Reads, items_come}
use Rattle.prof_bytes.proofs.Tests.{and_false}
use Rattle.prof_bytes.proofs.Written.{Comes}
use Rattle.scope_types.specs.Events.{event_number, event_words, is_retired_alone, periods_of}
use Rattle.scope_types.specs.declared.event.EventPeriod.{EventPeriod}
use Rattle.tree_types.specs.declared.content.EventContent.{EventContent}
use Rattle.prof_db.specs.declared.fault.DbFault.{DbFault}
use Rattle.prof_db.specs.declared.raw.Head.{Head}
use Rattle.prof_db.specs.declared.raw.RawEvent.{RawEvent}
use Rattle.prof_db.specs.declared.raw.Version.{Version}
use Rattle.prof_db.specs.declared.raw.Version.TheVariants.{One, Two, Three}
use Rattle.prof_db.specs.Fields.{fault, word_field}
use Rattle.prof_db.specs.Layout.{begins, counts_from, event_from, head_from, head_of_one, head_of_three, head_of_two, version_in}
use Rattle.prof_db.specs.Spelling.{database_magic, head_numbers, version_of}
use Rattle.prof_db.specs.Stored.{IsWord}
use Rattle.prof_db.proofs.BackPlanes.{flat_again}
use Rattle.prof_db.proofs.ForthItems.{word_forth}
use Rattle.prof_db.proofs.Heads.{number_few}

-- ---- the first eight bytes

pub own_begins : (version : Version) (rest : List ℕ) → begins (database_magic version) (database_magic version ++ rest) ≡ true
own_begins One rest =
    let long = length-append (database_magic One) rest in
    and_from (nat_le 8 (length (database_magic One ++ rest))) (pointwise nat_eq (take 8 (database_magic One ++ rest)) (database_magic One)) (le-leb 8 (length (database_magic One ++ rest)) (omega (arith, long))) refl
own_begins Two rest =
    let long = length-append (database_magic Two) rest in
    and_from (nat_le 8 (length (database_magic Two ++ rest))) (pointwise nat_eq (take 8 (database_magic Two ++ rest)) (database_magic Two)) (le-leb 8 (length (database_magic Two ++ rest)) (omega (arith, long))) refl
own_begins Three rest =
    let long = length-append (database_magic Three) rest in
    and_from (nat_le 8 (length (database_magic Three ++ rest))) (pointwise nat_eq (take 8 (database_magic Three ++ rest)) (database_magic Three)) (le-leb 8 (length (database_magic Three ++ rest)) (omega (arith, long))) refl

abbrev Versioned : Type 0
Versioned = Result Version DbFault

abbrev choice : Bool → Bool → Bool → Versioned
choice one two three = cond one (Ok One) (cond two (Ok Two) (cond three (Ok Three) (Err (fault 1 0))))

pub version_comes : (version : Version) (rest : List ℕ) → version_in (database_magic version ++ rest) ≡ Ok version
version_comes One rest = ap (λ b. choice b (begins (database_magic Two) (database_magic One ++ rest)) (begins (database_magic Three) (database_magic One ++ rest))) (own_begins One rest)
version_comes Two rest =
    ap (λ b. choice b (begins (database_magic Two) (database_magic Two ++ rest)) (begins (database_magic Three) (database_magic Two ++ rest))) (and_false (nat_le 8 (length (database_magic Two ++ rest))))
    ∙ ap (λ b. choice false b (begins (database_magic Three) (database_magic Two ++ rest))) (own_begins Two rest)
version_comes Three rest =
    ap (λ b. choice b (begins (database_magic Two) (database_magic Three ++ rest)) (begins (database_magic Three) (database_magic Three ++ rest))) (and_false (nat_le 8 (length (database_magic Three ++ rest))))
    ∙ ap (λ b. choice false b (begins (database_magic Three) (database_magic Three ++ rest))) (and_false (nat_le 8 (length (database_magic Three ++ rest))))
    ∙ ap (λ b. choice false false b) (own_begins Three rest)

pub behind_magic : (version : Version) (rest : List ℕ) → drop 8 (database_magic version ++ rest) ≡ rest
behind_magic One rest = refl
behind_magic Two rest = refl
behind_magic Three rest = refl

-- ---- the numbers

abbrev pub raw_event : EventPeriod → RawEvent
raw_event e = record { event = event_number e.event; period = e.period }

abbrev EventFits : EventPeriod → Type 0
EventFits e = IsWord e.period

event_forth : (at : At) (e : EventPeriod) (rest : List ℕ) → EventFits e → left_of at ≡ words (event_words e) ++ rest → Reads (λ (x : RawEvent). x) (event_from at) (raw_event e) rest
unfolding event_from
event_forth at e rest fits left =
    let few = number_few e.event in
    let a = word_forth at (event_number e.event) _ (omega (arith, few)) left in
    let b = word_forth a.0 e.period rest fits a.2 in
    record { value = raw_event e; next = b.0; is = rw (a.1, b.1) refl; same = refl; left = b.2 }

all_as_they_are : {X : Type 0} (xs : List X) → map (λ x. x) xs ≡ xs
all_as_they_are [] = refl
all_as_they_are {X} (x ∷ xs) = ap (λ (l : List X). x ∷ l) (all_as_they_are xs)

module _ (procs files nodes : ℕ) (few_procs : IsWord procs) (few_files : IsWord files) (few_nodes : IsWord nodes) where
  abbrev counts : List ℕ
  counts = procs ∷ files ∷ nodes ∷ []

  abbrev pub head_with : Version → List EventPeriod → List ℕ → Head
  head_with version events runs = record { version = version; events = map raw_event events; runs = runs; procs = procs; files = files; nodes = nodes }

  counts_forth : (version : Version) (events : List RawEvent) (runs : List ℕ) (at : At) (rest : List ℕ) → left_of at ≡ words counts ++ rest
      → Comes (counts_from version events runs at) (record { version = version; events = events; runs = runs; procs = procs; files = files; nodes = nodes }) rest
  unfolding counts_from
  counts_forth version events runs at rest left =
      let a = word_forth at procs _ few_procs left in
      let b = word_forth a.0 files _ few_files a.2 in
      let c = word_forth b.0 nodes rest few_nodes b.2 in
      (c.0, rw (a.1, b.1, c.1) refl, c.2)

  one_forth : (events : List EventPeriod) (runs : List ℕ) → is_retired_alone events ≡ true → length runs ≡ 1 → All EventFits events → All IsWord runs → (at : At) (rest : List ℕ)
      → left_of at ≡ words (periods_of events ++ runs) ++ (words counts ++ rest) → Comes (head_of_one at) (head_with One events runs) rest
  unfolding head_of_one
  one_forth [] runs alone one fits harts at rest left = absurd (true≢false (sym alone))
  one_forth (e ∷ []) [] alone one fits harts at rest left = absurd (omega arith)
  one_forth (e ∷ []) (h ∷ []) alone one fits harts at rest left =
      let a = word_forth at e.period _ (All-head EventFits e [] fits) left in
      let b = word_forth a.0 h (words counts ++ rest) (All-head IsWord h [] harts) a.2 in
      let number : 0 ≡ event_number e.event = sym (eqb-true (event_number e.event) 0 alone) in
      let c = counts_forth One (record { event = event_number e.event; period = e.period } ∷ []) (h ∷ []) b.0 rest b.2 in
      (c.0, rw (a.1, b.1) (ap (λ (n : ℕ). counts_from One (record { event = n; period = e.period } ∷ []) (h ∷ []) b.0) number ∙ c.1), c.2)
  one_forth (e ∷ []) (h ∷ k ∷ runs) alone one fits harts at rest left = absurd (omega arith)
  one_forth (e ∷ f ∷ events) runs alone one fits harts at rest left = absurd (true≢false (sym alone))

  two_forth : (events : List EventPeriod) (runs : List ℕ) → length runs ≡ 1 → IsWord (length events) → All EventFits events → All IsWord runs → (at : At) (rest : List ℕ)
      → left_of at ≡ words (length events ∷ flat_map event_words events ++ runs) ++ (words counts ++ rest) → Comes (head_of_two at) (head_with Two events runs) rest
  unfolding head_of_two
  two_forth events [] one few fits harts at rest left = absurd (omega arith)
  two_forth events (h ∷ []) one few fits harts at rest left =
      let tail : List ℕ = words counts ++ rest in
      let a = word_forth at (length events) (words (flat_map event_words events ++ h ∷ []) ++ tail) few left in
      let b = items_come event_from (λ (x : RawEvent). x) raw_event (λ (e : EventPeriod). words (event_words e)) EventFits event_forth events 0 [] a.0 (word h ++ tail) fits (a.2 ∙ parts tail) in
      let same : b.xs ≡ map raw_event events = sym (all_as_they_are b.xs) ∙ b.same in
      let c = word_forth b.next h tail (All-head IsWord h [] harts) b.left in
      let d = counts_forth Two (map raw_event events) (h ∷ []) c.0 rest c.2 in
      (d.0, rw (a.1, b.is, c.1) (ap (λ (es : List RawEvent). counts_from Two es (h ∷ []) c.0) same ∙ d.1), d.2)
    where
      parts : (tail : List ℕ) → words (flat_map event_words events ++ h ∷ []) ++ tail ≡ flat_map (λ (e : EventPeriod). words (event_words e)) events ++ (word h ++ tail)
      parts tail =
          ap (λ (l : List ℕ). l ++ tail) (flat_map-append word (flat_map event_words events) (h ∷ []) ∙ ap (λ (l : List ℕ). l ++ word h) (flat_again word event_words events))
          ∙ append_assoc (flat_map (λ (e : EventPeriod). words (event_words e)) events) (word h) tail
  two_forth events (h ∷ k ∷ runs) one few fits harts at rest left = absurd (omega arith)

  run_forth : (at : At) (n : ℕ) (rest : List ℕ) → IsWord n → left_of at ≡ word n ++ rest → Reads (λ (x : ℕ). x) (word_field at) n rest
  run_forth at n rest few left = (let a = word_forth at n rest few left in record { value = n; next = a.0; is = a.1; same = refl; left = a.2 })

  three_forth : (events : List EventPeriod) (runs : List ℕ) → IsWord (length runs) → IsWord (length events) → All EventFits events → All IsWord runs → (at : At) (rest : List ℕ)
      → left_of at ≡ words (length events ∷ flat_map event_words events ++ (length runs ∷ runs)) ++ (words counts ++ rest) → Comes (head_of_three at) (head_with Three events runs) rest
  unfolding head_of_three
  three_forth events runs few_runs few fits harts at rest left =
      let tail : List ℕ = words counts ++ rest in
      let a = word_forth at (length events) (words (flat_map event_words events ++ (length runs ∷ runs)) ++ tail) few left in
      let b = items_come event_from (λ (x : RawEvent). x) raw_event (λ (e : EventPeriod). words (event_words e)) EventFits event_forth events 0 [] a.0 (words (length runs ∷ runs) ++ tail) fits (a.2 ∙ parts tail) in
      let same : b.xs ≡ map raw_event events = sym (all_as_they_are b.xs) ∙ b.same in
      let c = word_forth b.next (length runs) (words runs ++ tail) few_runs b.left in
      let d = items_come word_field (λ (x : ℕ). x) (λ (x : ℕ). x) word IsWord run_forth runs 0 [] c.0 tail harts c.2 in
      let same_runs : d.xs ≡ runs = sym (all_as_they_are d.xs) ∙ d.same ∙ all_as_they_are runs in
      let e = counts_forth Three (map raw_event events) runs d.next rest d.left in
      (e.0, rw (a.1, b.is, c.1, d.is) (ap (λ (es : List RawEvent). counts_from Three es d.xs d.next) same ∙ ap (λ (rs : List ℕ). counts_from Three (map raw_event events) rs d.next) same_runs ∙ e.1), e.2)
    where
      parts : (tail : List ℕ) → words (flat_map event_words events ++ (length runs ∷ runs)) ++ tail ≡ flat_map (λ (e : EventPeriod). words (event_words e)) events ++ (words (length runs ∷ runs) ++ tail)
      parts tail =
          ap (λ (l : List ℕ). l ++ tail) (flat_map-append word (flat_map event_words events) (length runs ∷ runs) ∙ ap (λ (l : List ℕ). l ++ words (length runs ∷ runs)) (flat_again word event_words events))
          ∙ append_assoc (flat_map (λ (e : EventPeriod). words (event_words e)) events) (words (length runs ∷ runs)) tail

-- ---- in the version of a content

abbrev version_by : Bool → Bool → Version
version_by several retired = cond several Three (cond retired One Two)

module _ (c : EventContent) (some_runs : 1 ≤ length c.runs) (few_runs : IsWord (length c.runs)) (few_events : IsWord (length c.events)) (periods : All (λ e. IsWord e.period) c.events) (harts : All IsWord c.runs)
    (procs files nodes : ℕ) (few_procs : IsWord procs) (few_files : IsWord files) (few_nodes : IsWord nodes) where
  one_run : nat_le 2 (length c.runs) ≡ false → length c.runs ≡ 1
  one_run few = (let less = leb-false 2 (length c.runs) few in omega (arith, less, some_runs))

  by_version : (several retired : Bool) → nat_le 2 (length c.runs) ≡ several → is_retired_alone c.events ≡ retired → (at : At) (rest : List ℕ)
      → left_of at ≡ words (head_numbers (version_by several retired) c) ++ (words (procs ∷ files ∷ nodes ∷ []) ++ rest)
      → Comes (head_from (version_by several retired) at) (head_with procs files nodes few_procs few_files few_nodes (version_by several retired) c.events c.runs) rest
  by_version true retired many alone at rest left = three_forth procs files nodes few_procs few_files few_nodes c.events c.runs few_runs few_events periods harts at rest left
  by_version false true many alone at rest left = one_forth procs files nodes few_procs few_files few_nodes c.events c.runs alone (one_run many) periods harts at rest left
  by_version false false many alone at rest left = two_forth procs files nodes few_procs few_files few_nodes c.events c.runs (one_run many) few_events periods harts at rest left

  pub head_forth : (at : At) (rest : List ℕ) → left_of at ≡ words (head_numbers (version_of c) c) ++ (words (procs ∷ files ∷ nodes ∷ []) ++ rest)
      → Comes (head_from (version_of c) at) (head_with procs files nodes few_procs few_files few_nodes (version_of c) c.events c.runs) rest
  head_forth at rest left = by_version (nat_le 2 (length c.runs)) (is_retired_alone c.events) refl refl at rest left
