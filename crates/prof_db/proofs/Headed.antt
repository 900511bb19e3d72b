-- What was read of a head: its version, in versions 1 and 2 one run, and in version 1 retired alone. It has just the bytes of its numbers.
use Rattle.std.proofs.Common.{◌≡◌, ℕ, nat_lt, List, [], ◌∷◌, ◌++◌, length, map, Ok, refl, sym, ap, subst, ◌∙◌, append_assoc}
use Rattle.std.specs.List.{flat_map}
use Rattle.std.proofs.lemmas.List.Concat.{flat_map-append}
use Rattle.prof_bytes.specs.Number.{IsBytes, word, words}
use Rattle.prof_bytes.specs.Reading.{At, left_of}
use Rattle.prof_bytes.specs.Repeated.{adding, times}
use Rattle.prof_bytes.proofs.Lists.{list_took}
use Rattle.prof_bytes.proofs.Outcomes.{bind_ok, guard_ok, ok_same}
use Rattle.prof_bytes.proofs.Took.{Took, bytes_on, given, number_took, took_both}
use Rattle.scope_types.specs.Columns.{columns_of}
use Rattle.prof_db.specs.declared.raw.Head.{Head}
use Rattle.prof_db.specs.declared.raw.Layout.{Layout}
use Rattle.prof_db.specs.declared.raw.RawEntry.{RawEntry}
use Rattle.prof_db.specs.declared.raw.RawEvent.{RawEvent}
use Rattle.prof_db.specs.declared.raw.RawFile.{RawFile}
use Rattle.prof_db.specs.declared.raw.RawNode.{RawNode}
use Rattle.prof_db.specs.declared.raw.RawProc.{RawProc}
use Rattle.prof_db.specs.declared.raw.Version.{Version}
use Rattle.prof_db.specs.declared.raw.Version.TheVariants.{One, Two, Three}
use Rattle.prof_db.specs.Fields.{not_whole, word_field}
use Rattle.prof_db.specs.Layout.{after_magic, body_from, counts_from, event_from, file_from, head_from, head_of_one, head_of_three, head_of_two, layout_in, list_from, node_from, past_list, proc_from, version_in}
use Rattle.prof_db.proofs.BackItems.{word_behind}
use Rattle.prof_db.proofs.BackPlanes.{flat_again}

-- ---- its version and its run

-- in version 1 retired is the only event
abbrev pub IsAlone : Version → List RawEvent → Type 0
IsAlone One events = (period : ℕ) × (events ≡ record { event = 0; period = period } ∷ [])
IsAlone Two events = Unit {0}
IsAlone Three events = Unit {0}

-- versions 1 and 2 have one run
abbrev pub HasRuns : Version → List ℕ → Type 0
HasRuns One runs = length runs ≡ 1
HasRuns Two runs = length runs ≡ 1
HasRuns Three runs = Unit {0}

pub record IsHeaded (version : Version) (own : Version) (events : List RawEvent) (runs : List ℕ) : Type 0 where
  pub same : own ≡ version
  pub counted : HasRuns version runs
  pub alone : IsAlone version events

counts_headed : (version : Version) (events : List RawEvent) (runs : List ℕ) (at next : At) (h : Head) → HasRuns version runs → IsAlone version events
    → counts_from version events runs at ≡ Ok (h, next) → IsHeaded version h.version h.events h.runs
unfolding counts_from
counts_headed version events runs at next h one alone is =
    let a = bind_ok (word_field at) _ _ is in
    let b = bind_ok (word_field a.0.1) _ _ a.2 in
    let c = bind_ok (word_field b.0.1) _ _ b.2 in
    given (λ h next. IsHeaded version h.version h.events h.runs) _ h c.0.1 next c.2 (record { same = refl; counted = one; alone = alone })

headed : (version : Version) (at next : At) (h : Head) → head_from version at ≡ Ok (h, next) → IsHeaded version h.version h.events h.runs
unfolding head_of_one head_of_two head_of_three
headed One at next h is =
    let a = bind_ok (word_field at) _ _ is in
    let b = bind_ok (word_field a.0.1) _ _ a.2 in
    counts_headed One (record { event = 0; period = a.0.0 } ∷ []) (b.0.0 ∷ []) b.0.1 next h refl (a.0.0, refl) b.2
headed Two at next h is =
    let a = bind_ok (word_field at) _ _ is in
    let b = bind_ok (times (adding event_from) a.0.0 0 [] a.0.1) _ _ a.2 in
    let c = bind_ok (word_field b.0.1) _ _ b.2 in
    counts_headed Two b.0.0 (c.0.0 ∷ []) c.0.1 next h refl tt c.2
headed Three at next h is =
    let a = bind_ok (word_field at) _ _ is in
    let b = bind_ok (times (adding event_from) a.0.0 0 [] a.0.1) _ _ a.2 in
    let c = bind_ok (word_field b.0.1) _ _ b.2 in
    let d = bind_ok (times (adding word_field) c.0.0 0 [] c.0.1) _ _ c.2 in
    counts_headed Three b.0.0 d.0.0 d.0.1 next h tt tt d.2

-- a layout with the parts that were read
abbrev pub made_of : Head → List RawProc → List RawFile → List RawNode → List RawEntry → At → At → Layout
made_of head procs files nodes entries profiles contexts = record {
  version = head.version;
  events = head.events;
  runs = head.runs;
  procs = procs;
  files = files;
  nodes = nodes;
  entries = entries;
  profiles = profiles;
  contexts = contexts;
}

-- a layout has what its head says
abbrev HasHead : Head → Layout → Type 0
HasHead head layout = (layout.version ≡ head.version) × (layout.events ≡ head.events) × (layout.runs ≡ head.runs)

has_head : (head : Head) (at : At) (layout : Layout) → body_from head at ≡ Ok layout → HasHead head layout
unfolding body_from
has_head head at layout is =
    let a = bind_ok (times (adding proc_from) head.procs 0 [] at) _ _ is in
    let b = bind_ok (times (adding file_from) head.files 0 [] a.0.1) _ _ a.2 in
    let c = bind_ok (times (adding node_from) head.nodes 0 [] b.0.1) _ _ b.2 in
    let d = bind_ok (times list_from (columns_of (length head.events) head.runs) 0 [] c.0.1) _ _ c.2 in
    let e = bind_ok (times past_list head.nodes 0 tt d.0.1) _ _ d.2 in
    let made : Layout = made_of head a.0.0 b.0.0 c.0.0 d.0.0 c.0.1 d.0.1 in
    let whole = guard_ok (nat_lt 0 (length (left_of e.0.1))) (not_whole e.0.1) (Ok made) layout e.2 in
    subst (HasHead head) (ok_same made layout whole.1) (refl, refl, refl)

pub record IsRead (bytes : List ℕ) (layout : Layout) : Type 0 where
  pub version : Version
  pub begun : version_in bytes ≡ Ok version
  pub head : Head
  pub next : At
  pub headed : head_from version (after_magic bytes) ≡ Ok (head, next)
  pub bodied : body_from head next ≡ Ok layout
  pub is : IsHeaded version layout.version layout.events layout.runs

pub read : (bytes : List ℕ) (layout : Layout) → layout_in bytes ≡ Ok layout → IsRead bytes layout
unfolding layout_in
read bytes layout is =
    let a = bind_ok (version_in bytes) _ _ is in
    let b = bind_ok (head_from a.0 (after_magic bytes)) _ _ a.2 in
    let own = headed a.0 (after_magic bytes) b.0.1 b.0.0 b.1 in
    let has = has_head b.0.0 b.0.1 layout b.2 in
    record {
      version = a.0;
      begun = a.1;
      head = b.0.0;
      next = b.0.1;
      headed = b.1;
      bodied = b.2;
      is = record {
        same = has.0 ∙ own.same;
        counted = subst (HasRuns a.0) (sym has.2) own.counted;
        alone = subst (IsAlone a.0) (sym has.1) own.alone;
      };
    }

-- ---- its bytes

abbrev pub raw_event_numbers : RawEvent → List ℕ
raw_event_numbers e = e.event ∷ e.period ∷ []

abbrev pub raw_head_numbers : Version → List RawEvent → List ℕ → List ℕ
raw_head_numbers One events runs = map (λ e. e.period) events ++ runs
raw_head_numbers Two events runs = length events ∷ flat_map raw_event_numbers events ++ runs
raw_head_numbers Three events runs = length events ∷ flat_map raw_event_numbers events ++ (length runs ∷ runs)

abbrev pub raw_counts : Head → List ℕ
raw_counts h = h.procs ∷ h.files ∷ h.nodes ∷ []

abbrev pub raw_head_bytes : Version → Head → List ℕ
raw_head_bytes version h = words (raw_head_numbers version h.events h.runs) ++ words (raw_counts h)

abbrev CountsTook : List RawEvent → List ℕ → At → Head → At → Type 0
CountsTook events runs at h next = (h.events ≡ events) × (h.runs ≡ runs) × Took at next (words (raw_counts h))

counts_took : (version : Version) (events : List RawEvent) (runs : List ℕ) (at next : At) (h : Head) → IsBytes at.whole → counts_from version events runs at ≡ Ok (h, next) → CountsTook events runs at h next
unfolding counts_from
counts_took version events runs at next h bytes is =
    let a = word_behind at _ _ bytes is in
    let b = word_behind a.next _ _ a.bytes a.is in
    let c = word_behind b.next _ _ b.bytes b.is in
    let made : Head = record { version = version; events = events; runs = runs; procs = a.value; files = b.value; nodes = c.value } in
    given (CountsTook events runs at) made h c.next next c.is (refl, refl, took_both a.took (took_both b.took c.took))

event_took : (at next : At) (e : RawEvent) → IsBytes at.whole → event_from at ≡ Ok (e, next) → Took at next (words (raw_event_numbers e))
unfolding event_from
event_took at next e bytes is =
    let a = word_behind at _ _ bytes is in
    let b = word_behind a.next _ _ a.bytes a.is in
    given (λ e next. Took at next (words (raw_event_numbers e))) _ e b.next next b.is (took_both a.took b.took)

pub head_took : (version : Version) (at next : At) (h : Head) → IsBytes at.whole → head_from version at ≡ Ok (h, next) → Took at next (raw_head_bytes version h)
unfolding head_of_one head_of_two head_of_three
head_took One at next h bytes is =
    let a = word_behind at _ _ bytes is in
    let b = word_behind a.next _ _ a.bytes a.is in
    let c = counts_took One (record { event = 0; period = a.value } ∷ []) (b.value ∷ []) b.next next h b.bytes b.is in
    subst (λ (es : List RawEvent). Took at next (words (raw_head_numbers One es h.runs) ++ words (raw_counts h))) (sym c.0)
    (subst (λ (rs : List ℕ). Took at next (words (a.value ∷ rs) ++ words (raw_counts h))) (sym c.1) (took_both (took_both a.took b.took) c.2))
head_took Two at next h bytes is =
    let a = word_behind at _ _ bytes is in
    let b = bind_ok (times (adding event_from) a.value 0 [] a.next) _ _ a.is in
    let events : List RawEvent = b.0.0 in
    let l = list_took event_from (λ e. words (raw_event_numbers e)) event_took a.value events a.next b.0.1 a.bytes b.1 in
    let c = word_behind b.0.1 _ _ (bytes_on l.1 a.bytes) b.2 in
    let d = counts_took Two events (c.value ∷ []) c.next next h c.bytes c.is in
    let all : Took at next (words (length events ∷ flat_map raw_event_numbers events ++ c.value ∷ []) ++ words (raw_counts h)) =
    subst (λ (t : List ℕ). Took at next t) (parts events c.value (words (raw_counts h)))
    (subst (λ (n : ℕ). Took at next (word n ++ (flat_map (λ (e : RawEvent). words (raw_event_numbers e)) events ++ (word c.value ++ words (raw_counts h))))) (sym l.0)
    (took_both a.took (took_both l.1 (took_both c.took d.2)))) in
    subst (λ (es : List RawEvent). Took at next (words (raw_head_numbers Two es h.runs) ++ words (raw_counts h))) (sym d.0)
    (subst (λ (rs : List ℕ). Took at next (words (length events ∷ flat_map raw_event_numbers events ++ rs) ++ words (raw_counts h))) (sym d.1) all)
  where
    parts : (events : List RawEvent) (run : ℕ) (counts : List ℕ) → word (length events) ++ (flat_map (λ (e : RawEvent). words (raw_event_numbers e)) events ++ (word run ++ counts))
        ≡ words (length events ∷ flat_map raw_event_numbers events ++ run ∷ []) ++ counts
    parts events run counts =
        ap (λ (l : List ℕ). word (length events) ++ l)
        (sym (append_assoc (flat_map (λ (e : RawEvent). words (raw_event_numbers e)) events) (word run) counts)
        ∙ ap (λ (l : List ℕ). (l ++ word run) ++ counts) (sym (flat_again word raw_event_numbers events))
        ∙ ap (λ (l : List ℕ). l ++ counts) (sym (flat_map-append word (flat_map raw_event_numbers events) (run ∷ []))))
        ∙ sym (append_assoc (word (length events)) (words (flat_map raw_event_numbers events ++ run ∷ [])) counts)
head_took Three at next h bytes is =
    let a = word_behind at _ _ bytes is in
    let b = bind_ok (times (adding event_from) a.value 0 [] a.next) _ _ a.is in
    let events : List RawEvent = b.0.0 in
    let l = list_took event_from (λ e. words (raw_event_numbers e)) event_took a.value events a.next b.0.1 a.bytes b.1 in
    let c = word_behind b.0.1 _ _ (bytes_on l.1 a.bytes) b.2 in
    let d = bind_ok (times (adding word_field) c.value 0 [] c.next) _ _ c.is in
    let runs : List ℕ = d.0.0 in
    let r = list_took word_field word (number_took not_whole 4) c.value runs c.next d.0.1 c.bytes d.1 in
    let e = counts_took Three events runs d.0.1 next h (bytes_on r.1 c.bytes) d.2 in
    let counted : Took b.0.1 d.0.1 (word (length runs) ++ words runs) =
    subst (λ (n : ℕ). Took b.0.1 d.0.1 (word n ++ words runs)) (sym r.0) (took_both c.took r.1) in
    let all : Took at next (words (length events ∷ flat_map raw_event_numbers events ++ (length runs ∷ runs)) ++ words (raw_counts h)) =
    subst (λ (t : List ℕ). Took at next t) (parts events (length runs ∷ runs) (words (raw_counts h)))
    (subst (λ (n : ℕ). Took at next (word n ++ (flat_map (λ (e : RawEvent). words (raw_event_numbers e)) events ++ (words (length runs ∷ runs) ++ words (raw_counts h))))) (sym l.0)
    (took_both a.took (took_both l.1 (took_both counted e.2)))) in
    subst (λ (es : List RawEvent). Took at next (words (raw_head_numbers Three es h.runs) ++ words (raw_counts h))) (sym e.0)
    (subst (λ (rs : List ℕ). Took at next (words (length events ∷ flat_map raw_event_numbers events ++ (length rs ∷ rs)) ++ words (raw_counts h))) (sym e.1) all)
  where
    parts : (events : List RawEvent) (numbers : List ℕ) (counts : List ℕ) → word (length events) ++ (flat_map (λ (e : RawEvent). words (raw_event_numbers e)) events ++ (words numbers ++ counts))
        ≡ words (length events ∷ flat_map raw_event_numbers events ++ numbers) ++ counts
    parts events numbers counts =
        ap (λ (l : List ℕ). word (length events) ++ l)
        (sym (append_assoc (flat_map (λ (e : RawEvent). words (raw_event_numbers e)) events) (words numbers) counts)
        ∙ ap (λ (l : List ℕ). (l ++ words numbers) ++ counts) (sym (flat_again word raw_event_numbers events))
        ∙ ap (λ (l : List ℕ). l ++ counts) (sym (flat_map-append word (flat_map raw_event_numbers events) numbers)))
        ∙ sym (append_assoc (word (length events)) (words (flat_map raw_event_numbers events ++ numbers)) counts)
