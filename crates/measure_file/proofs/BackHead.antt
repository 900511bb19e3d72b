-- What was read has just these bytes: the head, in the version of its events.
use Rattle.std.proofs.Common.{◌≡◌, ℕ, zero, suc, ◌+◌, ◌^◌, ◌<◌, ◌≤◌, ◌==◌, ◌&&◌, nat_eq, nat_le, nat_lt, Bool, true, false, cond, List, [], ◌∷◌, ◌++◌, length, take, drop, All, Result, Ok, Err, refl, sym, ap, subst, ◌∙◌, append_assoc, append-nil, arith, take-append-drop}
use Rattle.std.specs.Cmp.Lexicographic.{pointwise, same_text}
use Rattle.std.specs.List.{flat_map, list_all}
use Rattle.std.proofs.Math.Seq.{get_or-append_seam}
use Rattle.std.proofs.lemmas.Bool.{and_parts, leb-true, ltb-true}
use Rattle.std.proofs.lemmas.List.{length-append}
use Rattle.std.proofs.lemmas.List.Concat.{flat_map-append}
use Rattle.std.proofs.lemmas.List.Elements.{All-cons, All-head, All-nil}
use Rattle.prof_bytes.specs.Number.{IsBytes, word, words}
use Rattle.prof_bytes.specs.Outcome.{◌>>=◌}
use Rattle.prof_bytes.specs.Reading.{At}
use Rattle.prof_bytes.specs.Repeated.{times}
use Rattle.prof_bytes.proofs.Outcomes.{bind_ok, guard_ok, ok_same, pass_ok}
use Rattle.prof_bytes.proofs.Took.{Took, bytes_on, given, took_both, took_none}
use Rattle.scope_types.specs.Events.{AreAscending, AreEvents, event_number, event_of_number, event_words, is_retired_alone, retired_every}
use Rattle.scope_types.specs.Limits.{most_events, most_harts}
use Rattle.scope_types.specs.declared.event.EventPeriod.{EventPeriod}
use Rattle.measure_file.specs.declared.fault.MeasureFault.{MeasureFault}
use Rattle.measure_file.specs.declared.head.EventHead.{EventHead}
use Rattle.measure_file.specs.declared.head.MeasureVersion.{MeasureVersion}
use Rattle.measure_file.specs.declared.head.MeasureVersion.TheVariants.{One, Two}
use Rattle.measure_file.specs.Fields.{MeasureRead, fault_at, starting_at, word_by}
use Rattle.measure_file.specs.Reading.{begins_with, event_number_from, events_from, is_event_count, is_harts, is_next_event, is_period, measure_head_from, measured_event_from, measured_events_from, retired_from, version_told}
use Rattle.measure_file.specs.Spelling.{events_words, measure_magic, measure_version}
use Rattle.measure_file.proofs.Back.{ruled_behind, word_behind}
use Rattle.measure_file.proofs.ForthHead.{IsBelow, IsNotRefused, MayFollow, PeriodFits, step}
use Rattle.measure_file.proofs.Writing.{flat_again}

-- ---- the first eight bytes

begun : (magic bytes : List ℕ) → begins_with magic bytes ≡ true → bytes ≡ magic ++ drop 8 bytes
begun magic bytes is =
    let both = and_parts (nat_le 8 (length bytes)) (pointwise nat_eq (take 8 bytes) magic) is in
    let front : take 8 bytes ≡ magic = same_text (take 8 bytes) magic (sym both.1) in
    sym (take-append-drop 8 bytes) ∙ ap (λ (l : List ℕ). l ++ drop 8 bytes) front

-- the version that was read is that of the bytes there
version_cases : (bytes : List ℕ) (one two : Bool) (version : MeasureVersion) → begins_with (measure_magic One) bytes ≡ one → begins_with (measure_magic Two) bytes ≡ two
    → ◌≡◌ {A = Result MeasureVersion MeasureFault} (cond one (Ok One) (cond two (Ok Two) (Err (fault_at 0)))) (Ok version) → begins_with (measure_magic version) bytes ≡ true
version_cases bytes true two One first second is = first
version_cases bytes true two Two first second is = absurd cc
version_cases bytes false true One first second is = absurd cc
version_cases bytes false true Two first second is = second
version_cases bytes false false version first second is = absurd cc

pub told_begins : (bytes : List ℕ) (version : MeasureVersion) → version_told bytes ≡ Ok version → begins_with (measure_magic version) bytes ≡ true
told_begins bytes version is = version_cases bytes (begins_with (measure_magic One) bytes) (begins_with (measure_magic Two) bytes) version refl refl is

pub version_took : (bytes : List ℕ) (version : MeasureVersion) → version_told bytes ≡ Ok version → bytes ≡ measure_magic version ++ drop 8 bytes
version_took bytes version is = begun (measure_magic version) bytes (told_begins bytes version is)

-- the eight bytes are there
pub version_long : (bytes : List ℕ) (version : MeasureVersion) → version_told bytes ≡ Ok version → 8 ≤ length bytes
version_long bytes version is = leb-true 8 (length bytes) (and_parts (nat_le 8 (length bytes)) (pointwise nat_eq (take 8 bytes) (measure_magic version)) (told_begins bytes version is)).0

-- ---- one event

number_again : (n : ℕ) → n < 4 → event_number (event_of_number n) ≡ n
number_again zero few = refl
number_again (suc zero) few = refl
number_again (suc (suc zero)) few = refl
number_again (suc (suc (suc zero))) few = refl
number_again (suc (suc (suc (suc n)))) few = absurd (omega (arith, few))

below_all : (n : ℕ) (done : List EventPeriod) → list_all (λ e. nat_lt (event_number e.event) n) done ≡ true → All (λ d. event_number d.event < n) done
below_all n [] below = All-nil (λ (d : EventPeriod). event_number d.event < n)
below_all n (d ∷ done) below =
    let both = and_parts (nat_lt (event_number d.event) n) (list_all (λ e. nat_lt (event_number e.event) n) done) below in
    All-cons (λ (d : EventPeriod). event_number d.event < n) d done (ltb-true (event_number d.event) n both.0) (below_all n done both.1)

-- what is made of an event's number and its period
abbrev event_with : ℕ → ℕ × At → MeasureRead EventPeriod
event_with number period = Ok (record { event = event_of_number number; period = period.0 }, period.1)

-- an event that was read after others, one of `count`
record EventBack (count : ℕ) (done : List EventPeriod) (at next : At) (e : EventPeriod) : Type 0 where
  pub other : IsNotRefused count e
  pub above : All (IsBelow e) done
  pub fits : PeriodFits e
  pub took : Took at next (words (event_words e))

event_back : (first count : ℕ) (done : List EventPeriod) (at next : At) (e : EventPeriod) → IsBytes at.whole → measured_event_from first count done at ≡ Ok (e, next) → EventBack count done at next e
unfolding measured_event_from
event_back first count done at next e bytes is =
    let b = bind_ok (event_number_from first count done at) _ _ is in
    let a = word_behind at _ _ bytes b.1 in
    let n : ℕ = a.value in
    let rule : Result (ℕ × At) MeasureFault = cond (is_next_event done n) (Ok (n, a.next)) (Err (starting_at at)) in
    let c = guard_ok (count == 1 && n == 0) (fault_at first) rule b.0 a.is in
    let d = pass_ok (is_next_event done n) (starting_at at) (Ok (n, a.next)) b.0 c.1 in
    let same : ◌≡◌ {A = ℕ × At} (n, a.next) b.0 = ok_same (n, a.next) b.0 d.1 in
    let both = and_parts (nat_lt n most_events) (list_all (λ e. nat_lt (event_number e.event) n) done) d.0 in
    let few : n < 4 = ltb-true n most_events both.0 in
    let again : n ≡ event_number (event_of_number n) = sym (number_again n few) in
    let rest : (word_by is_period a.next >>= event_with n) ≡ Ok (e, next) = subst (λ (r : ℕ × At). (word_by is_period r.1 >>= event_with r.0) ≡ Ok (e, next)) (sym same) b.2 in
    let p = ruled_behind is_period a.next (event_with n) (e, next) a.bytes rest in
    let made : EventPeriod = record { event = event_of_number n; period = p.value } in
    given (λ e next. EventBack count done at next e) made e p.next next p.is (record {
      other = subst (λ (k : ℕ). (count == 1 && k == 0) ≡ false) again c.0;
      above = subst (λ (k : ℕ). All (λ (d : EventPeriod). event_number d.event < k) done) again (below_all n done both.1);
      fits = (leb-true 1 p.value p.passes, p.few);
      took = subst (λ (k : ℕ). Took at p.next (words (k ∷ p.value ∷ []))) again (took_both a.took p.took);
    })

-- ---- events after others

record EventsBack (count n : ℕ) (done : List EventPeriod) (at next : At) (all : List EventPeriod) : Type 0 where
  pub es : List EventPeriod
  pub is : all ≡ done ++ es
  pub many : length es ≡ n
  pub others : All (IsNotRefused count) es
  pub follow : MayFollow done es
  pub fits : All PeriodFits es
  pub took : Took at next (flat_map (λ e. words (event_words e)) es)

events_back : (first count n i : ℕ) (done all : List EventPeriod) (at next : At) → IsBytes at.whole → times (step first count) n i done at ≡ Ok (all, next) → EventsBack count n done at next all
unfolding times
events_back first count zero i done all at next bytes is =
    given (λ all next. EventsBack count 0 done at next all) done all at next is (record {
      es = [];
      is = sym (append-nil done);
      many = refl;
      others = All-nil (IsNotRefused count);
      follow = tt;
      fits = All-nil PeriodFits;
      took = took_none at;
    })
events_back first count (suc n) i done all at next bytes is =
    let a = bind_ok _ _ _ is in
    let b = bind_ok (measured_event_from first count done at) _ _ a.1 in
    let e : EventPeriod = b.0.0 in
    let one = event_back first count done at b.0.1 e bytes b.1 in
    let same : ◌≡◌ {A = List EventPeriod × At} (done ++ e ∷ [], b.0.1) a.0 = ok_same _ _ b.2 in
    let read : times (step first count) n (i + 1) (done ++ e ∷ []) b.0.1 ≡ Ok (all, next) = subst (λ (p : List EventPeriod × At). times (step first count) n (i + 1) p.0 p.1 ≡ Ok (all, next)) (sym same) a.2 in
    let more = events_back first count n (i + 1) (done ++ e ∷ []) all b.0.1 next (bytes_on one.took bytes) read in
    let long = more.many in
    record {
      es = e ∷ more.es;
      is = more.is ∙ append_assoc done (e ∷ []) more.es;
      many = omega (arith, long);
      others = All-cons (IsNotRefused count) e more.es one.other more.others;
      follow = (one.above, more.follow);
      fits = All-cons PeriodFits e more.es one.fits more.fits;
      took = took_both one.took more.took;
    }

-- each is above the one before it
follow_ascending : (done es : List EventPeriod) → MayFollow done es → AreAscending es
follow_ascending done [] follow = tt
follow_ascending done (e ∷ []) follow = tt
follow_ascending done (e ∷ f ∷ es) follow =
    let parts = length-append done (e ∷ []) in
    let less : IsBelow f e = subst (IsBelow f) (get_or-append_seam done e [] e) (follow.1.0 (length done) e (omega (arith, parts))) in
    (less, follow_ascending (done ++ e ∷ []) (f ∷ es) follow.1)

-- ---- the events of either version

pub record EventsRead (version : MeasureVersion) (at next : At) (events : List EventPeriod) : Type 0 where
  pub own : measure_version events ≡ version
  pub are : AreEvents events
  pub periods : All (λ e. e.period < 2 ^ 32) events
  pub took : Took at next (words (events_words version events))

retired_back : (at next : At) (events : List EventPeriod) → IsBytes at.whole → retired_from at ≡ Ok (events, next) → EventsRead One at next events
unfolding retired_from
retired_back at next events bytes is =
    let a = ruled_behind is_period at _ _ bytes is in
    let some : 1 ≤ a.value = leb-true 1 a.value a.passes in
    let few : a.value < 2 ^ 32 = a.few in
    given (λ events next. EventsRead One at next events) (retired_every a.value) events a.next next a.is (record {
      own = refl;
      are = record { some = omega arith; ascending = tt; periods = All-cons (λ (e : EventPeriod). 1 ≤ e.period) _ [] some (All-nil (λ (e : EventPeriod). 1 ≤ e.period)) };
      periods = All-cons (λ (e : EventPeriod). e.period < 2 ^ 32) _ [] few (All-nil (λ (e : EventPeriod). e.period < 2 ^ 32));
      took = a.took;
    })

-- where none is refused as that, retired is not the only event
others_stay : (events : List EventPeriod) → All (IsNotRefused (length events)) events → is_retired_alone events ≡ false
others_stay [] others = refl
others_stay (e ∷ []) others = All-head (IsNotRefused 1) e [] others
others_stay (e ∷ f ∷ es) others = refl

several_back : (at next : At) (events : List EventPeriod) → IsBytes at.whole → measured_events_from at ≡ Ok (events, next) → EventsRead Two at next events
unfolding measured_events_from
several_back at next events bytes is =
    let a = ruled_behind is_event_count at _ _ bytes is in
    let b = events_back at.offset a.value a.value 0 [] events a.next next a.bytes a.is in
    let many : a.value ≡ length events = sym (ap (λ (l : List EventPeriod). length l) b.is ∙ b.many) in
    let some : 1 ≤ a.value = leb-true 1 a.value (and_parts (nat_le 1 a.value) (nat_le a.value most_events) a.passes).0 in
    let others : All (IsNotRefused a.value) events = subst (All (IsNotRefused a.value)) (sym b.is) b.others in
    let fits : All PeriodFits events = subst (All PeriodFits) (sym b.is) b.fits in
    let alone : is_retired_alone events ≡ false = others_stay events (subst (λ (n : ℕ). All (IsNotRefused n) events) many others) in
    record {
      own = ap (λ (b : Bool). cond b One Two) alone;
      are = record {
        some = subst (λ (n : ℕ). 1 ≤ n) many some;
        ascending = subst AreAscending (sym b.is) (follow_ascending [] b.es b.follow);
        periods = λ i d lt. (fits i d lt).0;
      };
      periods = λ i d lt. (fits i d lt).1;
      took = subst (λ (n : ℕ). Took at next (word n ++ words (flat_map event_words events))) many
          (subst (λ (l : List ℕ). Took at next (word a.value ++ l)) (seam events) (took_both a.took (subst (λ (es : List EventPeriod). Took a.next next (flat_map (λ e. words (event_words e)) es)) (sym b.is) b.took)));
    }
  where
    seam : (events : List EventPeriod) → flat_map (λ e. words (event_words e)) events ≡ words (flat_map event_words events)
    seam events = sym (flat_again word event_words events)

events_read : (version : MeasureVersion) (at next : At) (events : List EventPeriod) → IsBytes at.whole → events_from version at ≡ Ok (events, next) → EventsRead version at next events
events_read One at next events bytes is = retired_back at next events bytes is
events_read Two at next events bytes is = several_back at next events bytes is

-- ---- the head

abbrev pub head_numbers : MeasureVersion → EventHead → List ℕ
head_numbers version head = head.length ∷ head.entry ∷ events_words version head.events ++ head.harts ∷ []

pub record HeadBack (version : MeasureVersion) (at next : At) (head : EventHead) : Type 0 where
  pub own : measure_version head.events ≡ version
  pub few_length : head.length < 2 ^ 32
  pub few_entry : head.entry < 2 ^ 32
  pub some : 1 ≤ head.harts
  pub few : head.harts ≤ most_harts
  pub are : AreEvents head.events
  pub periods : All (λ e. e.period < 2 ^ 32) head.events
  pub took : Took at next (words (head_numbers version head))

pub head_back : (version : MeasureVersion) (at next : At) (head : EventHead) → IsBytes at.whole → measure_head_from version at ≡ Ok (head, next) → HeadBack version at next head
unfolding measure_head_from
head_back version at next head bytes is =
    let a = word_behind at _ _ bytes is in
    let b = word_behind a.next _ _ a.bytes a.is in
    let c = bind_ok (events_from version b.next) _ _ b.is in
    let events : List EventPeriod = c.0.0 in
    let e = events_read version b.next c.0.1 events b.bytes c.1 in
    let h = ruled_behind is_harts c.0.1 _ _ (bytes_on e.took b.bytes) c.2 in
    let both = and_parts (nat_le 1 h.value) (nat_le h.value most_harts) h.passes in
    let own : List ℕ = events_words version events in
    let made : EventHead = record { length = a.value; entry = b.value; harts = h.value; events = events } in
    let seam : words own ++ word h.value ≡ words (own ++ h.value ∷ []) = sym (flat_map-append word own (h.value ∷ [])) in
    given (λ head next. HeadBack version at next head) made head h.next next h.is (record {
      own = e.own;
      few_length = a.few;
      few_entry = b.few;
      some = leb-true 1 h.value both.0;
      few = leb-true h.value most_harts both.1;
      are = e.are;
      periods = e.periods;
      took = subst (λ (l : List ℕ). Took at h.next (word a.value ++ (word b.value ++ l))) seam (took_both a.took (took_both b.took (took_both e.took h.took)));
    })
