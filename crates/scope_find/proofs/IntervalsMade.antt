-- The intervals that are made of the events so far hold at each address before the events that are left.
use Rattle.std.proofs.Common.{◌≡◌, ◌⊎◌, ℕ, zero, suc, ◌+◌, ◌<◌, ◌≤◌, false, cond, leb, List, [], ◌∷◌, ◌++◌, length, get_or, take, drop, min, Option, Some, None, refl, sym, ap, ◌∙◌, subst, inl, inr, arith}
use Rattle.std.specs.Prelude.{slice_get}
use Rattle.std.specs.List.{Contains}
use Rattle.std.specs.List.Sorted.{IsNonDecreasingBy}
use Rattle.std.proofs.Math.Seq.{drop-cons}
use Rattle.std.proofs.lemmas.Bool.{cases_lt, le-leb, lt-leb}
use Rattle.std.proofs.lemmas.List.{take_more, take-append-drop, get_or-take, get_or-drop, length-take, length-drop, length-append, reverse-append, get_or_append_left}
use Rattle.std.proofs.Math.Seq.{get_or-append_seam}
use Rattle.std.proofs.lemmas.List.Elements.{Contains-get_or, Contains-append_cases, Contains-push_cases}
use Rattle.std.proofs.lemmas.Option.{slice_get_within, get_or_from_slice_get}
use Rattle.dwarf_inline.specs.Structure.{ProgramStructure}
use Rattle.scope_find.specs.declared.intervals.AddressInterval.{AddressInterval}
use Rattle.scope_find.specs.declared.calls.NextCall.{NextCall}
use Rattle.scope_find.specs.declared.span.Span.{Span}
use Rattle.scope_find.specs.declared.span.Event.{Event}
use Rattle.scope_find.specs.private.Spans.{AreEventsOf, AreSpans, Takes, IsOpenAfter, IsOpenAt}
use Rattle.scope_find.specs.private.Calls.{IsNextIn, AreLatest, AreBefore, AreSorted}
use Rattle.scope_find.specs.private.Intervals.{interval_at, IsRightAt, AreIntervalsOf, IsFollowed, IsIntervalPut, AreAbove, IsSwept}
use Rattle.scope_find.proofs.CallsKept.{calls_stay, next_moved}
use Rattle.scope_find.proofs.Procedures.{no_procedure}
use Rattle.scope_find.proofs.Sweeping.{open_more, open_at, spans_after}

-- ---- the intervals so far

pub interval_push : (intervals : List AddressInterval) (p : AddressInterval) (address : ℕ) → interval_at (intervals ++ p ∷ []) address ≡ cond (leb p.start address) (Some p) (interval_at intervals address)
interval_push intervals p address = rw reverse-append refl

pub interval_before : (intervals : List AddressInterval) (p : AddressInterval) (address : ℕ) → address < p.start → interval_at (intervals ++ p ∷ []) address ≡ interval_at intervals address
interval_before intervals p address lt = interval_push intervals p address ∙ rw (lt-leb p.start address lt) refl

pub interval_from : (intervals : List AddressInterval) (p : AddressInterval) (address : ℕ) → p.start ≤ address → interval_at (intervals ++ p ∷ []) address ≡ Some p
interval_from intervals p address le = interval_push intervals p address ∙ rw (le-leb p.start address le) refl

calls_kept : (s : ProgramStructure) (before calls : List NextCall) (address : ℕ) → ((m next : ℕ) → IsNextIn before m address next → IsNextIn calls m address next) → (o : Option AddressInterval) → IsRightAt s before address o → IsRightAt s calls address o
calls_kept s before calls address keeps None is = is
calls_kept s before calls address keeps (Some p) is = record { procedure = is.procedure; levels_are = is.levels_are; has = calls_stay s before calls address keeps p.subprogram is.has }

-- ---- events before and after one

record IsAmong (events : List Event) (low high : ℕ) (e : Event) : Type 0 where
  pub at : ℕ
  pub from : low ≤ at
  pub to : at < high
  pub within : at < length events
  pub same : get_or events at e ≡ e

in_take : (events : List Event) (k : ℕ) (e : Event) → Contains (take k events) e → IsAmong events 0 k e
in_take events k e has =
    let len = length-take k events in
    let lt : has.0 < length (take k events) = has.1 in
    let l : has.0 < min k (length events) = subst (λ (n : ℕ). has.0 < n) len lt in
    let lk : has.0 < k = omega arith in
    record { at = has.0; from = omega arith; to = lk; within = omega arith; same = sym (get_or-take k events has.0 e lk) ∙ has.2 }

in_drop : (events : List Event) (k : ℕ) (e : Event) → Contains (drop k events) e → IsAmong events k (length events) e
in_drop events k e has =
    let len = length-drop k events in
    let lt : has.0 < length (drop k events) = has.1 in
    record { at = k + has.0; from = omega arith; to = omega arith; within = omega arith; same = sym (get_or-drop k events has.0 e) ∙ has.2 }

sorted_front : (events : List Event) → IsNonDecreasingBy (λ e. e.address) events → (k : ℕ) (e : Event) → slice_get events k ≡ Some e → (x : Event) → Contains (take k events) x → x.address ≤ e.address
sorted_front events sorted k e at x has =
    let i = in_take events k x has in
    let lt : i.at < k = i.to in
    let le = sorted i.at k x (omega arith) (slice_get_within events k e at) in
    let a : get_or events i.at x ≡ x = i.same in
    let b : get_or events k x ≡ e = get_or_from_slice_get events k e x at in
    subst (λ (z : Event). z.address ≤ e.address) a (subst (λ (z : Event). (get_or events i.at x).address ≤ z.address) b le)

sorted_back : (events : List Event) → IsNonDecreasingBy (λ e. e.address) events → (k : ℕ) (e : Event) → slice_get events k ≡ Some e → (x : Event) → Contains (drop (k + 1) events) x → e.address ≤ x.address
sorted_back events sorted k e at x has =
    let i = in_drop events (k + 1) x has in
    let lt : k + 1 ≤ i.at = i.from in
    let le = sorted k i.at x (omega arith) i.within in
    let a : get_or events i.at x ≡ x = i.same in
    let b : get_or events k x ≡ e = get_or_from_slice_get events k e x at in
    subst (λ (z : Event). z.address ≤ x.address) b (subst (λ (z : Event). (get_or events k x).address ≤ z.address) a le)

take_next : (events : List Event) (k : ℕ) (e : Event) → slice_get events k ≡ Some e → take (k + 1) events ≡ take k events ++ e ∷ []
take_next events k e at = take_more events k e (slice_get_within events k e at) ∙ ap (λ (x : Event). take k events ++ x ∷ []) (get_or_from_slice_get events k e e at)

drop_next : (events : List Event) (k : ℕ) (e : Event) → slice_get events k ≡ Some e → drop k events ≡ e ∷ drop (k + 1) events
drop_next events k e at =
    drop-cons events k e (slice_get_within events k e at)
    ∙ ap (λ (x : Event). x ∷ drop (suc k) events) (get_or_from_slice_get events k e e at)
    ∙ ap (λ (n : ℕ). e ∷ drop n events) (let f : suc k ≡ k + 1 = omega arith in f)

first_or : (e x : Event) (es : List Event) → Contains (e ∷ es) x → (e ≡ x) ⊎ Contains es x
first_or e x es has = elim (Contains-append_cases (e ∷ []) es x has) [
  | inr later ↦ inr later
  | inl here ↦ inl (elim (Contains-push_cases [] e x here) [ inl none ↦ absurd (omega (arith, none.1)) | inr same ↦ same ])
]

-- an address below an event, and below those after it
above_more : (events : List Event) (k : ℕ) (e : Event) → slice_get events k ≡ Some e → (address : ℕ) → AreAbove (drop (k + 1) events) address → address < e.address → AreAbove (drop k events) address
above_more events k e at address above lt x has =
    elim (first_or e x (drop (k + 1) events) (subst (λ (es : List Event). Contains es x) (drop_next events k e at) has)) [
      | inl same ↦ subst (λ (z : Event). address < z.address) same lt
      | inr later ↦ above x later
    ]

-- ---- one event more

pub record IsTaken (s : ProgramStructure) (events : List Event) (k : ℕ) (e : Event) (before held : List Span) : Type 0 where
  pub are : AreEventsOf s events
  pub sorted : IsNonDecreasingBy (λ x. x.address) events
  pub at : slice_get events k ≡ Some e
  pub takes : Takes e held before

module _ (s : ProgramStructure) (events : List Event) (k : ℕ) (e : Event) (before held : List Span) (t : IsTaken s events k e before held) (after : IsOpenAfter (take k events) before) where
  has_e : Contains events e
  has_e = (k, slice_get_within events k e t.at, get_or_from_slice_get events k e e t.at)

  pub after_more : IsOpenAfter (take (k + 1) events) held
  after_more = subst (λ (es : List Event). IsOpenAfter es held) (sym (take_next events k e t.at))
      (open_more s (take k events) e (record { some = t.are.some e has_e; place = t.are.places e has_e; sorted = sorted_front events t.sorted k e t.at }) before held after t.takes)

  below_more : (address : ℕ) → e.address ≤ address → (x : Event) → Contains (take (k + 1) events) x → x.address ≤ address
  below_more address le x has =
      elim (Contains-push_cases (take k events) e x (subst (λ (es : List Event). Contains es x) (take_next events k e t.at) has)) [
        | inl old ↦ (let l : x.address ≤ e.address = sorted_front events t.sorted k e t.at x old in omega arith)
        | inr same ↦ subst (λ (z : Event). z.address ≤ address) same le
      ]

  pub open_from : (address : ℕ) → e.address ≤ address → AreAbove (drop (k + 1) events) address → IsOpenAt s held address
  open_from address le above = open_at s events t.are (take (k + 1) events) (drop (k + 1) events) (take-append-drop (k + 1) events) held after_more address (below_more address le) above

taken_of : (s : ProgramStructure) (events : List Event) (k : ℕ) (e : Event) (before held : List Span) → AreEventsOf s events → IsNonDecreasingBy (λ x. x.address) events → slice_get events k ≡ Some e → Takes e held before → IsTaken s events k e before held
taken_of s events k e before held are sorted at takes = record { are = are; sorted = sorted; at = at; takes = takes }

-- the ranges that are open are of items
pub spans_taken : (s : ProgramStructure) (events : List Event) (k : ℕ) (e : Event) (before held : List Span) → AreEventsOf s events → IsNonDecreasingBy (λ x. x.address) events → slice_get events k ≡ Some e → Takes e held before → IsOpenAfter (take k events) before → AreSpans s held
spans_taken s events k e before held are sorted at takes after =
    let t = taken_of s events k e before held are sorted at takes in
    spans_after s events are (take (k + 1) events) (drop (k + 1) events) (take-append-drop (k + 1) events) held (after_more s events k e before held t after)

later_event : (events : List Event) (k : ℕ) (e : Event) → slice_get events k ≡ Some e → (x : Event) → Contains (drop (k + 1) events) x → Contains (drop k events) x
later_event events k e at x has = subst (λ (es : List Event). Contains es x) (sym (drop_next events k e at)) (suc has.0, omega (arith, has.1), has.2)

this_event : (events : List Event) (k : ℕ) (e : Event) → slice_get events k ≡ Some e → Contains (drop k events) e
this_event events k e at = subst (λ (es : List Event). Contains es e) (sym (drop_next events k e at)) (zero, omega arith, refl)

-- no interval is put where the next event is at the same address
pub swept_on : (s : ProgramStructure) (events : List Event) (k : ℕ) (e : Event) (before held : List Span) (intervals : List AddressInterval) (calls : List NextCall) (latest : List ℕ) → AreEventsOf s events → IsNonDecreasingBy (λ x. x.address) events → slice_get events k ≡ Some e → Takes e held before
    → IsFollowed (drop (k + 1) events) e.address → IsSwept s events k before intervals calls latest → IsSwept s events (k + 1) held intervals calls latest
swept_on s events k e before held intervals calls latest are sorted at takes next swept =
    let t = taken_of s events k e before held are sorted at takes in
    record {
      after = after_more s events k e before held t swept.after;
      rising = swept.rising;
      passed = λ p is x has. swept.passed p is x (later_event events k e at x has);
      long = swept.long;
      latest_are = swept.latest_are;
      behind = λ n is x has. swept.behind n is x (later_event events k e at x has);
      right = λ address above.
          swept.right address (above_more events k e at address above (let lt : address < next.event.address = above next.event next.there in let le : next.event.address ≤ e.address = next.at in omega arith));
    }

rising_more : (intervals : List AddressInterval) (p : AddressInterval) → IsNonDecreasingBy (λ x. x.start) intervals → ((x : AddressInterval) → Contains intervals x → x.start ≤ p.start) → IsNonDecreasingBy (λ x. x.start) (intervals ++ p ∷ [])
rising_more intervals p rising above i j d le lt = elim (cases_lt j (length intervals)) [
  | inl low ↦
      (let a : get_or (intervals ++ p ∷ []) i d ≡ get_or intervals i d = get_or_append_left intervals (p ∷ []) d i (omega arith) in
      let b : get_or (intervals ++ p ∷ []) j d ≡ get_or intervals j d = get_or_append_left intervals (p ∷ []) d j low in
      rw (a, b) (rising i j d le low))
  | inr high ↦
      (let len = length-append intervals (p ∷ []) in
      let same : j ≡ length intervals = omega arith in
      let b : get_or (intervals ++ p ∷ []) j d ≡ p = ap (λ (n : ℕ). get_or (intervals ++ p ∷ []) n d) same ∙ get_or-append_seam intervals p [] d in
      elim (cases_lt i (length intervals)) [
        | inl before ↦ (let a : get_or (intervals ++ p ∷ []) i d ≡ get_or intervals i d = get_or_append_left intervals (p ∷ []) d i before in rw (a, b) (above (get_or intervals i d) (Contains-get_or intervals i d before)))
        | inr at ↦ (let z : i ≡ j = omega arith in subst (λ (n : ℕ). (get_or (intervals ++ p ∷ []) n d).start ≤ (get_or (intervals ++ p ∷ []) j d).start) (sym z) (omega arith))
      ])
]

-- the next calls so far begin before the event
pub calls_behind : (s : ProgramStructure) (events : List Event) (k : ℕ) (e : Event) (held : List Span) (intervals : List AddressInterval) (calls : List NextCall) (latest : List ℕ) → slice_get events k ≡ Some e → IsSwept s events k held intervals calls latest → (item : ℕ) → AreBefore calls item e.address
calls_behind s events k e held intervals calls latest at swept item n has same = swept.behind n has e (this_event events k e at)

pub swept_put : (s : ProgramStructure) (events : List Event) (k : ℕ) (e : Event) (before held : List Span) (intervals more : List AddressInterval) (calls after : List NextCall) (latest latest_after : List ℕ) → AreEventsOf s events → IsNonDecreasingBy (λ x. x.address) events → slice_get events k ≡ Some e → Takes e held before
    → AreAbove (drop (k + 1) events) e.address → IsIntervalPut s held e.address intervals more calls after latest_after → IsSwept s events k before intervals calls latest → IsSwept s events (k + 1) held more after latest_after
swept_put s events k e before held intervals more calls after latest latest_after are sorted at takes last put swept =
    let t = taken_of s events k e before held are sorted at takes in
    record {
      after = after_more s events k e before held t swept.after;
      rising = subst (λ (ps : List AddressInterval). IsNonDecreasingBy (λ x. x.start) ps) (sym put.pushed) (rising_more intervals put.interval swept.rising (λ x is. up x is));
      passed = λ p is x has. past p (subst (λ (ps : List AddressInterval). Contains ps p) put.pushed is) x has;
      long = put.put.long;
      latest_are = put.put.latest_are;
      behind = λ n is x has. (let le : n.start ≤ e.address = put.put.until n is in let lt : e.address < x.address = last x has in omega arith);
      right = λ address above. subst (λ (ps : List AddressInterval). IsRightAt s after address (interval_at ps address)) (sym put.pushed) (now address above (cases_lt address e.address));
    }
  where
    starts : put.interval.start ≡ e.address
    starts = put.starts

    up : (x : AddressInterval) → Contains intervals x → x.start ≤ put.interval.start
    up x is =
        let le : x.start ≤ e.address = swept.passed x is e (this_event events k e at) in
        let b : put.interval.start ≡ e.address = put.starts in
        omega arith

    past : (p : AddressInterval) → Contains (intervals ++ put.interval ∷ []) p → (x : Event) → Contains (drop (k + 1) events) x → p.start ≤ x.address
    past p is x has = elim (Contains-push_cases intervals put.interval p is) [
      | inl old ↦ swept.passed p old x (later_event events k e at x has)
      | inr new ↦
          (let le : e.address ≤ x.address = sorted_back events sorted k e at x has in
          let b : put.interval.start ≡ e.address = put.starts in
          subst (λ (z : AddressInterval). z.start ≤ x.address) new (omega arith))
    ]

    now : (address : ℕ) → AreAbove (drop (k + 1) events) address → (address < e.address) ⊎ (e.address ≤ address) → IsRightAt s after address (interval_at (intervals ++ put.interval ∷ []) address)
    now address above (inl lt) =
        let b : put.interval.start ≡ e.address = put.starts in
        subst (λ (o : Option AddressInterval). IsRightAt s after address o) (sym (interval_before intervals put.interval address (omega arith)))
        (calls_kept s calls after address (λ m next is. put.put.keeps m address next lt is) (interval_at intervals address) (swept.right address (above_more events k e at address above lt)))
    now address above (inr le) =
        let b : put.interval.start ≡ e.address = put.starts in
        subst (λ (o : Option AddressInterval). IsRightAt s after address o) (sym (interval_from intervals put.interval address (omega arith)))
        (let o = open_from s events k e before held (taken_of s events k e before held are sorted at takes) swept.after address le above in
        record { procedure = put.procedure address o; levels_are = put.put.levels_are address o; has = put.put.has address le o })

-- ---- the first event, and the last

pub swept_first : (s : ProgramStructure) (events : List Event) (held : List Span) (intervals : List AddressInterval) (calls : List NextCall) (latest : List ℕ) → AreEventsOf s events → held ≡ [] → intervals ≡ [] → calls ≡ [] → length latest ≡ length s.items → AreLatest calls latest → IsSwept s events 0 held intervals calls latest
swept_first s events held intervals calls latest are none empty no_calls long latest_are =
    subst (λ (hs : List Span). IsSwept s events 0 hs intervals calls latest) (sym none) (subst (λ (ps : List AddressInterval). IsSwept s events 0 [] ps calls latest) (sym empty) start)
  where
    nothing : {X : Type 0} (x : X) → Contains [] x → ⊥
    nothing x has = omega (arith, has.1)

    opened : IsOpenAfter [] []
    opened = record {
      started = λ q is. absurd (nothing q is);
      lasting = λ q is ended. nothing q is;
      all = λ q is ended. absurd (nothing (record { address = q.start; span = q }) is);
    }

    start : IsSwept s events 0 [] [] calls latest
    start = record {
      after = opened;
      rising = λ i j d le lt. absurd (omega arith);
      passed = λ p is x has. absurd (nothing p is);
      long = long;
      latest_are = latest_are;
      behind = λ n is x has. absurd (nothing n (subst (λ (ns : List NextCall). Contains ns n) no_calls is));
      right = λ address above. no_procedure s [] address (open_at s events are [] events refl [] opened address (λ x is. absurd (nothing x is)) above) (λ q is kind. absurd (nothing q is));
    }

pub swept_all : (s : ProgramStructure) (events : List Event) (k : ℕ) (held : List Span) (intervals : List AddressInterval) (calls sorted : List NextCall) (latest : List ℕ) → length events ≤ k → IsSwept s events k held intervals calls latest → AreSorted calls sorted → AreIntervalsOf s intervals sorted
swept_all s events k held intervals calls sorted latest all swept same = record {
  rising = swept.rising;
  right = λ address. calls_kept s calls sorted address (λ m next is. next_moved calls sorted same.moved m address next is) (interval_at intervals address) (swept.right address (λ x has. absurd (let i = in_drop events k x has in let a : k ≤ i.at = i.from in let b : i.at < length events = i.within in omega arith)));
}

abbrev pub no_event : Event
no_event = record { address = 0; span = record { inlined = false; item = 0; start = 0; end = 0 } }

-- ---- the events after one address

pub above_from : (events : List Event) → IsNonDecreasingBy (λ e. e.address) events → (k : ℕ) (e : Event) (address : ℕ) → slice_get events k ≡ Some e → address < e.address → AreAbove (drop k events) address
above_from events sorted k e address at lt x has =
    let i = in_drop events k x has in
    let from : k ≤ i.at = i.from in
    let le = sorted k i.at x (omega arith) i.within in
    let a : get_or events i.at x ≡ x = i.same in
    let b : get_or events k x ≡ e = get_or_from_slice_get events k e x at in
    let up : e.address ≤ x.address = subst (λ (z : Event). z.address ≤ x.address) b (subst (λ (z : Event). (get_or events k x).address ≤ z.address) a le) in
    omega arith

pub above_none : (events : List Event) (k address : ℕ) → length events ≤ k → AreAbove (drop k events) address
above_none events k address past x has = absurd (let i = in_drop events k x has in let a : k ≤ i.at = i.from in let b : i.at < length events = i.within in omega arith)
