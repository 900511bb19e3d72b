-- Instructions that retire by themselves, one state_after another.
use Rattle.std.proofs.Common.{◌≡◌, ◌≢◌, ◌⊎◌, inl, inr, ℕ, zero, suc, ◌+◌, ◌-◌, ◌<◌, ◌≤◌, Bool, true, false, cond, List, [], ◌∷◌, ◌++◌, length, min, Some, None, length-append, refl, sym, ap, ap₂, subst, ◌∙◌, append_assoc, arith}
use Rattle.std.specs.List.{All}
use Rattle.std.proofs.lemmas.List.{get_or-set_same}
use Rattle.std.proofs.lemmas.List.Elements.{All-push}
use Rattle.std.proofs.lemmas.Bool.Decides.{eqb_tells}
use Rattle.std.proofs.lemmas.List.Sums.{sum_by-append, sum_by-cons}
use Rattle.scope_types.specs.declared.event.Event.{Event}
use Rattle.rv_hart.specs.Events.{extra_event, occurs}
use Rattle.rv_hart.specs.Running.{after_steps}
use Rattle.rv_hart.specs.Step.{State, step_of}
use Rattle.rv_hart.proofs.Spending.{count-more, count-none}
use Rattle.rv_hart.specs.declared.outcome.Stepped.{Stepped}
use Rattle.rv_hart.specs.declared.outcome.Stepped.TheVariants as stepped
use Rattle.rv_run.specs.declared.schedule.Slice.{Slice}
use Rattle.rv_run.specs.declared.machine.Upcoming.{Upcoming}
use Rattle.rv_run.specs.declared.machine.Moment.{Moment}
use Rattle.rv_run.specs.private.Reading.{first_or_none}
use Rattle.rv_run.specs.Schedule.{instructions, most_instructions}
use Rattle.rv_run.specs.State.{HartState, MachineState, hart_of, no_hart, runs, is_running, step_state, stepped_hart}
use Rattle.rv_run.specs.Calls.{Acted}
use Rattle.rv_run.specs.Run.{Instant, Run, acts, state_after, next_instant, finished, preceded, joined, run_slice, run_slices, stepped_machine}
use Rattle.rv_run.specs.Progress.{Progress, CountsRetired, IsBetween, Carried, PassDone, Broke, WentOn, plus_one, to_come, count_of_first, upcoming_of, first_upcoming, is_plain, retires_plainly, plain_count, some_of, pass_length, counted_event, event_instants, hart_event, instant_event, retired_in}
use Rattle.rv_run.specs.private.Queue.{Passing, less, HaveRoom, CanGoOn, FirstCanGoOn}
use Rattle.rv_run.proofs.Counting.{acts-as, counts-of}
use Rattle.rv_run.proofs.Slices.{IsUpcoming, less-by}

pub preceded-twice : (xs ys : List Instant) (run : Run) → preceded xs (preceded ys run) ≡ preceded (xs ++ ys) run
preceded-twice xs ys run = ap (λ (all : List Instant). record { instants = all; final = run.final }) (sym (append_assoc xs ys run.instants))

-- one instruction that retired by itself
abbrev pub Plain : ℕ → MachineState → MachineState → Type 0
Plain hart old new = (record { state = new; retired = true } ≡ acts hart old) × ((hart_of new hart).end ≡ (hart_of old hart).end) × (retires_plainly hart old ≡ true)

pub not-plain : (how : Stepped) → (how ≡ stepped.Retired → ⊥) → is_plain how ≡ false
not-plain stepped.Retired other = absurd (other refl)
not-plain stepped.Ecall other = refl
not-plain stepped.Break other = refl
not-plain (stepped.Trap why) other = refl

none-plain : (n hart : ℕ) (s : MachineState) → retires_plainly hart s ≡ false → plain_count n hart s ≡ 0
unfolding plain_count
none-plain zero hart s stops = refl
none-plain (suc n) hart s stops = ap (λ (b : Bool). cond b (suc (plain_count n hart (state_after hart s))) 0) stops

one-plain : (n hart : ℕ) (s : MachineState) → retires_plainly hart s ≡ true → plain_count (suc n) hart s ≡ suc (plain_count n hart (state_after hart s))
unfolding plain_count
one-plain n hart s plain = ap (λ (b : Bool). cond b (suc (plain_count n hart (state_after hart s))) 0) plain

some-plain : (n hart : ℕ) (s : MachineState) → 0 < n → retires_plainly hart s ≡ true → 0 < plain_count n hart s
some-plain zero hart s some plain = absurd (omega arith)
some-plain (suc n) hart s some plain = (let e = one-plain n hart s plain in omega (arith, e))

none-asked : (hart : ℕ) (s : MachineState) → plain_count 0 hart s ≡ 0
unfolding plain_count
none-asked hart s = refl

-- a step that retired is one, and keeps whether the hart runs
pub step-plain : (hart : ℕ) (s new : MachineState) (how : Stepped) → hart < length s.harts → new ≡ stepped_machine hart (step_of (step_state (hart_of s hart) s.memory)) s
    → how ≡ (step_of (step_state (hart_of s hart) s.memory)).1 → how ≡ stepped.Retired → Plain hart s new
step-plain hart s new how within is ends retired =
    let r : State × Stepped = step_of (step_state (hart_of s hart) s.memory) in (
      subst (λ (h : Stepped). how ≡ h → record { state = new; retired = true } ≡ acts hart s) refl (λ _. acts-as hart s new stepped.Retired is (sym retired ∙ ends)) refl,
      ap (λ (m : MachineState). (hart_of m hart).end) is
          ∙ ap (λ (h : HartState). h.end) (get_or-set_same s.harts hart (stepped_hart (hart_of s hart) (step_of (step_state (hart_of s hart) s.memory))) no_hart within),
      ap is_plain (sym ends ∙ retired),
    )

pub passing-first : (hart : ℕ) (s : MachineState) → is_running (hart_of s hart) ≡ true → Passing hart 0 s s
passing-first hart s running =
    record {
      passed = [];
      long = refl;
      runs = λ more. ap (λ (n : ℕ). run_slice n hart s) (let e : 0 + more ≡ more = omega arith in e);
      plain = λ more. ap (λ (n : ℕ). plain_count n hart s) (let e : 0 + more ≡ more = omega arith in e) ∙ (let e : plain_count more hart s ≡ 0 + plain_count more hart s = omega arith in e);
      between = λ k d few. absurd (omega arith);
      count = omega arith;
      others = λ other apart. refl;
      harts = refl;
      running = running;
      none = λ e. refl;
      retired = refl;
      events = λ event. sym (count-none event (step_state (hart_of s hart) s.memory));
    }

one-slice : (s : MachineState) (hart more : ℕ) → is_running (hart_of s hart) ≡ true → run_slice (suc more) hart s ≡ preceded (next_instant hart s ∷ []) (run_slice more hart (state_after hart s))
unfolding run_slice
one-slice s hart more running = ap (λ (b : Bool). cond b (preceded (next_instant hart s ∷ []) (run_slice more hart (state_after hart s))) (finished s)) running

wider : (hart from to wide : ℕ) (all : List Instant) → to ≤ wide → All (IsBetween hart from to) all → All (IsBetween hart from wide) all
wider hart from to wide all le between = λ k d few. record { own = (between k d few).own; low = (between k d few).low; high = omega (arith, le, (between k d few).high) }

-- an instruction counts as one where it retired
abbrev one_if : Instant → ℕ
one_if i = cond i.moment.retired 1 0

one-retired : (i : Instant) → i.moment.retired ≡ true → retired_in (i ∷ []) ≡ 1
one-retired i retired =
    sum_by-cons one_if i [] ∙ (let e : cond i.moment.retired 1 0 + 0 ≡ cond i.moment.retired 1 0 = omega arith in e) ∙ ap (λ (b : Bool). cond b 1 0) retired

-- the event of the next instruction
one-event : (event : Event) (hart : ℕ) (s t : MachineState) (u : State) → Plain hart s t → step_state (hart_of s hart) s.memory ≡ u → event_instants event (next_instant hart s ∷ []) ≡ occurs event (extra_event u)
one-event event hart s t u now at =
    sum_by-cons (λ (i : Instant). occurs event (counted_event i.moment.retired (instant_event i))) (next_instant hart s) []
    ∙ (let e : occurs event (counted_event (acts hart s).retired (hart_event hart s)) + 0 ≡ occurs event (counted_event (acts hart s).retired (hart_event hart s)) = omega arith in e)
    ∙ ap₂ (λ (b : Bool) (v : State). occurs event (counted_event b (extra_event v))) (sym (ap (λ (x : Acted). x.retired) now.0)) at

pub passing-more : (hart many : ℕ) (a b c : MachineState) → Passing hart many a b → Plain hart b c → hart < length a.harts → step_state (hart_of b hart) b.memory ≡ after_steps many (step_state (hart_of a hart) a.memory) → Passing hart (many + 1) a c
passing-more hart many a b c was now within at =
    let counts : CountsRetired hart true b c = counts-of hart b c true now.0 (omega (arith, was.harts)) in
    let i : Instant = next_instant hart b in
    record {
      passed = was.passed ++ next_instant hart b ∷ [];
      long = length-append was.passed (next_instant hart b ∷ []) ∙ ap (λ (n : ℕ). n + 1) was.long;
      runs = λ more.
          ap (λ (n : ℕ). run_slice n hart a) (let e : many + 1 + more ≡ many + suc more = omega arith in e)
          ∙ was.runs (suc more)
          ∙ ap (preceded was.passed) (one-slice b hart more was.running ∙ ap (λ (s : MachineState). preceded (next_instant hart b ∷ []) (run_slice more hart s)) (sym (ap (λ (x : Acted). x.state) now.0)))
          ∙ preceded-twice was.passed (next_instant hart b ∷ []) (run_slice more hart c);
      plain = λ more.
          ap (λ (n : ℕ). plain_count n hart a) (let e : many + 1 + more ≡ many + suc more = omega arith in e)
          ∙ was.plain (suc more)
          ∙ ap (λ (n : ℕ). many + n) (one-plain more hart b now.2 ∙ ap (λ (s : MachineState). suc (plain_count more hart s)) (sym (ap (λ (x : Acted). x.state) now.0)))
          ∙ (let e : many + suc (plain_count more hart c) ≡ many + 1 + plain_count more hart c = omega arith in e);
      between =
          All-push (IsBetween hart ((hart_of a hart).retired + 1) ((hart_of a hart).retired + (many + 1))) was.passed (next_instant hart b)
          (wider hart ((hart_of a hart).retired + 1) ((hart_of a hart).retired + many) ((hart_of a hart).retired + (many + 1)) was.passed (omega arith) was.between)
          (record { own = refl; low = omega (arith, was.count); high = omega (arith, was.count) });
      count = omega (arith, counts.own, was.count);
      others = λ other apart. counts.others other apart ∙ was.others other apart;
      harts = counts.harts ∙ was.harts;
      running = ap runs now.1 ∙ was.running;
      none = λ e. absurd (omega arith);
      retired =
          sum_by-append one_if was.passed (next_instant hart b ∷ [])
          ∙ ap₂ (λ (m n : ℕ). m + n) was.retired (one-retired (next_instant hart b) (sym (ap (λ (x : Acted). x.retired) now.0)));
      events = λ event.
          sum_by-append (λ (i : Instant). occurs event (counted_event i.moment.retired (instant_event i))) was.passed (next_instant hart b ∷ [])
          ∙ ap₂ (λ (m n : ℕ). m + n) (was.events event) (one-event event hart b c (after_steps many (step_state (hart_of a hart) a.memory)) now at)
          ∙ sym (count-more event many (step_state (hart_of a hart) a.memory));
    }

joined-preceded : (xs : List Instant) (run : Run) (rest : MachineState → Run) → joined (preceded xs run) rest ≡ preceded xs (joined run rest)
joined-preceded xs run rest = ap (λ (all : List Instant). record { instants = all; final = (rest run.final).final }) (append_assoc xs run.instants (rest run.final).instants)

-- what was done of the first slice, and what is left of all
passed-slices : (hart many : ℕ) (s new : MachineState) (left : List Slice) (p : Passing hart many s new) → first_or_none left ≡ Some (record { hart = hart; count = count_of_first left }) → many ≤ count_of_first left
    → run_slices left s ≡ preceded p.passed (run_slices (less many left) new)
unfolding run_slices
passed-slices hart many s new [] p first few = absurd (let e : None ≡ Some (record { hart = hart; count = count_of_first [] }) = first in cc)
passed-slices hart many s new (slice ∷ rest) p first few =
    let same : slice ≡ record { hart = hart; count = slice.count } = cc in
    let of_hart : slice.hart ≡ hart = ap (λ (x : Slice). x.hart) same in
    ap (λ (h : ℕ). joined (run_slice slice.count h s) (run_slices rest)) of_hart
    ∙ ap (λ (n : ℕ). joined (run_slice n hart s) (run_slices rest)) (let e : slice.count ≡ many + (slice.count - many) = omega (arith, few) in e)
    ∙ ap (λ (r : Run). joined r (run_slices rest)) (p.runs (slice.count - many))
    ∙ joined-preceded p.passed (run_slice (slice.count - many) hart new) (run_slices rest)
    ∙ ap (λ (h : ℕ). preceded p.passed (joined (run_slice (slice.count - many) h new) (run_slices rest))) (sym of_hart)

pub carried-many : (hart many most : ℕ) (s new : MachineState) (left less_left skipped : List Slice) (p : Passing hart many s new) → first_or_none left ≡ Some (record { hart = hart; count = count_of_first left }) → many ≤ most → many ≤ count_of_first left
    → less_left ≡ less many left → run_slices skipped new ≡ run_slices less_left new → Carried hart most p.passed (record { state = s; left = left }) (record { state = new; left = skipped })
carried-many hart many most s new left less_left skipped p first few within taken run =
    record {
      run = passed-slices hart many s new left p first within ∙ ap (preceded p.passed) (sym (run ∙ ap (λ (l : List Slice). run_slices l new) taken));
      between = wider hart ((hart_of s hart).retired + 1) ((hart_of s hart).retired + many) ((hart_of s hart).retired + most) p.passed (omega arith) p.between;
      retired = p.count ∙ ap (λ (n : ℕ). (hart_of s hart).retired + n) (sym p.retired);
      few = omega (arith, p.count);
      others = p.others;
      harts = p.harts;
    }

some-of : (n : ℕ) → 0 < n → some_of n ≡ n
some-of zero some = absurd (omega arith)
some-of (suc n) some = refl

-- how many were asked for and retire by themselves, where so many of them were done
counted-plain : (hart many asked : ℕ) (s new : MachineState) → Passing hart many s new → many ≤ asked → plain_count asked hart s ≡ many + plain_count (asked - many) hart new
counted-plain hart many asked s new p few = ap (λ (n : ℕ). plain_count n hart s) (let e : asked ≡ many + (asked - many) = omega arith in e) ∙ p.plain (asked - many)

all-plain : (hart many asked : ℕ) (s new : MachineState) → Passing hart many s new → many ≤ asked → (many ≡ asked) ⊎ (retires_plainly hart new ≡ false) → plain_count asked hart s ≡ many
all-plain hart many asked s new p few stops =
    let parts = counted-plain hart many asked s new p few in
    elim stops [
      | inl all ↦
          let none : plain_count (asked - many) hart new ≡ 0 = ap (λ (n : ℕ). plain_count n hart new) (let e : asked - many ≡ 0 = omega arith in e) ∙ none-asked hart new in
          omega (arith, parts, none)
      | inr ended ↦ let none = none-plain (asked - many) hart new ended in omega (arith, parts, none)
    ]

-- all that were done
pub so-many-plain : (hart many : ℕ) (s new : MachineState) (p : Passing hart many s new) → plain_count (length p.passed) hart s ≡ length p.passed
so-many-plain hart many s new p = ap (λ (n : ℕ). plain_count n hart s) p.long ∙ all-plain hart many many s new p (omega arith) (inl refl) ∙ sym p.long

long-many : (hart many most : ℕ) (s new : MachineState) (left : List Slice) (p : Passing hart many s new) → 0 < many → many ≤ min most (count_of_first left) → (many ≡ min most (count_of_first left)) ⊎ (retires_plainly hart new ≡ false)
    → length p.passed ≡ pass_length hart most (record { state = s; left = left })
long-many hart many most s new left p some few stops =
    let all = all-plain hart many (min most (count_of_first left)) s new p few stops in
    p.long ∙ sym (ap some_of all ∙ some-of many some)

short-many : (hart many most : ℕ) (s new : MachineState) (left : List Slice) (p : Passing hart many s new) → many < min most (count_of_first left) → retires_plainly hart new ≡ true
    → length p.passed < pass_length hart most (record { state = s; left = left })
short-many hart many most s new left p few plain =
    let asked : ℕ = min most (count_of_first left) in
    let parts : plain_count (min most (count_of_first left)) hart s ≡ many + plain_count (min most (count_of_first left) - many) hart new = counted-plain hart many (min most (count_of_first left)) s new p (omega arith) in
    let next : 0 < plain_count (min most (count_of_first left) - many) hart new = some-plain (min most (count_of_first left) - many) hart new (omega arith) plain in
    let same : some_of (plain_count (min most (count_of_first left)) hart s) ≡ plain_count (min most (count_of_first left)) hart s = some-of (plain_count (min most (count_of_first left)) hart s) (omega (arith, parts, next)) in
    omega (arith, p.long, parts, next, same)

-- one instruction, whatever it did
one-more-retired : (b : Bool) (n : ℕ) (i : Instant) → i.moment.retired ≡ b → plus_one b n ≡ n + retired_in (i ∷ [])
one-more-retired true n i is = ap (λ (m : ℕ). n + m) (sym (one-retired i is))
one-more-retired false n i is =
    (let e : n ≡ n + 0 = omega arith in e)
    ∙ ap (λ (m : ℕ). n + m) (sym (sum_by-cons one_if i [] ∙ (let e : cond i.moment.retired 1 0 + 0 ≡ cond i.moment.retired 1 0 = omega arith in e) ∙ ap (λ (b : Bool). cond b 1 0) is))

at_most : (b : Bool) (n : ℕ) → plus_one b n ≤ n + 1
at_most true n = omega arith
at_most false n = omega arith

pub carried-one : (hart most : ℕ) (moment : Moment) (old new : Progress) → WentOn moment old new → CountsRetired moment.hart moment.retired old.state new.state → 0 < most → Carried moment.hart most (next_instant moment.hart old.state ∷ []) old new
carried-one hart most moment old new went counts some =
    record {
      run = went.run;
      between = one;
      retired = counts.own ∙ one-more-retired moment.retired (hart_of old.state moment.hart).retired (next_instant moment.hart old.state) (sym (ap (λ (m : Moment). m.retired) went.told));
      few = omega (arith, counts.own, at_most moment.retired (hart_of old.state moment.hart).retired);
      others = counts.others;
      harts = counts.harts;
    }
  where
    one : All (IsBetween moment.hart ((hart_of old.state moment.hart).retired + 1) ((hart_of old.state moment.hart).retired + most)) (next_instant moment.hart old.state ∷ [])
    one zero d few = record { own = refl; low = omega arith; high = omega arith }
    one (suc k) d few = absurd (omega arith)

pub passed-one : (hart most : ℕ) (moment : Moment) (old new : Progress) → WentOn moment old new → CountsRetired moment.hart moment.retired old.state new.state → moment.hart ≡ hart → 0 < most → retires_plainly hart old.state ≡ false → PassDone hart most old new
passed-one hart most moment old new went counts same some stops =
    let none : plain_count (min most (count_of_first old.left)) hart old.state ≡ 0 = none-plain (min most (count_of_first old.left)) hart old.state stops in
    record {
      passed = next_instant moment.hart old.state ∷ [];
      long = sym (ap some_of none);
      carried = subst (λ (h : ℕ). Carried h most (next_instant moment.hart old.state ∷ []) old new) same (carried-one hart most moment old new went counts some);
    }

pub room-passed : (s new : MachineState) (left : List Slice) (hart many : ℕ) → many ≤ count_of_first left → HaveRoom s left → Passing hart many s new → HaveRoom new (less many left)
room-passed s new left hart many few room p other =
    elim (eqb_tells other hart) [ inl h ↦ same h.1 | inr h ↦ apart h.1 ]
  where
    same : other ≡ hart → (hart_of new other).retired + instructions (less many left) ≤ most_instructions
    same e =
        let own : (hart_of new other).retired ≡ (hart_of s hart).retired + many = ap (λ (h : ℕ). (hart_of new h).retired) e ∙ p.count in
        omega (arith, own, less-by many left few, room hart)

    apart : other ≢ hart → (hart_of new other).retired + instructions (less many left) ≤ most_instructions
    apart ne = omega (arith, p.others other ne, less-by many left few, room other)

pub first-count : (left : List Slice) (slice : Slice) → first_or_none left ≡ Some slice → count_of_first left ≡ slice.count
first-count [] slice first = absurd cc
first-count (x ∷ rest) slice first =
    let same : x ≡ slice = cc in
    ap (λ (y : Slice). y.count) same

pub first-whole : (left : List Slice) (slice : Slice) → first_or_none left ≡ Some slice → first_or_none left ≡ Some (record { hart = slice.hart; count = count_of_first left })
first-whole left slice first = first ∙ ap (λ (n : ℕ). Some (record { hart = slice.hart; count = n })) (sym (first-count left slice first))

pub went-hart : (upcoming : Upcoming) (moment : Moment) (old new : Progress) → Some upcoming ≡ first_upcoming (to_come old).instants → WentOn moment old new → moment.hart ≡ upcoming.hart
went-hart upcoming moment old new told went =
    let here : Some upcoming ≡ Some (upcoming_of (next_instant moment.hart old.state)) = told ∙ ap (λ (r : Run). first_upcoming r.instants) went.run in
    let same : upcoming ≡ upcoming_of (next_instant moment.hart old.state) = cc in
    sym (ap (λ (d : Upcoming). d.hart) same)

pub slice-hart : (s : MachineState) (left : List Slice) (upcoming : Upcoming) (slice : Slice) → IsUpcoming s left upcoming → first_or_none left ≡ Some slice → slice.hart ≡ upcoming.hart
slice-hart s left upcoming slice is first =
    let here : Some slice ≡ Some (record { hart = upcoming.hart; count = count_of_first left }) = sym first ∙ is.first_is in
    let same : slice ≡ record { hart = upcoming.hart; count = count_of_first left } = cc in
    ap (λ (x : Slice). x.hart) same

-- a pass of the first slice, where it ended as it was to
pub passed-many : (hart many asked most : ℕ) (s new : MachineState) (left less_left skipped : List Slice) (slice : Slice) → Passing slice.hart many s new → first_or_none left ≡ Some slice → slice.hart ≡ hart → asked ≡ min most slice.count → many ≤ asked → 0 < many
    → (many ≡ asked) ⊎ (retires_plainly slice.hart new ≡ false) → less_left ≡ less many left → run_slices skipped new ≡ run_slices less_left new
    → PassDone hart most (record { state = s; left = left }) (record { state = new; left = skipped })
passed-many hart many asked most s new left less_left skipped slice p first of_hart is few some stops taken run =
    let whole : count_of_first left ≡ slice.count = first-count left slice first in
    let all : asked ≡ min most (count_of_first left) = is ∙ ap (min most) (sym whole) in
    subst (λ (h : ℕ). PassDone h most (record { state = s; left = left }) (record { state = new; left = skipped })) of_hart
    (record {
      passed = p.passed;
      long = long-many slice.hart many most s new left p some (omega arith) (subst (λ (n : ℕ). (many ≡ n) ⊎ (retires_plainly slice.hart new ≡ false)) all stops);
      carried = carried-many slice.hart many most s new left less_left skipped p (first-whole left slice first) (omega arith) (omega arith) taken run;
    })

-- and where no memory was found
pub broke-many : (hart many asked most : ℕ) (s new : MachineState) (left less_left skipped : List Slice) (slice : Slice) → Passing slice.hart many s new → first_or_none left ≡ Some slice → slice.hart ≡ hart → asked ≡ min most slice.count
    → (many < asked) × (retires_plainly slice.hart new ≡ true) → less_left ≡ less many left → run_slices skipped new ≡ run_slices less_left new
    → Broke hart most (record { state = s; left = left }) (record { state = new; left = skipped })
broke-many hart many asked most s new left less_left skipped slice p first of_hart is stops taken run =
    let whole : count_of_first left ≡ slice.count = first-count left slice first in
    let all : asked ≡ min most (count_of_first left) = is ∙ ap (min most) (sym whole) in
    let few : many < asked = stops.0 in
    subst (λ (h : ℕ). Broke h most (record { state = s; left = left }) (record { state = new; left = skipped })) of_hart
    (record {
      passed = p.passed;
      short = short-many slice.hart many most s new left p (omega arith) stops.1;
      carried = carried-many slice.hart many most s new left less_left skipped p (first-whole left slice first) (omega arith) (omega arith) taken run;
    })

pub first-can : (s : MachineState) (left : List Slice) (slice : Slice) → FirstCanGoOn s left → first_or_none left ≡ Some slice → CanGoOn s slice
first-can s [] slice can first = absurd cc
first-can s (x ∷ rest) slice can first = let same : x ≡ slice = cc in subst (CanGoOn s) same can

-- nothing was done yet, and the first instruction does not retire by itself
pub stops-first : (hart many asked : ℕ) (s new : MachineState) → new ≡ s → many ≡ 0 → 0 < asked → (many ≡ asked) ⊎ (retires_plainly hart new ≡ false) → retires_plainly hart s ≡ false
stops-first hart many asked s new same none some stops =
    elim stops [ inl all ↦ absurd (omega arith) | inr ended ↦ sym (ap (retires_plainly hart) same) ∙ ended ]
