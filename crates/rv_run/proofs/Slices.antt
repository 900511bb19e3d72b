-- The slices that are left, and the run that they give.
use Rattle.std.proofs.Common.{◌≡◌, ◌≢◌, ◌⊎◌, inl, inr, ℕ, zero, suc, ◌+◌, ◌-◌, ◌<◌, ◌≤◌, ◌&&◌, nat_lt, Bool, true, false, cond, List, [], ◌∷◌, ◌++◌, length, drop, sum_by, Some, None, refl, sym, ap, ap₂, subst, ◌∙◌, arith, add-one, lt-ltb}
use Rattle.std.proofs.lemmas.List.Sums.{sum_by-cons, sum_by-append, sum-map}
use Rattle.std.proofs.lemmas.Bool.Decides.{eqb_tells}
use Rattle.rv_run.specs.declared.schedule.Slice.{Slice}
use Rattle.rv_run.specs.declared.machine.Upcoming.{Upcoming}
use Rattle.rv_run.specs.private.Reading.{first_or_none, rest_of}
use Rattle.rv_run.specs.Schedule.{instructions, slice_count, most_instructions}
use Rattle.rv_run.specs.State.{MachineState, hart_of, is_running}
use Rattle.rv_run.specs.Calls.{Acted}
use Rattle.rv_run.specs.Run.{Run, acts, state_after, next_instant, finished, preceded, joined, run_slice, run_slices}
use Rattle.rv_run.specs.Progress.{CountsRetired, plus_one, count_of_first, upcoming_of, first_upcoming, WentOn}
use Rattle.rv_run.specs.private.Queue.{with_left, less, AreOfHarts, HaveRoom, CanGoOn, FirstCanGoOn}

whole : (slices : List Slice) → with_left (count_of_first slices) slices ≡ slices
whole [] = refl
whole (slice ∷ rest) = refl

drop_suc : (slices : List Slice) (place left : ℕ) → place < length slices → with_left (count_of_first (drop (suc place) slices)) (drop (suc place) slices) ≡ rest_of (with_left left (drop place slices))
drop_suc [] place left within = absurd (omega arith)
drop_suc (slice ∷ rest) zero left within = whole rest
drop_suc (slice ∷ rest) (suc place) left within = drop_suc rest place left (omega arith)

pub dropped : (slices : List Slice) (place left : ℕ) → place < length slices → with_left (count_of_first (drop (place + 1) slices)) (drop (place + 1) slices) ≡ rest_of (with_left left (drop place slices))
dropped slices place left within = rw add-one (drop_suc slices place left within)

pub ended : (s : MachineState) (left : List Slice) → first_or_none left ≡ None → run_slices left s ≡ finished s
unfolding run_slices
ended s [] none = refl
ended s (slice ∷ rest) none = absurd cc

-- the first instruction of the first slice, and the rest of the run
one : (s : MachineState) (hart count : ℕ) (rest : List Slice) → 0 < count → is_running (hart_of s hart) ≡ true
    → joined (run_slice count hart s) (run_slices rest) ≡ preceded (next_instant hart s ∷ []) (joined (run_slice (count - 1) hart (state_after hart s)) (run_slices rest))
unfolding run_slice
one s hart zero rest some runs = absurd (omega arith)
one s hart (suc count) rest some runs =
    ap (λ (b : Bool). joined (cond b (preceded (next_instant hart s ∷ []) (run_slice count hart (state_after hart s))) (finished s)) (run_slices rest)) runs
    ∙ ap (λ (n : ℕ). preceded (next_instant hart s ∷ []) (joined (run_slice n hart (state_after hart s)) (run_slices rest))) (let e : count ≡ suc count - 1 = omega arith in e)

-- what is due of slices of a machine before its next instruction
pub record IsUpcoming (s : MachineState) (left : List Slice) (upcoming : Upcoming) : Type 0 where
  pub some : 0 < count_of_first left
  pub first_upcoming_is : upcoming ≡ upcoming_of (next_instant upcoming.hart s)
  pub run : run_slices left s ≡ preceded (next_instant upcoming.hart s ∷ []) (run_slices (less 1 left) (state_after upcoming.hart s))
  pub first_is : first_or_none left ≡ Some (record { hart = upcoming.hart; count = count_of_first left })

first-run : (s : MachineState) (slice : Slice) (rest : List Slice) → CanGoOn s slice → run_slices (slice ∷ rest) s ≡ preceded (next_instant slice.hart s ∷ []) (run_slices (less 1 (slice ∷ rest)) (state_after slice.hart s))
unfolding run_slices
first-run s slice rest next = one s slice.hart slice.count rest next.0 next.1

pub upcoming-first : (s : MachineState) (left : List Slice) (slice : Slice) → FirstCanGoOn s left → first_or_none left ≡ Some slice → Some (upcoming_of (next_instant slice.hart s)) ≡ first_upcoming (run_slices left s).instants
upcoming-first s [] slice can first = absurd cc
upcoming-first s (x ∷ rest) slice can first =
    let same : x ≡ slice = cc in
    ap (λ (y : Slice). Some (upcoming_of (next_instant y.hart s))) (sym same)
    ∙ ap (λ (r : Run). first_upcoming r.instants) (sym (first-run s x rest can))

pub upcoming-is : (s : MachineState) (left : List Slice) (upcoming : Upcoming) → FirstCanGoOn s left → Some upcoming ≡ first_upcoming (run_slices left s).instants → IsUpcoming s left upcoming
unfolding run_slices
upcoming-is s [] upcoming can told = absurd (let e : Some upcoming ≡ None = told in cc)
upcoming-is s (x ∷ rest) upcoming can told =
    let here : Some upcoming ≡ Some (upcoming_of (next_instant x.hart s)) = told ∙ ap (λ (r : Run). first_upcoming r.instants) (first-run s x rest can) in
    let same : upcoming ≡ upcoming_of (next_instant x.hart s) = cc in
    let hart : x.hart ≡ upcoming.hart = sym (ap (λ (d : Upcoming). d.hart) same) in
    record {
      some = can.0;
      first_upcoming_is = same ∙ ap (λ (h : ℕ). upcoming_of (next_instant h s)) hart;
      run = first-run s x rest can ∙ ap (λ (h : ℕ). preceded (next_instant h s ∷ []) (run_slices (less 1 (x ∷ rest)) (state_after h s))) hart;
      first_is = ap (λ (h : ℕ). Some (record { hart = h; count = x.count })) hart;
    }

-- a slice in which nothing is left to do
no_slice : (s : MachineState) (hart count : ℕ) → (count ≡ 0) ⊎ (is_running (hart_of s hart) ≡ false) → run_slice count hart s ≡ finished s
unfolding run_slice
no_slice s hart zero nothing = refl
no_slice s hart (suc count) (inl none) = absurd (omega arith)
no_slice s hart (suc count) (inr ended) = ap (λ (b : Bool). cond b (preceded (next_instant hart s ∷ []) (run_slice count hart (state_after hart s))) (finished s)) ended

pub passed-over : (s : MachineState) (left : List Slice) (slice : Slice) → first_or_none left ≡ Some slice → (slice.count ≡ 0) ⊎ (is_running (hart_of s slice.hart) ≡ false) → run_slices (rest_of left) s ≡ run_slices left s
unfolding run_slices
passed-over s [] slice first nothing = absurd cc
passed-over s (x ∷ rest) slice first nothing =
    let same : slice ≡ x = cc in
    sym (ap (λ (r : Run). joined r (run_slices rest)) (no_slice s x.hart x.count (subst (λ (y : Slice). (y.count ≡ 0) ⊎ (is_running (hart_of s y.hart) ≡ false)) same nothing)))

count-cons : (slice : Slice) (rest : List Slice) → instructions (slice ∷ rest) ≡ slice.count + instructions rest
count-cons slice rest = sum-map slice_count (slice ∷ rest) ∙ sum_by-cons slice_count slice rest ∙ ap (λ (n : ℕ). slice.count + n) (sym (sum-map slice_count rest))

pub fewer : (left : List Slice) → instructions (rest_of left) ≤ instructions left
fewer [] = omega arith
fewer (slice ∷ rest) = omega (arith, count-cons slice rest)

pub rest-are-of : (harts : ℕ) (left : List Slice) → AreOfHarts harts left → AreOfHarts harts (rest_of left)
rest-are-of harts [] all = all
rest-are-of harts (slice ∷ rest) all = λ k d few. all (suc k) d (omega arith)

pub room-rest : (s : MachineState) (left : List Slice) → HaveRoom s left → HaveRoom s (rest_of left)
room-rest s left room hart = omega (arith, fewer left, room hart)

pub shorter : (left : List Slice) (slice : Slice) → first_or_none left ≡ Some slice → length (rest_of left) < length left
shorter [] slice first = absurd cc
shorter (x ∷ rest) slice first = omega arith

-- one instruction less
pub less-are-of : (harts count : ℕ) (left : List Slice) → AreOfHarts harts left → AreOfHarts harts (less count left)
less-are-of harts count [] all = all
less-are-of harts count (slice ∷ rest) all = later
  where
    later : AreOfHarts harts (less count (slice ∷ rest))
    later zero d few = all zero slice (omega arith)
    later (suc k) d few = all (suc k) d (omega arith)

pub less-by : (count : ℕ) (left : List Slice) → count ≤ count_of_first left → instructions (less count left) + count ≡ instructions left
less-by count [] few = omega arith
less-by count (slice ∷ rest) few = omega (arith, count-cons slice rest, count-cons (record slice { count = slice.count - count }) rest)

at_most : (is_retired : Bool) (count : ℕ) → plus_one is_retired count ≤ count + 1
at_most true count = omega arith
at_most false count = omega arith

pub room-less : (s new : MachineState) (left : List Slice) (hart : ℕ) (is_retired : Bool) → 1 ≤ count_of_first left → HaveRoom s left → CountsRetired hart is_retired s new → HaveRoom new (less 1 left)
room-less s new left hart is_retired some room counts other =
    elim (eqb_tells other hart) [ inl h ↦ same h.1 | inr h ↦ apart h.1 ]
  where
    same : other ≡ hart → (hart_of new other).retired + instructions (less 1 left) ≤ most_instructions
    same e =
        let own : (hart_of new other).retired ≡ plus_one is_retired (hart_of s hart).retired = ap (λ (h : ℕ). (hart_of new h).retired) e ∙ counts.own in
        omega (arith, own, at_most is_retired (hart_of s hart).retired, less-by 1 left some, room hart)

    apart : other ≢ hart → (hart_of new other).retired + instructions (less 1 left) ≤ most_instructions
    apart ne = omega (arith, counts.others other ne, less-by 1 left some, room other)

abbrev sum_by-of : List Slice → ℕ
sum_by-of xs = sum_by slice_count xs

pub one-more : (slices : List Slice) (slice : Slice) → instructions (slices ++ slice ∷ []) ≡ instructions slices + slice.count
one-more slices slice =
    sum-map slice_count (slices ++ slice ∷ [])
    ∙ sum_by-append slice_count slices (slice ∷ [])
    ∙ ap (λ (n : ℕ). n + sum_by-of (slice ∷ [])) (sym (sum-map slice_count slices))
    ∙ (let e : sum_by-of (slice ∷ []) ≡ slice.count = sum_by-cons slice_count slice [] ∙ omega arith in ap (λ (n : ℕ). instructions slices + n) e)

-- a slice that has nothing left, or whose hart has ended
pub cannot : (count : ℕ) (b : Bool) → (nat_lt 0 count && b) ≡ false → (count ≡ 0) ⊎ (b ≡ false)
cannot zero b e = inl refl
cannot (suc count) b e = inr (ap (λ (a : Bool). a && b) (sym (lt-ltb 0 (suc count) (omega arith))) ∙ e)

some-left : (left : List Slice) → 0 < count_of_first left → 0 < instructions left
some-left [] some = absurd (omega arith)
some-left (slice ∷ rest) some = omega (arith, count-cons slice rest)

pub room-for : (s : MachineState) (left : List Slice) (hart : ℕ) → HaveRoom s left → 0 < count_of_first left → (hart_of s hart).retired < most_instructions
room-for s left hart room some = omega (arith, room hart, some-left left some)

-- the machine went on by one instruction
pub went-on : (s new : MachineState) (left less_left settled : List Slice) (upcoming : Upcoming) (is_retired : Bool) → IsUpcoming s left upcoming → record { state = new; retired = is_retired } ≡ acts upcoming.hart s → less_left ≡ less 1 left
    → run_slices settled new ≡ run_slices less_left new → WentOn (record { hart = upcoming.hart; ordinal = upcoming.ordinal; pc = upcoming.pc; retired = is_retired }) (record { state = s; left = left }) (record { state = new; left = settled })
went-on s new left less_left settled upcoming is_retired is done taken run =
    record {
      told = ap₂ (λ (d : Upcoming) (b : Bool). record { hart = d.hart; ordinal = d.ordinal; pc = d.pc; retired = b }) is.first_upcoming_is (ap (λ (a : Acted). a.retired) done);
      run = is.run ∙ ap (preceded (next_instant upcoming.hart s ∷ [])) (sym (run ∙ ap₂ (λ (l : List Slice) (t : MachineState). run_slices l t) taken (ap (λ (a : Acted). a.state) done)));
      state = ap (λ (a : Acted). a.state) done;
    }
