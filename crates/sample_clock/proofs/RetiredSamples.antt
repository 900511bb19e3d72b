-- How many samples a hart has, where retired is the only event.
use Rattle.std.proofs.Common.{◌≡◌, ℕ, zero, suc, ◌+◌, ◌*◌, ◌/◌, ◌%◌, ◌<◌, ◌≤◌, ◌==◌, ◌&&◌, ◌⊎◌, inl, inr, Bool, true, false, cond, List, [], ◌∷◌, ◌++◌, length, map, All, refl, sym, ap, subst, ◌∙◌, arith, append-nil, append_assoc, mod-lt, mod-eq_of_lt}
use Rattle.std.specs.Prelude.{Contains, count_by, flat_map}
use Rattle.std.proofs.Math.Nat.{add-div_right, add-mod_right, div-add-mod, div-eq_of_lt, mul-add-div, mul-add-mod_self_left, zero-div}
use Rattle.std.proofs.lemmas.Bool.{cases_lt, eq-eqb, ne_eqb}
use Rattle.std.proofs.lemmas.Bool.Decides.{eqb_tells}
use Rattle.std.proofs.lemmas.List.Elements.{All-contains, All-contains_itself, All-head, All-tail, All-weaker, Contains-append_left, Contains-append_right}
use Rattle.std.proofs.lemmas.List.Sums.{sum_by-append, sum_by-cons}
use Rattle.scope_types.specs.declared.event.Event.TheVariants.{Retired}
use Rattle.scope_types.specs.declared.event.EventPeriod.{EventPeriod}
use Rattle.scope_types.specs.Events.{retired_every}
use Rattle.rv_run.specs.declared.schedule.Slice.{Slice}
use Rattle.rv_run.specs.State.{MachineState, hart_of, is_running}
use Rattle.rv_run.specs.Run.{Instant, Run, acts, finished, next_instant, preceded, run_slice, run_slices, state_after}
use Rattle.rv_run.specs.Progress.{CountsRetired, IsFresh, plus_one}
use Rattle.rv_run.proofs.Counting.{acts-count}
use Rattle.sample_clock.specs.declared.clock.Sample.{Sample}
use Rattle.sample_clock.specs.Samples.{Paths, count_of, is_counted, none_earlier, placed, sample_of, samples, samples_at}

-- ---- one instruction

-- the remainder goes up by one, or from the last one to 0
pub next-remainder : (period r : ℕ) → 0 < period → ((r + 1) % period ≡ r % period + 1) ⊎ (((r + 1) % period ≡ 0) × (r % period + 1 ≡ period))
next-remainder period r some =
    let whole : period * (r / period) + r % period ≡ r = div-add-mod r period in
    let below : r % period < period = mod-lt r some in
    let next : (r + 1) % period ≡ (period * (r / period) + (r % period + 1)) % period = ap (λ (n : ℕ). n % period) (let e : r + 1 ≡ period * (r / period) + (r % period + 1) = omega (arith, whole) in e) in
    let off : (period * (r / period) + (r % period + 1)) % period ≡ (r % period + 1) % period = mul-add-mod_self_left period (r / period) (r % period + 1) in
    elim (cases_lt (r % period + 1) period) [
      | inl less ↦ inl (next ∙ off ∙ mod-eq_of_lt less)
      | inr past ↦
          let last : r % period + 1 ≡ period = omega arith in
          let none : (0 + period) % period ≡ 0 = add-mod_right 0 period ∙ mod-eq_of_lt some in
          inr (next ∙ off ∙ ap (λ (n : ℕ). n % period) (let e : r % period + 1 ≡ 0 + period = omega arith in e) ∙ none, last)
    ]

-- how many instructions a hart retired of these
abbrev pub retired_of : ℕ → List Instant → ℕ
retired_of hart instants = count_of Retired hart instants

-- 1 where a test is true
abbrev pub once : Bool → ℕ
once test = cond test 1 0

-- the quotient goes up by one at each multiple
next-quotient : (period n : ℕ) → 0 < period → (n + 1) / period ≡ n / period + once ((n + 1) % period == 0)
next-quotient period n some =
    let whole : period * (n / period) + n % period ≡ n = div-add-mod n period in
    let parts : (n + 1) / period ≡ (period * (n / period) + (n % period + 1)) / period = ap (λ (k : ℕ). k / period) (let e : n + 1 ≡ period * (n / period) + (n % period + 1) = omega (arith, whole) in e) in
    let split : (period * (n / period) + (n % period + 1)) / period ≡ n / period + (n % period + 1) / period = mul-add-div some (n / period) (n % period + 1) in
    elim (next-remainder period n some) [
      | inl up ↦
          let below : (n + 1) % period < period = mod-lt (n + 1) some in
          let none : (n % period + 1) / period ≡ 0 = div-eq_of_lt (let l : n % period + 1 < period = omega (arith, up, below) in l) in
          let test : ((n + 1) % period == 0) ≡ false = ne_eqb ((n + 1) % period) 0 (λ e. absurd (omega (arith, up, e))) in
          parts ∙ split ∙ ap (λ (k : ℕ). n / period + k) none ∙ sym (ap (λ (t : Bool). n / period + once t) test)
      | inr back ↦
          let one : (n % period + 1) / period ≡ 1 =
          ap (λ (k : ℕ). k / period) (let e : n % period + 1 ≡ 0 + period = (let last = back.1 in omega (arith, last)) in e) ∙ add-div_right 0 some ∙ ap (λ (k : ℕ). k + 1) (zero-div period) in
          let test : ((n + 1) % period == 0) ≡ true = eq-eqb ((n + 1) % period) 0 back.0 in
          parts ∙ split ∙ ap (λ (k : ℕ). n / period + k) one ∙ sym (ap (λ (t : Bool). n / period + once t) test)
    ]

pub one-more : (hart : ℕ) (before : List Instant) (i : Instant) → retired_of hart (before ++ i ∷ []) ≡ retired_of hart before + once (is_counted Retired hart i)
one-more hart before i =
    let all = sum_by-append (λ (j : Instant). once (is_counted Retired hart j)) before (i ∷ []) in
    let one = sum_by-cons (λ (j : Instant). once (is_counted Retired hart j)) i [] in
    let none : retired_of hart [] ≡ 0 = refl in
    omega (arith, all, one, none)

pub other-hart : (hart : ℕ) (before : List Instant) (i : Instant) → ¬ (i.moment.hart ≡ hart) → retired_of hart (before ++ i ∷ []) ≡ retired_of hart before
other-hart hart before i apart =
    let none : once (is_counted Retired hart i) ≡ 0 = ap (λ (t : Bool). once (t && (i.moment.retired && true))) (ne_eqb i.moment.hart hart apart) in
    let all = one-more hart before i in
    omega (arith, all, none)

pub own-once : (b : Bool) (r : ℕ) → r + once (b && true) ≡ plus_one b r
own-once true r = refl
own-once false r = omega arith

pub own-hart : (hart : ℕ) (before : List Instant) (i : Instant) → i.moment.hart ≡ hart → retired_of hart (before ++ i ∷ []) ≡ plus_one i.moment.retired (retired_of hart before)
own-hart hart before i is =
    one-more hart before i
    ∙ ap (λ (t : Bool). retired_of hart before + once (t && (i.moment.retired && true))) (eq-eqb i.moment.hart hart is)
    ∙ own-once i.moment.retired (retired_of hart before)

-- ---- the samples of a hart

one-true : (b : Bool) (n : ℕ) → n ≡ once b + 0 → n ≡ once (b && true)
one-true true n e = omega (arith, e)
one-true false n e = omega (arith, e)

one-false : (b : Bool) → 0 ≡ once (b && false)
one-false true = refl
one-false false = refl

module _ (path_of : Paths) (period : ℕ) (some : 0 < period) (hart : ℕ) where
  abbrev is_own : Sample → Bool
  is_own x = x.hart == hart

  -- the samples of an instruction, of which there is one at most
  abbrev here : List Instant → Instant → List Sample
  here before i = samples_at path_of none_earlier (retired_every period) (record { before = before; instant = i })

  -- those of instructions that come after others
  abbrev from_here : List Instant → List Instant → List Sample
  from_here before xs = flat_map (samples_at path_of none_earlier (retired_every period)) (placed before xs)

  count-here : (before : List Instant) (i : Instant)
      → count_by is_own (here before i) ≡ once ((i.moment.hart == hart) && (i.moment.retired && ((retired_of i.moment.hart before + 1) % period == 0)))
  count-here before i =
      ap (λ (n : ℕ). count_by is_own (map (sample_of path_of i) (map (λ (e : ℕ × EventPeriod). e.0) (cond ((i.moment.retired && true) && ((n + 1) % period == 0)) ((0, record { event = Retired; period = period }) ∷ []) []))))
      (let same : 0 + retired_of i.moment.hart before ≡ retired_of i.moment.hart before = omega arith in same)
      ∙ by_test i.moment.retired ((retired_of i.moment.hart before + 1) % period == 0)
    where
      by_test : (r t : Bool) → count_by is_own (map (sample_of path_of i) (map (λ (e : ℕ × EventPeriod). e.0) (cond ((r && true) && t) ((0, record { event = Retired; period = period }) ∷ []) [])))
          ≡ once ((i.moment.hart == hart) && (r && t))
      by_test true true = one-true (i.moment.hart == hart) (count_by is_own (sample_of path_of i 0 ∷ [])) (sum_by-cons (λ (x : Sample). once (is_own x)) (sample_of path_of i 0) [])
      by_test true false = one-false (i.moment.hart == hart)
      by_test false t = one-false (i.moment.hart == hart)

  by_retired : (n : ℕ) (r : Bool) → once (r && ((n + 1) % period == 0)) + n / period ≡ plus_one r n / period
  by_retired n true = (let next = next-quotient period n some in omega (arith, next))
  by_retired n false = omega arith

  one-step : (before : List Instant) (i : Instant) → count_by is_own (here before i) + retired_of hart before / period ≡ retired_of hart (before ++ i ∷ []) / period
  one-step before i = elim (eqb_tells i.moment.hart hart) [ inl h ↦ own h.1 | inr h ↦ other h.1 ]
    where
      own : i.moment.hart ≡ hart → count_by is_own (here before i) + retired_of hart before / period ≡ retired_of hart (before ++ i ∷ []) / period
      own is =
          let count = count-here before i in
          let test : once ((i.moment.hart == hart) && (i.moment.retired && ((retired_of i.moment.hart before + 1) % period == 0))) ≡ once (i.moment.retired && ((retired_of hart before + 1) % period == 0)) =
          ap (λ (t : Bool). once (t && (i.moment.retired && ((retired_of i.moment.hart before + 1) % period == 0)))) (eq-eqb i.moment.hart hart is)
          ∙ ap (λ (h : ℕ). once (i.moment.retired && ((retired_of h before + 1) % period == 0))) is in
          let after = ap (λ (r : ℕ). r / period) (own-hart hart before i is) in
          let next = by_retired (retired_of hart before) i.moment.retired in
          omega (arith, count, test, after, next)

      other : ¬ (i.moment.hart ≡ hart) → count_by is_own (here before i) + retired_of hart before / period ≡ retired_of hart (before ++ i ∷ []) / period
      other apart =
          let count = count-here before i in
          let none : once ((i.moment.hart == hart) && (i.moment.retired && ((retired_of i.moment.hart before + 1) % period == 0))) ≡ 0 =
          ap (λ (t : Bool). once (t && (i.moment.retired && ((retired_of i.moment.hart before + 1) % period == 0)))) (ne_eqb i.moment.hart hart apart) in
          let after = ap (λ (r : ℕ). r / period) (other-hart hart before i apart) in
          omega (arith, count, none, after)

  all-steps : (before xs : List Instant) → count_by is_own (from_here before xs) + retired_of hart before / period ≡ retired_of hart (before ++ xs) / period
  unfolding placed
  all-steps before [] = (let same = ap (λ (l : List Instant). retired_of hart l / period) (append-nil before) in omega (arith, same))
  all-steps before (i ∷ xs) =
      let rest = all-steps (before ++ i ∷ []) xs in
      let one = one-step before i in
      let parts = sum_by-append (λ (x : Sample). once (is_own x)) (here before i) (from_here (before ++ i ∷ []) xs) in
      let same = ap (λ (l : List Instant). retired_of hart l / period) (append_assoc before (i ∷ []) xs) in
      omega (arith, rest, one, parts, same)

-- ---- the instructions that a hart retired in a run

-- a run retires what its instructions say, and has the same harts
record Told (hart : ℕ) (s : MachineState) (r : Run) : Type 0 where
  retired : (hart_of r.final hart).retired ≡ (hart_of s hart).retired + retired_of hart r.instants
  harts : length r.final.harts ≡ length s.harts

-- an instruction of one of so many harts
abbrev IsWithin : ℕ → Instant → Type 0
IsWithin harts i = i.moment.hart < harts

left-part : (P : Instant → Type 0) (xs ys : List Instant) → All P (xs ++ ys) → All P xs
left-part P xs ys all = All-weaker (Contains xs) P (λ x has. All-contains P (xs ++ ys) x all (Contains-append_left xs ys x has)) xs (All-contains_itself xs)

right-part : (P : Instant → Type 0) (xs ys : List Instant) → All P (xs ++ ys) → All P ys
right-part P xs ys all = All-weaker (Contains ys) P (λ x has. All-contains P (xs ++ ys) x all (Contains-append_right xs ys x has)) ys (All-contains_itself ys)

nothing-told : (hart : ℕ) (s : MachineState) → Told hart s (finished s)
nothing-told hart s = record { retired = (let none : retired_of hart [] ≡ 0 = refl in omega (arith, none)); harts = refl }

module _ (h hart : ℕ) (s : MachineState) (own : h < length s.harts) where
  -- what the hart retires in one instruction
  one-retired : (hart_of (state_after h s) hart).retired ≡ (hart_of s hart).retired + once (is_counted Retired hart (next_instant h s))
  one-retired = elim (eqb_tells h hart) [ inl e ↦ same e.1 | inr e ↦ apart e.1 ]
    where
      same : h ≡ hart → (hart_of (state_after h s) hart).retired ≡ (hart_of s hart).retired + once (is_counted Retired hart (next_instant h s))
      same e =
          let counts : CountsRetired h (acts h s).retired s (acts h s).state = acts-count h s own in
          let moved : (hart_of (state_after h s) hart).retired ≡ plus_one (acts h s).retired (hart_of s hart).retired =
          subst (λ (k : ℕ). (hart_of (state_after h s) k).retired ≡ plus_one (acts h s).retired (hart_of s k).retired) e counts.own in
          let test : once (is_counted Retired hart (next_instant h s)) ≡ once ((acts h s).retired && true) = ap (λ (t : Bool). once (t && ((acts h s).retired && true))) (eq-eqb h hart e) in
          let step = own-once (acts h s).retired (hart_of s hart).retired in
          omega (arith, moved, test, step)

      apart : ¬ (h ≡ hart) → (hart_of (state_after h s) hart).retired ≡ (hart_of s hart).retired + once (is_counted Retired hart (next_instant h s))
      apart ne =
          let counts : CountsRetired h (acts h s).retired s (acts h s).state = acts-count h s own in
          let stays = counts.others hart (λ e. ne (sym e)) in
          let none : once (is_counted Retired hart (next_instant h s)) ≡ 0 = ap (λ (t : Bool). once (t && ((acts h s).retired && true))) (ne_eqb h hart ne) in
          omega (arith, stays, none)

  one-told : (rest : Run) → Told hart (state_after h s) rest → Told hart s (preceded (next_instant h s ∷ []) rest)
  one-told rest told =
      let first = one-retired in
      let more = told.retired in
      let parts = sum_by-cons (λ (j : Instant). once (is_counted Retired hart j)) (next_instant h s) rest.instants in
      record { retired = omega (arith, first, more, parts); harts = told.harts ∙ (acts-count h s own).harts }

slice-told : (count h hart : ℕ) (s : MachineState) → All (IsWithin (length s.harts)) (run_slice count h s).instants → Told hart s (run_slice count h s)
unfolding run_slice
slice-told zero h hart s within = nothing-told hart s
slice-told (suc count) h hart s within =
    elim (is_running (hart_of s h)) as (λ t. All (IsWithin (length s.harts)) (cond t (preceded (next_instant h s ∷ []) (run_slice count h (state_after h s))) (finished s)).instants
    → Told hart s (cond t (preceded (next_instant h s ∷ []) (run_slice count h (state_after h s))) (finished s))) [
      | true ↦ λ all.
          let rest : Run = run_slice count h (state_after h s) in
          let own : h < length s.harts = All-head (IsWithin (length s.harts)) (next_instant h s) rest.instants all in
          let left : All (IsWithin (length (state_after h s).harts)) rest.instants =
          subst (λ (n : ℕ). All (IsWithin n) rest.instants) (sym (acts-count h s own).harts) (All-tail (IsWithin (length s.harts)) (next_instant h s) rest.instants all) in
          one-told h hart s own rest (slice-told count h hart (state_after h s) left)
      | false ↦ λ all. nothing-told hart s
    ] within

slices-told : (slices : List Slice) (hart : ℕ) (s : MachineState) → All (IsWithin (length s.harts)) (run_slices slices s).instants → Told hart s (run_slices slices s)
unfolding run_slices
slices-told [] hart s within = nothing-told hart s
slices-told (slice ∷ slices) hart s within =
    let first : Run = run_slice slice.count slice.hart s in
    let rest : Run = run_slices slices first.final in
    let own = slice-told slice.count slice.hart hart s (left-part (IsWithin (length s.harts)) first.instants rest.instants within) in
    let left : All (IsWithin (length first.final.harts)) rest.instants =
    subst (λ (n : ℕ). All (IsWithin n) rest.instants) (sym own.harts) (right-part (IsWithin (length s.harts)) first.instants rest.instants within) in
    let more = slices-told slices hart first.final left in
    let one = own.retired in
    let two = more.retired in
    let parts = sum_by-append (λ (j : Instant). once (is_counted Retired hart j)) first.instants rest.instants in
    record { retired = omega (arith, one, two, parts); harts = more.harts ∙ own.harts }

-- ---- the law

pub retired-samples : (path_of : Paths) (period : ℕ) (slices : List Slice) (s : MachineState) (hart : ℕ) → 1 ≤ period → IsFresh s → hart < length s.harts
    → All (λ i. i.moment.hart < length s.harts) (run_slices slices s).instants
    → count_by (λ x. x.hart == hart) (samples path_of (retired_every period) (run_slices slices s).instants) ≡ (hart_of (run_slices slices s).final hart).retired / period
retired-samples path_of period slices s hart some fresh own within =
    let counted = all-steps path_of period some hart [] (run_slices slices s).instants in
    let none : retired_of hart [] / period ≡ 0 = zero-div period in
    let told = (slices-told slices hart s within).retired in
    let start = fresh.none hart in
    let same : (hart_of (run_slices slices s).final hart).retired ≡ retired_of hart (run_slices slices s).instants = omega (arith, told, start) in
    let quotient = ap (λ (n : ℕ). n / period) same in
    omega (arith, counted, none, quotient)
