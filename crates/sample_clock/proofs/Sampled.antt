-- One instruction, where it is sampled, and where it does not retire.
use Rattle.std.proofs.Common.{◌≡◌, ◌≢◌, ℕ, ◌+◌, ◌%◌, ◌<◌, ◌==◌, ◌&&◌, Bool, true, false, cond, List, [], ◌∷◌, ◌++◌, length, map, filter, Option, Some, None, append-nil, refl, sym, ap, ap₂, subst, ◌∙◌, arith}
use Rattle.std.specs.Prelude.{option_to_list}
use Rattle.std.specs.List.{enumerate_from}
use Rattle.scope_types.specs.declared.event.EventPeriod.{EventPeriod}
use Rattle.scope_types.specs.Raw.{Raw}
use Rattle.rv_run.specs.Run.{Instant, instant}
use Rattle.rv_run.specs.State.{hart_of}
use Rattle.rv_run.specs.Progress.{instant_event, to_come}
use Rattle.sample_clock.specs.declared.clock.Sample.{Sample}
use Rattle.sample_clock.specs.declared.coming.Coming.{Coming}
use Rattle.sample_clock.specs.Samples.{Earlier, Paths, is_of, is_sampled, ordinal, placed, sample_of, sampled_places, samples_after, samples_at, words_of}
use Rattle.sample_clock.specs.Clock.{Sampling, earlier_of, samples_now, samples_to_come}
use Rattle.sample_clock.specs.private.Advance.{CarriedOut, IsComing, OneSampled, Quiet, coming_sample, coming_samples, first_place, first_sample, places_of, second_sample, with_pending}
use Rattle.sample_clock.proofs.Advancing.{come-passed, quiet-none}

-- ---- an instruction that did not retire is not sampled

module _ (f : Earlier) (i : Instant) (retired : i.moment.retired ≡ false) where
  none-sampled : (k : ℕ) (events : List EventPeriod) → filter (λ (e : ℕ × EventPeriod). is_sampled f (record { before = []; instant = i }) e.1) (enumerate_from k events) ≡ []
  none-sampled k [] = refl
  none-sampled k (e ∷ events) =
      ap (λ (t : Bool). cond t ((k, e) ∷ filter (λ (g : ℕ × EventPeriod). is_sampled f (record { before = []; instant = i }) g.1) (enumerate_from (k + 1) events)) (filter (λ (g : ℕ × EventPeriod). is_sampled f (record { before = []; instant = i }) g.1) (enumerate_from (k + 1) events)))
      (not-sampled e)
      ∙ none-sampled (k + 1) events
    where
      not-sampled : (g : EventPeriod) → is_sampled f (record { before = []; instant = i }) g ≡ false
      not-sampled g = ap (λ (t : Bool). (t && is_of g.event (instant_event i)) && (ordinal f g.event (record { before = []; instant = i }) % g.period == 0)) retired

  no-places : (events : List EventPeriod) → sampled_places f events (record { before = []; instant = i }) ≡ []
  no-places events = ap (map (λ (e : ℕ × EventPeriod). e.0)) (none-sampled 0 events)

one-after : (path_of : Paths) (f : Earlier) (events : List EventPeriod) (i : Instant) → samples_after path_of f events (i ∷ []) ≡ samples_at path_of f events (record { before = []; instant = i })
unfolding placed
one-after path_of f events i = append-nil (samples_at path_of f events (record { before = []; instant = i }))

-- the first of an instruction's samples, and the second if there is one
pub own-samples : (c : Coming) (path : Raw) → places_of c.is_retired_due c.place ≢ [] → coming_samples c path ≡ coming_sample c path (first_place c.is_retired_due c.place) ∷ option_to_list (second_sample c c.is_retired_due c.place path)
own-samples c path some = by-case c.is_retired_due c.place some
  where
    by-case : (due : Bool) (place : Option ℕ) → places_of due place ≢ [] → map (coming_sample c path) (places_of due place) ≡ coming_sample c path (first_place due place) ∷ option_to_list (second_sample c due place path)
    by-case true None is = refl
    by-case true (Some place) is = refl
    by-case false None is = absurd (is refl)
    by-case false (Some place) is = refl

module _ (path_of : Paths) (c : Coming) (old : Sampling) where
  pub unretired-quiet : (new : Sampling) → CarriedOut c false old new → (q : Quiet path_of old new) × (0 < length q.passed)
  unretired-quiet new carried =
      let quiet : Quiet path_of old new = record {
        passed = instant c.hart old.machine.state false ∷ [];
        passes = carried.passes;
        none = one-after path_of (earlier_of old) old.events (instant c.hart old.machine.state false) ∙ ap (map (sample_of path_of (instant c.hart old.machine.state false))) (no-places (earlier_of old) (instant c.hart old.machine.state false) refl old.events);
      } in
      (quiet, omega arith)

  -- ---- its samples, where it did

  module _ (coming : IsComing c old) (none : old.pending ≡ []) (middle : Sampling) (carried : CarriedOut c true old middle) (path : Raw) (is : path ≡ path_of c.pc (hart_of old.machine.state c.hart).registers (words_of old.machine.state.memory))
      (first : Sample) (second : Option Sample) (samples : coming_samples c path ≡ first ∷ option_to_list second) where
    each-own : (places : List ℕ) → map (sample_of path_of (instant c.hart old.machine.state true)) places ≡ map (coming_sample c path) places
    each-own [] = refl
    each-own (place ∷ places) = ap₂ (λ (s : Sample) (rest : List Sample). s ∷ rest) one (each-own places)
      where
        one : sample_of path_of (instant c.hart old.machine.state true) place ≡ coming_sample c path place
        one =
            ap₂ (λ (ordinal : ℕ) (raw : Raw). (let s : Sample = record { hart = c.hart; event = place; ordinal = ordinal; path = raw } in s)) (sym carried.ordinal_is)
            (ap (λ (pc : ℕ). path_of pc (hart_of old.machine.state c.hart).registers (words_of old.machine.state.memory)) (sym carried.pc_is) ∙ sym is)

    all-own : samples_at path_of (earlier_of old) old.events (record { before = []; instant = instant c.hart old.machine.state true }) ≡ first ∷ option_to_list second
    all-own = ap (map (sample_of path_of (instant c.hart old.machine.state true))) coming.places ∙ each-own (places_of c.is_retired_due c.place) ∙ samples

    come : samples_to_come path_of old ≡ first ∷ samples_to_come path_of (with_pending (option_to_list second) middle)
    come =
        ap (λ (pending : List Sample). pending ++ samples_now path_of old (to_come old.machine).instants) none
        ∙ come-passed path_of (instant c.hart old.machine.state true ∷ []) old middle carried.passes
        ∙ ap (λ (here : List Sample). here ++ samples_now path_of middle (to_come middle.machine).instants) (one-after path_of (earlier_of old) old.events (instant c.hart old.machine.state true) ∙ all-own)

    pub one-sampled : OneSampled path_of first old (with_pending (option_to_list second) middle)
    one-sampled = record {
      instant = instant c.hart old.machine.state true;
      run = carried.passes.run;
      sampled = λ absent. (let both : first ∷ option_to_list second ≡ [] = sym all-own ∙ absent in absurd cc);
      come = come;
      events = carried.passes.events;
      met = carried.passes.met;
    }

-- ---- its second sample is pending before it is carried out

carried-with : (c : Coming) (is_retired : Bool) (pending : List Sample) (old new : Sampling) → old.pending ≡ [] → CarriedOut c is_retired (with_pending pending old) new → CarriedOut c is_retired old (with_pending [] new)
carried-with c is_retired pending old new none carried = record {
  passes = record { run = carried.passes.run; counts = carried.passes.counts; events = carried.passes.events; pending = sym none; met = carried.passes.met };
  ordinal_is = carried.ordinal_is;
  pc_is = carried.pc_is;
}

pub kept-dropped : (path_of : Paths) (pending : List Sample) (old kept new after : Sampling) → old.pending ≡ [] → kept ≡ with_pending pending old → new ≡ kept → after ≡ with_pending [] new → Quiet path_of old after
kept-dropped path_of pending old kept new after none is same dropped =
    subst (Quiet path_of old) (sym (dropped ∙ ap (with_pending []) (same ∙ is) ∙ ap (λ (p : List Sample). with_pending p old) (sym none))) (quiet-none path_of old)

pub kept-unretired : (path_of : Paths) (c : Coming) (pending : List Sample) (old kept new after : Sampling) → old.pending ≡ [] → kept ≡ with_pending pending old → CarriedOut c false kept new → after ≡ with_pending [] new → (q : Quiet path_of old after) × (0 < length q.passed)
kept-unretired path_of c pending old kept new after none is carried dropped =
    subst (λ (s : Sampling). (q : Quiet path_of old s) × (0 < length q.passed)) (sym dropped)
    (unretired-quiet path_of c old (with_pending [] new) (carried-with c false pending old new none (subst (λ (s : Sampling). CarriedOut c false s new) is carried)))

pub kept-sampled : (path_of : Paths) (c : Coming) (path : Raw) (second : Option Sample) (old kept new : Sampling) → IsComing c old → old.pending ≡ [] → path ≡ path_of c.pc (hart_of old.machine.state c.hart).registers (words_of old.machine.state.memory) → places_of c.is_retired_due c.place ≢ [] → second ≡ second_sample c c.is_retired_due c.place path → kept ≡ with_pending (option_to_list second) old → CarriedOut c true kept new → OneSampled path_of (first_sample c path) old new
kept-sampled path_of c path second old kept new coming none is some second_is kept_is carried =
    (let own : CarriedOut c true (with_pending (option_to_list second) old) new = subst (λ (s : Sampling). CarriedOut c true s new) kept_is carried in
    subst (OneSampled path_of (first_sample c path) old) (ap (λ (p : List Sample). with_pending p new) (sym own.passes.pending))
    (one-sampled path_of c old coming none (with_pending [] new) (carried-with c true (option_to_list second) old new none own) path is (first_sample c path) second
    (own-samples c path some ∙ ap (λ (s : Option Sample). first_sample c path ∷ option_to_list s) (sym second_is))))
