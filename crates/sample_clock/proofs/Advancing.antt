-- The samples that are to come, while the machine goes on.
use Rattle.std.proofs.Common.{◌≡◌, ◌≢◌, inl, ℕ, suc, ◌+◌, ◌%◌, ◌≤◌, ◌<◌, List, [], ◌∷◌, ◌++◌, length, length-append, map, Option, Some, None, Result, Ok, Err, IsErr, IsErrAnd, refl, sym, ap, ap₂, subst, ◌∙◌, arith}
use Rattle.std.specs.Prelude.{option_to_list}
use Rattle.std.specs.List.{AllByRecursion}
use Rattle.prof_bytes.specs.declared.fail.Fail.{Fail}
use Rattle.prof_bytes.specs.declared.fail.Fail.TheVariants as fails
use Rattle.prof_bytes.specs.declared.fail.Memory.{Memory}
use Rattle.scope_types.specs.Limits.{most_samples}
use Rattle.scope_types.specs.declared.event.EventPeriod.{EventPeriod}
use Rattle.scope_types.specs.Raw.{Raw}
use Rattle.rv_run.specs.Run.{Instant, Run, finished, preceded}
use Rattle.rv_run.specs.Progress.{to_come}
use Rattle.rv_run.proofs.Passing.{preceded-twice}
use Rattle.sample_clock.specs.declared.clock.Advance.{Advance}
use Rattle.sample_clock.specs.declared.clock.Sample.{Sample}
use Rattle.sample_clock.specs.declared.coming.Coming.{Coming}
use Rattle.sample_clock.specs.declared.clock.TooManySamples.{TooManySamples}
use Rattle.sample_clock.specs.Samples.{Earlier, Paths, count_of, placed, sample_of, samples_after, samples_at}
use Rattle.sample_clock.specs.Clock.{AnswersNext, AreTooMany, IsOver, MeetsSample, Met, NoneLost, Reaches, Sampling, Unsampled, earlier_of, samples_now, samples_to_come}
use Rattle.sample_clock.specs.private.Advance.{Advances, Ended, IsComing, IsMet, IsSampledNext, NoneMet, OneSampled, Passes, Quiet, SamplesNext, with_one_met, with_pending}
use Rattle.sample_clock.proofs.Following.{Same, count-append, mod-plus, places-same, samples-passed}

-- ---- counts that go on

-- the same of any counts
abbrev More : Earlier → List Instant → Earlier → EventPeriod → Type 0
More f passed g e = (hart : ℕ) → (f e.event hart + count_of e.event hart passed) % e.period ≡ g e.event hart % e.period

none-more : (g : Earlier) (e : EventPeriod) (hart : ℕ) → g e.event hart + count_of e.event hart [] ≡ g e.event hart
none-more g e hart = (let none : count_of e.event hart [] ≡ 0 = refl in omega (arith, none))

pub all-same : (f g : Earlier) (passed : List Instant) (events : List EventPeriod) → AllByRecursion (More f passed g) events → AllByRecursion (Same f passed g []) events
all-same f g passed [] more = more
all-same f g passed (e ∷ events) more = (λ hart. more.0 hart ∙ ap (λ (n : ℕ). n % e.period) (sym (none-more g e hart)), all-same f g passed events more.1)

all-none : (f : Earlier) (events : List EventPeriod) → AllByRecursion (More f [] f) events
all-none f [] = tt
all-none f (e ∷ events) = (λ hart. ap (λ (n : ℕ). n % e.period) (none-more f e hart), all-none f events)

all-twice : (f g h : Earlier) (xs ys : List Instant) (events : List EventPeriod) → AllByRecursion (More f xs g) events → AllByRecursion (More g ys h) events → AllByRecursion (More f (xs ++ ys) h) events
all-twice f g h xs ys [] was now = was
all-twice f g h xs ys (e ∷ events) was now = (
  λ hart.
      let both : f e.event hart + count_of e.event hart (xs ++ ys) ≡ f e.event hart + count_of e.event hart xs + count_of e.event hart ys =
      (let c = count-append e.event hart xs ys in omega (arith, c)) in
      ap (λ (n : ℕ). n % e.period) both
      ∙ mod-plus (f e.event hart + count_of e.event hart xs) (g e.event hart) (count_of e.event hart ys) e.period (was.0 hart)
      ∙ now.0 hart,
  all-twice f g h xs ys events was.1 now.1,
)

-- ---- instructions of which none is sampled

module _ (path_of : Paths) where
  after-events : (g : Earlier) (events other : List EventPeriod) (xs : List Instant) → other ≡ events → samples_after path_of g events xs ≡ samples_after path_of g other xs
  after-events g events other xs same = ap (λ (es : List EventPeriod). samples_after path_of g es xs) (sym same)

  pub now-passed : (passed ys : List Instant) (old new : Sampling) → Passes passed old new → samples_now path_of old (passed ++ ys) ≡ samples_now path_of old passed ++ samples_now path_of new ys
  now-passed passed ys old new passes =
      samples-passed path_of (earlier_of old) (earlier_of new) old.events passed ys (all-same (earlier_of old) (earlier_of new) passed old.events passes.counts)
      ∙ ap (λ (rest : List Sample). samples_now path_of old passed ++ rest) (after-events (earlier_of new) old.events new.events ys passes.events)

  pub come-passed : (passed : List Instant) (old new : Sampling) → Passes passed old new → samples_now path_of old (to_come old.machine).instants ≡ samples_now path_of old passed ++ samples_now path_of new (to_come new.machine).instants
  come-passed passed old new passes =
      ap (λ (r : Run). samples_now path_of old r.instants) passes.run ∙ now-passed passed (to_come new.machine).instants old new passes

  pub quiet-come : (old new : Sampling) → Quiet path_of old new → samples_to_come path_of old ≡ samples_to_come path_of new
  quiet-come old new quiet =
      ap₂ (λ (a b : List Sample). a ++ b) (sym quiet.passes.pending)
      (come-passed quiet.passed old new quiet.passes ∙ ap (λ (none : List Sample). none ++ samples_now path_of new (to_come new.machine).instants) quiet.none)

  pub quiet-none : (s : Sampling) → Quiet path_of s s
  unfolding placed
  quiet-none s = record {
    passed = [];
    passes = record { run = refl; counts = all-none (earlier_of s) s.events; events = refl; pending = refl; met = refl };
    none = refl;
  }

  passes-twice : (xs ys : List Instant) (a b c : Sampling) → Passes xs a b → Passes ys b c → Passes (xs ++ ys) a c
  passes-twice xs ys a b c was now = record {
    run = was.run ∙ ap (preceded xs) now.run ∙ preceded-twice xs ys (to_come c.machine);
    counts = all-twice (earlier_of a) (earlier_of b) (earlier_of c) xs ys a.events was.counts (subst (AllByRecursion (More (earlier_of b) ys (earlier_of c))) was.events now.counts);
    events = now.events ∙ was.events;
    pending = now.pending ∙ was.pending;
    met = now.met ∙ was.met;
  }

  pub quiet-twice : (a b c : Sampling) → Quiet path_of a b → Quiet path_of b c → Quiet path_of a c
  quiet-twice a b c was now = record {
    passed = was.passed ++ now.passed;
    passes = passes-twice was.passed now.passed a b c was.passes now.passes;
    none = now-passed was.passed now.passed a b was.passes ∙ ap₂ (λ (x y : List Sample). x ++ y) was.none now.none;
  }

  pub quiet-unsampled : (old new : Sampling) → Quiet path_of old new → Unsampled path_of old new
  quiet-unsampled old new quiet = record { passed = quiet.passed; run = quiet.passes.run; none = quiet.none; events = quiet.passes.events }

  pub none-met-more : (a b c : Sampling) → NoneMet path_of a b → Quiet path_of b c → NoneMet path_of a c
  none-met-more a b c was now = record { quiet = quiet-twice a b c was.quiet now; pending = was.pending; few = was.few }

  pub quiet-shorter : (old new : Sampling) (quiet : Quiet path_of old new) → 0 < length quiet.passed → length (to_come new.machine).instants < length (to_come old.machine).instants
  quiet-shorter old new quiet some =
      let all : length (to_come old.machine).instants ≡ length (quiet.passed ++ (to_come new.machine).instants) = ap (λ (r : Run). length r.instants) quiet.passes.run in
      let both = length-append quiet.passed (to_come new.machine).instants in
      omega (arith, all, both, some)

  -- memory ran out
  pub broke : (answer : Result Advance Memory) (old new : Sampling) → IsErr answer → Quiet path_of old new → Advances path_of answer old new
  broke (Ok advance) old new is quiet = absurd cc
  broke (Err memory) old new is quiet = quiet

  pub broke-next : (c : Coming) (answer : Result (Option Raw) Memory) (old new : Sampling) → IsErr answer → Quiet path_of old new → SamplesNext path_of c answer old new
  broke-next c (Ok path) old new is quiet = absurd cc
  broke-next c (Err memory) old new is quiet = quiet

  -- an instruction is next that is sampled if it retires
  pub none-met-at : (c : Coming) (a b next : Sampling) → NoneMet path_of a b → IsSampledNext c b next → NoneMet path_of a next
  none-met-at c a b next was is = subst (NoneMet path_of a) (sym is.same) was

  pub coming-at : (c : Coming) (b next : Sampling) → IsSampledNext c b next → IsComing c next
  coming-at c b next is = subst (IsComing c) (sym is.same) is.coming

  pub none-pending : (a b : Sampling) → NoneMet path_of a b → b.pending ≡ []
  none-pending a b was = was.quiet.passes.pending ∙ was.pending

  -- ---- the answers

  pub over-met : (a b c : Sampling) → NoneMet path_of a b → Ended b c → IsOver path_of a c
  unfolding placed
  over-met a b c was ended =
      let none : samples_now path_of b (to_come b.machine).instants ≡ [] = ap (λ (r : Run). samples_now path_of b r.instants) ended.ended in
      let pending : b.pending ≡ [] = was.quiet.passes.pending ∙ was.pending in
      record {
        none = quiet-come a b was.quiet ∙ ap₂ (λ (x y : List Sample). x ++ y) pending none;
        ended = subst (λ (s : Sampling). to_come s.machine ≡ finished s.machine.state) (sym ended.same) ended.ended;
        met = ap (λ (s : Sampling). s.met) ended.same ∙ was.quiet.passes.met;
        few = was.few;
      }

  pub end-reached : (a b c : Sampling) → NoneMet path_of a b → Ended b c → Unsampled path_of a c
  end-reached a b c was ended = subst (Unsampled path_of a) (sym ended.same) (quiet-unsampled a b was.quiet)

  pub broken-lost : (a b c : Sampling) → NoneMet path_of a b → Quiet path_of b c → NoneLost path_of a c
  broken-lost a b c was now =
      let all = quiet-twice a b c was.quiet now in
      record { to_come = sym (quiet-come a c all); met = all.passes.met; few = was.few }

  pub broken-reached : (a b c : Sampling) → NoneMet path_of a b → Quiet path_of b c → Unsampled path_of a c
  broken-reached a b c was now = quiet-unsampled a c (quiet-twice a b c was.quiet now)

  -- the sample of an instruction that is carried out
  pub come-met : (sample : Sample) (a b c : Sampling) → NoneMet path_of a b → OneSampled path_of sample b c → samples_to_come path_of a ≡ sample ∷ samples_to_come path_of c
  come-met sample a b c was one = quiet-come a b was.quiet ∙ one.come

  pub met-after : (sample : Sample) (a b c : Sampling) → NoneMet path_of a b → OneSampled path_of sample b c → Met path_of a c
  met-after sample a b c was one =
      let passes : Passes was.quiet.passed a b = was.quiet.passes in
      let same : samples_at path_of (earlier_of a) a.events (record { before = was.quiet.passed; instant = one.instant }) ≡ samples_at path_of (earlier_of b) b.events (record { before = []; instant = one.instant }) =
      ap (λ (places : List ℕ). mapped places one.instant) (places-same (earlier_of a) (earlier_of b) was.quiet.passed [] one.instant a.events (all-same (earlier_of a) (earlier_of b) was.quiet.passed a.events passes.counts))
      ∙ ap (λ (events : List EventPeriod). samples_at path_of (earlier_of b) events (record { before = []; instant = one.instant })) (sym passes.events) in
      record {
        passed = was.quiet.passed;
        instant = one.instant;
        run = passes.run ∙ ap (preceded was.quiet.passed) one.run;
        none = was.quiet.none;
        sampled = λ none. one.sampled (sym same ∙ none);
        events = one.events ∙ passes.events;
      }
    where
      mapped : List ℕ → Instant → List Sample
      mapped places i = map (sample_of path_of i) places

  pub answer-met : (sample : Sample) (answer : Result (Option Sample) (Fail TooManySamples)) (a c new : Sampling) → samples_to_come path_of a ≡ sample ∷ samples_to_come path_of c → c.met ≡ a.met → IsMet sample answer new → new ≡ with_one_met c
      → AnswersNext path_of answer a new
  answer-met sample (Ok (Some given)) a c new come met is now =
      record {
        to_come = come ∙ ap₂ (λ (s : Sample) (rest : List Sample). s ∷ rest) (sym is.0) (ap (samples_to_come path_of) (sym now));
        met = ap (λ (s : Sampling). s.met) now ∙ ap (λ (n : ℕ). n + 1) met;
        few = is.1;
      }
  answer-met sample (Ok None) a c new come met is now = absurd is
  answer-met sample (Err (fails.Fault fault)) a c new come met is now =
      let one : new.met ≡ c.met + 1 = ap (λ (s : Sampling). s.met) now in
      let long : length (samples_to_come path_of a) ≡ suc (length (samples_to_come path_of c)) = ap (λ (all : List Sample). length all) come in
      let same : length (samples_to_come path_of new) ≡ length (samples_to_come path_of c) = ap (λ (s : Sampling). length (samples_to_come path_of s)) now in
      record { full = omega (arith, one, met, is); over = is; all = omega (arith, one, met, long, same) }
  answer-met sample (Err (fails.Memory memory)) a c new come met is now = absurd is

  -- the sample that is pending
  pub pending-given : (given : Option Sample) (old new : Sampling) → old.pending ≡ option_to_list given → old.pending ≢ [] → new ≡ with_one_met (with_pending [] old) → new.met ≤ most_samples → AnswersNext path_of (Ok given) old new
  pending-given None old new is some now few = absurd (some is)
  pending-given (Some sample) old new is some now few =
      answer-met sample (Ok (Some sample)) old (with_pending [] old) new (ap (λ (pending : List Sample). pending ++ samples_now path_of old (to_come old.machine).instants) is) refl (refl, few) now

  pub pending-over : (given : Option Sample) (fault : TooManySamples) (old new : Sampling) → old.pending ≡ option_to_list given → old.pending ≢ [] → new ≡ with_one_met (with_pending [] old) → new.met ≡ most_samples + 1 → AreTooMany path_of old new
  pending-over None fault old new is some now over = absurd (some is)
  pending-over (Some sample) fault old new is some now over =
      answer-met sample (Err (fails.Fault fault)) old (with_pending [] old) new (ap (λ (pending : List Sample). pending ++ samples_now path_of old (to_come old.machine).instants) is) refl over now

  pub reach-met : (sample : Sample) (answer : Result (Option Sample) (Fail TooManySamples)) (a new : Sampling) → MeetsSample path_of a new → IsMet sample answer new → Reaches path_of answer a new
  reach-met sample (Ok (Some given)) a new meets is = meets
  reach-met sample (Ok None) a new meets is = absurd is
  reach-met sample (Err (fails.Fault fault)) a new meets is = inl meets
  reach-met sample (Err (fails.Memory memory)) a new meets is = absurd is

  met-one : (a x new : Sampling) → Met path_of a x → new ≡ with_one_met x → Met path_of a new
  met-one a x new met is =
      subst (Met path_of a) (sym is)
      (record { passed = met.passed; instant = met.instant; run = met.run; none = met.none; sampled = met.sampled; events = met.events })

  pub sampled-reached : (sample : Sample) (answer : Result (Option Sample) (Fail TooManySamples)) (a b c new : Sampling) → NoneMet path_of a b → OneSampled path_of sample b c → IsMet sample answer new → new ≡ with_one_met c → Reaches path_of answer a new
  sampled-reached sample answer a b c new was one is now = reach-met sample answer a new (inl (met-one a c new (met-after sample a b c was one) now)) is

  -- memory ran out
  pub lost-answer : (answer : Result (Option Sample) (Fail TooManySamples)) (memory : Memory) (old new : Sampling) → IsErrAnd answer (λ fail. fail ≡ fails.Memory memory) → NoneLost path_of old new → AnswersNext path_of answer old new
  lost-answer (Ok sample) memory old new is lost = absurd is
  lost-answer (Err (fails.Fault fault)) memory old new is lost = absurd cc
  lost-answer (Err (fails.Memory other)) memory old new is lost = lost

  pub lost-reached : (answer : Result (Option Sample) (Fail TooManySamples)) (memory : Memory) (old new : Sampling) → IsErrAnd answer (λ fail. fail ≡ fails.Memory memory) → Unsampled path_of old new → Reaches path_of answer old new
  lost-reached (Ok sample) memory old new is lost = absurd is
  lost-reached (Err (fails.Fault fault)) memory old new is lost = absurd cc
  lost-reached (Err (fails.Memory other)) memory old new is lost = lost

  -- ---- the end of the run stays the same

  quiet-last : (old new : Sampling) → Quiet path_of old new → (to_come new.machine).final ≡ (to_come old.machine).final
  quiet-last old new quiet = sym (ap (λ (r : Run). r.final) quiet.passes.run)

  pub broken-last : (a b c : Sampling) → NoneMet path_of a b → Quiet path_of b c → (to_come c.machine).final ≡ (to_come a.machine).final
  broken-last a b c was now = quiet-last b c now ∙ quiet-last a b was.quiet

  pub ended-last : (a b c : Sampling) → NoneMet path_of a b → Ended b c → (to_come c.machine).final ≡ (to_come a.machine).final
  ended-last a b c was ended = ap (λ (s : Sampling). (to_come s.machine).final) ended.same ∙ quiet-last a b was.quiet

  pub sampled-last : (sample : Sample) (a b c new : Sampling) → NoneMet path_of a b → OneSampled path_of sample b c → new ≡ with_one_met c → (to_come new.machine).final ≡ (to_come a.machine).final
  sampled-last sample a b c new was one now = ap (λ (s : Sampling). (to_come s.machine).final) now ∙ sym (ap (λ (r : Run). r.final) one.run) ∙ quiet-last a b was.quiet

  pub sampled-few : (sample : Sample) (a b c : Sampling) → NoneMet path_of a b → OneSampled path_of sample b c → c.met ≤ most_samples
  sampled-few sample a b c was one = (let few = was.few in let now = one.met in let kept = was.quiet.passes.met in omega (arith, few, now, kept))

  pub sampled-answer : (sample : Sample) (answer : Result (Option Sample) (Fail TooManySamples)) (a b c new : Sampling) → NoneMet path_of a b → OneSampled path_of sample b c → IsMet sample answer new → new ≡ with_one_met c → AnswersNext path_of answer a new
  sampled-answer sample answer a b c new was one is now = answer-met sample answer a c new (come-met sample a b c was one) (one.met ∙ was.quiet.passes.met) is now
