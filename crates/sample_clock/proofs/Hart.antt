-- How many of one hart's instructions have an event.
use Rattle.std.proofs.Common.{◌≡◌, ◌≢◌, ℕ, ◌+◌, ◌&&◌, Bool, true, false, List, [], ◌∷◌, Option, Some, None, refl, sym, ap, ap₂, ◌∙◌}
use Rattle.std.specs.List.{AllByRecursion}
use Rattle.std.proofs.lemmas.Bool.{ne_eqb, eq-eqb}
use Rattle.std.proofs.lemmas.List.Sums.{sum_by-cons}
use Rattle.scope_types.specs.declared.event.Event.{Event}
use Rattle.scope_types.specs.declared.event.Event.TheVariants.{Retired, Loads, Stores, Taken}
use Rattle.rv_hart.specs.Events.{occurs}
use Rattle.rv_run.specs.Run.{Instant}
use Rattle.rv_run.specs.Progress.{counted_event, event_instants, instant_event, retired_in}
use Rattle.sample_clock.specs.Samples.{count_of, has_event, is_counted, is_of}
use Rattle.sample_clock.proofs.Following.{count-cons, once}

-- all are of this hart
abbrev pub AreOf : ℕ → List Instant → Type 0
AreOf hart all = AllByRecursion (λ i. i.moment.hart ≡ hart) all

occurs-once : (event : Event) (retired : Bool) (extra : Option Event) → event ≢ Retired → once (retired && is_of event extra) ≡ occurs event (counted_event retired extra)
occurs-once Retired retired extra other = absurd (other refl)
occurs-once Loads false extra other = refl
occurs-once Loads true None other = refl
occurs-once Loads true (Some e) other = refl
occurs-once Stores false extra other = refl
occurs-once Stores true None other = refl
occurs-once Stores true (Some e) other = refl
occurs-once Taken false extra other = refl
occurs-once Taken true None other = refl
occurs-once Taken true (Some e) other = refl

own-counted : (event : Event) (hart : ℕ) (i : Instant) → i.moment.hart ≡ hart → is_counted event hart i ≡ has_event event i
own-counted event hart i own = ap (λ (t : Bool). t && has_event event i) (eq-eqb i.moment.hart hart own)

pub count-extra : (event : Event) (hart : ℕ) (all : List Instant) → event ≢ Retired → AreOf hart all → count_of event hart all ≡ event_instants event all
count-extra event hart [] other own = refl
count-extra event hart (i ∷ all) other own =
    count-cons event hart i all
    ∙ ap₂ (λ (m n : ℕ). m + n) (ap (λ (t : Bool). once t) (own-counted event hart i own.0) ∙ occurs-once event i.moment.retired (instant_event i) other) (count-extra event hart all other own.1)
    ∙ sym (sum_by-cons (λ (j : Instant). occurs event (counted_event j.moment.retired (instant_event j))) i all)

retired-once : (retired : Bool) → once (retired && true) ≡ once retired
retired-once true = refl
retired-once false = refl

pub count-retired : (hart : ℕ) (all : List Instant) → AreOf hart all → count_of Retired hart all ≡ retired_in all
count-retired hart [] own = refl
count-retired hart (i ∷ all) own =
    count-cons Retired hart i all
    ∙ ap₂ (λ (m n : ℕ). m + n) (ap (λ (t : Bool). once t) (own-counted Retired hart i own.0) ∙ retired-once i.moment.retired) (count-retired hart all own.1)
    ∙ sym (sum_by-cons (λ (j : Instant). once j.moment.retired) i all)

-- no instruction of one hart is another's
pub count-other : (event : Event) (hart other : ℕ) (all : List Instant) → other ≢ hart → AreOf hart all → count_of event other all ≡ 0
count-other event hart other [] apart own = refl
count-other event hart other (i ∷ all) apart own =
    count-cons event other i all
    ∙ ap₂ (λ (m n : ℕ). m + n) (ap (λ (t : Bool). once (t && has_event event i)) (ne_eqb i.moment.hart other (λ e. apart (sym e ∙ own.0)))) (count-other event hart other all apart own.1)
