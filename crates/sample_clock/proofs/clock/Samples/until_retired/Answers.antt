use Rattle.std.proofs.Common.{◌≡◌, ◌<◌, ◌+◌, ◌-◌, ◌^◌, ℕ, Fits, w32, Option, Some, get_or, length, rules, sym, subst, arith}
use Rattle.rv_run.specs.State.{hart_of}
use Rattle.sample_clock.specs.Clock.{Sampling}
use Rattle.sample_clock.specs.private.Countdown.{IsClock, IsUntil}
use Rattle.sample_clock.proofs.Clocks.{until-is, until-least}
use Rattle.sample_clock.proofs.clock.Samples.until_retired.Goals as goal

word-fits : (n : ℕ) → n < 2 ^ 32 → Fits w32 n
word-fits n less = search rules

module _ (c : goal.In-Some) where
  within : c.args.hart < length c.self.inside.machine.state.harts
  within = subst (λ (s : Sampling). c.args.hart < length s.machine.state.harts) (sym c.self.view_is) c.requires.hart

  ordinal : c.args.ordinal ≡ (hart_of c.self.inside.machine.state c.args.hart).retired + 1
  ordinal = subst (λ (s : Sampling). c.args.ordinal ≡ (hart_of s.machine.state c.args.hart).retired + 1) (sym c.self.view_is) c.requires.ordinal

  clock : IsClock c.self.inside.machine.state c.self.inside.events.items (Some c.in-Some.field-0) c.self.inside.is_alone c.self.inside.full c.self.inside.next c.self.inside.left
  clock = subst (λ (o : Option ℕ). IsClock c.self.inside.machine.state c.self.inside.events.items o c.self.inside.is_alone c.self.inside.full c.self.inside.next c.self.inside.left) c.in-Some.is c.self.invariant.0

pub bounds-self-inside-hart : goal.bounds-self-inside-hart
bounds-self-inside-hart c = (let lt = within c in let few = c.self.invariant.0.few in omega (arith, lt, few))

pub overflow_sub-result : goal.overflow_sub-result
overflow_sub-result c = (until-least c.self.inside.machine.state c.self.inside.events.items c.self.inside.is_alone c.self.inside.full c.self.inside.next c.self.inside.left c.args.hart c.args.ordinal c.in-Some.field-0 (clock c.before) (within c.before) (ordinal c.before)).0

pub overflow_cast-result-in-Some : goal.overflow_cast-result-in-Some
overflow_cast-result-in-Some c =
    word-fits (get_or c.self.inside.next c.args.hart 0 - c.args.ordinal) (until-least c.self.inside.machine.state c.self.inside.events.items c.self.inside.is_alone c.self.inside.full c.self.inside.next c.self.inside.left c.args.hart c.args.ordinal c.in-Some.field-0 (clock c.before) (within c.before) (ordinal c.before)).1

pub returns-in-Some : goal.returns-in-Some
returns-in-Some c =
    subst (λ (s : Sampling). IsUntil s.events c.args.ordinal (get_or c.self.inside.next c.args.hart 0 - c.args.ordinal)) c.self.view_is
    (until-is c.self.inside.machine.state c.self.inside.events.items c.self.inside.is_alone c.self.inside.full c.self.inside.next c.self.inside.left c.args.hart c.args.ordinal c.in-Some.field-0 (clock c.before) (within c.before) (ordinal c.before))
