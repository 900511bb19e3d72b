use Rattle.std.proofs.Common.{◌≡◌, ℕ, ◌+◌, ◌<◌, ◌≤◌, false, List, [], ◌∷◌, None, inl, inr, refl, arith}
use Rattle.std.specs.Prelude.{◌==◌, find}
use Rattle.std.proofs.lemmas.Bool.Decides.{nat_tests}
use Rattle.std.proofs.lemmas.Bool.{cases_lt}
use Rattle.eh_frame.specs.declared.known_eh_cie.KnownEhCie.{KnownEhCie}
use Rattle.eh_frame.proofs.known_eh_cie.cie_back.Goals as goal

far : (offset distance : ℕ) → (distance ≤ offset → ⊥) → offset < distance
far offset distance never = elim (cases_lt offset distance) [
  | inl lt ↦ lt
  | inr le ↦ absurd (never le)
]

none_far : (cies : List KnownEhCie) (offset distance : ℕ) → offset < distance → None ≡ find (λ cie. cie.offset + distance == offset) cies
none_far [] offset distance lt = refl
none_far (c ∷ cies) offset distance lt =
    let not_there : (c.offset + distance == offset) ≡ false = grind (arith, nat_tests) in
    rw not_there (none_far cies offset distance lt)

pub returns-in_default : goal.returns-in_default
returns-in_default c = none_far c.args.cies.now c.args.offset c.args.distance (far c.args.offset c.args.distance c.in_default.ensures)
