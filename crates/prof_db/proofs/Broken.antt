-- A place that is broken, or is not.
use Rattle.prof_db.specs.declared.fault.DbFault.{DbFault}
use Rattle.prof_db.specs.Broken.{RuleCheck}
use Rattle.std.proofs.Common.{Err, ◌≡◌, ◌||◌, ◌&&◌, not, Bool, sym, ◌∙◌}

pub broken_is : (b w u wrong used : Bool) → b ≡ (w || not u) → w ≡ wrong → u ≡ used → (wrong || not used) ≡ b
broken_is b w u wrong used is wrong_is used_is = (λ i. sym wrong_is i || not (sym used_is i)) ∙ sym is

pub either_is : (b s u statement used : Bool) → b ≡ (s || u) → s ≡ statement → u ≡ used → b ≡ (statement || used)
either_is b s u statement used is statement_is used_is = is ∙ (λ i. statement_is i || used_is i)

pub lacking_is : (b s u statement used : Bool) → b ≡ (s && not u) → s ≡ statement → u ≡ used → (statement && not used) ≡ b
lacking_is b s u statement used is statement_is used_is = (λ i. sym statement_is i && not (sym used_is i)) ∙ sym is

abbrev pub failed : DbFault → RuleCheck
failed found = Err found
