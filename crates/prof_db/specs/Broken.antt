-- The first of several places at which a rule of this project's format (docs/FORMATS.md, Database) is broken.
use Rattle.std.specs.Prelude.{ℕ, zero, suc, ◌+◌, Bool, Result, Ok, Err, if◌then◌else◌}
use Rattle.prof_db.specs.declared.fault.DbFault.{DbFault}
use Rattle.prof_db.specs.Fields.{fault}

-- nothing is broken, or the first fault
abbrev pub RuleCheck : Type 0
RuleCheck = Result (Unit {0}) DbFault

-- of `n` places from number `i` on, the offset of the first at which the rule is broken
unfoldable pub first_broken : ℕ → (ℕ → Bool) → (ℕ → ℕ) → ℕ → ℕ → RuleCheck
first_broken rule is_broken offset i zero = Ok tt
first_broken rule is_broken offset i (suc n) = if is_broken i then Err (fault rule (offset i))
    else first_broken rule is_broken offset (i + 1) n
