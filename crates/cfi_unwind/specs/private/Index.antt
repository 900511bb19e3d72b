-- Unwind rules that are made ready.
use Rattle.std.specs.Prelude.{◌≡◌, ◌⊎◌, ◌<◌, ◌≤◌, ◌+◌, ◌-◌, ◌*◌, ◌^◌, ℕ, List, length, get_or, slice_get, Option}
use Rattle.std.specs.Prelude.{Some, None, ◌/◌, ◌%◌, ◌==◌, ◌||◌, not, nat_lt, if◌then◌else◌}
use Rattle.std.specs.Option.{option_and_then}
use Rattle.cfi_table.specs.declared.rows.Row.{Row}
use Rattle.cfi_table.specs.declared.rules.Rules.{Rules}
use Rattle.cfi_unwind.specs.declared.unwind_rule.UnwindRule.{UnwindRule}
use Rattle.cfi_unwind.specs.declared.index.Index.{Index}
use Rattle.scope_types.specs.declared.frame.End.TheVariants.{Whole}
use Rattle.cfi_unwind.specs.declared.unwind_rule.UnwindRule.TheVariants.{Ends}
use Rattle.cfi_unwind.specs.Caller.{Words, Unwinding, caller_of}
use Rattle.cfi_unwind.specs.private.UnwindRules.{FollowsRules, unwound_by}

-- the unwind rule at the id follows the rules
pub record IsAt (unwind_rules : List UnwindRule) (id : ℕ) (found : Option Rules) : Type 0 where
  pub unwind_rule : UnwindRule
  pub has : slice_get unwind_rules id ≡ Some unwind_rule
  pub follows : FollowsRules unwind_rule found

-- each unwind rule keeps its id
abbrev pub KeepsRules : List UnwindRule → List UnwindRule → Type 0
KeepsRules unwind_rules after = (id : ℕ) (found : Option Rules) → IsAt unwind_rules id found → IsAt after id found

-- in place of an id, where no unwind rule is made ready
abbrev pub no_id : ℕ
no_id = 2 ^ 32 - 1

-- the unwind rule at the address of a word, where one is made ready
abbrev pub rule_in : Index → ℕ → Option UnwindRule
rule_in index pc =
    if not (pc % 4 == 0) || nat_lt (pc / 4) index.first then None
    else option_and_then (slice_get index.unwind_rules.items) (slice_get index.ids.items (pc / 4 - index.first))

-- no unwind rule is made ready, or the one at the id follows the rules
abbrev pub IsId : List UnwindRule → ℕ → Option Rules → Type 0
IsId unwind_rules id found = (id ≡ no_id) ⊎ IsAt unwind_rules id found

-- the ids from an address on are those of unwind rules that follow the rules there
abbrev pub AreIds : (ℕ → Option Rules) → ℕ → List ℕ → List UnwindRule → Type 0
AreIds rules first ids unwind_rules = (k : ℕ) → k < length ids
    → IsId unwind_rules (get_or ids k 0) (rules (4 * (first + k)))

-- the first unwind rule is that of addresses that no FDE holds
pub record IsIndexOf (rules : ℕ → Option Rules) (index : Index) : Type 0 where
  pub ids : AreIds rules index.first index.ids.items index.unwind_rules.items
  pub nowhere : 0 < length index.ids.items → IsAt index.unwind_rules.items 0 None
  pub few : length index.unwind_rules.items ≤ 2 ^ 20

-- it stays an index
abbrev pub KeepsIndex : (ℕ → Option Rules) → Index → Index → Type 0
KeepsIndex rules index after = IsIndexOf rules index → IsIndexOf rules after

-- the rules are those at the row's addresses
abbrev pub IsRowIn : (ℕ → Option Rules) → Row → Option Rules → Type 0
IsRowIn rules row found = (address : ℕ) → row.start ≤ address → address < row.end → rules address ≡ found

-- the ids from one up to another are the same, and the others stay
pub record IsFilled (before after : List ℕ) (low high id : ℕ) : Type 0 where
  pub as_many : length after ≡ length before
  pub inside : (k : ℕ) → low ≤ k → k < high → get_or after k 0 ≡ id
  pub below : (k : ℕ) → k < low → get_or after k 0 ≡ get_or before k 0
  pub above : (k : ℕ) → high ≤ k → get_or after k 0 ≡ get_or before k 0

-- the unwind rule at the id ends the path whole
abbrev pub EndsWhole : List UnwindRule → ℕ → Type 0
EndsWhole unwind_rules id = slice_get unwind_rules id ≡ Some (Ends Whole)

-- the unwind rule finds the caller of every activation at an address
abbrev pub FindsCallers : Unwinding → ℕ → UnwindRule → Type 0
FindsCallers u pc unwind_rule = (words : Words) (registers : List ℕ) → length registers ≡ 32
    → unwound_by words registers unwind_rule ≡ caller_of u words (record { pc = pc; registers = registers })

-- the unwind rule at the id does
pub record IsFinding (u : Unwinding) (pc : ℕ) (unwind_rules : List UnwindRule) (id : ℕ) : Type 0 where
  pub unwind_rule : UnwindRule
  pub has : slice_get unwind_rules id ≡ Some unwind_rule
  pub finds : FindsCallers u pc unwind_rule

-- the ids are those of unwind rules that find the callers at their addresses
pub record IsReady (u : Unwinding) (index : Index) : Type 0 where
  pub few : length index.unwind_rules.items ≤ 2 ^ 20
  pub ids : (k : ℕ) → k < length index.ids.items → (get_or index.ids.items k 0 ≡ no_id)
      ⊎ IsFinding u (4 * (index.first + k)) index.unwind_rules.items (get_or index.ids.items k 0)
