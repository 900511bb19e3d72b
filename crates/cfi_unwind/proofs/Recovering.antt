-- Registers that are recovered one after another.
use Rattle.std.proofs.Common.{◌≡◌, ℕ, ◌+◌, ◌<◌, Bool, true, false, cond, List, [], ◌∷◌, ◌++◌, length, take, map, get_or, set, Some, None, refl, sym, subst, ap, ap₂, ◌∙◌, arith}
use Rattle.std.specs.Prelude.{◌||◌}
use Rattle.std.specs.List.{list_any, range_with_len}
use Rattle.std.proofs.lemmas.List.{get_or_default, length-set, take_all, take_more_set}
use Rattle.std.proofs.lemmas.Option.{unwrap_or-slice_get}
use Rattle.std.proofs.lemmas.List.Folds.{list_any_more}
use Rattle.std.proofs.lemmas.List.FromFn.{map-range_with_len_more}
use Rattle.cfi_table.specs.declared.rules.Rule.{Rule}
use Rattle.cfi_table.specs.declared.rules.Rule.TheVariants as rules
use Rattle.cfi_table.specs.Rules.{rule_at}
use Rattle.cfi_unwind.specs.Caller.{Words, is_unmapped, recovered, recovered_all}

abbrev pub value_at : Words → List ℕ → ℕ → List Rule → ℕ → ℕ
value_at words registers cfa regs number = recovered words registers cfa (get_or registers number 0) (rule_at regs number)

-- those below a number are recovered, and each was kept or could be loaded
pub record Recovering (words : Words) (registers : List ℕ) (cfa : ℕ) (regs : List Rule) (number : ℕ) (values : List ℕ) : Type 0 where
  pub count : length values ≡ 32
  pub so_far : take number values ≡ map (value_at words registers cfa regs) (range_with_len 0 number)
  pub mapped : list_any (is_unmapped words cfa) (take number regs) ≡ false

pub given_by : {X : Type 0} (b : Bool) (x y : X) → Some y ≡ cond b None (Some x) → (b ≡ false) × (y ≡ x)
given_by true x y e = absurd cc
given_by false x y e = (refl, cc)

pub rule_here : (regs : List Rule) (number : ℕ) (d : Rule) → number < length regs → get_or regs number d ≡ rule_at regs number
rule_here regs number d lt = get_or_default regs number d rules.Kept lt ∙ sym (unwrap_or-slice_get regs number rules.Kept)

pub goes_on : (words : Words) (registers : List ℕ) (cfa : ℕ) (regs : List Rule) (number : ℕ) (values : List ℕ) (value : ℕ) (d : Rule) → number < 32 → length regs ≡ 32
    → Some value ≡ cond (is_unmapped words cfa (get_or regs number d)) None (Some (recovered words registers cfa (get_or registers number 0) (get_or regs number d)))
    → Recovering words registers cfa regs number values → Recovering words registers cfa regs (number + 1) (set values number value)
goes_on words registers cfa regs number values value d low rules_are made before =
    let short : number < length values = (let e = before.count in omega arith) in
    let few : number < length regs = omega arith in
    let given = given_by (is_unmapped words cfa (get_or regs number d)) (recovered words registers cfa (get_or registers number 0) (get_or regs number d)) value made in
    record {
      count = length-set values number value ∙ before.count;
      so_far =
          take_more_set values number value short
          ∙ ap₂ (λ (xs : List ℕ) (x : ℕ). xs ++ x ∷ []) before.so_far (given.1 ∙ ap (recovered words registers cfa (get_or registers number 0)) (rule_here regs number d few))
          ∙ sym (map-range_with_len_more (value_at words registers cfa regs) 0 number number (omega arith));
      mapped = list_any_more (is_unmapped words cfa) regs number d few ∙ ap₂ (λ (a b : Bool). a || b) before.mapped given.0;
    }

pub all_recovered : (words : Words) (registers : List ℕ) (cfa : ℕ) (regs : List Rule) (number : ℕ) (values : List ℕ) → number ≡ 32 → length regs ≡ 32
    → Recovering words registers cfa regs number values
    → Some values ≡ cond (list_any (is_unmapped words cfa) regs) None (Some (recovered_all words registers cfa regs))
unfolding recovered_all
all_recovered words registers cfa regs number values end rules_are so_far =
    let done : Recovering words registers cfa regs 32 values = subst (λ (n : ℕ). Recovering words registers cfa regs n values) end so_far in
    let mapped : list_any (is_unmapped words cfa) regs ≡ false = ap (list_any (is_unmapped words cfa)) (sym (take_all 32 regs (omega arith))) ∙ done.mapped in
    let made : values ≡ recovered_all words registers cfa regs = sym (take_all 32 values (let e = done.count in omega arith)) ∙ done.so_far in
    rw mapped (ap (λ (xs : List ℕ). Some xs) made)
