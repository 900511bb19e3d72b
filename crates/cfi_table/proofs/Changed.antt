-- Registers to which a rule was given, as bits.
use Rattle.std.proofs.Common.{◌≡◌, ℕ, ◌+◌, ◌*◌, ◌-◌, ◌/◌, ◌%◌, ◌^◌, ◌<◌, ◌≤◌, List, length, get_or, inl, inr, sym, subst, ap, ◌∙◌, arith}
use Rattle.std.specs.Prelude.{◌⊎◌, ◌≢◌}
use Rattle.std.specs.Int.{w32, bit_at, bit_not, trailing_zeros}
use Rattle.std.specs.Int.Bits.{bit_and, bit_or}
use Rattle.std.specs.List.{slice_set}
use Rattle.std.proofs.lemmas.Bool.{cases_lt}
use Rattle.std.proofs.lemmas.List.{get_or-replicate, get_or-set_same, get_or-set_other, get_or_past, length-replicate, length-set}
use Rattle.std.proofs.lemmas.Nat.{pow-add}
use Rattle.std.proofs.lemmas.Nat.Bits.{bit_at-zero, bit_at_above, bit_at_ones, bit_at_set_same, bit_at_set_other, bit_at_clear_other, bit_at-trailing_zeros}
use Rattle.std.proofs.lemmas.Option.{unwrap_or-slice_get}
use Rattle.std.proofs.Math.Nat.{div-div-eq-div-mul, div-le_self}
use Rattle.cfi_table.specs.declared.rules.Rule.{Rule}
use Rattle.cfi_table.specs.declared.rules.Rule.TheVariants as rules
use Rattle.cfi_table.specs.Rules.{rule_at, all_same_value, AreSameValue}
use Rattle.cfi_table.specs.private.Changed.{AreChanged}

rule_here : (regs : List Rule) (register : ℕ) → rule_at regs register ≡ get_or regs register rules.Kept
rule_here regs register = unwrap_or-slice_get regs register rules.Kept

-- no register above 31 has another rule
past : (regs : List Rule) (register : ℕ) → length regs ≡ 32 → 32 ≤ register → rule_at regs register ≡ rules.Kept
past regs register all above = rule_here regs register ∙ get_or_past regs register rules.Kept (omega arith)

pub none_changed : AreChanged 0 all_same_value
none_changed = record { all = length-replicate 32 rules.Kept; others = λ register none. go register (cases_lt register 32) }
  where
    go : (register : ℕ) → (register < 32) ⊎ (32 ≤ register) → rule_at all_same_value register ≡ rules.Kept
    go register (inl low) = rule_here all_same_value register ∙ get_or-replicate 32 register rules.Kept rules.Kept low
    go register (inr above) = past all_same_value register (length-replicate 32 rules.Kept) above

pub all_changed : (regs : List Rule) → length regs ≡ 32 → AreChanged (2 ^ 32 - 1) regs
all_changed regs all = record { all = all; others = λ register none. go register none (cases_lt register 32) }
  where
    go : (register : ℕ) → bit_at (2 ^ 32 - 1) register ≡ 0 → (register < 32) ⊎ (32 ≤ register) → rule_at regs register ≡ rules.Kept
    go register none (inl low) = (let set : bit_at (2 ^ 32 - 1) register ≡ 1 = bit_at_ones 32 register low in absurd (omega (arith, set, none)))
    go register none (inr above) = past regs register all above

-- a register to which a rule is given
pub changes : (changed : ℕ) (regs : List Rule) (register : ℕ) (rule : Rule) → register < 32 → AreChanged changed regs → AreChanged (bit_or changed (1 * 2 ^ register % 2 ^ 32)) (slice_set regs register rule)
changes changed regs register rule low are = record {
  all = length-set regs register rule ∙ are.all;
  others = λ number none. go number none (cases_lt number register) (cases_lt register number);
}
  where
    other : (number : ℕ) → bit_at (bit_or changed (1 * 2 ^ register % 2 ^ 32)) number ≡ 0 → number ≢ register → rule_at (slice_set regs register rule) number ≡ rules.Kept
    other number none ne =
        rule_here (slice_set regs register rule) number
        ∙ get_or-set_other regs register number rule rules.Kept ne
        ∙ sym (rule_here regs number)
        ∙ are.others number (sym (bit_at_set_other w32 changed register low number ne) ∙ none)

    go : (number : ℕ) → bit_at (bit_or changed (1 * 2 ^ register % 2 ^ 32)) number ≡ 0 → (number < register) ⊎ (register ≤ number) → (register < number) ⊎ (number ≤ register) → rule_at (slice_set regs register rule) number ≡ rules.Kept
    go number none (inl under) side = other number none (λ e. omega arith)
    go number none (inr from) (inl over) = other number none (λ e. omega arith)
    go number none (inr from) (inr to) =
        let same : number ≡ register = omega arith in
        let set : bit_at (bit_or changed (1 * 2 ^ register % 2 ^ 32)) register ≡ 1 = bit_at_set_same w32 changed register low in
        let clear : bit_at (bit_or changed (1 * 2 ^ register % 2 ^ 32)) register ≡ 0 = subst (λ (n : ℕ). bit_at (bit_or changed (1 * 2 ^ register % 2 ^ 32)) n ≡ 0) same none in
        absurd (omega (arith, set, clear))

-- a register that is the same value again
pub changes_back : (changed : ℕ) (regs : List Rule) (register : ℕ) → register < 32 → AreChanged changed regs
    → AreChanged (bit_and changed (bit_not w32 (1 * 2 ^ register % 2 ^ 32))) (slice_set regs register rules.Kept)
changes_back changed regs register low are =
    let all = are.all in
    record {
      all = length-set regs register rules.Kept ∙ are.all;
      others = λ number none. rule_here (slice_set regs register rules.Kept) number ∙ go number none (cases_lt number register) (cases_lt register number);
    }
  where
    other : (number : ℕ) → bit_at (bit_and changed (bit_not w32 (1 * 2 ^ register % 2 ^ 32))) number ≡ 0 → number ≢ register → (number < 32) ⊎ (32 ≤ number) → get_or (slice_set regs register rules.Kept) number rules.Kept ≡ rules.Kept
    other number none ne (inl under) =
        get_or-set_other regs register number rules.Kept rules.Kept ne
        ∙ sym (rule_here regs number)
        ∙ are.others number (sym (bit_at_clear_other w32 changed register low number under ne) ∙ none)
    other number none ne (inr above) =
        let all = length-set regs register rules.Kept ∙ are.all in
        get_or_past (slice_set regs register rules.Kept) number rules.Kept (omega arith)

    go : (number : ℕ) → bit_at (bit_and changed (bit_not w32 (1 * 2 ^ register % 2 ^ 32))) number ≡ 0 → (number < register) ⊎ (register ≤ number) → (register < number) ⊎ (number ≤ register)
        → get_or (slice_set regs register rules.Kept) number rules.Kept ≡ rules.Kept
    go number none (inl under) side = other number none (λ e. omega arith) (cases_lt number 32)
    go number none (inr from) (inl over) = other number none (λ e. omega arith) (cases_lt number 32)
    go number none (inr from) (inr to) =
        let same : number ≡ register = omega arith in
        let all = are.all in
        ap (λ (n : ℕ). get_or (slice_set regs register rules.Kept) n rules.Kept) same ∙ get_or-set_same regs register rules.Kept rules.Kept (omega arith)

-- ---- the next register

shifted : (changed from i : ℕ) → bit_at (changed / 2 ^ from) i ≡ bit_at changed (from + i)
shifted changed from i = ap (λ (n : ℕ). n % 2) (div-div-eq-div-mul changed (2 ^ from) (2 ^ i) ∙ ap (λ (n : ℕ). changed / n) (sym (pow-add 2 from i)))

-- the bit of a register after another one, among those that are left
bit_from : (changed from register : ℕ) → from ≤ register → bit_at (changed / 2 ^ from) (register - from) ≡ bit_at changed register
bit_from changed from register le = shifted changed from (register - from) ∙ ap (bit_at changed) (let n : from + (register - from) ≡ register = omega arith in n)

pub no_more : (changed : ℕ) (regs : List Rule) (from : ℕ) → changed / 2 ^ from ≡ 0 → AreChanged changed regs → AreSameValue regs from 32
no_more changed regs from zero are register le lt =
    are.others register (sym (bit_from changed from register le) ∙ ap (λ (n : ℕ). bit_at n (register - from)) zero ∙ bit_at-zero (register - from))

fits : (changed from : ℕ) → changed < 2 ^ 32 → changed / 2 ^ from < 2 ^ 32
fits changed from small = let less : changed / 2 ^ from ≤ changed = div-le_self changed (2 ^ from) in omega arith

-- the lowest bit that is left
pub next_low : (changed from : ℕ) → changed < 2 ^ 32 → 0 < changed / 2 ^ from → from + trailing_zeros w32 (changed / 2 ^ from) < 32
next_low changed from small some = go (cases_lt (from + t) 32)
  where
    t : ℕ
    t = trailing_zeros w32 (changed / 2 ^ from)

    set : bit_at changed (from + t) ≡ 1
    set = sym (shifted changed from t) ∙ (bit_at-trailing_zeros w32 (changed / 2 ^ from) some (fits changed from small)).1

    go : (from + t < 32) ⊎ (32 ≤ from + t) → from + t < 32
    go (inl low) = low
    go (inr above) = (let clear : bit_at changed (from + t) ≡ 0 = bit_at_above changed 32 (from + t) small above in let is = set in absurd (omega (arith, is, clear)))

pub before_next : (changed : ℕ) (regs : List Rule) (from : ℕ) → changed < 2 ^ 32 → 0 < changed / 2 ^ from → AreChanged changed regs → AreSameValue regs from (from + trailing_zeros w32 (changed / 2 ^ from))
before_next changed regs from small some are register le lt =
    are.others register (sym (bit_from changed from register le) ∙ (bit_at-trailing_zeros w32 (changed / 2 ^ from) some (fits changed from small)).2 (register - from) (omega arith))
