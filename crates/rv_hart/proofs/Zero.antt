-- x0 stays 0 where each write to a register is followed by a write of 0 to x0.
use Rattle.std.proofs.Common.{◌≡◌, ◌≢◌, ◌==◌, ℕ, Bool, true, false, cond, List, get_or, set, refl, sym, ap, ◌∙◌}
use Rattle.std.proofs.lemmas.Bool.{eqb-true, eq-eqb}
use Rattle.std.proofs.lemmas.List.{set-set, set-get_or, get_or-set_other}
use Rattle.rv_hart.specs.Step.{with_register}

zero-again : (registers : List ℕ) → get_or registers 0 0 ≡ 0 → set registers 0 0 ≡ registers
zero-again registers holds = ap (set registers 0) (sym holds) ∙ set-get_or registers 0 0

not-zero : (number : ℕ) → (number == 0) ≡ false → 0 ≢ number
not-zero number differ same = let clash : true ≡ false = sym (eq-eqb number 0 (sym same)) ∙ differ in cc

pub written-zero : (registers : List ℕ) (number value : ℕ) → get_or registers 0 0 ≡ 0 → set (set registers number value) 0 0 ≡ with_register registers number value
written-zero registers number value holds = by_case (number == 0) refl
  where
    by_case : (b : Bool) → (number == 0) ≡ b → set (set registers number value) 0 0 ≡ with_register registers number value
    by_case true e =
        ap (λ (n : ℕ). set (set registers n value) 0 0) (eqb-true number 0 e)
        ∙ set-set registers 0 value 0
        ∙ zero-again registers holds
        ∙ ap (λ (t : Bool). cond t registers (set registers number value)) (sym e)
    by_case false e =
        zero-again (set registers number value) (get_or-set_other registers number 0 value 0 (not-zero number e) ∙ holds)
        ∙ ap (λ (t : Bool). cond t registers (set registers number value)) (sym e)
