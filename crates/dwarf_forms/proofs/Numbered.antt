-- The first declaration of a code: by its number at the front of a table, or none where all are numbered.
use Rattle.std.proofs.Common.{◌⊎◌, inl, inr, ◌≡◌, ◌==◌, ℕ, ◌-◌, ◌≤◌, ◌<◌, false, eq-eqb, List, [], length, get_or, Some, None, arith}
use Rattle.std.specs.Prelude.{position}
use Rattle.std.proofs.lemmas.Bool.{ne_eqb}
use Rattle.dwarf_forms.specs.declared.declaration.Abbrev.{Abbrev}
use Rattle.dwarf_forms.specs.private.Indices.{IsNumbered}
use Rattle.dwarf_forms.proofs.Indices.{position_is, position_none}

abbrev no_abbrev : Abbrev
no_abbrev = record { offset = 0; code = 0; tag = 0; children = false; specs = [] }

-- the number of a declaration at the front is its code
pub numbered_at : (declared : List Abbrev) (count code : ℕ) → IsNumbered declared count → 0 < code → code ≤ count → position (λ d. d.code == code) declared ≡ Some (code - 1)
numbered_at declared count code front some le =
    position_is (λ d. d.code == code) declared (code - 1) no_abbrev (let w = front.within in omega arith)
    (eq-eqb (get_or declared (code - 1) no_abbrev).code code (let e = front.codes (code - 1) no_abbrev (omega arith) in omega arith))
    (λ k lt. ne_eqb (get_or declared k no_abbrev).code code (λ same. let e = front.codes k no_abbrev (omega arith) in omega arith))

-- where all are numbered, no other code is declared
pub not_numbered : (declared : List Abbrev) (count code : ℕ) → IsNumbered declared count → count ≡ length declared → ((code ≡ 0) ⊎ (count < code)) → position (λ d. d.code == code) declared ≡ None
not_numbered declared count code front all other =
    position_none (λ d. d.code == code) declared no_abbrev
    (λ k lt. ne_eqb (get_or declared k no_abbrev).code code (λ same. let e = front.codes k no_abbrev (omega arith) in elim other [ inl none ↦ omega arith | inr past ↦ omega arith ]))
