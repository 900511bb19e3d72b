-- The best row of a list that grows.
use Rattle.std.proofs.Common.{◌≡◌, ◌==◌, ◌&&◌, ℕ, max, Bool, true, false, cond, List, [], ◌∷◌, ◌++◌, map, reverse, Option, Some, refl, sym, ap, ap₂, ◌∙◌, inl, inr, arith, eq-eqb}
use Rattle.std.specs.Prelude.{fold, filter, find, nat_le}
use Rattle.std.proofs.lemmas.Bool.{ne_eqb}
use Rattle.std.proofs.lemmas.Bool.Decides.{leb_tells}
use Rattle.std.proofs.Math.Bool.{and-false}
use Rattle.std.proofs.lemmas.List.{map-append, reverse-append, append-nil}
use Rattle.std.proofs.lemmas.List.Elements.{filter-append}
use Rattle.std.proofs.lemmas.List.Sums.{fold-append}
use Rattle.dwarf_line.specs.declared.registers.LineRow.{LineRow}
use Rattle.dwarf_line.specs.declared.rows.BestRow.{BestRow}
use Rattle.dwarf_line.specs.Sequences.{greatest, last_row_at}
use Rattle.dwarf_line.specs.private.BestRow.{better}

abbrev pub best_of : ℕ → List LineRow → BestRow
best_of at rows = record { greatest = greatest at rows; found = last_row_at at rows }

last_row : (y : LineRow) (b : Bool) (reached : List LineRow) → fold max 0 (map (λ r. r.address) (reached ++ cond b (y ∷ []) [])) ≡ cond b (max (fold max 0 (map (λ r. r.address) reached)) y.address) (fold max 0 (map (λ r. r.address) reached))
last_row y true reached =
    ap (λ (ns : List ℕ). fold max 0 ns) (map-append (λ (r : LineRow). r.address) reached (y ∷ []))
    ∙ fold-append max 0 (map (λ (r : LineRow). r.address) reached) (y.address ∷ [])
last_row y false reached = ap (λ (rs : List LineRow). fold max 0 (map (λ r. r.address) rs)) (append-nil reached)

greatest_push : (at : ℕ) (rows : List LineRow) (y : LineRow) → greatest at (rows ++ y ∷ []) ≡ cond (nat_le y.address at) (max (greatest at rows) y.address) (greatest at rows)
greatest_push at rows y =
    ap (λ (rs : List LineRow). fold max 0 (map (λ r. r.address) rs)) (filter-append (λ r. nat_le r.address at) rows (y ∷ []))
    ∙ last_row y (nat_le y.address at) (filter (λ r. nat_le r.address at) rows)

row_push : (at : ℕ) (rows : List LineRow) (y : LineRow) (k : ℕ) → greatest at (rows ++ y ∷ []) ≡ k
    → last_row_at at (rows ++ y ∷ []) ≡ cond ((y.address == k) && nat_le y.address at) (Some y) (find (λ r. (r.address == k) && nat_le r.address at) (reverse rows))
row_push at rows y k e =
    ap (λ (n : ℕ). find (λ r. (r.address == n) && nat_le r.address at) (reverse (rows ++ y ∷ []))) e
    ∙ ap (λ (rs : List LineRow). find (λ r. (r.address == k) && nat_le r.address at) rs) (reverse-append rows (y ∷ []))

made : (at : ℕ) (rows : List LineRow) (n : ℕ) (found : Option LineRow) → greatest at rows ≡ n → last_row_at at rows ≡ found → best_of at rows ≡ record { greatest = n; found = found }
made at rows n found e f = ap₂ (λ (m : ℕ) (o : Option LineRow). record { greatest = m; found = o }) e f

pub best_push : (at : ℕ) (rows : List LineRow) (y : LineRow) → better at (best_of at rows) y ≡ best_of at (rows ++ y ∷ [])
best_push at rows y =
    let g = greatest at rows in
    elim (leb_tells y.address at) [
      | inl here ↦ elim (leb_tells g y.address) [
        | inl up ↦
            let gp : greatest at (rows ++ y ∷ []) ≡ y.address = greatest_push at rows y ∙ rw here.0 (omega (arith, up.1)) in
            let rp : last_row_at at (rows ++ y ∷ []) ≡ Some y = row_push at rows y y.address gp ∙ rw (eq-eqb y.address y.address refl, here.0) refl in
            rw (here.0, up.0) (sym (made at (rows ++ y ∷ []) y.address (Some y) gp rp))
        | inr down ↦
            let gp : greatest at (rows ++ y ∷ []) ≡ g = greatest_push at rows y ∙ rw here.0 (omega (arith, down.1)) in
            let rp : last_row_at at (rows ++ y ∷ []) ≡ last_row_at at rows = row_push at rows y g gp ∙ rw (ne_eqb y.address g (λ e. omega (arith, down.1))) refl in
            rw (here.0, down.0) (sym (made at (rows ++ y ∷ []) g (last_row_at at rows) gp rp))
      ]
      | inr past ↦
          let gp : greatest at (rows ++ y ∷ []) ≡ g = greatest_push at rows y ∙ rw past.0 refl in
          let rp : last_row_at at (rows ++ y ∷ []) ≡ last_row_at at rows = row_push at rows y g gp ∙ rw (past.0, and-false (y.address == g)) refl in
          rw past.0 (sym (made at (rows ++ y ∷ []) g (last_row_at at rows) gp rp))
    ]
