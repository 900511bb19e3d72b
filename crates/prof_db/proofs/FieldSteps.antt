-- Fields of a plane, one entry after the other.
use Rattle.std.proofs.Common.{◌≡◌, ℕ, zero, suc, ◌+◌, ◌≤◌, ◌<◌, true, false, cond, List, [], ◌∷◌, ◌++◌, length, get_or, drop, Result, Ok, Err, refl, sym, ap, subst, ◌∙◌, arith, add-one, drop-cons}
use Rattle.std.specs.List.{flat_map}
use Rattle.prof_bytes.specs.Outcome.{◌>>=◌, GivesAt}
use Rattle.prof_db.specs.private.Marks.{Stands}
use Rattle.prof_bytes.specs.Reading.{At, moved}
use Rattle.prof_db.specs.declared.fault.DbFault.{DbFault}
use Rattle.prof_db.specs.Fields.{DbRead, fault}
use Rattle.prof_db.specs.ValueRules.{ValueField, stands_at, fields_kept}

abbrev Done : Type 0
Done = DbRead (Unit {0})

-- one list of fields after another
pub fields_append : (rule : ℕ) (a b : List ValueField) (at : At) → fields_kept rule (a ++ b) at ≡ (fields_kept rule a at >>= λ r. fields_kept rule b r.1)
unfolding fields_kept
fields_append rule [] b at = refl
fields_append rule (field ∷ a) b at =
    elim (stands_at field at) as (λ t. cond t (fields_kept rule (a ++ b) (moved field.0 at)) (Err (fault rule at.offset)) ≡ (cond t (fields_kept rule a (moved field.0 at)) (Err (fault rule at.offset)) >>= λ r. fields_kept rule b r.1)) [
      | true ↦ fields_append rule a b (moved field.0 at)
      | false ↦ refl
    ]

pub both_stand : (rule : ℕ) (a b : List ValueField) (at next : At) → fields_kept rule a at ≡ Ok (tt, next) → fields_kept rule (a ++ b) at ≡ fields_kept rule b next
both_stand rule a b at next e = fields_append rule a b at ∙ ap (λ (x : Done). x >>= λ r. fields_kept rule b r.1) e

pub first_differs : (rule : ℕ) (a b : List ValueField) (at : At) (found : DbFault) → fields_kept rule a at ≡ Err found → fields_kept rule (a ++ b) at ≡ Err found
first_differs rule a b at found e = fields_append rule a b at ∙ ap (λ (x : Done). x >>= λ r. fields_kept rule b r.1) e

module _ {X : Type 0} (rule : ℕ) (f : X → List ValueField) (xs : List X) (i : ℕ) (x d : X) (at : At) (total : Done) where
  next_is : i < length xs → x ≡ get_or xs i d → flat_map f (drop i xs) ≡ f x ++ flat_map f (drop (i + 1) xs)
  next_is lt is = rw (add-one, is) (ap (flat_map f) (drop-cons xs i d lt))

  -- an entry's fields are there
  pub fields_more : (next : At) → i < length xs → x ≡ get_or xs i d → fields_kept rule (f x) at ≡ Ok (tt, next) → fields_kept rule (flat_map f (drop i xs)) at ≡ total → fields_kept rule (flat_map f (drop (i + 1) xs)) next ≡ total
  fields_more next lt is kept so_far =
      sym (both_stand rule (f x) (flat_map f (drop (i + 1) xs)) at next kept) ∙ ap (λ (l : List ValueField). fields_kept rule l at) (sym (next_is lt is)) ∙ so_far

  -- or one of them differs
  pub fields_differ : (found : DbFault) → i < length xs → x ≡ get_or xs i d → fields_kept rule (f x) at ≡ Err found → fields_kept rule (flat_map f (drop i xs)) at ≡ total → total ≡ Err found
  fields_differ found lt is kept so_far =
      sym so_far ∙ ap (λ (l : List ValueField). fields_kept rule l at) (next_is lt is) ∙ first_differs rule (f x) (flat_map f (drop (i + 1) xs)) at found kept

none_left : {X : Type 0} (xs : List X) (i : ℕ) → length xs ≤ i → drop i xs ≡ []
none_left [] zero le = refl
none_left [] (suc i) le = refl
none_left (x ∷ xs) zero le = absurd (omega arith)
none_left (x ∷ xs) (suc i) le = none_left xs i (omega arith)

-- all of them are there
pub fields_end : {X : Type 0} (rule : ℕ) (f : X → List ValueField) (xs : List X) (i : ℕ) (at : At) (total : Done) → length xs ≤ i → fields_kept rule (flat_map f (drop i xs)) at ≡ total → total ≡ Ok (tt, at)
unfolding fields_kept
fields_end rule f xs i at total le so_far = sym so_far ∙ ap (λ l. fields_kept rule (flat_map f l) at) (none_left xs i le)

-- two lists of fields, of which the first is there
pub gives_both : (rule : ℕ) (a b : List ValueField) (at next after : At) (r : Result (Unit {0}) DbFault) → fields_kept rule a at ≡ Ok (tt, next)
    → GivesAt (λ (d : Unit {0}). d) r after (fields_kept rule b next) → GivesAt (λ (d : Unit {0}). d) r after (fields_kept rule (a ++ b) at)
gives_both rule a b at next after r stood rest = subst (λ (w : Done). GivesAt (λ (d : Unit {0}). d) r after w) (sym (both_stand rule a b at next stood)) rest

-- the answer alone, of a cursor that was copied
pub stands_from : (rule : ℕ) (fields : List ValueField) (r : Result (Unit {0}) DbFault) (after copy at : At) → copy ≡ at
    → GivesAt (λ (d : Unit {0}). d) r after (fields_kept rule fields copy) → Stands r (fields_kept rule fields at)
stands_from rule fields r after copy at same gave = subst (λ (x : At). Stands r (fields_kept rule fields x)) same (by_answer r gave)
  where
    by_answer : (r : Result (Unit {0}) DbFault) → GivesAt (λ (d : Unit {0}). d) r after (fields_kept rule fields copy) → Stands r (fields_kept rule fields copy)
    by_answer (Ok done) gave = (after, gave)
    by_answer (Err found) gave = gave
