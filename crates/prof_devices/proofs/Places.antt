-- A file by its place in the list.
use Rattle.std.proofs.Common.{◌≡◌, ◌≢◌, ℕ, zero, suc, ◌<◌, ◌+◌, List, [], ◌∷◌, ◌++◌, length, get_or, Option, Some, None, Bool, true, false, ap, sym, ◌∙◌, subst, refl, arith, nat_lt, not, cond}
use Rattle.std.proofs.lemmas.Cmp.{nat_list_eq_equiv}
use Rattle.std.proofs.lemmas.Bool.Decides.{nat_tests}
use Rattle.std.proofs.Math.ListN.{set}
use Rattle.std.specs.Prelude.{position}
use Rattle.std.specs.Cmp.Lexicographic.{same_text}
use Rattle.std.proofs.lemmas.List.Quantifiers.{position-Some}
use Rattle.std.proofs.lemmas.Bool.{false_from_ne_true}
use Rattle.prof_devices.specs.Files.{Files, file_of, has_name, Holds}

-- The file at i, where it is the first of its name.
pub here : (fs : Files) (i : ℕ) (name : List ℕ) (d : List ℕ × List ℕ) → i < length fs → has_name name (get_or fs i d) ≡ true → ((k : ℕ) → k < i → has_name name (get_or fs k d) ≡ false) → file_of fs name ≡ Some (get_or fs i d).1
here [] i name d inside same before = absurd (omega arith)
here (f ∷ fs) zero name d inside same before = rw same refl
here (f ∷ fs) (suc i) name d inside same before =
    let other : has_name name f ≡ false = before 0 (omega arith) in
    rw other (here fs i name d (omega arith) same (λ k less. before (suc k) (omega arith)))

-- It is changed there.
pub changed : (fs : Files) (i : ℕ) (name bytes : List ℕ) (d : List ℕ × List ℕ) → i < length fs → has_name name (get_or fs i d) ≡ true → ((k : ℕ) → k < i → has_name name (get_or fs k d) ≡ false) → file_of (set fs i ((get_or fs i d).0, bytes)) name ≡ Some bytes
changed [] i name bytes d inside same before = absurd (omega arith)
changed (f ∷ fs) zero name bytes d inside same before = rw same refl
changed (f ∷ fs) (suc i) name bytes d inside same before =
    let other : has_name name f ≡ false = before 0 (omega arith) in
    rw other (changed fs i name bytes d (omega arith) same (λ k less. before (suc k) (omega arith)))

-- Files of other names stay.
pub others : (fs : Files) (i : ℕ) (other bytes : List ℕ) (d : List ℕ × List ℕ) → has_name other (get_or fs i d) ≡ false → file_of (set fs i ((get_or fs i d).0, bytes)) other ≡ file_of fs other
others [] i other bytes d apart = refl
others (f ∷ fs) zero other bytes d apart = rw apart refl
others (f ∷ fs) (suc i) other bytes d apart = ap (λ rest. cond (has_name other f) (Some f.1) rest) (others fs i other bytes d apart)

goes_on : (b : Bool) (x : List ℕ) (rest rest' r : Option (List ℕ)) → cond b (Some x) rest ≡ None → (rest ≡ None → rest' ≡ r) → cond b (Some x) rest' ≡ r
goes_on true x rest rest' r none step = absurd (let k : Some x ≡ None = none in cc)
goes_on false x rest rest' r none step = step none

-- A new file at the end.
pub added : (fs : Files) (name bytes : List ℕ) → file_of fs name ≡ None → has_name name (name, bytes) ≡ true → file_of (fs ++ (name, bytes) ∷ []) name ≡ Some bytes
added [] name bytes none same = rw same refl
added (f ∷ fs) name bytes none same = goes_on (has_name name f) f.1 _ _ _ none (λ rest. added fs name bytes rest same)

pub others_of_added : (fs : Files) (name bytes other : List ℕ) → has_name other (name, bytes) ≡ false → file_of (fs ++ (name, bytes) ∷ []) other ≡ file_of fs other
others_of_added [] name bytes other apart = rw apart refl
others_of_added (f ∷ fs) name bytes other apart = ap (λ rest. cond (has_name other f) (Some f.1) rest) (others_of_added fs name bytes other apart)

no_place : (b : Bool) (x : List ℕ) (l n : ℕ) (rest : Option (List ℕ)) → cond (nat_lt (cond (not b) (1 + l) 0) (suc n)) (Some (cond (not b) (1 + l) 0)) None ≡ None → (cond (nat_lt l n) (Some l) None ≡ None → rest ≡ None) → cond b (Some x) rest ≡ None
no_place true x l n rest none step = absurd (grind (arith, nat_tests))
no_place false x l n rest none step = step (grind (arith, nat_tests))

-- No file has the name.
pub missing : (fs : Files) (name : List ℕ) → position (has_name name) fs ≡ None → file_of fs name ≡ None
missing [] name none = refl
missing (f ∷ fs) name none = no_place (has_name name f) f.1 _ (length fs) _ none (missing fs name)

pub itself : (name bytes : List ℕ) → has_name name (name, bytes) ≡ true
itself name bytes = nat_list_eq_equiv.refl name

apart : (name other bytes : List ℕ) → other ≢ name → has_name other (name, bytes) ≡ false
apart name other bytes differ = false_from_ne_true _ (λ e. differ (sym (same_text name other (sym e))))

apart_at : (name other : List ℕ) (f : List ℕ × List ℕ) → has_name name f ≡ true → other ≢ name → has_name other f ≡ false
apart_at name other f same differ = false_from_ne_true _ (λ e. differ (sym (same_text f.0 other (sym e)) ∙ same_text f.0 name (sym same)))

pub found : (fs : Files) (name : List ℕ) (i : ℕ) (d : List ℕ × List ℕ) → position (has_name name) fs ≡ Some i → file_of fs name ≡ Some (get_or fs i d).1
found fs name i d at = let first = position-Some (has_name name) fs i d at in here fs i name d first.0 first.1 first.2

pub rewritten : (fs : Files) (name bytes : List ℕ) (i : ℕ) (d : List ℕ × List ℕ) → position (has_name name) fs ≡ Some i → Holds fs (set fs i ((get_or fs i d).0, bytes)) name bytes
rewritten fs name bytes i d at = let first = position-Some (has_name name) fs i d at in record {
  file = changed fs i name bytes d first.0 first.1 first.2;
  others = λ other differ. others fs i other bytes d (apart_at name other (get_or fs i d) first.1 differ);
}

pub pushed : (fs : Files) (name bytes : List ℕ) → position (has_name name) fs ≡ None → Holds fs (fs ++ (name, bytes) ∷ []) name bytes
pushed fs name bytes none = record {
  file = added fs name bytes (missing fs name none) (itself name bytes);
  others = λ other differ. others_of_added fs name bytes other (apart name other bytes differ);
}

pub rewritten_as : (fs : Files) (name bytes : List ℕ) (i : ℕ) (x : List ℕ × List ℕ) → x ≡ get_or fs i x → Some i ≡ position (has_name name) fs → Holds fs (set fs i (x.0, bytes)) name bytes
rewritten_as fs name bytes i x is at = subst (λ y. Holds fs (set fs i (y.0, bytes)) name bytes) (sym is) (rewritten fs name bytes i x (sym at))
