-- Tables that are the ends of others.
use Rattle.std.proofs.Common.{◌≡◌, ◌==◌, ℕ, ◌+◌, ◌<◌, ◌≤◌, Bool, inl, inr, eq-eqb, length-append, true, false, List, [], ◌∷◌, ◌++◌, zero, suc, length, drop, Option, Some, None, Ok, refl, sym, ap, ◌∙◌, subst, arith}
use Rattle.std.specs.Prelude.{option_map, option_and_then, slice_get, is_some, if◌then◌else◌}
use Rattle.std.specs.Ordering.{nat_cmp}
use Rattle.std.specs.BTreeMap.{get}
use Rattle.std.proofs.lemmas.Bool.{cases_lt, eqb-true}
use Rattle.std.proofs.lemmas.Option.{same_Some, slice_get_past}
use Rattle.std.proofs.lemmas.List.{drop-drop}
use Rattle.dwarf_forms.specs.declared.declaration.Abbrev.{Abbrev}
use Rattle.dwarf_forms.specs.Abbreviations.{table_at}
use Rattle.dwarf_info.proofs.Bodies.{first_behind}
use Rattle.dwarf_info.specs.declared.tables.Suffix.{Suffix}
use Rattle.dwarf_info.specs.declared.tables.Tables.{Tables}
use Rattle.dwarf_info.specs.private.Tables.{suffix_of, table_in, IsSuffix, IsTableKnown, AreTables}
use Rattle.dwarf_info.specs.private.CodeLists.{AreCodeLists}

abbrev Read : Type 0
Read = List (List Abbrev)

behind_of : (from to index : ℕ) (o : Option (List Abbrev)) (table : List Abbrev) → option_map (drop from) o ≡ Some table → to ≡ from + index → option_map (drop to) o ≡ Some (drop index table)
behind_of from to index None table e sum = absurd cc
behind_of from to index (Some whole) table e sum =
    let is : drop from whole ≡ table = same_Some (drop from whole) table e in
    ap (λ (n : ℕ). let o : Option (List Abbrev) = Some (drop n whole) in o) sum
    ∙ ap (λ (xs : List Abbrev). let o : Option (List Abbrev) = Some xs in o) (sym (drop-drop index from whole) ∙ ap (drop index) is)

-- the end of a table that is the end of another
pub is_behind : (section : List ℕ) (tables : Tables) (start : ℕ) (suffix : Suffix) (to : ℕ) (table : List Abbrev) (index offset : ℕ)
    → get nat_cmp tables.suffixes start ≡ Some suffix → table_in tables start ≡ Some table → to ≡ suffix.from + index
    → table_at section offset ≡ Ok (drop index table) → IsSuffix section tables.read.items (record { table = suffix.table; from = to }) offset
is_behind section tables start suffix to table index offset at there sum is = record {
  table = drop index table;
  stands = behind_of suffix.from to index (slice_get tables.read.items suffix.table) table (sym (ap (option_and_then (suffix_of tables.read.items)) at) ∙ there) sum;
  is = is;
}

-- ---- one suffix more

abbrev if_some : {X : Type 0} → Bool → X → Option X → Option X
if_some b x other = if b then Some x else other

from_suffixes : (old new : Read) (p : Option Suffix) → ((k : ℕ) → k < length old → slice_get new k ≡ slice_get old k)
    → ((suffix : Suffix) → p ≡ Some suffix → suffix.table < length old) → option_and_then (suffix_of new) p ≡ option_and_then (suffix_of old) p
from_suffixes old new None same within = refl
from_suffixes old new (Some suffix) same within = ap (λ (o : Option (List Abbrev)). option_map (drop suffix.from) o) (same suffix.table (within suffix refl))

slice_within : {X : Type 0} (xs : List X) (i : ℕ) (x : X) → slice_get xs i ≡ Some x → i < length xs
slice_within xs i x e = elim (cases_lt i (length xs)) [
  | inl lt ↦ lt
  | inr le ↦ let none = slice_get_past xs i le in absurd cc
]

stands_within : (read : Read) (suffix : Suffix) (o : Option (List Abbrev)) (table : List Abbrev) → slice_get read suffix.table ≡ o → option_map (drop suffix.from) o ≡ Some table → suffix.table < length read
stands_within read suffix None table e is = absurd cc
stands_within read suffix (Some whole) table e is = slice_within read suffix.table whole e

pub one_more : (section : List ℕ) (old new : Tables) (offset : ℕ) (suffix : Suffix) → AreTables section old
    → length old.read.items ≤ length new.read.items → ((k : ℕ) → k < length old.read.items → slice_get new.read.items k ≡ slice_get old.read.items k)
    → ((q : ℕ) → get nat_cmp new.suffixes q ≡ if_some (offset == q) suffix (get nat_cmp old.suffixes q))
    → new.lists.items ≡ old.lists.items → IsSuffix section new.read.items suffix offset → IsTableKnown section new offset
one_more section old new offset suffix tables longer same added lists stands = record {
  are = record {
    within = λ q p e. suffix_within q p (offset == q) (sym (added q) ∙ e);
    are = λ q table e. table_is q table (offset == q) refl (sym (ap (option_and_then (suffix_of new.read.items)) (added q)) ∙ e);
    lists = subst (AreCodeLists section) (sym lists) tables.lists;
  };
  has = ap is_some (here offset (eq-eqb offset offset refl) ∙ stands.stands);
}
  where
    here : (q : ℕ) → (offset == q) ≡ true → table_in new q ≡ suffix_of new.read.items suffix
    here q e = ap (option_and_then (suffix_of new.read.items)) (added q ∙ ap (λ (b : Bool). if_some b suffix (get nat_cmp old.suffixes q)) e)

    suffix_within : (q : ℕ) (p : Suffix) (b : Bool) → if_some b suffix (get nat_cmp old.suffixes q) ≡ Some p → p.table < length new.read.items
    suffix_within q p true e =
        let is : suffix ≡ p = same_Some suffix p e in
        subst (λ (r : Suffix). r.table < length new.read.items) is (stands_within new.read.items suffix (slice_get new.read.items suffix.table) stands.table refl stands.stands)
    suffix_within q p false e = let w = tables.within q p e in omega arith

    table_is : (q : ℕ) (table : List Abbrev) (b : Bool) → (offset == q) ≡ b → option_and_then (suffix_of new.read.items) (if_some b suffix (get nat_cmp old.suffixes q)) ≡ Some table → table_at section q ≡ Ok table
    table_is q table true at e =
        let is : stands.table ≡ table = same_Some stands.table table (sym stands.stands ∙ e) in
        subst (λ (n : ℕ). table_at section n ≡ Ok table) (eqb-true offset q at) (stands.is ∙ ap (λ (xs : List Abbrev). Ok xs) is)
    table_is q table false at e =
        tables.are q table (sym (from_suffixes old.read.items new.read.items (get nat_cmp old.suffixes q) same (tables.within q)) ∙ e)

-- a table that was read is the last one
pub is_last : (section : List ℕ) (read new : Read) (table : List Abbrev) (suffix : Suffix) (offset : ℕ) → new ≡ read ++ table ∷ [] → suffix.table ≡ length read → suffix.from ≡ 0
    → table_at section offset ≡ Ok table → IsSuffix section new suffix offset
is_last section read new table suffix offset pushed last first is = record {
  table = table;
  stands =
      ap (λ (n : ℕ). option_map (drop n) (slice_get new suffix.table)) first ∙ ap (λ (n : ℕ). option_map (drop 0) (slice_get new n)) last
      ∙ ap (λ (xs : Read). option_map (drop 0) (slice_get xs (length read))) pushed ∙ ap (λ (o : Option (List Abbrev)). option_map (drop 0) o) (first_behind read (table ∷ []));
  is = is;
}

pub longer : {X : Type 0} (xs new : List X) (x : X) → new ≡ xs ++ x ∷ [] → length xs ≤ length new
longer {X = X} xs new x pushed = let long : length new ≡ length xs + 1 = ap length pushed ∙ length-append xs (x ∷ []) in omega arith

in_front : {X : Type 0} (xs : List X) (x : X) (k : ℕ) → k < length xs → slice_get (xs ++ x ∷ []) k ≡ slice_get xs k
in_front [] x k lt = absurd (omega arith)
in_front (y ∷ xs) x zero lt = refl
in_front (y ∷ xs) x (suc k) lt = in_front xs x k (omega arith)

pub same_front : {X : Type 0} (xs new : List X) (x : X) → new ≡ xs ++ x ∷ [] → (k : ℕ) → k < length xs → slice_get new k ≡ slice_get xs k
same_front xs new x pushed k lt = ap (λ ys. slice_get ys k) pushed ∙ in_front xs x k lt
